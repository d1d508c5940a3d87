use Rattle.std.proofs.Common.{map}
use Rattle.elab_init.specs.cpp_lex.Tokens.{lexemes_of}
use Rattle.elab_init.specs.elab_ctx.Ctx.{ctx_of, capture_of}
use Rattle.elab_types.specs.Syntax.{syntax_of, tree_at, trees_at}
use Rattle.lambda_captures.specs.Shown.{otherwise_of}
use Rattle.lambda_captures.proofs.Captured.{this_captured}
use Rattle.lambda_captures.proofs.explicit.explicit_capture.Goals as goal

pub returns-in-ThisCapture : goal.returns-in-ThisCapture
returns-in-ThisCapture c =
    let n = c.node_at-node.result.now in
    this_captured c.explicit_this.new.captures.items c.explicit_this.result (lexemes_of c.args.tokens.now) (ctx_of c.args.env.now)
    (otherwise_of c.args.otherwise) (map capture_of c.args.captures.now.items) (tree_at (syntax_of c.args.nodes.now) c.args.id)
    n.kind n.at n.token
    (trees_at
    (syntax_of c.args.nodes.now) n.kids.items) c.place-at.result c.node_at-node.ensures.node c.in-ThisCapture.is c.place-at.ensures c.explicit_this.ensures
