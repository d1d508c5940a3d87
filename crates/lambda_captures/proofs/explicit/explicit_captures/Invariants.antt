use Rattle.std.proofs.Common.{◌≡◌, drop, map}
use Rattle.elab_init.specs.cpp_lex.Tokens.{lexemes_of}
use Rattle.elab_init.specs.elab_ctx.Ctx.{ctx_of, capture_of}
use Rattle.elab_init.specs.elab_ctx.Steps.{each_of}
use Rattle.elab_init.specs.elab_rules.Lambdas.{explicit_capture, explicit_captures}
use Rattle.elab_types.specs.Syntax.{syntax_of, trees_at}
use Rattle.lambda_captures.specs.Shown.{otherwise_of}
use Rattle.lambda_captures.proofs.explicit.explicit_captures.Given as goal

abbrev pub invariant-loop-id : goal.invariant-loop-id
invariant-loop-id l = each_of (explicit_capture (lexemes_of l.tokens) (ctx_of l.env) (otherwise_of l.otherwise)) (map capture_of l.captures.items)
    (trees_at (syntax_of l.nodes) (drop l.id-index l.ids))
    ≡ explicit_captures (lexemes_of l.tokens) (ctx_of l.env) (otherwise_of l.otherwise) (trees_at (syntax_of l.nodes) l.ids)
