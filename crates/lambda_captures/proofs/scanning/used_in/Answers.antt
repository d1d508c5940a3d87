use Rattle.std.proofs.Common.{map}
use Rattle.elab_init.specs.cpp_lex.Tokens.{lexemes_of}
use Rattle.elab_init.specs.elab_ctx.Ctx.{ctx_of}
use Rattle.elab_types.specs.Shown.{parameter_of}
use Rattle.elab_types.specs.Syntax.{syntax_of, tree_at}
use Rattle.lambda_captures.proofs.Scans.{used_are}
use Rattle.lambda_captures.proofs.scanning.used_in.Goals as goal

pub returns : goal.returns
returns c = used_are (lexemes_of c.args.tokens.now) (ctx_of c.args.env.now) (record { own = c.in_ok-own.own; used = c.new.result }) c.scan_node.new.scan
    (map parameter_of c.args.params.now) (tree_at (syntax_of c.args.nodes.now) c.args.body) c.in_ok-own.ensures c.new.ensures.items c.in_ok-scan_node.ensures
