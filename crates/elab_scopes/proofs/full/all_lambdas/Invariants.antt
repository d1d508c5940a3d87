use Rattle.std.proofs.Common.{◌≡◌, drop}
use Rattle.elab_expr.specs.cpp_lex.Tokens.{lexemes_of}
use Rattle.elab_expr.specs.elab_rules.Statements.{all_lambdas}
use Rattle.elab_expr.specs.elab_types.Syntax.{syntax_of, trees_at}
use Rattle.elab_scopes.specs.States.{state_of}
use Rattle.elab_scopes.proofs.Makings.{Making}
use Rattle.elab_scopes.proofs.full.all_lambdas.Given as goal

abbrev pub invariant-loop-id : goal.invariant-loop-id
invariant-loop-id g l = Making l.fn.st l.st (all_lambdas (g.L.MakeLambdas.lambdas l.lams) (lexemes_of l.tokens) (state_of l.st)
    (trees_at (syntax_of l.nodes) (drop l.id-index l.ids)))
    (all_lambdas (g.L.MakeLambdas.lambdas l.lams) (lexemes_of l.tokens) (state_of l.fn.st) (trees_at (syntax_of l.nodes) l.ids))
