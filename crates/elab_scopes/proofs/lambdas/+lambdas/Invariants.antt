use Rattle.std.proofs.Common.{◌≡◌, ◌+◌, ◌*◌, drop}
use Rattle.elab_expr.specs.elab_rules.Lambdas.{first_of}
use Rattle.elab_expr.specs.elab_types.Syntax.{syntax_of, trees_at}
use Rattle.elab_scopes.proofs.lambdas.+lambdas.Given as goal

abbrev pub decreases-first_lambda : goal.decreases-first_lambda
decreases-first_lambda l = l.id.0 * 2 + 1

abbrev pub decreases-first_among : goal.decreases-first_among
decreases-first_among l = l.parent.0 * 2

abbrev pub invariant-first_among-loop-id : goal.invariant-first_among-loop-id
invariant-first_among-loop-id l = first_of (trees_at (syntax_of l.nodes) l.ids) ≡ first_of (trees_at (syntax_of l.nodes) (drop l.id-index l.ids))
