use Rattle.std.proofs.Common.{◌≡◌, ◌+◌, ◌*◌, drop}
use Rattle.elab_init.specs.elab_rules.Lambdas.{name_among}
use Rattle.elab_types.specs.Syntax.{syntax_of, trees_at}
use Rattle.lambda_captures.proofs.names.+named.Given as goal

abbrev pub decreases-name_token : goal.decreases-name_token
decreases-name_token l = l.id.0 * 2 + 1

abbrev pub decreases-name_among : goal.decreases-name_among
decreases-name_among l = l.parent.0 * 2

abbrev pub invariant-name_among-loop-id : goal.invariant-name_among-loop-id
invariant-name_among-loop-id l = name_among (trees_at (syntax_of l.nodes) l.ids) ≡ name_among (trees_at (syntax_of l.nodes) (drop l.id-index l.ids))
