use Rattle.std.proofs.Common.{◌≡◌, drop}
use Rattle.elab_expr.specs.cpp_tree.Arena.{trees_of, trees_at}
use Rattle.elab_expr.specs.elab_rules.Statements.{hold_temporary}
use Rattle.elab_scopes.proofs.full.+holds_temporary.Given as goal

abbrev pub decreases-holds_temporary : goal.decreases-holds_temporary
decreases-holds_temporary l = l.id.0

abbrev pub invariant-loop-kid : goal.invariant-loop-kid
invariant-loop-kid l = hold_temporary (trees_at (trees_of l.nodes.items) l.kids) ≡ hold_temporary (trees_at (trees_of l.nodes.items) (drop l.kid-index l.kids))
