use Rattle.std.proofs.Common.{◌≡◌, drop}
use Rattle.elab_expr.specs.elab_rules.Members.{members_among}
use Rattle.elab_expr.specs.elab_types.Syntax.{syntax_of, trees_at}
use Rattle.class_table.proofs.class_walk.members_among.Given as goal

abbrev pub invariant-loop-kid : goal.invariant-loop-kid
invariant-loop-kid l = members_among (trees_at (syntax_of l.nodes) l.kids) ≡ members_among (trees_at (syntax_of l.nodes) (drop l.kid-index l.kids))
