use Rattle.std.proofs.Common.{◌≡◌, true, List, length, subst, sym}
use Rattle.elab_expr.specs.cpp_ast.Orders.{are_below}
use Rattle.elab_expr.specs.cpp_ast.declared.arena.NodeId.{NodeId}
use Rattle.elab_expr.proofs.elab_types.KidLists.{wider}
use Rattle.elab_expr.proofs.Several.{below_at}
use Rattle.class_table.proofs.class_walk.members_among.Goals as goal

pub returns-then-is_specification-clause-below : goal.returns-then-is_specification-clause-below
returns-then-is_specification-clause-below c =
    subst (λ (z : List NodeId). are_below (length c.args.nodes.now) z ≡ true) (sym c.deref.ensures.value)
    (wider _ (length c.args.nodes.now) c.node_at-node.result.now.kids.items
    (below_at (length c.args.nodes.now) c.args.kids.now c.loop-kid.kid-index
    (record { 0 = 0 }) c.requires c.loop-kid-test.true) c.node_at-node.ensures.lower)
