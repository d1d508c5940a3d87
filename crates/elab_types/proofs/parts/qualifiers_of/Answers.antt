use Rattle.std.proofs.Common.{◌≡◌, true, List, length, subst, sym}
use Rattle.elab_conv.specs.cpp_ast.Orders.{are_below}
use Rattle.elab_conv.specs.cpp_ast.declared.arena.NodeId.{NodeId}
use Rattle.elab_types.proofs.KidLists.{wider}
use Rattle.elab_types.proofs.parts.qualifiers_of.Goals as goal

pub qualifiers_among-requires : goal.qualifiers_among-requires
qualifiers_among-requires c = subst (λ (z : List NodeId). are_below (length c.args.nodes.now) z ≡ true) (sym c.deref.ensures.value)
    (wider c.args.id.0 (length c.args.nodes.now) c.node_at.result.now.kids.items c.requires c.node_at.ensures.lower)
