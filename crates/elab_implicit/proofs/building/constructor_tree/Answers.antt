use Rattle.std.proofs.Common.{◌≡◌, true, length, subst}
use Rattle.elab_entry.specs.cpp_tree.Arena.{trees_of}
use Rattle.elab_entry.specs.elab_ctx.Says.{are_within}
use Rattle.elab_implicit.proofs.ObjectParts.{constructor_made}
use Rattle.elab_implicit.proofs.building.constructor_tree.Goals as goal

pub returns : goal.returns
returns c = constructor_made _ _ _ c.args.at c.args.parts.items c.args.list.items _ _ _
    (subst (λ z. are_within (length (trees_of c.args.nodes.now.items)) z
    ≡ true) c.deref.ensures.value c.in_ok-all_stand.ensures) c.in_ok-inner.ensures c.in_ok-keep.ensures c.statement.ensures
