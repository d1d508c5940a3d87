use Rattle.std.proofs.Common.{◌∙◌, ◌∷◌, List, ap}
use Rattle.elab_entry.specs.cpp_tree.declared.arena.TNodeId.{TNodeId}
use Rattle.elab_implicit.proofs.ObjectParts.{part_made}
use Rattle.elab_implicit.proofs.object.part_init.Goals as goal

pub returns : goal.returns
returns c = part_made _ _ _ c.args.object c.args.init _ _ _ c.args.place _ c.in_ok-stands.ensures c.in_ok-stands-2.ensures c.in_ok-ends.ensures
    (c.in_ok-kids.ensures ∙ ap (λ (z : List TNodeId). c.args.object ∷ c.args.init ∷ z) c.deref.ensures.value) c.statement.ensures
