use Rattle.std.proofs.Common.{◌∙◌, ap}
use Rattle.elab_init.specs.cpp_tree.Arena.{trees_of, trees_at}
use Rattle.elab_init.proofs.elab_ctx.Looks.{at_grown}
use Rattle.elab_make.proofs.Putting.{last_puts, temporary_same}
use Rattle.elab_make.proofs.objects.built_object.Goals as goal

pub returns : goal.returns
returns c = last_puts _ _ _ _ _ _ _ c.in_ok-ends.ensures.grows
    (temporary_same _ _ _ _ _ _ _ (at_grown _ _ _ c.in_ok-ends.ensures.grows c.in_ok-init.ensures.within ∙ c.in_ok-init.ensures.is)
    (ap (trees_at (trees_of c.destroys.new.nodes.items)) c.deref.ensures.value ∙ c.in_ok-ends.ensures.are)) c.temporary.ensures
