use Rattle.src_bind.proofs.Steps.{inserted_step}
use Rattle.src_bind.proofs.defs.insert.Goals as goal

pub returns : goal.returns
returns c = inserted_step _ _ c.deref.result.now _ c.place_for-place.result c.deref.ensures.value c.place_for-place.ensures.place c.in_ok-insert.ensures.items
