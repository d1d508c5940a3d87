use Rattle.std.proofs.lemmas.Result.{IfOk-weaker}
use Rattle.tx_code.specs.Views.{image_view}
use Rattle.object_races.specs.ObjectRaces.{linked, faulty}
use Rattle.object_races.proofs.steps.with_objects.Goals as goal

pub returns-in-Ok : goal.returns-in-Ok
returns-in-Ok c = IfOk-weaker c.with_image.result _ _ (λ d h. linked (image_view c.in-Ok.image) c.in-Ok.ensures h) c.with_image.ensures

pub returns-in-Err : goal.returns-in-Err
returns-in-Err c = IfOk-weaker c.bad_link.result _ _ (λ d h. faulty c.in-Err.fault c.in-Err.ensures h) c.bad_link.ensures
