use Rattle.std.proofs.lemmas.Result.{IfOk-weaker}
use Rattle.tx_code.specs.Views.{image_view}
use Rattle.replay_command.specs.Replays.{linked, faulty}
use Rattle.replay_command.proofs.steps.with_objects.Goals as goal

pub returns-in-Ok : goal.returns-in-Ok
returns-in-Ok c = IfOk-weaker c.with_program.result _ _ (λ d h. linked (image_view c.in-Ok._image) c.in-Ok.ensures h) c.with_program.ensures

pub returns-in-Err : goal.returns-in-Err
returns-in-Err c = IfOk-weaker c.bad_link.result _ _ (λ d h. faulty c.in-Err.fault c.in-Err.ensures h) c.bad_link.ensures
