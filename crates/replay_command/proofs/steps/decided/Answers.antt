use Rattle.std.proofs.Common.{subst, map}
use Rattle.std.proofs.lemmas.Result.{IfOk-weaker}
use Rattle.command_io.specs.Writes.{written_of}
use Rattle.tx_answers.specs.Ends.{Refuses}
use Rattle.tx_answers.specs.declared.answer.Status.TheVariants as status
use Rattle.exec_command.specs.Exec.{bad_schedule_line}
use Rattle.replay_command.specs.Replays.{bad_schedule, says}
use Rattle.replay_command.proofs.steps.decided.Goals as goal

pub returns-in-Ok : goal.returns-in-Ok
returns-in-Ok c = IfOk-weaker c.with_order.result _ _
    (λ d h. says c.in-Ok.ensures.entries c.in-Ok.ensures.spelled (h c.in-Ok.ensures.entries c.in-Ok.ensures.kept)) c.with_order.ensures

pub returns-in-Err-BadSchedule : goal.returns-in-Err-BadSchedule
returns-in-Err-BadSchedule c =
    IfOk-weaker c.bad_schedule.result _ _ (λ d h.
    bad_schedule c.in-Err-BadSchedule.line (rw c.in-Err-BadSchedule.field-0-is at c.in-Err-BadSchedule.ensures)
    (subst (λ n. Refuses 10 (bad_schedule_line n c.in-Err-BadSchedule.line) status.BadSchedule d.answer
    (map written_of d.writes.items)) c.as_str.ensures.value h))
    c.bad_schedule.ensures
