use Rattle.std.proofs.Common.{subst, map, ◌∙◌}
use Rattle.std.proofs.lemmas.Result.{IfOk-weaker}
use Rattle.command_io.specs.Writes.{written_of}
use Rattle.schedules.specs.Text.{most_entries}
use Rattle.tx_answers.specs.Ends.{Refuses}
use Rattle.tx_answers.specs.declared.answer.Status.TheVariants as status
use Rattle.exec_command.specs.Exec.{DecidesTexts, scheduled, bad_schedule, bad_schedule_line}
use Rattle.exec_command.proofs.Texts.{kept_below}
use Rattle.exec_command.proofs.steps.decided.Goals as goal

pub with_entries-requires-clause-threads : goal.with_entries-requires-clause-threads
with_entries-requires-clause-threads c = kept_below c.args.schedule.now c.in-Ok.ensures.entries c.as_slice.result.now most_entries c.in-Ok.ensures.spelled
    (c.as_slice.ensures.value ∙ c.in-Ok.ensures.kept.0)

pub returns-in-Ok : goal.returns-in-Ok
returns-in-Ok c =
    IfOk-weaker c.with_entries.result _ _ (λ d h.
    scheduled c.in-Ok.ensures.entries c.in-Ok.ensures.spelled
    (subst (λ l. DecidesTexts c.args.exec.now (map (λ text. text.items) c.args.texts.now) c.args.input.items l d.answer (map written_of d.writes.items))
    (c.as_slice.ensures.value ∙ c.in-Ok.ensures.kept.0) h))
    c.with_entries.ensures

pub returns-in-Err-BadSchedule : goal.returns-in-Err-BadSchedule
returns-in-Err-BadSchedule c =
    IfOk-weaker c.bad_schedule.result _ _ (λ d h.
    bad_schedule c.in-Err-BadSchedule.line (rw c.in-Err-BadSchedule.field-0-is at c.in-Err-BadSchedule.ensures)
    (subst (λ n. Refuses 10 (bad_schedule_line n c.in-Err-BadSchedule.line) status.BadSchedule d.answer
    (map written_of d.writes.items)) c.schedule_name.ensures h))
    c.bad_schedule.ensures
