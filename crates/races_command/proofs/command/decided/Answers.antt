use Rattle.std.proofs.Common.{subst, map, ◌∙◌, string_bytes}
use Rattle.std.proofs.lemmas.Result.{IfOk-weaker}
use Rattle.run_command.specs.command_io.Writes.{written_of}
use Rattle.run_command.specs.schedules.Text.{most_entries}
use Rattle.run_command.specs.tx_answers.Ends.{Refuses}
use Rattle.run_command.specs.tx_answers.declared.answer.Status.TheVariants as status
use Rattle.run_command.specs.exec_command.Exec.{bad_schedule_line}
use Rattle.races_command.specs.Commands.{DecidesTexts, scheduled, bad_schedule}
use Rattle.run_command.proofs.exec_command.Texts.{kept_below}
use Rattle.races_command.proofs.command.decided.Goals as goal

pub with_texts-requires-clause-threads : goal.with_texts-requires-clause-threads
with_texts-requires-clause-threads c = kept_below c.args.schedule.now c.in-Ok.ensures.entries c.as_slice-in-Ok.result.now most_entries c.in-Ok.ensures.spelled
    (c.as_slice-in-Ok.ensures.value ∙ c.in-Ok.ensures.kept.0)

pub returns-in-Ok : goal.returns-in-Ok
returns-in-Ok c =
    let options = c.args.races.now.run.options in
    let texts = map (λ text. text.items) c.args.texts.now in
    let fold = c.args.races.now.run.fold in
    let file = string_bytes c.args.races.now.report_file in
    IfOk-weaker c.with_texts.result _ _ (λ d h.
    scheduled c.in-Ok.ensures.entries c.in-Ok.ensures.spelled
    (subst (λ l. DecidesTexts options fold file (map string_bytes c.args.races.now.run.sources.items) texts c.args.input.items l d.answer
    (map written_of d.writes.items)) (c.as_slice-in-Ok.ensures.value ∙ c.in-Ok.ensures.kept.0)
    (subst (λ s. DecidesTexts options fold file (map string_bytes s) texts c.args.input.items c.as_slice-in-Ok.result.now d.answer
    (map written_of d.writes.items)) c.as_slice.ensures.value
    (subst (λ f. DecidesTexts options fold f (map string_bytes c.as_slice.result.now) texts c.args.input.items c.as_slice-in-Ok.result.now d.answer
    (map written_of d.writes.items)) c.as_str.ensures.value h))))
    c.with_texts.ensures

pub returns-in-Err-BadSchedule : goal.returns-in-Err-BadSchedule
returns-in-Err-BadSchedule c =
    IfOk-weaker c.bad_schedule.result _ _ (λ d h.
    bad_schedule c.in-Err-BadSchedule.line (rw c.in-Err-BadSchedule.field-0-is at c.in-Err-BadSchedule.ensures)
    (subst (λ n. Refuses 10 (bad_schedule_line n c.in-Err-BadSchedule.line) status.BadSchedule d.answer
    (map written_of d.writes.items)) c.schedule_name.ensures h))
    c.bad_schedule.ensures
