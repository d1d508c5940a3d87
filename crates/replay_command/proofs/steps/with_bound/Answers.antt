use Rattle.std.proofs.Common.{map, subst}
use Rattle.std.proofs.lemmas.Result.{IfOk-weaker}
use Rattle.command_io.specs.Writes.{written_of}
use Rattle.tx_answers.specs.Ends.{Refuses}
use Rattle.tx_answers.specs.declared.answer.Status.TheVariants as status
use Rattle.replay_command.specs.Replays.{replayed, not_a_run, spent, not_a_run_line}
use Rattle.replay_command.proofs.steps.with_bound.Goals as goal

pub returns-in-Ok : goal.returns-in-Ok
returns-in-Ok c = IfOk-weaker c.ended.result _ _ (λ d h. replayed c.in-Ok.replayed c.in-Ok.ensures h) c.ended.ensures

pub returns-in-Err-NotARun : goal.returns-in-Err-NotARun
returns-in-Err-NotARun c = IfOk-weaker c.not_a_run.result _ _
    (λ d h. not_a_run c.in-Err-NotARun.index (rw c.in-Err-NotARun.field-0-is at c.in-Err-NotARun.ensures)
    (subst (λ n. Refuses 13 (not_a_run_line n c.in-Err-NotARun.index) status.Refused d.answer
    (map written_of d.writes.items)) c.as_str.ensures.value h)) c.not_a_run.ensures

pub returns-in-Err-Spent : goal.returns-in-Err-Spent
returns-in-Err-Spent c = IfOk-weaker c.spent.result _ _
    (λ d h. spent c.in-Err-Spent.index (rw c.in-Err-Spent.field-0-is at c.in-Err-Spent.ensures) h) c.spent.ensures
