use Rattle.std.proofs.Common.{map, subst, sym, ◌∙◌}
use Rattle.std.proofs.lemmas.Bool.{ltb-true}
use Rattle.std.proofs.lemmas.Result.{IfOk-weaker}
use Rattle.command_io.specs.Writes.{written_of}
use Rattle.schedules.specs.Text.{most_entries}
use Rattle.tx_answers.specs.Ends.{Refuses}
use Rattle.tx_answers.specs.declared.answer.Status.TheVariants as status
use Rattle.replay_command.specs.Replays.{DecidesTexts, limit_line, too_long, ordered}
use Rattle.replay_command.proofs.Orders.{all_kept}
use Rattle.replay_command.proofs.steps.with_order.Goals as goal

pub returns-then-order : goal.returns-then-order
returns-then-order c = IfOk-weaker c.too_long.result _ _
    (λ d h entries k. too_long (ltb-true most_entries _ (sym k.1 ∙ c.if-order.true))
    (subst (λ n. Refuses 7 (limit_line n) status.Limit d.answer (map written_of d.writes.items)) c.as_str.ensures.value h)) c.too_long.ensures

pub returns : goal.returns
returns c = IfOk-weaker c.with_texts.result _ _ (λ d h entries k. let all = all_kept most_entries entries c.args.order.now k c.if-order.false in ordered all.0
    (subst (λ l. DecidesTexts c.args.words.now (map (λ text. text.items) c.args.texts.now) c.args.input.now l d.answer (map written_of d.writes.items))
    (c.as_slice.ensures.value ∙ all.1) h)) c.with_texts.ensures
