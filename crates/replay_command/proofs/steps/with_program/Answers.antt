use Rattle.std.proofs.Common.{ap, ◌∙◌, map, subst}
use Rattle.std.proofs.lemmas.Result.{IfOk-weaker}
use Rattle.command_io.specs.Writes.{written_of}
use Rattle.replay_command.specs.Replays.{DecidesOrder}
use Rattle.replay_command.proofs.steps.with_program.Goals as goal

pub returns : goal.returns
returns c = IfOk-weaker c.with_bound.result _ _ (λ d h. record {
  choices = c.in_ok-choices.choices;
  are_choices = c.in_ok-choices.ensures;
  decides = subst (λ g. DecidesOrder c.args.words.now g c.args.input.now c.args.order.now d.answer (map written_of d.writes.items))
      (c.in_ok-bound.ensures ∙ ap (λ p. record { program = p; choices = c.in_ok-choices.choices }) c.program-program.ensures.program) h;
}) c.with_bound.ensures
