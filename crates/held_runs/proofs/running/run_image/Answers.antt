use Rattle.std.proofs.Common.{◌≡◌, ◌∙◌, ℕ, List, map, subst, sym}
use Rattle.std.proofs.lemmas.Result.{IfOk-weaker}
use Rattle.bounded_runs.specs.BoundedRuns.{IsOfLinked}
use Rattle.command_io.specs.Writes.{written_of}
use Rattle.exec_command.specs.Exec.{RunsImage}
use Rattle.tx_answers.specs.declared.ends.Decision.{Decision}
use Rattle.tx_code.specs.Objects.{object_view}
use Rattle.tx_code.specs.Views.{image_view}
use Rattle.held_runs.proofs.Held.{of_run}
use Rattle.held_runs.proofs.running.run_image.Goals as goal

pub held_against_source-requires-clause-run : goal.held_against_source-requires-clause-run
held_against_source-requires-clause-run c =
    let bytes : c.in_ok-given.given.items ≡ c.as_slice-2.result.now = c.in_ok-given.ensures.items ∙ c.as_slice.ensures.value ∙ sym c.as_slice-2.ensures.value in
    of_run c.args.options.now (map object_view c.args.objects.now) (image_view c.args.image) c.as_slice-2.result.now c.args.entries.now
    c.in_ok-decision.decision.answer (map written_of c.in_ok-decision.decision.writes.items) c.requires.image
    (subst (λ (input : List ℕ). RunsImage c.args.options.now (image_view c.args.image) input c.args.entries.now c.in_ok-decision.decision.answer
    (map written_of c.in_ok-decision.decision.writes.items)) bytes c.in_ok-decision.ensures)

pub returns : goal.returns
returns c =
    let bytes : c.in_ok-given.given.items ≡ c.args.input.items = c.in_ok-given.ensures.items ∙ c.as_slice.ensures.value in
    IfOk-weaker c.held_against_source.result _ _
    (λ d h. record {
      runs = subst (λ (input : List ℕ). RunsImage c.args.options.now (image_view c.args.image) input c.args.entries.now d.answer
          (map written_of d.writes.items)) bytes
          (subst (λ (x : Decision). RunsImage c.args.options.now (image_view c.args.image) c.in_ok-given.given.items c.args.entries.now x.answer
          (map written_of x.writes.items)) (sym h.same) c.in_ok-decision.ensures);
      source = subst (λ (input : List ℕ). IsOfLinked (record { program = c.args.program.now; choices = c.args.choices.now }) input d.answer)
          c.as_slice-2.ensures.value h.source;
    })
    c.held_against_source.ensures
