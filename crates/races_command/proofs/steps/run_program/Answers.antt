use Rattle.std.proofs.Common.{◌≡◌, ◌∙◌, ap, ℕ, List, map, subst, sym}
use Rattle.std.proofs.lemmas.Result.{IfOk-weaker}
use Rattle.command_io.specs.Writes.{written_of}
use Rattle.cpp_tree.specs.declared.program.Program.{Program}
use Rattle.object_races.specs.ObjectRaces.{DecidesObjects}
use Rattle.run_command.specs.bounded_runs.BoundedRuns.{IsOfLinked}
use Rattle.tx_answers.specs.declared.ends.Decision.{Decision}
use Rattle.tx_code.specs.Objects.{ObjectView, object_view}
use Rattle.tx_code.specs.declared.object.Object.{Object}
use Rattle.races_command.proofs.Raced.{of_raced}
use Rattle.races_command.proofs.steps.run_program.Goals as goal

pub held_against_source-requires-clause-run : goal.held_against_source-requires-clause-run
held_against_source-requires-clause-run c =
    let bytes : c.in_ok-given.given.items ≡ c.as_slice-4.result.now = c.in_ok-given.ensures.items ∙ c.as_slice.ensures.value ∙ sym c.as_slice-4.ensures.value in
    let views : map object_view c.as_slice-2.result.now ≡ map object_view c.as_slice-3.result.now =
    ap (λ (os : List Object). map object_view os) (c.as_slice-2.ensures.value ∙ sym c.as_slice-3.ensures.value) in
    of_raced c.args.options.now c.args.file.now (map object_view c.as_slice-3.result.now) c.as_slice-4.result.now c.args.entries.now
    c.in_ok-decision.decision.answer (map written_of c.in_ok-decision.decision.writes.items)
    (subst (λ (os : List ObjectView). DecidesObjects c.args.options.now c.args.file.now os c.as_slice-4.result.now c.args.entries.now
    c.in_ok-decision.decision.answer (map written_of c.in_ok-decision.decision.writes.items)) views
    (subst (λ (input : List ℕ). DecidesObjects c.args.options.now c.args.file.now (map object_view c.as_slice-2.result.now) input c.args.entries.now
    c.in_ok-decision.decision.answer (map written_of c.in_ok-decision.decision.writes.items)) bytes c.in_ok-decision.ensures))

pub returns : goal.returns
returns c =
    let bytes : c.in_ok-given.given.items ≡ c.args.input.items = c.in_ok-given.ensures.items ∙ c.as_slice.ensures.value in
    let objects = map object_view c.in_ok-objects.objects.items in
    let views : map object_view c.as_slice-2.result.now ≡ objects = ap (λ (os : List Object). map object_view os) c.as_slice-2.ensures.value in
    IfOk-weaker c.held_against_source.result _ _
    (λ d h. record {
      units = record {
        objects = objects;
        are_objects = c.in_ok-objects.ensures.units;
        decides = subst (λ (os : List ObjectView). DecidesObjects c.args.options.now c.args.file.now os c.args.input.items c.args.entries.now d.answer
            (map written_of d.writes.items)) views
            (subst (λ (input : List ℕ). DecidesObjects c.args.options.now c.args.file.now
            (map object_view c.as_slice-2.result.now) input c.args.entries.now d.answer (map written_of d.writes.items)) bytes
            (subst (λ (x : Decision). DecidesObjects c.args.options.now c.args.file.now
            (map object_view c.as_slice-2.result.now) c.in_ok-given.given.items c.args.entries.now x.answer (map written_of x.writes.items))
            (sym h.same) c.in_ok-decision.ensures));
      };
      source = subst (λ (p : Program). IsOfLinked (record { program = p; choices = c.args.choices.now }) c.args.input.items d.answer) c.program.ensures.program
          (subst (λ (input : List ℕ). IsOfLinked (record {
            program = c.program.result.now;
            choices =
                c.args.choices.now;
          }) input d.answer) c.as_slice-4.ensures.value h.source);
    })
    c.held_against_source.ensures
