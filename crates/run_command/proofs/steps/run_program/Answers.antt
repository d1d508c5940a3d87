use Rattle.std.proofs.Common.{◌≡◌, ap, List, map, subst}
use Rattle.std.proofs.lemmas.Result.{IfOk-weaker}
use Rattle.bounded_runs.specs.BoundedRuns.{IsOfLinked}
use Rattle.command_io.specs.Writes.{written_of}
use Rattle.cpp_tree.specs.declared.program.Program.{Program}
use Rattle.exec_command.specs.Exec.{RunsObjects}
use Rattle.tx_code.specs.Objects.{ObjectView, object_view}
use Rattle.tx_code.specs.declared.object.Object.{Object}
use Rattle.run_command.proofs.steps.run_program.Goals as goal

pub returns : goal.returns
returns c =
    let objects = map object_view c.in_ok-objects.objects.items in
    let views : map object_view c.as_slice.result.now ≡ objects = ap (λ (os : List Object). map object_view os) c.as_slice.ensures.value in
    IfOk-weaker c.run_objects.result _ _
    (λ d h. record {
      units = record {
        objects = objects;
        are_objects = c.in_ok-objects.ensures.units;
        decides = subst (λ (os : List ObjectView). RunsObjects c.args.options.now os c.args.input.items c.args.entries.now d.answer
            (map written_of d.writes.items)) views h.decides;
      };
      source = subst (λ (p : Program). IsOfLinked (record { program = p; choices = c.args.choices.now }) c.args.input.items d.answer) c.program.ensures.program
          h.source;
    })
    c.run_objects.ensures
