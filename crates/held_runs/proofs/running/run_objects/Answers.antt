use Rattle.std.proofs.Common.{map}
use Rattle.std.proofs.lemmas.Result.{IfOk-weaker}
use Rattle.command_io.specs.Writes.{written_of}
use Rattle.exec_command.specs.Exec.{links, cannot_link}
use Rattle.tx_code.specs.Views.{image_view}
use Rattle.held_runs.proofs.Held.{of_unlinked}
use Rattle.held_runs.proofs.running.run_objects.Goals as goal

pub returns-in-Ok : goal.returns-in-Ok
returns-in-Ok c = IfOk-weaker c.run_image.result _ _
    (λ d h. record { decides = links (image_view c.in-Ok.image) c.in-Ok.ensures h.runs; source = h.source }) c.run_image.ensures

pub returns-in-Err : goal.returns-in-Err
returns-in-Err c = IfOk-weaker c.bad_link.result _ _
    (λ d h. record {
      decides = cannot_link c.in-Err.fault c.in-Err.ensures h;
      source = of_unlinked d.answer (map written_of d.writes.items) (record { program = c.args.program.now; choices = c.args.choices.now })
          c.args.input.items c.in-Err.fault h;
    })
    c.bad_link.ensures
