use Rattle.std.proofs.Common.{subst, ◌∙◌, map}
use Rattle.std.proofs.lemmas.Result.{IfOk-weaker}
use Rattle.command_io.specs.Writes.{written_of}
use Rattle.tx_code.specs.Views.{image_view}
use Rattle.exec_command.specs.Exec.{RunsImage}
use Rattle.exec_command.proofs.steps.with_compiled_image.Goals as goal

pub returns-in-Ok : goal.returns-in-Ok
returns-in-Ok c =
    IfOk-weaker c.run.result _ _ (λ d h.
    subst (λ i. RunsImage c.args.options.now (image_view i) c.args.input.items c.args.entries.now d.answer (map written_of d.writes.items))
    (c.image.ensures.same ∙ c.in-Ok.ensures.same) h)
    c.run.ensures
