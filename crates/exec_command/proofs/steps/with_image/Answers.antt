use Rattle.std.proofs.Common.{subst, ◌∙◌, map}
use Rattle.std.proofs.lemmas.Result.{IfOk-weaker}
use Rattle.code_verify.specs.declared.verified.BadCode.TheVariants as code
use Rattle.command_io.specs.Writes.{written_of}
use Rattle.tx_code.specs.Views.{image_view}
use Rattle.exec_command.specs.Exec.{bad_code, runs, RunsImage}
use Rattle.exec_command.proofs.steps.with_image.Goals as goal

pub returns-in-Ok : goal.returns-in-Ok
returns-in-Ok c =
    IfOk-weaker c.run.result _ _ (λ d h.
    runs (subst (λ i. RunsImage c.args.options.now (image_view i) c.args.input.items c.args.entries.now d.answer (map written_of d.writes.items))
    (c.image.ensures.same ∙ c.in-Ok.ensures.same) h))
    c.run.ensures

pub returns-in-Err-Rule : goal.returns-in-Err-Rule
returns-in-Err-Rule c = IfOk-weaker c.bad_code.result _ _
    (λ d h. bad_code (code.Rule c.in-Err-Rule.func c.in-Err-Rule.index c.in-Err-Rule.rule)
    (rw c.in-Err-Rule.field-0-is at c.in-Err-Rule.ensures.refused) h) c.bad_code.ensures
