use Rattle.std.proofs.Common.{sym}
use Rattle.std.proofs.lemmas.Result.{IfOk-weaker}
use Rattle.explain_command.specs.Explain.{explains}
use Rattle.explain_command.proofs.explaining.decided.Goals as goal

pub returns-in-Some : goal.returns-in-Some
returns-in-Some c = IfOk-weaker c.explains.result _ _
    (λ d h. explains (sym c.in-Some.ensures.known) c.in-Some.found c.in-Some.ensures.named h) c.explains.ensures
