use Rattle.std.proofs.lemmas.Result.{IfOk-weaker}
use Rattle.tx_safety.specs.Answers.{checked_in}
use Rattle.run_command.proofs.building.built.Goals as goal

pub returns : goal.returns
returns c = IfOk-weaker c.put_program.result _ _ (λ d h.
    record { program = checked_in c.in_ok-program.program; compiled = c.in_ok-program.ensures; puts = h }) c.put_program.ensures
