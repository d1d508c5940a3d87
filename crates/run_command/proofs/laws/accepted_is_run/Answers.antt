use Rattle.run_command.proofs.Completing.{completed}
use Rattle.run_command.proofs.laws.accepted_is_run.Goals as goal

pub returns : goal.returns
returns c = completed c.one_verdict.ensures c.one_program.ensures.one
