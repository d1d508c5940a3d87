use Rattle.source_verdict.proofs.OneProgram.{one_program, not_faulty}
use Rattle.source_verdict.proofs.laws.one_program.Goals as goal

pub returns : goal.returns
returns c = record { one = one_program; well = not_faulty }
