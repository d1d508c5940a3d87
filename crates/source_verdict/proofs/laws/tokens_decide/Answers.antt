use Rattle.source_verdict.proofs.Alike.{same_program, same_fault, accepted_alike}
use Rattle.source_verdict.proofs.laws.tokens_decide.Goals as goal

pub returns : goal.returns
returns c = record { program = same_program; fault = same_fault; accepted = accepted_alike }
