use Rattle.code_asm.proofs.OneOutcome.{never_both, one_fault, one_object}
use Rattle.code_asm.proofs.laws.one_outcome.Goals as goal

pub returns-clause-object : goal.returns-clause-object
returns-clause-object c = one_object

pub returns-clause-line : goal.returns-clause-line
returns-clause-line c = one_fault

pub returns-clause-apart : goal.returns-clause-apart
returns-clause-apart c = never_both
