use Rattle.assembly_text.proofs.LineLaws.{same_lines}
use Rattle.assembly_text.proofs.laws.one_line.Goals as goal

pub returns-clause-line : goal.returns-clause-line
returns-clause-line c = λ text l m rest tail a b. (same_lines text l m rest tail a b).same

pub returns-clause-rest : goal.returns-clause-rest
returns-clause-rest c = λ text l m rest tail a b. (same_lines text l m rest tail a b).rests
