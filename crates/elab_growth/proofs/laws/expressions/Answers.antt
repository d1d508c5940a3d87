use Rattle.elab_growth.proofs.Kept.{expressions_law, operands_law, initials_law}
use Rattle.elab_growth.proofs.laws.expressions.Goals as goal

pub returns-clause-expressions : goal.returns-clause-expressions
returns-clause-expressions c = expressions_law

pub returns-clause-operands : goal.returns-clause-operands
returns-clause-operands c = operands_law

pub returns-clause-initials : goal.returns-clause-initials
returns-clause-initials c = initials_law
