use Rattle.elab_throws_apart.proofs.Expressions.{apart_law, expressions_law, chosen_law, operands_law}
use Rattle.elab_throws_apart.proofs.laws.expressions.Goals as goal

pub returns-clause-apart : goal.returns-clause-apart
returns-clause-apart c = apart_law

pub returns-clause-expressions : goal.returns-clause-expressions
returns-clause-expressions c = expressions_law

pub returns-clause-chosen : goal.returns-clause-chosen
returns-clause-chosen c = chosen_law

pub returns-clause-operands : goal.returns-clause-operands
returns-clause-operands c = operands_law
