use Rattle.state_growth.proofs.Judgements.{trees_law, expressions_law, operands_law, scalars_law, initials_law, built_law, copied_law, destroyed_law}
use Rattle.state_growth.proofs.laws.judgements.Goals as goal

pub returns-clause-trees : goal.returns-clause-trees
returns-clause-trees c = trees_law

pub returns-clause-expressions : goal.returns-clause-expressions
returns-clause-expressions c = expressions_law

pub returns-clause-operands : goal.returns-clause-operands
returns-clause-operands c = operands_law

pub returns-clause-scalars : goal.returns-clause-scalars
returns-clause-scalars c = scalars_law

pub returns-clause-initials : goal.returns-clause-initials
returns-clause-initials c = initials_law

pub returns-clause-built : goal.returns-clause-built
returns-clause-built c = built_law

pub returns-clause-copied : goal.returns-clause-copied
returns-clause-copied c = copied_law

pub returns-clause-destroyed : goal.returns-clause-destroyed
returns-clause-destroyed c = destroyed_law
