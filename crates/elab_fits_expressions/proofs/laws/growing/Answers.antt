use Rattle.elab_fits_expressions.proofs.Behind.{initial, class_from, from_values, dropped}
use Rattle.elab_fits_expressions.proofs.Growing.{expression, operands}
use Rattle.elab_fits_expressions.proofs.Holding.{held, reached}
use Rattle.elab_fits_expressions.proofs.laws.growing.Goals as goal

pub returns-clause-expressions : goal.returns-clause-expressions
returns-clause-expressions c = expression

pub returns-clause-operands : goal.returns-clause-operands
returns-clause-operands c = operands

pub returns-clause-initials : goal.returns-clause-initials
returns-clause-initials c = initial

pub returns-clause-classes : goal.returns-clause-classes
returns-clause-classes c = class_from

pub returns-clause-values : goal.returns-clause-values
returns-clause-values c = from_values

pub returns-clause-dropped : goal.returns-clause-dropped
returns-clause-dropped c = dropped

pub returns-clause-holds : goal.returns-clause-holds
returns-clause-holds c = held

pub returns-clause-reaches : goal.returns-clause-reaches
returns-clause-reaches c = reached
