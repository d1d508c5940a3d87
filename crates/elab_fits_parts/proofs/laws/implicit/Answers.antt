use Rattle.elab_fits_parts.proofs.Homes.{homes_law}
use Rattle.elab_fits_parts.proofs.Implicit.{steps_law}
use Rattle.elab_fits_parts.proofs.Walks.{starts_law, later_law, declarations_law, units_law, lambdas_law, operands_law, statements_law}
use Rattle.elab_fits_parts.proofs.laws.implicit.Goals as goal

pub returns-clause-starts : goal.returns-clause-starts
returns-clause-starts c = starts_law

pub returns-clause-later : goal.returns-clause-later
returns-clause-later c = later_law

pub returns-clause-steps : goal.returns-clause-steps
returns-clause-steps c = steps_law

pub returns-clause-homes : goal.returns-clause-homes
returns-clause-homes c = homes_law

pub returns-clause-all : goal.returns-clause-all
returns-clause-all c = declarations_law

pub returns-clause-units : goal.returns-clause-units
returns-clause-units c = units_law

pub returns-clause-lambdas : goal.returns-clause-lambdas
returns-clause-lambdas c = lambdas_law

pub returns-clause-operands : goal.returns-clause-operands
returns-clause-operands c = operands_law

pub returns-clause-statements : goal.returns-clause-statements
returns-clause-statements c = statements_law
