use Rattle.state_growth.proofs.Going.{states_on_law, units_on_law, left_bodies_law, goes_on_law, numbers_law}
use Rattle.state_growth.proofs.laws.growth.Goals as goal

pub returns-clause-states : goal.returns-clause-states
returns-clause-states c = states_on_law

pub returns-clause-units : goal.returns-clause-units
returns-clause-units c = units_on_law

pub returns-clause-left : goal.returns-clause-left
returns-clause-left c = left_bodies_law

pub returns-clause-steps : goal.returns-clause-steps
returns-clause-steps c = goes_on_law

pub returns-clause-numbers : goal.returns-clause-numbers
returns-clause-numbers c = numbers_law
