use Rattle.state_growth.proofs.Going.{lambdas_law, operands_law, parameters_law, statement_law, statements_law, bodies_law}
use Rattle.state_growth.proofs.laws.steps.Goals as goal

pub returns-clause-lambdas : goal.returns-clause-lambdas
returns-clause-lambdas c = lambdas_law

pub returns-clause-statements : goal.returns-clause-statements
returns-clause-statements c = statements_law

pub returns-clause-bodies : goal.returns-clause-bodies
returns-clause-bodies c = bodies_law

pub returns-clause-operands : goal.returns-clause-operands
returns-clause-operands c = operands_law

pub returns-clause-parameters : goal.returns-clause-parameters
returns-clause-parameters c = parameters_law

pub returns-clause-statement : goal.returns-clause-statement
returns-clause-statement c = statement_law
