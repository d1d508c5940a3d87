use Rattle.elab_contexts.proofs.Holding.{lambdas_law, operands_law, statements_law}
use Rattle.elab_contexts.proofs.laws.bodies.Goals as goal

pub returns-clause-lambdas : goal.returns-clause-lambdas
returns-clause-lambdas c = lambdas_law

pub returns-clause-operands : goal.returns-clause-operands
returns-clause-operands c = operands_law

pub returns-clause-statements : goal.returns-clause-statements
returns-clause-statements c = statements_law
