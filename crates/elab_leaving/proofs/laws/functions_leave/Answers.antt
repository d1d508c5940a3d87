use Rattle.elab_leaving.proofs.Leaving.{left_function, left_lambda}
use Rattle.elab_leaving.proofs.laws.functions_leave.Goals as goal

pub returns-clause-function : goal.returns-clause-function
returns-clause-function c = λ before st h. left_function before st h

pub returns-clause-lambda : goal.returns-clause-lambda
returns-clause-lambda c = λ before st h v. left_lambda before st h v
