use Rattle.elab_fits_expressions.proofs.Written.{types_law, specifiers_law, declarators_law, parameters_law}
use Rattle.elab_fits_expressions.proofs.laws.written.Goals as goal

pub returns-clause-types : goal.returns-clause-types
returns-clause-types c = types_law

pub returns-clause-specifiers : goal.returns-clause-specifiers
returns-clause-specifiers c = specifiers_law

pub returns-clause-declarators : goal.returns-clause-declarators
returns-clause-declarators c = declarators_law

pub returns-clause-parameters : goal.returns-clause-parameters
returns-clause-parameters c = parameters_law
