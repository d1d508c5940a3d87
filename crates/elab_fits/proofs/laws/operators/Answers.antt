use Rattle.elab_fits.proofs.Arithmetic.{binary_gives}
use Rattle.elab_fits.proofs.Unary.{logical_gives, negation_gives, unary_gives, address_stands}
use Rattle.elab_fits.proofs.laws.operators.Goals as goal

pub returns-clause-binaries : goal.returns-clause-binaries
returns-clause-binaries c = binary_gives

pub returns-clause-logicals : goal.returns-clause-logicals
returns-clause-logicals c = logical_gives

pub returns-clause-negations : goal.returns-clause-negations
returns-clause-negations c = negation_gives

pub returns-clause-unaries : goal.returns-clause-unaries
returns-clause-unaries c = unary_gives

pub returns-clause-addresses : goal.returns-clause-addresses
returns-clause-addresses c = address_stands
