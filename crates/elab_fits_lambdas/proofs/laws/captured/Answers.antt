use Rattle.elab_fits_lambdas.proofs.Captured.{explicit_all, default_all}
use Rattle.elab_fits_lambdas.proofs.laws.captured.Goals as goal

pub returns-clause-explicit : goal.returns-clause-explicit
returns-clause-explicit c = explicit_all

pub returns-clause-defaults : goal.returns-clause-defaults
returns-clause-defaults c = default_all
