use Rattle.elab_fits_bodies.proofs.Ends.{end_serves, function_fits}
use Rattle.elab_fits_bodies.proofs.laws.functions.Goals as goal

pub returns-clause-ends : goal.returns-clause-ends
returns-clause-ends c = end_serves

pub returns-clause-bodies : goal.returns-clause-bodies
returns-clause-bodies c = function_fits
