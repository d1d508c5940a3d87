use Rattle.body_notes.proofs.Fitting.{rethrows_as}
use Rattle.body_notes.proofs.fits.rethrowing.Goals as goal

pub returns-clause-is : goal.returns-clause-is
returns-clause-is c m a = rethrows_as c.args.body.now m c.args.notes.now _ _ _ _ c.args.rest _ c.in_ok-rank.ensures (c.in_ok-rises.ensures.is m a)
