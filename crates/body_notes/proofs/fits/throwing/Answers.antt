use Rattle.std.proofs.Common.{rules}
use Rattle.body_notes.proofs.Fitting.{throws_as}
use Rattle.body_notes.proofs.fits.throwing.Goals as goal

pub returns-clause-is : goal.returns-clause-is
returns-clause-is c m a = throws_as c.args.body.now m c.args.notes.now _ _ _ _ _ _ _ (c.in_ok-is_thrown.ensures (search rules) m (c.in_ok-flies.ensures.grows _ m a)) c.in_ok-rank.ensures (c.in_ok-flies.ensures.is m a)
