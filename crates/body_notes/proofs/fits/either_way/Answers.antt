use Rattle.note_landing.specs.Shown.{types_by}
use Rattle.body_notes.proofs.Fitting.{either_as}
use Rattle.body_notes.proofs.fits.either_way.Goals as goal

pub returns-clause-is : goal.returns-clause-is
returns-clause-is c m a = either_as c.args.body.now m c.args.notes.now _ _ _ _ _ _ _ _ (c.in_ok-more.ensures (types_by c.args.body.now) m) (c.in_ok-quietly.ensures.is m (c.in_ok-quietly-2.ensures.grows _ m a)) (c.in_ok-quietly-2.ensures.is m a)
