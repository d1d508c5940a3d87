use Rattle.std.proofs.Common.{ap}
use Rattle.note_landing.specs.Shown.{outcome_by}
use Rattle.body_notes.proofs.Fitting.{unless_as}
use Rattle.body_notes.proofs.fits.unless_trap.Goals as goal

pub returns-in_ok-quietly-in-Results-clause-is : goal.returns-in_ok-quietly-in-Results-clause-is
returns-in_ok-quietly-in-Results-clause-is c m a op kind left right = unless_as c.args.body.now m c.args.notes.now _ _ _ _ _ _ _ _ _ _ _ _ _ _ (ap (λ z. outcome_by c.args.body.now m z) c.in-Results.is) (c.in_ok-quietly-in-Results.ensures.is m a)
