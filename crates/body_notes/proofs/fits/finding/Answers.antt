use Rattle.std.proofs.Common.{ap}
use Rattle.note_landing.specs.Shown.{types_by, outcome_by}
use Rattle.body_notes.proofs.Fitting.{finding_as}
use Rattle.body_notes.proofs.fits.finding.Goals as goal

pub returns-in_ok-quietly-in-Finds-clause-is : goal.returns-in_ok-quietly-in-Finds-clause-is
returns-in_ok-quietly-in-Finds-clause-is c m a = finding_as c.args.body.now m c.args.notes.now _ _ _ _ _ _ _ _ _ _ _ _ _ (ap (λ z. outcome_by c.args.body.now m z) c.in-Finds.is) (c.in_ok-more-in-Finds.ensures (types_by c.args.body.now) m) (c.in_ok-quietly-in-Finds.ensures.is m a)
