use Rattle.note_landing.proofs.Landed.{outward_as}
use Rattle.note_landing.proofs.flights.outward.Goals as goal

pub returns-clause-is : goal.returns-clause-is
returns-clause-is c m a = outward_as _ _ _ _ _ _ _ _ _ c.in_ok-_short.ensures.sum c.in_ok-_short.ensures.short (c.in_ok-steps.ensures.is m a)
