use Rattle.note_landing.specs.Shown.{types_by}
use Rattle.note_landing.proofs.Flown.{reaches_there}
use Rattle.note_landing.proofs.flights.cleans.Goals as goal

pub returns-clause-is : goal.returns-clause-is
returns-clause-is c m a = reaches_there c.args.body.now m c.args.notes.now _ _ _ _ _ _ _ (c.holding-held.ensures (types_by c.args.body.now) m) (c.in_ok-reaches.ensures.is m a)
