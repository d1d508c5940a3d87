use Rattle.note_landing.specs.Shown.{linked_by, func_by, notes_by, thrown_by}
use Rattle.note_landing.proofs.Lands.{reaches_at}
use Rattle.note_landing.proofs.flights.reaches.Goals as goal

pub returns-clause-is : goal.returns-clause-is
returns-clause-is c m a = reaches_at (linked_by c.args.body.now) (func_by c.args.body.now) (notes_by c.args.body.now m c.args.notes.now) (thrown_by c.args.body.now) _ _ _ _ _ _ _ _ _ (c.in_ok-landing.ensures.is m a) c.in_ok-steps.ensures.sum c.in_ok-steps.ensures.short c.in_ok-goes_on.ensures
