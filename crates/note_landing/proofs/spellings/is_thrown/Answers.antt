use Rattle.note_landing.proofs.Thrown.{thrown_as}
use Rattle.note_landing.proofs.spellings.is_thrown.Goals as goal

pub returns : goal.returns
returns c told m a = thrown_as c.args.body.now _ _ (c.in_ok-made.ensures _ m a) (c.in_ok-thrown.ensures told)
