use Rattle.std.proofs.Common.{rules}
use Rattle.note_landing.specs.Shown.{types_by}
use Rattle.body_notes.proofs.fits.loudly.Goals as goal

pub returns-clause-is : goal.returns-clause-is
returns-clause-is c m a p f = (c.is_event.ensures (search rules) (types_by c.args.body.now) m p f, c.in_ok-land_behind.ensures.is m a)
