use Rattle.std.proofs.Common.{rules}
use Rattle.note_landing.proofs.Splits.{spelling_as}
use Rattle.note_landing.proofs.cases.spelling_fits.Goals as goal

pub returns-clause-is : goal.returns-clause-is
returns-clause-is c m a none = spelling_as c.args.body.now m c.args.notes.now _ _ _ _ _ (search rules) (c.in_ok-case_fits.ensures.is m a)
