use Rattle.std.proofs.Common.{arith}
use Rattle.note_landing.specs.Cases.{spellings_by}
use Rattle.note_landing.specs.Shown.{linked_by}
use Rattle.note_landing.proofs.Splits.{each_class}
use Rattle.note_landing.proofs.cases.+classes_fit.Goals as goal

pub returns-clause-is : goal.returns-clause-is
returns-clause-is t c m a = each_class (linked_by c.args.body.now).classes (spellings_by c.args.body.now) _ _ _ (omega arith) (c.in_ok-case_fits.ensures.is m (c.in_ok-classes_fit.ensures.grows _ m a)) (c.in_ok-classes_fit.ensures.is m a)
