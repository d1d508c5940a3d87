use Rattle.note_landing.proofs.Splits.{case_as}
use Rattle.note_landing.proofs.cases.case_fits.Goals as goal

pub returns-clause-is : goal.returns-clause-is
returns-clause-is c m a =
    let text = rw (c.as_slice-classes.ensures.value, c.program.ensures) at c.in_ok-text.ensures in
    let row = rw c.deref.ensures.value at c.find_text-row.ensures in
    case_as c.args.body.now m c.args.notes.now _ _ _ _ _ _ _ text row (c.in_ok-exception.ensures.is _ m (c.in_ok-found_fits.ensures.grows _ m a)) (c.in_ok-found_fits.ensures.is m a)
