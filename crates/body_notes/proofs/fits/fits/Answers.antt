use Rattle.body_notes.proofs.Fitting.{next_as}
use Rattle.body_notes.proofs.fits.fits.Goals as goal

pub returns-in_ok-course_fits-in-Goes-clause-is : goal.returns-in_ok-course_fits-in-Goes-clause-is
returns-in_ok-course_fits-in-Goes-clause-is c m a = next_as c.args.body.now m c.args.notes.now _ _ _ _ _ _ _ c.in-Goes.is (c.in_ok-course_fits-in-Goes.ensures.is m a)
