use Rattle.body_notes.proofs.Fitting.{course_as}
use Rattle.body_notes.proofs.fits.course_fits.Goals as goal

pub returns-in_ok-quietly-in-Quietly-clause-is : goal.returns-in_ok-quietly-in-Quietly-clause-is
returns-in_ok-quietly-in-Quietly-clause-is c m a = course_as c.args.body.now m c.args.notes.now _ _ _ _ _ _ _ c.in-Quietly.is (c.in_ok-quietly-in-Quietly.ensures.is m a)

pub returns-in_ok-unless_trap-in-UnlessTrap-clause-is : goal.returns-in_ok-unless_trap-in-UnlessTrap-clause-is
returns-in_ok-unless_trap-in-UnlessTrap-clause-is c m a = course_as c.args.body.now m c.args.notes.now _ _ _ _ _ _ _ c.in-UnlessTrap.is (c.in_ok-unless_trap-in-UnlessTrap.ensures.is m a _ _ _ _)

pub returns-in_ok-either_way-in-EitherWay-clause-is : goal.returns-in_ok-either_way-in-EitherWay-clause-is
returns-in_ok-either_way-in-EitherWay-clause-is c m a = course_as c.args.body.now m c.args.notes.now _ _ _ _ _ _ _ c.in-EitherWay.is (c.in_ok-either_way-in-EitherWay.ensures.is m a)

pub returns-in_ok-chosen-in-Chosen-clause-is : goal.returns-in_ok-chosen-in-Chosen-clause-is
returns-in_ok-chosen-in-Chosen-clause-is c m a = course_as c.args.body.now m c.args.notes.now _ _ _ _ _ _ _ c.in-Chosen.is (c.in_ok-chosen-in-Chosen.ensures.is m a)

pub returns-in_ok-finding-in-Finding-clause-is : goal.returns-in_ok-finding-in-Finding-clause-is
returns-in_ok-finding-in-Finding-clause-is c m a = course_as c.args.body.now m c.args.notes.now _ _ _ _ _ _ _ c.in-Finding.is (c.in_ok-finding-in-Finding.ensures.is m a)

pub returns-in_ok-throwing-in-Throwing-clause-is : goal.returns-in_ok-throwing-in-Throwing-clause-is
returns-in_ok-throwing-in-Throwing-clause-is c m a = course_as c.args.body.now m c.args.notes.now _ _ _ _ _ _ _ c.in-Throwing.is (c.in_ok-throwing-in-Throwing.ensures.is m a)

pub returns-in_ok-does-in-Loudly-clause-is : goal.returns-in_ok-does-in-Loudly-clause-is
returns-in_ok-does-in-Loudly-clause-is c m a = course_as c.args.body.now m c.args.notes.now _ _ _ _ _ _ _ c.in-Loudly.is (c.in_ok-does-in-Loudly.ensures.is m a)

pub returns-in_ok-starts-in-Starting-clause-is : goal.returns-in_ok-starts-in-Starting-clause-is
returns-in_ok-starts-in-Starting-clause-is c m a = course_as c.args.body.now m c.args.notes.now _ _ _ _ _ _ _ c.in-Starting.is (c.in_ok-starts-in-Starting.ensures.is m a)

pub returns-in_ok-rethrows-in-Rethrowing-clause-is : goal.returns-in_ok-rethrows-in-Rethrowing-clause-is
returns-in_ok-rethrows-in-Rethrowing-clause-is c m a = course_as c.args.body.now m c.args.notes.now _ _ _ _ _ _ _ c.in-Rethrowing.is (c.in_ok-rethrows-in-Rethrowing.ensures.is m a)
