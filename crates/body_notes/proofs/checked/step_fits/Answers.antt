use Rattle.std.proofs.Common.{rules}
use Rattle.body_notes.proofs.Noted.{step_as}
use Rattle.body_notes.proofs.checked.step_fits.Goals as goal

pub returns-in_ok-named-in-Call-clause-is : goal.returns-in_ok-named-in-Call-clause-is
returns-in_ok-named-in-Call-clause-is c m a = step_as c.args.body.now m c.args.notes.now _ _ _ _ _ _ _ c.in-Call.is (c.in_ok-named-in-Call.ensures.is m a)

pub returns-in_ok-named_safe-in-TCall-clause-is : goal.returns-in_ok-named_safe-in-TCall-clause-is
returns-in_ok-named_safe-in-TCall-clause-is c m a = step_as c.args.body.now m c.args.notes.now _ _ _ _ _ _ _ c.in-TCall.is (c.in_ok-named_safe-in-TCall.ensures.is m a)

pub returns-in_ok-pointed-in-CallIndirect-clause-is : goal.returns-in_ok-pointed-in-CallIndirect-clause-is
returns-in_ok-pointed-in-CallIndirect-clause-is c m a = step_as c.args.body.now m c.args.notes.now _ _ _ _ _ _ _ c.in-CallIndirect.is (c.in_ok-pointed-in-CallIndirect.ensures.is m a)

pub returns-in_ok-pointed_safe-in-TCallIndirect-clause-is : goal.returns-in_ok-pointed_safe-in-TCallIndirect-clause-is
returns-in_ok-pointed_safe-in-TCallIndirect-clause-is c m a = step_as c.args.body.now m c.args.notes.now _ _ _ _ _ _ _ c.in-TCallIndirect.is (c.in_ok-pointed_safe-in-TCallIndirect.ensures.is m a)

pub returns-in_ok-returning-in-Ret-clause-is : goal.returns-in_ok-returning-in-Ret-clause-is
returns-in_ok-returning-in-Ret-clause-is c m a = step_as c.args.body.now m c.args.notes.now _ _ _ _ _ _ _ c.in-Ret.is (c.in_ok-returning-in-Ret.ensures.is m a)

pub returns-in_ok-plain-in_default-clause-is : goal.returns-in_ok-plain-in_default-clause-is
returns-in_ok-plain-in_default-clause-is c m a = c.in_ok-plain-in_default.ensures.is m a (search rules)
