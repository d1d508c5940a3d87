use Rattle.std.proofs.Common.{arith}
use Rattle.note_landing.proofs.Flown.{all_fly}
use Rattle.note_landing.proofs.Splits.{all_cases}
use Rattle.note_landing.proofs.flights.unknown_flies.Goals as goal

pub returns-then-has_handlers-clause-is : goal.returns-then-has_handlers-clause-is
returns-then-has_handlers-clause-is c m a = all_cases c.args.body.now m c.args.notes.now _ _ _ (omega arith) (c.in_ok-cases_fit.ensures.is m a)

pub returns-clause-is : goal.returns-clause-is
returns-clause-is c m a = all_fly c.args.body.now m c.args.notes.now _ _ _ _ _ _ _ (c.in_ok-exception.ensures.is _ m (c.in_ok-all_fly.ensures.grows _ m a)) (omega arith) (c.in_ok-all_fly.ensures.is m a)
