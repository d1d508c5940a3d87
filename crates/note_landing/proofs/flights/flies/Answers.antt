use Rattle.std.proofs.Common.{arith}
use Rattle.note_landing.proofs.Flown.{made_flies, unknown_flies}
use Rattle.note_landing.proofs.flights.flies.Goals as goal

pub returns-in_ok-known_flies-in-Made-clause-is : goal.returns-in_ok-known_flies-in-Made-clause-is
returns-in_ok-known_flies-in-Made-clause-is c m a = made_flies c.args.body.now m c.args.notes.now _ _ _ _ _ _ _ _ _ (c.in_ok-typ.ensures _ m (c.in_ok-known_flies-in-Made.ensures.grows _ m a)) c.in-Made.is (omega arith) (c.in_ok-known_flies-in-Made.ensures.is m a)

pub returns-in_ok-unknown_flies-in-Unknown-clause-is : goal.returns-in_ok-unknown_flies-in-Unknown-clause-is
returns-in_ok-unknown_flies-in-Unknown-clause-is c m a = unknown_flies c.args.body.now m c.args.notes.now _ _ _ _ _ _ _ _ (c.in_ok-typ.ensures _ m (c.in_ok-unknown_flies-in-Unknown.ensures.grows _ m a)) c.in-Unknown.is (c.in_ok-unknown_flies-in-Unknown.ensures.is m a)
