use Rattle.std.proofs.Common.{arith}
use Rattle.machine_tests.proofs.turns.take_turns.Goals as goal

pub turn-requires-clause-number : goal.turn-requires-clause-number
turn-requires-clause-number g c = let limit = c.loop-n.invariant.0 in let less = c.if-t-threads.true in omega (arith, limit, less)

pub turn-requires-clause-births : goal.turn-requires-clause-births
turn-requires-clause-births g c = let births = c.loop-n.invariant.1 in let here = c.loop-n-test.true in omega (arith, births, here, c.requires.few)

pub turn-requires-clause-depth : goal.turn-requires-clause-depth
turn-requires-clause-depth g c = let depth = c.loop-n.invariant.2 in let here = c.loop-n-test.true in omega (arith, depth, here, c.requires.few)
