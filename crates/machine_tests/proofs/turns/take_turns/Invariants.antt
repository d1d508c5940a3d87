use Rattle.std.proofs.Common.{◌≡◌, ◌≤◌}
use Rattle.machine_tests.proofs.turns.take_turns.Given as goal

abbrev pub invariant-loop-n : goal.invariant-loop-n
invariant-loop-n g l = (l.runtime.engine.limit ≡ l.threads) × (l.runtime.engine.births ≤ l.n) × (l.runtime.engine.lock.depth ≤ l.n)
