use Rattle.std.proofs.Common.{◌≡◌, ℕ}
use Rattle.turn_traces.specs.Keeper.{kept_at}
use Rattle.turn_traces.specs.Keeping.{nothing_kept}
use Rattle.turn_traces.proofs.keeper.TraceKeeper.new.Given as goal

abbrev pub invariant-loop-thread : goal.invariant-loop-thread
invariant-loop-thread l = (t : ℕ) → kept_at l.threads.items t ≡ nothing_kept
