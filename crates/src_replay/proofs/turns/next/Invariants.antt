use Rattle.std.proofs.Common.{◌≡◌, ◌≤◌, ◌+◌, None, length}
use Rattle.tx_events.specs.World.{World as Worlds}
use Rattle.tx_memory.specs.View.{layout_of}
use Rattle.src_mean.specs.Frames.{State}
use Rattle.src_mean.specs.Linked.{Program}
use Rattle.src_replay.specs.Shown.{Stands}
use Rattle.src_replay.specs.Turns.{steps_of, IsAhead, AllWait}
use Rattle.src_replay.proofs.turns.next.Given as goal

-- the turns so far pass
abbrev pub invariant-loop-passed : goal.invariant-loop-passed
invariant-loop-passed l = record {
  left : l.world.left ≤ l.fn.world.left;
  count : length l.world.threads.alive.items ≡ length l.fn.world.threads.alive.items;
  wait : (program : Program) (w : Worlds State) → Stands program l.fn.world → w.end ≡ None → IsAhead program (steps_of l.fn.ahead) w l.fn.world
      → AllWait program (layout_of l.fn.world.memory) l.turn (l.turn + l.passed) w l.fn.world.left l.world (steps_of l.ahead);
}
