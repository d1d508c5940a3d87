use Rattle.std.proofs.Common.{◌≡◌, ◌+◌, length}
use Rattle.tx_events.specs.World.{alive}
use Rattle.tx_memory.specs.View.{layout_of}
use Rattle.src_mean.specs.Frames.{State}
use Rattle.src_mean.specs.Linked.{Program}
use Rattle.src_replay.specs.Shown.{world_of, Stands, Skips}
use Rattle.src_replay.proofs.world.World.skip_silent.Given as goal

-- so many silent steps were taken
abbrev pub invariant-loop-taken : goal.invariant-loop-taken
invariant-loop-taken l = record {
  count : length l.self.threads.alive.items ≡ length l.initial.self.threads.alive.items;
  left : l.self.left + l._taken ≡ l.initial.self.left;
  skips : (program : Program) (s : State) → Stands program l.initial.self → (world_of l.initial.self).threads l.t ≡ alive s
      → Skips program (layout_of l.initial.self.memory) l.t (world_of l.initial.self) s l.initial.self.left l.self;
}
