use Rattle.std.proofs.Common.{◌≡◌, ◌≢◌, ◌+◌, [], length}
use Rattle.tx_events.specs.World.{World as Worlds, goes}
use Rattle.tx_memory.specs.View.{layout_of}
use Rattle.src_mean.specs.Frames.{State}
use Rattle.src_mean.specs.Linked.{Program}
use Rattle.src_replay.specs.Shown.{world_of, Stands, BlockRun}
use Rattle.src_replay.specs.Undone.{IsNested}
use Rattle.src_replay.proofs.world.World.run_block.Given as goal

-- so many steps of the block were taken
abbrev pub invariant-loop-taken : goal.invariant-loop-taken
invariant-loop-taken l = record {
  left : l.self.left + l._taken ≡ l.fn.self.left;
  count : length l.self.threads.alive.items ≡ length l.fn.self.threads.alive.items;
  layout : layout_of l.self.memory ≡ layout_of l.fn.self.memory;
  nested : IsNested (layout_of l.self.memory) l.nested;
  marked : l.nested.marks.items ≢ [];
  run : (program : Program) (w : Worlds State) (s : State) → Stands program l.fn.self → world_of l.fn.self ≡ goes l.t w s
      → BlockRun program (layout_of l.fn.self.memory) l.t w s l.fn.self.left l.self l.nested;
}
