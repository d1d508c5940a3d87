use Rattle.std.proofs.Common.{◌≡◌, ◌≢◌, ◌+◌, [], length}
use Rattle.tx_events.specs.World.{World as Worlds, goes}
use Rattle.tx_memory.specs.View.{layout_of}
use Rattle.src_mean.specs.Frames.{State}
use Rattle.src_mean.specs.Linked.{Program}
use Rattle.src_replay.specs.Seen.{SeenBlock}
use Rattle.src_replay.specs.Shown.{world_of, Stands}
use Rattle.src_replay.specs.Undone.{IsNested}
use Rattle.src_replay.proofs.alone.run_block.Given as goal

-- so many steps of the block were taken
abbrev pub invariant-loop-taken : goal.invariant-loop-taken
invariant-loop-taken l = record {
  left : l.world.left + l._taken ≡ l.fn.world.left;
  count : length l.world.threads.alive.items ≡ length l.fn.world.threads.alive.items;
  layout : layout_of l.world.memory ≡ layout_of l.fn.world.memory;
  nested : IsNested (layout_of l.world.memory) l.nested;
  marked : l.nested.marks.items ≢ [];
  run : (program : Program) (w : Worlds State) (s : State) → Stands program l.fn.world → world_of l.fn.world ≡ goes l.fn.t w s
      → SeenBlock program (layout_of l.fn.world.memory) l.fn.t w s l.fn.event l.fn.world.left l.world l.nested l.fn.events.items l.events.items;
}
