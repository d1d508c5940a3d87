use Rattle.std.proofs.Common.{◌≡◌, ◌≤◌, ◌<◌, length, drop}
use Rattle.unwind_lower.specs.States.{state_of}
use Rattle.unwind_lower.specs.Settings.{setting_of}
use Rattle.unwind_lower.specs.Blocks.{run_items}
use Rattle.unwind_lower.proofs.lowering.Lowering.run_items.Given as goal

abbrev pub invariant-loop-index : goal.invariant-loop-index
invariant-loop-index l = record {
  within : l.index ≤ length l.node.kids.items;
  above : l.index < length l.node.kids.items → 1 ≤ l.index;
  so_far : state_of l.w ≡ run_items (setting_of l.self) l.none (drop l.index l.node.kids.items) (drop l.index l.labels) (state_of l.initial.w);
}

abbrev pub decreases-loop-index : goal.decreases-loop-index
decreases-loop-index l = l.index
