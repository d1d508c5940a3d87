use Rattle.std.proofs.Common.{◌≡◌, ◌≤◌, ◌<◌, length, drop}
use Rattle.unwind_lower.specs.States.{state_of}
use Rattle.unwind_lower.specs.Kids.{run_all}
use Rattle.unwind_lower.proofs.writing.Writing.run_kids.Given as goal

abbrev pub invariant-loop-index : goal.invariant-loop-index
invariant-loop-index l = record {
  within : l.index ≤ length l.node.kids.items;
  above : l.index < length l.node.kids.items → l.first ≤ l.index;
  so_far : state_of l.self ≡ run_all l.way (drop l.index l.node.kids.items) (state_of l.initial.self);
}

abbrev pub decreases-loop-index : goal.decreases-loop-index
decreases-loop-index l = l.index
