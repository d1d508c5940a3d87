use Rattle.std.proofs.Common.{◌≡◌, ◌≤◌, ◌<◌, length, drop}
use Rattle.unwind_lower.specs.States.{state_of}
use Rattle.unwind_lower.specs.Exceptions.{later_handlers}
use Rattle.unwind_lower.proofs.writing.Writing.later_handlers.Given as goal

abbrev pub invariant-loop-index : goal.invariant-loop-index
invariant-loop-index l = record {
  within : l.index ≤ length l.node.kids.items;
  above : l.index < length l.node.kids.items → 1 ≤ l.index;
  so_far : state_of l.self ≡ later_handlers (drop l.index l.node.kids.items) l.scope l.live (state_of l.initial.self);
}

abbrev pub decreases-loop-index : goal.decreases-loop-index
decreases-loop-index l = l.index
