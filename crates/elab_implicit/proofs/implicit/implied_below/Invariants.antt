use Rattle.std.proofs.Common.{◌≡◌, ◌≤◌, length}
use Rattle.elab_entry.specs.elab_scopes.States.{state_of}
use Rattle.elab_implicit.specs.Implied.{implied_below, IsTable}
use Rattle.elab_entry.proofs.OneByOne.{Steps}
use Rattle.elab_implicit.proofs.implicit.implied_below.Given as goal

abbrev pub decreases-loop-left : goal.decreases-loop-left
decreases-loop-left l = l.left

abbrev pub invariant-loop-left : goal.invariant-loop-left
invariant-loop-left l = record {
  low : l.left ≤ l.count;
  size : length l.marks.items ≡ l.count;
  table : IsTable l.marks.items l.st;
  step : Steps l.fn.st l.st (implied_below (state_of l.st) l.left) (implied_below (state_of l.fn.st) l.count);
}
