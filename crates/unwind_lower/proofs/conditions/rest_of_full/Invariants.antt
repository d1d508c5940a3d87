use Rattle.std.proofs.Common.{◌≡◌, ◌≤◌, ◌+◌, ◌-◌, length, take}
use Rattle.std.specs.Prelude.{reverse}
use Rattle.unwind_lower.specs.Conditions.{up_to_end}
use Rattle.unwind_lower.proofs.conditions.rest_of_full.Given as goal

abbrev pub invariant-loop-left : goal.invariant-loop-left
invariant-loop-left l = record {
  within : l.left ≤ length l.work;
  count : length (up_to_end (reverse l.work)) ≡ (length l.work - l.left) + length (up_to_end (reverse (take l.left l.work)));
}

abbrev pub decreases-loop-left : goal.decreases-loop-left
decreases-loop-left l = l.left
