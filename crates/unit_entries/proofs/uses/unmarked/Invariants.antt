use Rattle.std.proofs.Common.{◌≡◌, replicate, false}
use Rattle.unit_entries.proofs.uses.unmarked.Given as goal

abbrev pub invariant-loop-passed : goal.invariant-loop-passed
invariant-loop-passed l = l.marks.items ≡ replicate l._passed false
