use Rattle.std.proofs.Common.{◌≡◌, replicate, false}
use Rattle.elab_implicit.proofs.marks.no_marks.Given as goal

abbrev pub invariant-loop-passed : goal.invariant-loop-passed
invariant-loop-passed l = l.marks.items ≡ replicate l._passed false
