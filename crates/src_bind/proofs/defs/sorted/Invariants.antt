use Rattle.std.proofs.Common.{◌≡◌, ◌≤◌, drop, length}
use Rattle.src_mean.specs.Links.{sorted}
use Rattle.src_bind.specs.Defs.{defs_of}
use Rattle.src_bind.proofs.defs.sorted.Given as goal

abbrev pub invariant-loop-left : goal.invariant-loop-left
invariant-loop-left l = (defs_of l.out.items ≡ sorted (defs_of (drop l.left l.defs))) × (l.left ≤ length l.defs)

abbrev pub decreases-loop-left : goal.decreases-loop-left
decreases-loop-left l = l.left
