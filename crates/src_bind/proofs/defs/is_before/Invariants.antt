use Rattle.std.proofs.Common.{◌≡◌, ◌≤◌, drop, length}
use Rattle.src_mean.specs.Links.{name_lt}
use Rattle.src_bind.proofs.defs.is_before.Given as goal

abbrev pub invariant-loop-i : goal.invariant-loop-i
invariant-loop-i l = (name_lt l.a l.b ≡ name_lt (drop l.i l.a) (drop l.i l.b)) × (l.i ≤ length l.a)
