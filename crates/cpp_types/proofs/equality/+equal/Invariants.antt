use Rattle.std.proofs.Common.{◌≡◌, take}
use Rattle.cpp_types.specs.Typ.{typs_of}
use Rattle.cpp_types.proofs.equality.+equal.Given as goal

abbrev pub invariant-same_all-loop-i : goal.invariant-same_all-loop-i
invariant-same_all-loop-i l = typs_of (take l.i l.a) ≡ typs_of (take l.i l.b)
