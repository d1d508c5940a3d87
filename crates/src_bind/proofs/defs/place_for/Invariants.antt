use Rattle.std.proofs.Common.{◌≡◌, ◌+◌, drop}
use Rattle.src_bind.specs.Defs.{def_of, defs_of, place_of}
use Rattle.src_bind.proofs.defs.place_for.Given as goal

abbrev pub invariant-loop-i : goal.invariant-loop-i
invariant-loop-i l = place_of (def_of l.def) (defs_of l.defs) ≡ l.i + place_of (def_of l.def) (defs_of (drop l.i l.defs))
