use Rattle.std.proofs.Common.{◌≡◌, ◌+◌, drop}
use Rattle.src_mean.specs.Links.{number_in}
use Rattle.src_bind.specs.Defs.{def_of, defs_of}
use Rattle.src_bind.proofs.defs.number_in.Given as goal

abbrev pub invariant-loop-i : goal.invariant-loop-i
invariant-loop-i l = number_in (def_of l.def) (defs_of l.kept) ≡ l.i + number_in (def_of l.def) (defs_of (drop l.i l.kept))
