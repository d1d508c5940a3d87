use Rattle.std.proofs.Common.{◌≡◌, ◌++◌, drop, map}
use Rattle.src_bind.specs.Defs.{defs_of}
use Rattle.src_bind.specs.Tables.{place_in}
use Rattle.src_bind.proofs.binding.places_of.Given as goal

abbrev pub invariant-loop-def : goal.invariant-loop-def
invariant-loop-def l = l.places.items ++ map place_in (defs_of (drop l.def-index l.kept)) ≡ map place_in (defs_of l.kept)
