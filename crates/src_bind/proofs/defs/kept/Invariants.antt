use Rattle.std.proofs.Common.{◌≡◌, ◌++◌, [], drop, reverse}
use Rattle.src_mean.specs.Links.{kept_of}
use Rattle.src_bind.specs.Defs.{defs_of}
use Rattle.src_bind.proofs.defs.kept.Given as goal

abbrev pub invariant-loop-def : goal.invariant-loop-def
invariant-loop-def l = defs_of l.kept.items ++ kept_of (reverse (defs_of l.kept.items)) (defs_of (drop l.def-index l.all)) ≡ kept_of [] (defs_of l.all)
