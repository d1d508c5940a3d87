use Rattle.std.proofs.Common.{◌≡◌, drop}
use Rattle.std.specs.List.{list_any}
use Rattle.src_mean.specs.Links.{same_def}
use Rattle.src_bind.specs.Defs.{def_of, defs_of}
use Rattle.src_bind.proofs.defs.has_same.Given as goal

abbrev pub invariant-loop-other : goal.invariant-loop-other
invariant-loop-other l = list_any (same_def (def_of l.def)) (defs_of l.defs) ≡ list_any (same_def (def_of l.def)) (defs_of (drop l.other-index l.defs))
