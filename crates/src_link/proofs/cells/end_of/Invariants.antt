use Rattle.std.proofs.Common.{◌≡◌, ◌≤◌, drop, map}
use Rattle.cpp_tree.specs.Units.{program_of}
use Rattle.src_mean.specs.Links.{global_size, globals_end}
use Rattle.src_bind.specs.Defs.{defs_of}
use Rattle.src_link.proofs.cells.end_of.Given as goal

abbrev pub invariant-loop-def : goal.invariant-loop-def
invariant-loop-def l = (globals_end l.end (map (global_size (program_of l.program)) (defs_of (drop l.def-index l.kept))) ≡ globals_end 0
    (map (global_size (program_of l.program)) (defs_of l.kept)))
    × (globals_end l.end (map (global_size (program_of l.program)) (defs_of (drop l.def-index l.kept))) ≤ 1048576)
