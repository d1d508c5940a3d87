use Rattle.std.proofs.Common.{◌≡◌, ◌++◌, drop, map}
use Rattle.cpp_tree.specs.Units.{global_of, unit_of}
use Rattle.src_mean.specs.Links.{globals_defined}
use Rattle.src_bind.specs.Defs.{defs_of}
use Rattle.src_bind.proofs.lists.globals_in.Given as goal

abbrev pub invariant-loop-i : goal.invariant-loop-i
invariant-loop-i l = defs_of l.out.items ++ globals_defined l.unit l.i (map global_of (drop l.i l.tree.globals.items))
    ≡ globals_defined l.unit 0 (unit_of l.tree).globals
