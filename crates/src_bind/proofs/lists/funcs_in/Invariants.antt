use Rattle.std.proofs.Common.{◌≡◌, ◌++◌, drop, map}
use Rattle.cpp_tree.specs.Arena.{trees_of}
use Rattle.cpp_tree.specs.Units.{func_of, unit_of}
use Rattle.src_mean.specs.Links.{funcs_defined}
use Rattle.src_bind.specs.Defs.{defs_of}
use Rattle.src_bind.proofs.lists.funcs_in.Given as goal

abbrev pub invariant-loop-i : goal.invariant-loop-i
invariant-loop-i l = defs_of l.out.items ++ funcs_defined l.unit l.i (map (func_of (trees_of l.tree.nodes.items)) (drop l.i l.tree.funcs.items))
    ≡ funcs_defined l.unit 0 (unit_of l.tree).funcs
