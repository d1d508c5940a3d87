use Rattle.std.proofs.Common.{◌≡◌, ◌++◌, drop, map}
use Rattle.cpp_tree.specs.Arena.{trees_of}
use Rattle.cpp_tree.specs.Units.{func_of, unit_of}
use Rattle.src_bind.specs.Defs.{defs_of}
use Rattle.src_bind.specs.Numbers.{func_numbers}
use Rattle.src_bind.proofs.numbers.func_numbers.Given as goal

abbrev pub invariant-loop-i : goal.invariant-loop-i
invariant-loop-i l = l.numbers.items ++ func_numbers (defs_of l.kept) l.unit l.i (map (func_of (trees_of l.tree.nodes.items)) (drop l.i l.tree.funcs.items))
    ≡ func_numbers (defs_of l.kept) l.unit 0 (unit_of l.tree).funcs
