use Rattle.std.proofs.Common.{◌≡◌, drop, map, List}
use Rattle.cpp_tree.specs.cpp_types.Class.{function_of}
use Rattle.cpp_tree.specs.Trees.{Tree}
use Rattle.cpp_tree.specs.Units.{func_of}
use Rattle.unit_entries.specs.Uses.{index_among}
use Rattle.unit_entries.proofs.uses.index_in.Given as goal

abbrev pub invariant-loop-i : goal.invariant-loop-i
invariant-loop-i l = (trees : List Tree) → index_among l.class (function_of l.found) l.i (map (func_of trees) (drop l.i l.funcs))
    ≡ index_among l.class (function_of l.found) 0 (map (func_of trees) l.funcs)
