use Rattle.std.proofs.Common.{◌≡◌, drop, map, List}
use Rattle.cpp_tree.specs.Trees.{Tree}
use Rattle.cpp_tree.specs.Units.{func_of}
use Rattle.unit_entries.specs.Uses.{func_among}
use Rattle.unit_entries.proofs.uses.func_index.Given as goal

abbrev pub invariant-loop-i : goal.invariant-loop-i
invariant-loop-i l = (trees : List Tree) → func_among l.symbol l.i (map (func_of trees) (drop l.i l.funcs))
    ≡ func_among l.symbol 0 (map (func_of trees) l.funcs)
