use Rattle.std.proofs.Common.{◌≡◌, drop, map}
use Rattle.cpp_tree.specs.Arena.{trees_of}
use Rattle.cpp_tree.specs.Units.{func_of, unit_of}
use Rattle.src_mean.specs.Links.{func_place}
use Rattle.src_link.proofs.cells.func_place.Given as goal

abbrev pub invariant-loop-i : goal.invariant-loop-i
invariant-loop-i l = func_place l.i l.symbol (map (func_of (trees_of l.unit.nodes.items)) (drop l.i l.unit.funcs.items))
    ≡ func_place 0 l.symbol (unit_of l.unit).funcs
