use Rattle.std.proofs.Common.{◌≡◌, drop, map}
use Rattle.cpp_types.specs.Class.{function_of}
use Rattle.cpp_tree.specs.Arena.{trees_of}
use Rattle.cpp_tree.specs.Units.{func_of, unit_of}
use Rattle.src_link.specs.Slots.{symbol_among}
use Rattle.src_link.proofs.slots.symbol_among.Given as goal

abbrev pub invariant-loop-func : goal.invariant-loop-func
invariant-loop-func l = symbol_among l.class (function_of l.record) (map (func_of (trees_of l.unit.nodes.items)) (drop l.func-index l.unit.funcs.items))
    ≡ symbol_among l.class (function_of l.record) (unit_of l.unit).funcs
