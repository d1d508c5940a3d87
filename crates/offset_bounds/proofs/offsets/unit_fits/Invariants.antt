use Rattle.std.proofs.Common.{◌≡◌, drop, map}
use Rattle.std.specs.List.{list_all}
use Rattle.cpp_tree.specs.Arena.{trees_of}
use Rattle.cpp_tree.specs.Units.{func_of, unit_of}
use Rattle.offset_bounds.specs.Fitting.{has_offset, have_offsets}
use Rattle.offset_bounds.proofs.offsets.unit_fits.Given as goal

abbrev pub invariant-loop-function : goal.invariant-loop-function
invariant-loop-function l = list_all has_offset (map (func_of (trees_of l.unit.nodes.items)) (drop l.function-index l.unit.funcs.items))
    ≡ have_offsets (unit_of l.unit)
