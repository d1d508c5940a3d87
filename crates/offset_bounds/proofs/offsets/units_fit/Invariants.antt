use Rattle.std.proofs.Common.{◌≡◌, drop, map}
use Rattle.std.specs.List.{list_all}
use Rattle.cpp_tree.specs.Units.{unit_of}
use Rattle.offset_bounds.specs.Fitting.{have_offsets}
use Rattle.offset_bounds.proofs.offsets.units_fit.Given as goal

abbrev pub invariant-loop-unit : goal.invariant-loop-unit
invariant-loop-unit l = list_all have_offsets (map unit_of (drop l.unit-index l.units)) ≡ list_all have_offsets (map unit_of l.units)
