use Rattle.std.proofs.Common.{map, drop}
use Rattle.cpp_types.specs.Class.{classes_of}
use Rattle.cpp_tree.specs.Units.{unit_of}
use Rattle.src_link.specs.Fits.{UnitsFit}
use Rattle.src_link.proofs.fits.units_fit.Given as goal

abbrev pub invariant-loop-unit : goal.invariant-loop-unit
invariant-loop-unit l = UnitsFit (classes_of l.classes) (map unit_of (drop l.unit-index l.units)) → UnitsFit (classes_of l.classes) (map unit_of l.units)
