use Rattle.std.proofs.Common.{map, drop}
use Rattle.cpp_types.specs.Class.{classes_of}
use Rattle.cpp_tree.specs.Units.{global_of, unit_of}
use Rattle.src_link.specs.Fits.{GlobalsFit}
use Rattle.src_link.proofs.fits.globals_fit.Given as goal

abbrev pub invariant-loop-global : goal.invariant-loop-global
invariant-loop-global l = GlobalsFit (classes_of l.classes) (map global_of (drop l.global-index l.unit.globals.items))
    → GlobalsFit (classes_of l.classes) (unit_of l.unit).globals
