use Rattle.std.proofs.Common.{map, drop}
use Rattle.cpp_types.specs.Class.{classes_of}
use Rattle.cpp_tree.specs.Arena.{trees_of}
use Rattle.cpp_tree.specs.Units.{func_of, unit_of}
use Rattle.src_link.specs.Fits.{FramesFit}
use Rattle.src_link.proofs.fits.frames_fit.Given as goal

-- all frames fit where those that are left do
abbrev pub invariant-loop-func : goal.invariant-loop-func
invariant-loop-func l = FramesFit (classes_of l.classes) (map (func_of (trees_of l.unit.nodes.items)) (drop l.func-index l.unit.funcs.items))
    → FramesFit (classes_of l.classes) (unit_of l.unit).funcs
