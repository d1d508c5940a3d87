use Rattle.std.proofs.Common.{◌≡◌, drop, map}
use Rattle.tx_code.specs.Views.{image_view}
use Rattle.cpp_tree.specs.Units.{unit_of}
use Rattle.src_bind.specs.Bounds.{given}
use Rattle.image_links.specs.Agreeing.{units_agree}
use Rattle.image_links.proofs.agreeing.units_agree.Given as goal

abbrev pub invariant-loop-unit : goal.invariant-loop-unit
invariant-loop-unit l = units_agree (image_view l.image) (given l.bound) (map unit_of (drop l.unit-index l.units))
    ≡ units_agree (image_view l.image) (given l.bound) (map unit_of l.units)
