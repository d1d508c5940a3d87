use Rattle.std.proofs.Common.{◌≡◌, drop, map}
use Rattle.tx_code.specs.Views.{image_view}
use Rattle.cpp_tree.specs.Units.{definition_of}
use Rattle.src_bind.specs.Bounds.{given}
use Rattle.image_links.specs.Agreeing.{definitions_agree}
use Rattle.image_links.proofs.agreeing.definitions_agree.Given as goal

abbrev pub invariant-loop-definition : goal.invariant-loop-definition
invariant-loop-definition l = definitions_agree (image_view l.image) (given l.bound) (map definition_of (drop l.definition-index l.definitions))
    ≡ definitions_agree (image_view l.image) (given l.bound) (map definition_of l.definitions)
