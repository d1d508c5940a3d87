use Rattle.std.proofs.Common.{drop, map}
use Rattle.elab_init.specs.cpp_types.Typ.{typ_of}
use Rattle.elab_init.specs.cpp_types.Class.{classes_of}
use Rattle.elab_init.specs.cpp_tree.Arena.{trees_of}
use Rattle.elab_init.specs.Parts.{part_of}
use Rattle.elab_init.proofs.Listing.{Adding}
use Rattle.elab_make.specs.Fields.{fields_of, fields_of_each}
use Rattle.elab_make.proofs.scalar_fields.+fields.Given as goal

abbrev pub decreases-add_fields : goal.decreases-add_fields
decreases-add_fields l = l.levels

abbrev pub decreases-add_repeated : goal.decreases-add_repeated
decreases-add_repeated l = l.levels

abbrev pub decreases-add_class : goal.decreases-add_class
decreases-add_class l = l.levels

abbrev pub decreases-add_parts : goal.decreases-add_parts
decreases-add_parts l = l.levels

abbrev pub decreases-add_repeated-objects : goal.decreases-add_repeated-objects
decreases-add_repeated-objects l = l.left

abbrev pub invariant-add_repeated-objects : goal.invariant-add_repeated-objects
invariant-add_repeated-objects l = Adding (trees_of l.fn.nodes.items) (trees_of l.nodes.items) l.ids.items
    (fields_of_each l.depth (classes_of l.env.classes.items) l.at (typ_of l.ty) l.here l.stride l.left)
    (fields_of_each l.depth (classes_of l.env.classes.items) l.at (typ_of l.ty) l.offset l.stride l.count)

abbrev pub invariant-add_parts-loop-part : goal.invariant-add_parts-loop-part
invariant-add_parts-loop-part l = Adding (trees_of l.fn.nodes.items) (trees_of l.nodes.items) l.ids.items
    (fields_of l.depth (classes_of l.env.classes.items) l.at l.offset (map part_of (drop l.part-index l.parts)))
    (fields_of l.depth (classes_of l.env.classes.items) l.at l.offset (map part_of l.parts))
