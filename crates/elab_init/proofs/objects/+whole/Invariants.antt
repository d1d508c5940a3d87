use Rattle.std.proofs.Common.{drop, map}
use Rattle.cpp_types.specs.Class.{classes_of}
use Rattle.elab_conv.specs.cpp_tree.Arena.{trees_of}
use Rattle.elab_init.specs.Leaves.{leaf_of, pieces_by}
use Rattle.elab_init.specs.Parts.{part_of}
use Rattle.elab_init.proofs.Listing.{Adding}
use Rattle.elab_init.proofs.objects.+whole.Given as goal

abbrev pub decreases-add_whole : goal.decreases-add_whole
decreases-add_whole l = l.levels

abbrev pub decreases-add_form : goal.decreases-add_form
decreases-add_form l = l.levels

abbrev pub decreases-add_class : goal.decreases-add_class
decreases-add_class l = l.levels

abbrev pub decreases-add_pieces : goal.decreases-add_pieces
decreases-add_pieces l = l.levels

abbrev pub invariant-add_pieces-loop-part : goal.invariant-add_pieces-loop-part
invariant-add_pieces-loop-part l = Adding (trees_of l.fn.nodes.items) (trees_of l.nodes.items) l.kids.items
    (pieces_by l.depth (leaf_of l.leaf) (classes_of l.env.classes.items) l.at l.is_const l.is_volatile (map part_of (drop l.part-index l.parts)))
    (pieces_by l.depth (leaf_of l.leaf) (classes_of l.env.classes.items) l.at l.is_const l.is_volatile (map part_of l.parts))
