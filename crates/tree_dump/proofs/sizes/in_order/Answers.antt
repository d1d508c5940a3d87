use Rattle.cpp_tree.specs.cpp_types.Class.{classes_of}
use Rattle.tree_dump.proofs.Extents.{consistent}
use Rattle.tree_dump.proofs.sizes.in_order.Goals as goal

pub invariant_of-result : goal.invariant_of-result
invariant_of-result c = record { in_order = consistent (classes_of c.args.classes.now) (c.is_in_order.ensures.0 c.if-not-is_in_order.false) }
