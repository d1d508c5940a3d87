use Rattle.std.proofs.Common.{arith}
use Rattle.cpp_tree.specs.cpp_types.Class.{classes_of}
use Rattle.tree_dump.proofs.Extents.{in_order, has_member}
use Rattle.tree_dump.proofs.sizes.offset_of.Goals as goal

pub size_align-requires-clause-in_order : goal.size_align-requires-clause-in_order
size_align-requires-clause-in_order c = in_order (classes_of c.args.classes.list.now) c.args.classes.in_order

pub offset-requires-clause-in_order : goal.offset-requires-clause-in_order
offset-requires-clause-in_order c = in_order (classes_of c.args.classes.list.now) c.args.classes.in_order

pub offset-requires-clause-member : goal.offset-requires-clause-member
offset-requires-clause-member c = has_member (classes_of c.args.classes.list.now) c.args.class c.args.index c.in-Some.found.now c.in-Some.ensures (omega arith)
