use Rattle.std.proofs.Common.{◌∙◌, sym}
use Rattle.cpp_tree.specs.cpp_types.Typ.{shape_form}
use Rattle.cpp_tree.specs.cpp_types.Class.{classes_of}
use Rattle.tree_dump.proofs.Extents.{in_order, holds_complete}
use Rattle.tree_dump.proofs.sizes.size_of.Goals as goal

pub size_align-requires-clause-in_order : goal.size_align-requires-clause-in_order
size_align-requires-clause-in_order c = in_order (classes_of c.args.classes.list.now) c.args.classes.in_order

pub size_align-requires-clause-complete : goal.size_align-requires-clause-complete
size_align-requires-clause-complete c = holds_complete (classes_of c.args.classes.list.now) (shape_form c.args.ty.now.shape)
    (sym c.is_whole.ensures ∙ c.if-not-is_whole.false)
