use Rattle.std.proofs.Common.{◌∙◌, sym, ap}
use Rattle.elab_conv.specs.cpp_types.Typ.{Typ, null}
use Rattle.elab_conv.specs.cpp_types.Equal.{form_eq}
use Rattle.elab_conv.specs.cpp_types.Conversion.{decayed}
use Rattle.elab_conv.specs.cpp_tree.Arena.{trees_of, tree_at}
use Rattle.elab_ops.proofs.Values.{null_is}
use Rattle.elab_ops.proofs.operands.is_null.Goals as goal

pub returns : goal.returns
returns c = null_is c.is_null_type.result c.args.operand.zero c.args.operand.at (tree_at (trees_of c.args.nodes.now.items) c.args.operand.id) c.if-operand.false
    (c.is_null_type.ensures ∙ ap (λ (t : Typ). form_eq (decayed t) null) (sym c.node_at.ensures.typ))
