use Rattle.std.proofs.Common.{◌∙◌, sym, ap}
use Rattle.elab_conv.specs.cpp_types.Conversion.{decayed}
use Rattle.elab_conv.specs.cpp_tree.Arena.{trees_of, tree_at}
use Rattle.elab_conv.specs.cpp_tree.Typing.{form_in}
use Rattle.elab_ops.proofs.Values.{form_is}
use Rattle.elab_ops.proofs.operands.value_type.Goals as goal

pub returns : goal.returns
returns c = ap form_in c.in_ok-ty.ensures ∙ ap decayed (sym c.node_at.ensures.typ)
    ∙ sym (form_is c.args.operand.at (tree_at (trees_of c.args.nodes.now.items) c.args.operand.id))
