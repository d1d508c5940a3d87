use Rattle.std.proofs.Common.{◌∙◌, sym, ap}
use Rattle.elab_conv.specs.cpp_types.Typ.{Typ}
use Rattle.elab_conv.specs.cpp_tree.Arena.{trees_of, tree_at}
use Rattle.elab_conv.specs.cpp_tree.Typing.{form_in}
use Rattle.elab_conv.specs.elab_rules.Operators.{arithmetic}
use Rattle.elab_ops.proofs.Values.{kind_is}
use Rattle.elab_ops.proofs.operands.number_kind.Goals as goal

pub returns : goal.returns
returns c = c.arithmetic.ensures ∙ ap (λ (t : Typ). arithmetic (form_in t)) (sym c.node_at.ensures.typ)
    ∙ kind_is c.args.operand.at (tree_at (trees_of c.args.nodes.now.items) c.args.operand.id)
