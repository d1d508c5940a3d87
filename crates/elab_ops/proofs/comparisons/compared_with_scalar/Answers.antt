use Rattle.elab_conv.specs.cpp_tree.Arena.{trees_of}
use Rattle.elab_conv.specs.cpp_types.Typ.{typ_of}
use Rattle.elab_conv.specs.cpp_tree.Typing.{form_in}
use Rattle.elab_conv.specs.elab_ctx.Operands.{operand_in}
use Rattle.elab_conv.proofs.elab_ctx.Making.{gives_same}
use Rattle.elab_ops.proofs.Comparing.{null_with_is, scalars_are}
use Rattle.elab_ops.proofs.comparisons.compared_with_scalar.Goals as goal

pub returns-in-None : goal.returns-in-None
returns-in-None c =
    let trees = trees_of c.args.nodes.now.items in
    gives_same _ _ _ _ _ (scalars_are c.args.op c.args.at (form_in (typ_of c.args.left.now)) (form_in (typ_of c.args.right.now)) (operand_in trees c.args.a)
    (operand_in trees c.args.b) c.requires.scalar c.in-None.ensures) c.scalars_compared.ensures
