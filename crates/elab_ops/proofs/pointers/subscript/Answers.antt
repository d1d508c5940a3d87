use Rattle.std.proofs.Common.{◌∙◌, sym, ap}
use Rattle.elab_conv.specs.tx_ints.declared.kinds.BinOp.TheVariants.{Add}
use Rattle.elab_conv.specs.cpp_types.Typ.{Form, typ_of}
use Rattle.elab_conv.specs.cpp_tree.Arena.{trees_of}
use Rattle.elab_conv.specs.cpp_tree.Typing.{form_in}
use Rattle.elab_conv.specs.elab_ctx.Ctx.{ctx_of}
use Rattle.elab_conv.specs.elab_ctx.Steps.{and_then}
use Rattle.elab_conv.specs.elab_ctx.Operands.{operand_in}
use Rattle.elab_conv.proofs.elab_ctx.Making.{gives_same}
use Rattle.elab_conv.specs.elab_rules.Operators.{sum_of, pointed, value_form}
use Rattle.elab_ops.specs.Forms.{object_at}
use Rattle.elab_ops.proofs.pointers.subscript.Goals as goal

pub returns : goal.returns
returns c =
    let x = ctx_of c.args.env.now in
    let a = operand_in (trees_of c.args.nodes.now.items) c.args.a in
    let b = operand_in (trees_of c.args.nodes.now.items) c.args.b in
    gives_same _ _ _ _ _ (ap (λ (f : Form). and_then (sum_of x Add c.args.at (pointed f) (pointed (value_form b)) a b) (object_at c.args.at))
    (sym c.in_ok-left.ensures) ∙ ap (λ (f : Form). and_then (sum_of x Add c.args.at (pointed (form_in (typ_of c.in_ok-left.left))) (pointed f) a b)
    (object_at c.args.at)) (sym c.in_ok-right.ensures)) c.subscript_in.ensures
