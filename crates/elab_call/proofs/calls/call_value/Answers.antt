use Rattle.std.proofs.Common.{◌≡◌, None}
use Rattle.elab_make.specs.cpp_tree.Trees.{typ_in}
use Rattle.elab_make.specs.cpp_tree.Typing.{form_in}
use Rattle.elab_make.specs.cpp_tree.Arena.{trees_of, tree_at}
use Rattle.elab_make.specs.elab_ctx.Ctx.{ctx_of, work_of}
use Rattle.elab_make.specs.elab_ctx.Operands.{operand_in, operands_in}
use Rattle.elab_call.specs.Callees.{closure_class}
use Rattle.elab_call.proofs.Chosen.{value_called}
use Rattle.elab_call.proofs.Grown.{operands_kept, are_in_grown}
use Rattle.elab_call.proofs.Made.{makes_grown}
use Rattle.elab_call.proofs.calls.call_value.Goals as goal

pub call_pointer-requires-clause-arguments : goal.call_pointer-requires-clause-arguments
call_pointer-requires-clause-arguments c = are_in_grown (trees_of c.args.work.now.nodes.items)
    (trees_of c.valued.new.nodes.items) c.args.os.now c.in_ok-value.ensures.grows c.requires.arguments

pub returns : goal.returns
returns c =
    let old = trees_of c.args.work.now.nodes.items in
    let mid = trees_of c.valued.new.nodes.items in
    let form = form_in (typ_in (tree_at old c.args.callee.id)) in
    let none : closure_class form ≡ None = cc (c.node_at.ensures.typ, c.in_default.ensures) in
    makes_grown old mid _ _ c.call_pointer.result _ _ c.in_ok-value.ensures.grows
    (value_called (ctx_of c.args.env.now) (work_of c.args.work.now) c.args.at form (operand_in old c.args.callee) (tree_at mid c.in_ok-value.value)
    (operands_in old c.args.os.now) (operands_in mid c.args.os.now) none c.in_ok-value.ensures.is
    (operands_kept old mid c.args.os.now c.in_ok-value.ensures.grows c.requires.arguments)) c.call_pointer.ensures
