use Rattle.std.proofs.Common.{false, ap}
use Rattle.elab_make.specs.cpp_tree.Trees.{Tree}
use Rattle.elab_make.specs.cpp_tree.Arena.{trees_of, tree_at}
use Rattle.elab_make.specs.elab_ctx.Ctx.{ctx_of, work_of}
use Rattle.elab_make.specs.elab_ctx.Operands.{operand_in, operands_in}
use Rattle.elab_make.specs.elab_ctx.Steps.{Operand}
use Rattle.elab_call.proofs.Chosen.{closure_is}
use Rattle.elab_call.proofs.Grown.{operands_kept, are_in_grown}
use Rattle.elab_call.proofs.Made.{makes_grown}
use Rattle.elab_call.proofs.calls.call_closure.Goals as goal

pub call_object-requires-clause-arguments : goal.call_object-requires-clause-arguments
call_object-requires-clause-arguments c = are_in_grown (trees_of c.args.work.now.nodes.items)
    (trees_of c.object_of.new.work.nodes.items) c.args.os.now c.in_ok-id.ensures.grows c.requires.arguments

pub returns : goal.returns
returns c =
    let old = trees_of c.args.work.now.nodes.items in
    let mid = trees_of c.object_of.new.work.nodes.items in
    let object : Operand = record { tree = tree_at mid c.in_ok-id.id; at = c.args.callee.at; zero = false } in
    makes_grown old mid _ _ c.call_object.result _ _ c.in_ok-id.ensures.grows
    (closure_is (ctx_of c.args.env.now) (work_of c.args.work.now) (work_of c.object_of.new.work) c.args.at c.args.class
    (operand_in old c.args.callee) object (operands_in old c.args.os.now) (operands_in mid c.args.os.now)
    (ap (λ (z : Tree). record { tree = z; at = c.args.callee.at; zero = false }) c.in_ok-id.ensures.is)
    (operands_kept old mid c.args.os.now c.in_ok-id.ensures.grows c.requires.arguments) c.in_ok-id.ensures.work_is) c.call_object.ensures
