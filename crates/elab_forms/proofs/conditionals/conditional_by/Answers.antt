use Rattle.std.proofs.Common.{sym}
use Rattle.elab_make.specs.cpp_tree.Trees.{Tree}
use Rattle.elab_make.specs.cpp_tree.Arena.{trees_of, tree_at}
use Rattle.elab_make.specs.elab_ctx.Ctx.{ctx_of, work_of}
use Rattle.elab_make.specs.elab_ctx.Operands.{operand_in}
use Rattle.elab_make.specs.elab_rules.Values.{bool_type}
use Rattle.elab_make.specs.elab_rules.Operators.{branches}
use Rattle.elab_ops.specs.Forms.{value_initial}
use Rattle.elab_forms.proofs.Steps.{given_then_makes, at_operand, same_branches}
use Rattle.elab_forms.proofs.conditionals.conditional_by.Goals as goal

pub returns : goal.returns
returns c =
    let x = ctx_of c.args.env.now in
    let w = work_of c.args.work.now in
    let old = trees_of c.args.work.now.nodes.items in
    let mid = trees_of c.bool_value.new.nodes.items in
    given_then_makes old mid (trees_of c.branches.new.work.nodes.items) (work_of c.branches.new.work) c.in_ok-test.test c.branches.result
    (value_initial x bool_type (operand_in old c.args.test)) (λ (t : Tree). branches x w c.args.at t (operand_in old c.args.a) (operand_in old c.args.b))
    (λ (t : Tree). branches x w c.args.at t (operand_in mid c.args.a) (operand_in mid c.args.b)) c.in_ok-test.ensures
    (same_branches x w c.args.at (tree_at mid c.in_ok-test.test) (operand_in old c.args.a) (operand_in old c.args.b) (operand_in mid c.args.a)
    (operand_in mid c.args.b) (sym (at_operand old mid c.args.a c.in_ok-test.ensures.grows c.requires.left))
    (sym (at_operand old mid c.args.b c.in_ok-test.ensures.grows c.requires.right))) c.branches.ensures
