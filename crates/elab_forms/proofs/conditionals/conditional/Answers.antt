use Rattle.std.proofs.Common.{ap, Result}
use Rattle.elab_make.specs.cpp_tree.declared.faults.ElabFault.{ElabFault}
use Rattle.elab_make.specs.cpp_tree.Trees.{Tree}
use Rattle.elab_make.specs.cpp_tree.Arena.{trees_of}
use Rattle.elab_make.specs.elab_ctx.Ctx.{ctx_of, work_of}
use Rattle.elab_make.specs.elab_ctx.Steps.{and_then}
use Rattle.elab_make.specs.elab_ctx.Operands.{operand_in}
use Rattle.elab_make.specs.elab_rules.Operators.{branches}
use Rattle.elab_ops.proofs.Values.{truth_is}
use Rattle.elab_forms.proofs.Steps.{makes_same}
use Rattle.elab_forms.proofs.conditionals.conditional.Goals as goal

pub returns : goal.returns
returns c =
    let old = trees_of c.args.work.now.nodes.items in
    makes_same _ _ _ _ _ _ (ap (λ (z : Result Tree ElabFault). and_then z
    (λ (t : Tree). branches (ctx_of c.args.env.now) (work_of c.args.work.now) c.args.at t (operand_in old c.args.a) (operand_in old c.args.b)))
    (truth_is (ctx_of c.args.env.now) (work_of c.args.work.now) (operand_in old c.args.test))) c.conditional_by.ensures
