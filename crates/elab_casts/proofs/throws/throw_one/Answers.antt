use Rattle.elab_forms.specs.cpp_tree.Arena.{trees_of, tree_at}
use Rattle.elab_forms.specs.cpp_tree.Trees.{typ_in}
use Rattle.elab_forms.specs.cpp_tree.Typing.{form_in}
use Rattle.elab_forms.specs.elab_ctx.Ctx.{ctx_of, work_of}
use Rattle.elab_forms.specs.elab_ctx.Operands.{operand_in}
use Rattle.elab_forms.specs.elab_rules.Operators.{without_value}
use Rattle.elab_forms.specs.elab_rules.Casts.{throw_in}
use Rattle.elab_forms.proofs.Steps.{then_adds}
use Rattle.elab_casts.proofs.throws.throw_one.Goals as goal

pub returns : goal.returns
returns c =
    let old = trees_of c.args.work.now.nodes.items in
    then_adds _ _ _ _ _ _ (throw_in (ctx_of c.args.env.now) (work_of c.args.work.now) c.args.at
    (form_in (typ_in (tree_at old c.args.o.id))) (operand_in old c.args.o)) (without_value c.args.at) c.in_ok-thrown.ensures c.in_ok-made.ensures
