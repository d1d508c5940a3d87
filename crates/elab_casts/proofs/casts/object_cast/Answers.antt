use Rattle.elab_forms.specs.cpp_types.Typ.{typ_of}
use Rattle.elab_forms.specs.cpp_tree.Arena.{trees_of}
use Rattle.elab_forms.specs.elab_ctx.Ctx.{ctx_of, work_of}
use Rattle.elab_forms.specs.elab_ctx.Operands.{operand_in}
use Rattle.elab_forms.specs.elab_rules.Initialising.{initial}
use Rattle.elab_forms.specs.elab_rules.Casts.{reference_cast}
use Rattle.elab_forms.proofs.Steps.{then_adds}
use Rattle.elab_casts.proofs.casts.object_cast.Goals as goal

pub returns : goal.returns
returns c = then_adds _ _ _ _ _ _ (initial (ctx_of c.args.env.now) (work_of c.args.work.now) (typ_of c.args.ty.now)
    (operand_in (trees_of c.args.work.now.nodes.items) c.args.o))
    (reference_cast c.args.at (typ_of c.args.target.now)) c.in_ok-object.ensures c.in_ok-made.ensures
