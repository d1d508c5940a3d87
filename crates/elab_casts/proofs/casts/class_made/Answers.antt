use Rattle.elab_forms.specs.cpp_types.Typ.{typ_of}
use Rattle.elab_forms.specs.cpp_tree.Arena.{trees_of}
use Rattle.elab_forms.specs.elab_ctx.Ctx.{ctx_of, work_of}
use Rattle.elab_forms.specs.elab_ctx.Operands.{operands_in}
use Rattle.elab_casts.proofs.ClassMade.{class_makes}
use Rattle.elab_casts.proofs.casts.class_made.Goals as goal

pub returns : goal.returns
returns c = class_makes (ctx_of c.args.env.now) (work_of c.args.work.now) _ c.args.at (typ_of c.args.ty.now)
    (operands_in (trees_of c.args.work.now.nodes.items) c.args.os.now) _ _ _ _ _ c.in_ok-init.ensures c.in_ok-made.ensures
