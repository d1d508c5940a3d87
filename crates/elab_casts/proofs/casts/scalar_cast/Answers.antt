use Rattle.elab_forms.specs.cpp_types.Typ.{typ_of}
use Rattle.elab_forms.specs.cpp_tree.Trees.{Tree}
use Rattle.elab_forms.specs.cpp_tree.Arena.{trees_of}
use Rattle.elab_forms.specs.elab_ctx.Ctx.{ctx_of, work_of}
use Rattle.elab_forms.proofs.Steps.{adds_then_makes}
use Rattle.elab_casts.specs.Rows.{value_cast}
use Rattle.elab_casts.proofs.casts.scalar_cast.Goals as goal

pub returns : goal.returns
returns c = adds_then_makes (trees_of c.args.work.now.nodes.items) _ _ _ _ _ _
    (λ (v : Tree). value_cast (ctx_of c.args.env.now) (work_of c.args.work.now) c.args.at
    (typ_of c.args.ty.now) v c.args.o.zero) c.in_ok-id.ensures c.value_cast.ensures
