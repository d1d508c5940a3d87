use Rattle.elab_forms.specs.cpp_tree.Trees.{Tree}
use Rattle.elab_forms.specs.cpp_tree.Arena.{trees_of}
use Rattle.elab_forms.specs.elab_ctx.Ctx.{ctx_of, work_of}
use Rattle.elab_forms.proofs.Steps.{adds_then_makes}
use Rattle.elab_casts.specs.Rows.{value_thrown}
use Rattle.elab_casts.proofs.throws.scalar_thrown.Goals as goal

pub returns : goal.returns
returns c = adds_then_makes (trees_of c.args.work.now.nodes.items) _ _ _ _ _ _
    (λ (v : Tree). value_thrown (ctx_of c.args.env.now) (work_of c.args.work.now) c.args.at v) c.in_ok-id.ensures c.value_thrown.ensures
