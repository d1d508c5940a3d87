use Rattle.std.proofs.Common.{◌≡◌, ◌∙◌, ◌+◌, ◌-◌, ◌++◌, ap, subst, arith, map, drop}
use Rattle.elab_init.specs.cpp_tree.Arena.{trees_of}
use Rattle.elab_init.specs.elab_ctx.Ctx.{ctx_of}
use Rattle.elab_init.specs.elab_ctx.Says.{AddsAll}
use Rattle.elab_init.specs.elab_rules.Objects.{backwards, destroys_at}
use Rattle.elab_init.specs.Parts.{part_of}
use Rattle.elab_make.proofs.Putting.{back_more}
use Rattle.elab_make.proofs.destructions.destroys_back.Goals as goal

pub parts-preserved : goal.parts-preserved
parts-preserved c =
    let low = c.parts.invariant.0 in
    let positive = c.parts-test.true in
    let here : c.parts.left ≡ c.parts.left - 1 + 1 = omega arith in
    let before = subst (λ z. AddsAll (trees_of c.args.nodes.now.items) (trees_of c.parts.nodes.items) c.parts.ids.items
    (backwards (destroys_at (ctx_of c.args.env.now) c.args.at) (map part_of (drop z c.args.parts.now)))) here c.parts.invariant.1 in (
      omega arith,
      back_more (destroys_at (ctx_of c.args.env.now) c.args.at) _ (c.parts.left - 1) c.index-parts-left.result _ _ _ _ _ c.in_ok-more.more.items _
          (omega arith) c.index-parts-left.is before c.in_ok-more.ensures (c.in_ok-keep_all.ensures ∙ ap (λ z. c.parts.ids.items ++ z) c.deref.ensures.value),
    )
