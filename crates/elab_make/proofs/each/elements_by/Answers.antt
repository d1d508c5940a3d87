use Rattle.std.proofs.Common.{◌∙◌, ◌∷◌, ap}
use Rattle.elab_init.specs.elab_ctx.Ctx.{ctx_of}
use Rattle.elab_init.proofs.elab_ctx.Looks.{grows_trans}
use Rattle.elab_init.proofs.elab_ctx.Making.{last_adds}
use Rattle.elab_make.proofs.Nodes.{elements_same}
use Rattle.elab_make.proofs.Putting.{kids_before}
use Rattle.elab_make.proofs.each.elements_by.Goals as goal

pub returns : goal.returns
returns c =
    let kids = kids_before _ _ _ c.in_ok-init.init _ _ _ _
    (c.in_ok-kids.ensures ∙ ap (λ z. c.in_ok-init.init
    ∷ z) c.deref.ensures.value) c.in_ok-init.ensures.tree.is c.in_ok-ends.ensures c.in_ok-init.ensures.tree.grows in
    last_adds _ _ _ _ _ _ (grows_trans c.in_ok-ends.ensures.grows c.in_ok-init.ensures.tree.grows)
    (elements_same (ctx_of c.args.env.now) c.args.kind _ _ _ c.args.at _ _ _ c.in_ok-count.ensures c.in_ok-stride.ensures c.in_ok-element.ensures
    c.in_ok-ty.ensures kids) c.add_node.ensures.tree
