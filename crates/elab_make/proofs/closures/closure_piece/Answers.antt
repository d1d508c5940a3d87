use Rattle.std.proofs.Common.{◌∙◌, ◌∷◌, ap}
use Rattle.elab_init.proofs.elab_ctx.Looks.{grows_trans}
use Rattle.elab_init.proofs.elab_ctx.Making.{last_adds}
use Rattle.elab_make.proofs.Nodes.{node_same}
use Rattle.elab_make.proofs.Putting.{kids_behind}
use Rattle.elab_make.proofs.closures.closure_piece.Goals as goal

pub returns : goal.returns
returns c =
    let kids = kids_behind _ _ c.in_ok-init.init _ _ _ _
    (c.in_ok-kids.ensures ∙ ap (λ z. c.in_ok-init.init
    ∷ z) c.deref.ensures.value) c.in_ok-init.ensures.within c.in_ok-init.ensures.is c.in_ok-ends.ensures in
    last_adds _ _ _ _ _ _ (grows_trans c.in_ok-init.ensures.grows c.in_ok-ends.ensures.grows)
    (node_same _ _ _ _ _ _ _ c.in_ok-ty.ensures kids) c.add_node.ensures.tree
