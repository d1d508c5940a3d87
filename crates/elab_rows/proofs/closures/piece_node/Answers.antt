use Rattle.std.proofs.Common.{◌∙◌, ◌∷◌, ap, refl}
use Rattle.elab_casts.proofs.elab_ctx.Making.{last_adds}
use Rattle.elab_casts.proofs.elab_make.Nodes.{node_same}
use Rattle.elab_casts.proofs.elab_make.Putting.{kids_behind}
use Rattle.elab_rows.proofs.closures.piece_node.Goals as goal

pub returns : goal.returns
returns c =
    let kids = kids_behind _ _ c.args.init _ _ _ _ (c.in_ok-kids.ensures ∙ ap
    (λ z. c.args.init ∷ z) c.deref.ensures.value) c.requires refl c.in_ok-ends.ensures in
    last_adds _ _ _ _ _ _ c.in_ok-ends.ensures.grows (node_same _ _ _ _ _ _ _ c.in_ok-ty.ensures kids) c.add_node.ensures.tree
