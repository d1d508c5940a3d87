use Rattle.elab_conv.specs.cpp_types.Typ.{typ_of}
use Rattle.elab_conv.specs.cpp_tree.Arena.{trees_of, tree_at}
use Rattle.elab_conv.specs.elab_ctx.Ctx.{ctx_of}
use Rattle.elab_conv.proofs.elab_ctx.Looks.{grows_refl}
use Rattle.elab_conv.proofs.elab_ctx.Making.{last_adds}
use Rattle.elab_names.proofs.Fields.{field_tree}
use Rattle.elab_names.proofs.names.field_of.Goals as goal

pub returns : goal.returns
returns c = last_adds _ _ _ c.part_at.result _ _ (grows_refl (trees_of c.args.nodes.now.items))
    (field_tree (ctx_of c.args.env.now) c.args.at (tree_at (trees_of c.args.nodes.now.items) c.args.object) c.args.class c.args.index c.in_ok-offset.offset
    (typ_of c.node_at.result.now.ty) (typ_of c.args.ty.now)
    (typ_of c.in_ok-ty.ty) c.in_ok-offset.ensures c.node_at.ensures.typ c.in_ok-ty.ensures) c.part_at.ensures
