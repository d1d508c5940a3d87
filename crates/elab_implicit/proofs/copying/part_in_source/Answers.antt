use Rattle.cpp_types.specs.Typ.{typ_of}
use Rattle.elab_entry.specs.elab_ctx.Ctx.{ctx_of}
use Rattle.elab_implicit.proofs.CopyLists.{source_part}
use Rattle.elab_implicit.proofs.copying.part_in_source.Goals as goal

pub returns : goal.returns
returns c = source_part _ _ _ c.in_ok-source.source _ (ctx_of c.args.env.now) c.args.class c.args.member _ _ (typ_of c.args.ty.now) _ _ c.args.at _
    (c.in_ok-source.ensures c.args.class) c.in_ok-offset.ensures c.in_ok-seen.ensures c.source_const.ensures c.part_at.ensures

pub part_at-requires : goal.part_at-requires
part_at-requires c = (c.in_ok-source.ensures c.args.class).within
