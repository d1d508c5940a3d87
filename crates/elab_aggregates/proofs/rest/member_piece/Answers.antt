use Rattle.elab_make.specs.cpp_types.Typ.{typ_of}
use Rattle.elab_make.specs.elab_ctx.Ctx.{ctx_of}
use Rattle.elab_aggregates.proofs.Aggregated.{member_qualified}
use Rattle.elab_aggregates.proofs.rest.member_piece.Goals as goal

pub returns : goal.returns
returns c = member_qualified (ctx_of c.args.env.now) _ _ c.args.at _ (typ_of c.args.whole.now) c.args.class c.args.index
    (typ_of c.args.ty.now) _ _ _ _ c.in_ok-ty.ensures c.default_piece.ensures
