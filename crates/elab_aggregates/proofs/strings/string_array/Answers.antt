use Rattle.std.proofs.Common.{refl}
use Rattle.elab_make.specs.cpp_types.Typ.{typ_of}
use Rattle.elab_make.specs.elab_ctx.Ctx.{ctx_of}
use Rattle.elab_aggregates.proofs.StringParts.{string_adds}
use Rattle.elab_aggregates.proofs.strings.string_array.Goals as goal

pub returns : goal.returns
returns c = string_adds _ _ _ _ (ctx_of c.args.env.now) (typ_of c.args.ty.now)
    (typ_of c.args.element.now) c.args.at c.args.bytes.now _ _ c.args.count _ c.in_ok-kids.ensures refl refl c.pieces_made.ensures
