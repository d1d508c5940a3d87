use Rattle.elab_make.specs.cpp_types.Typ.{typ_of}
use Rattle.elab_make.specs.elab_ctx.Ctx.{ctx_of}
use Rattle.elab_aggregates.proofs.StringParts.{string_gives}
use Rattle.elab_aggregates.proofs.strings.string_object.Goals as goal

pub returns : goal.returns
returns c = string_gives (ctx_of c.args.env.now) (typ_of c.args.ty.now) c.args.at c.args.bytes.now _ _ _ c.string_in.ensures
