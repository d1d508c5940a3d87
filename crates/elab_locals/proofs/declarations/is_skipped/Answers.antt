use Rattle.elab_scopes.specs.cpp_types.Typ.{typ_of}
use Rattle.elab_scopes.specs.elab_ctx.Ctx.{ctx_of}
use Rattle.elab_locals.proofs.Declared.{skipped_more, skipped_none}
use Rattle.elab_locals.proofs.declarations.is_skipped.Goals as goal

pub returns-in-None : goal.returns-in-None
returns-in-None c = λ trees. skipped_none (ctx_of c.args.env.now) (typ_of c.args.ty.now) trees c.args.ids.now _ c.in-None.ensures.kid c.may_be_skipped.ensures

pub returns-in-Some : goal.returns-in-Some
returns-in-Some c = λ trees. skipped_more (ctx_of c.args.env.now) (typ_of c.args.ty.now) trees c.args.ids.now _ c.in-Some.ensures.kid
