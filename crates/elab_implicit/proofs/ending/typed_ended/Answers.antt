use Rattle.std.proofs.Common.{◌∙◌, sym}
use Rattle.cpp_types.specs.Typ.{typ_of}
use Rattle.elab_entry.specs.elab_ctx.Ctx.{ctx_of}
use Rattle.elab_implicit.proofs.Deferring.{member_listed, not_empty}
use Rattle.elab_implicit.proofs.ending.typed_ended.Goals as goal

pub returns : goal.returns
returns c = member_listed _ _ _ (ctx_of c.args.env.now) c.args.at c.args.class c.args.member _
    (typ_of c.args.ty.now) c.in_ok-ends.ends.items _ _ c.in_ok-ends.ensures
    (not_empty c.in_ok-ends.ends (sym c.is_empty.ensures ∙ c.if-is_empty.false)) c.in_ok-offset.ensures c.deref.ensures.value c.member_behind.ensures
