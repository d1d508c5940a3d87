use Rattle.std.proofs.Common.{sym, ◌∙◌}
use Rattle.cpp_types.specs.Typ.{typ_of}
use Rattle.elab_stmt.specs.elab_ctx.Ctx.{ctx_of}
use Rattle.elab_entry.proofs.Endings.{end_none, end_object, end_scalar}
use Rattle.elab_entry.proofs.ends.end_of.Goals as goal

pub returns-then-is_void : goal.returns-then-is_void
returns-then-is_void c = end_none _ _ (ctx_of c.args.env.now) (typ_of c.args.ty.now) c.args.at c.requires (sym c.is_void.ensures ∙ c.if-is_void.true)

pub returns-then-is_class_type : goal.returns-then-is_class_type
returns-then-is_class_type c = end_object _ _ _ _ (ctx_of c.args.env.now) (typ_of c.args.ty.now) c.args.at _ (sym c.is_void.ensures ∙ c.if-is_void.false)
    (sym c.is_class_type.ensures ∙ c.if-is_class_type.true) c.keep_object_end.ensures

pub returns : goal.returns
returns c = end_scalar _ _ _ _ (ctx_of c.args.env.now) (typ_of c.args.ty.now) c.args.at _ (sym c.is_void.ensures ∙ c.if-is_void.false)
    (sym c.is_class_type.ensures ∙ c.if-is_class_type.false) c.keep_value_end.ensures
