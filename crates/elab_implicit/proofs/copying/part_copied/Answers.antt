use Rattle.std.proofs.Common.{◌∙◌, sym}
use Rattle.cpp_types.specs.Typ.{typ_of}
use Rattle.elab_entry.specs.elab_ctx.Ctx.{ctx_of, work_of}
use Rattle.elab_implicit.proofs.CopyLists.{part_array, part_class, part_scalar}
use Rattle.elab_implicit.proofs.copying.part_copied.Goals as goal

pub returns-then-is_array : goal.returns-then-is_array
returns-then-is_array c = part_array _ _ _ (ctx_of c.args.env.now) (work_of c.args.work.now) c.args.at (typ_of c.args.ty.now) _
    (sym c.is_array.ensures ∙ c.if-is_array.true) c.in_ok-made.ensures

pub returns-then-is_class_type : goal.returns-then-is_class_type
returns-then-is_class_type c = part_class _ _ _ _ (ctx_of c.args.env.now) (work_of c.args.work.now) c.args.at (typ_of c.args.ty.now) _
    (sym c.is_array.ensures ∙ c.if-is_array.false) (sym c.is_class_type.ensures ∙ c.if-is_class_type.true) c.class_from.ensures

pub returns : goal.returns
returns c = part_scalar _ _ _ (ctx_of c.args.env.now) (work_of c.args.work.now) c.args.at (typ_of c.args.ty.now) _
    (sym c.is_array.ensures ∙ c.if-is_array.false) (sym c.is_class_type.ensures ∙ c.if-is_class_type.false) c.in_ok-made-2.ensures
