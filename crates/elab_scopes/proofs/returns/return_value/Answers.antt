use Rattle.std.proofs.Common.{sym, ◌∙◌}
use Rattle.elab_expr.specs.cpp_types.Typ.{typ_of}
use Rattle.elab_scopes.specs.States.{full_in}
use Rattle.elab_scopes.proofs.Standing.{does_same}
use Rattle.elab_scopes.proofs.Choices.{value_object, value_scalar}
use Rattle.elab_scopes.proofs.returns.return_value.Goals as goal

pub returns-then-is_class_type : goal.returns-then-is_class_type
returns-then-is_class_type c = does_same _ _ _ _ _ (value_object c.args.at (typ_of c.args.ty.now) (full_in c.args.st.now c.args.o)
    (sym c.is_void_type.ensures ∙ c.if-is_void_type.false) (sym c.is_class_type.ensures ∙ c.if-is_class_type.true)) c.return_object.ensures

pub returns : goal.returns
returns c = does_same _ _ _ _ _ (value_scalar c.args.at (typ_of c.args.ty.now) (full_in c.args.st.now c.args.o)
    (sym c.is_void_type.ensures ∙ c.if-is_void_type.false) (sym c.is_class_type.ensures ∙ c.if-is_class_type.false)) c.return_scalar.ensures
