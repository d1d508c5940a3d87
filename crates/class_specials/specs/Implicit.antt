-- Members that no text declares (C++14 12.1, 12.4, 12.8).
use Rattle.std.specs.Prelude.{Bool, false, [], ◌∷◌}
use Rattle.cpp_types.specs.Typ.{none as no_typs, more as and_typ}
use Rattle.cpp_types.specs.Class.{Function}
use Rattle.cpp_types.specs.declared.classes.At.{At}
use Rattle.elab_init.specs.cpp_tree.declared.program.FuncKind.TheVariants.{Constructor, Destructor}
use Rattle.elab_init.specs.elab_ctx.Ctx.{Ctx, Func}
use Rattle.elab_init.specs.elab_rules.Classes.{Home, overridden, member_record, no_marks, own_reference, implicit_record, implicit_function}

abbrev pub implicit_destructor : Home → At → Function
implicit_destructor h at = implicit_record (126 ∷ h.name) at no_typs

abbrev pub destructor_made : Ctx → Home → At → Func
destructor_made c h at = implicit_function h.number Destructor []
    (member_record (implicit_destructor h at) no_marks (overridden c h.base (implicit_destructor h at)) false)

abbrev pub copy_made : Home → At → Bool → Func
copy_made h at is_const = implicit_function h.number Constructor (record { typ = own_reference h.number is_const; at = at } ∷ [])
    (implicit_record h.name at (and_typ (own_reference h.number is_const) no_typs))

abbrev pub default_made : Home → At → Func
default_made h at = implicit_function h.number Constructor [] (implicit_record h.name at no_typs)
