-- Objects of exactly one type.
use Rattle.std.specs.Prelude.{Result}
use Rattle.elab_init.specs.cpp_types.Typ.{Typ}
use Rattle.elab_init.specs.cpp_types.declared.classes.At.{At}
use Rattle.elab_init.specs.cpp_tree.declared.faults.ElabFault.{ElabFault}
use Rattle.elab_init.specs.elab_ctx.Ctx.{Ctx, Work}
use Rattle.elab_init.specs.elab_ctx.Steps.{Operand, Made}
use Rattle.elab_init.specs.elab_rules.Initialising.{object_of, class_from, object_operand}

-- an object of a type that is copied from the one that a class prvalue makes
abbrev pub copied_object : Ctx → Work → Typ → At → Operand → Result Made ElabFault
copied_object c w t at o = class_from c (object_of c w o.at o.tree).work t at (object_operand o (object_of c w o.at o.tree).tree)
