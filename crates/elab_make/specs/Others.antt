-- Objects from values.
use Rattle.std.specs.Prelude.{List, [], ◌∷◌, Result, Err, if◌then◌else◌}
use Rattle.elab_init.specs.cpp_types.Typ.{Typ}
use Rattle.elab_init.specs.cpp_types.declared.classes.At.{At}
use Rattle.elab_init.specs.cpp_tree.declared.faults.ElabFault.{ElabFault}
use Rattle.elab_init.specs.cpp_tree.declared.faults.ElabFault.TheVariants.{Ill}
use Rattle.elab_init.specs.cpp_tree.declared.faults.IllRule.TheVariants.{BadInit}
use Rattle.elab_init.specs.cpp_tree.Typing.{is_class_typ}
use Rattle.elab_init.specs.elab_ctx.Ctx.{Ctx, Work}
use Rattle.elab_init.specs.elab_ctx.Steps.{and_then, expect, Operand, Made}
use Rattle.elab_init.specs.elab_rules.Initialising.{class_from, scalar_from, only}

-- an object of a type that is no class with a name, no exception and no array
abbrev pub other_values : Ctx → Work → Typ → At → List Operand → Result Made ElabFault
other_values c w t at [] = Err (Ill at BadInit)
other_values c w t at (o ∷ os) = if is_class_typ t then class_from c w t at o else and_then (expect at BadInit (only (o ∷ os)))
    (λ (p : Operand). scalar_from c w t p)
