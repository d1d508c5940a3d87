-- Objects of arguments.
use Rattle.std.specs.Prelude.{not, Result, Ok}
use Rattle.elab_init.specs.cpp_types.Typ.{Typ}
use Rattle.elab_init.specs.cpp_tree.declared.faults.ElabFault.{ElabFault}
use Rattle.elab_init.specs.cpp_tree.declared.faults.IllRule.TheVariants.{OutOfProfile}
use Rattle.elab_init.specs.cpp_tree.Trees.{one}
use Rattle.elab_init.specs.cpp_tree.Typing.{is_class_typ}
use Rattle.elab_init.specs.elab_ctx.Ctx.{Ctx, Work, with_item}
use Rattle.elab_init.specs.elab_ctx.Steps.{and_then, check, Operand, Made, MadeAll}
use Rattle.elab_init.specs.elab_rules.Objects.{destroys}
use Rattle.elab_init.specs.elab_rules.Initialising.{class_from, initial, argument_object}

-- an object of its own for a parameter of this type
abbrev pub passed_object : Ctx → Work → Typ → Operand → Result Made ElabFault
passed_object c w t o = and_then (class_from c (with_item w t) t o.at o) (λ (m : Made). Ok (argument_object w t o.at (destroys c o.at t) m))

-- what a constructor is given that copies an object, by its one parameter
abbrev pub copying_word : Ctx → Work → Typ → Operand → Result MadeAll ElabFault
copying_word c w p o = and_then (check o.at OutOfProfile (not (is_class_typ p)))
    (λ y. and_then (initial c w p o) (λ (m : Made). Ok (record { trees = one m.tree; work = m.work })))
