-- Parts of the rules for members, as the steps of which they are made.
use Rattle.std.specs.Prelude.{ℕ, Bool, not, ◌||◌, ◌&&◌, List, Option, None, is_some, is_none, Result, Ok, slice_get}
use Rattle.std.specs.Str.{bytes_eq}
use Rattle.cpp_types.specs.Typ.{Typ}
use Rattle.cpp_types.specs.Class.{Class, Function, Member, held, completion_of}
use Rattle.cpp_types.specs.Trivial.{is_destructor_name}
use Rattle.cpp_types.specs.declared.classes.At.{At}
use Rattle.elab_init.specs.cpp_tree.Units.{SlotFunc}
use Rattle.elab_init.specs.cpp_tree.Typing.{form_in}
use Rattle.elab_init.specs.cpp_tree.declared.faults.ElabFault.{ElabFault}
use Rattle.elab_init.specs.cpp_tree.declared.faults.IllRule.TheVariants.{Incomplete, Redeclared, OutOfProfile, BadDeclaration, AbstractObject}
use Rattle.elab_init.specs.cpp_tree.declared.faults.OverrideRule.TheVariants.{BaseFinal}
use Rattle.elab_init.specs.elab_ctx.Ctx.{Ctx, Func}
use Rattle.elab_init.specs.elab_ctx.Steps.{and_then, check}
use Rattle.elab_init.specs.elab_rules.Objects.{element_of}
use Rattle.elab_init.specs.elab_rules.Initialising.{same_number}
use Rattle.elab_init.specs.elab_rules.Operators.{is_complete}
use Rattle.elab_init.specs.elab_rules.Types.{has_auto, is_abstract_type, is_bounded}
use Rattle.elab_init.specs.elab_rules.Sizes.{typ_sized}
use Rattle.elab_init.specs.elab_rules.Functions.{Header, function_record, new_function, is_same_function, first_from, header_sized}
use Rattle.elab_init.specs.elab_rules.Classes.{Home, Marks, Definition, keeps, is_final_class, member_form, has_member, has_function, overridden_by}
use Rattle.elab_init.specs.elab_rules.Classes.{slot_function, chosen_if, overridden, is_considered, overrides_well, marks_fit, definition_sized, as_written}
use Rattle.class_members.specs.declared.overriding.TakenOver.{TakenOver}

-- a class that others may stand on: complete, and not final
abbrev pub may_be_base : Ctx → At → ℕ → Result ℕ ElabFault
may_be_base c at n = and_then (check at Incomplete (is_some (completion_of c.classes n)))
    (λ y. and_then (keeps at BaseFinal (not (is_final_class (slice_get c.classes n)))) (λ z. Ok n))

abbrev pub is_named : ℕ → List ℕ → Func → Bool
is_named n name f = same_number n f.class && bytes_eq f.declared.name name

-- a class may have a data member of this name and type
abbrev pub fits_member : Ctx → ℕ → List Member → At → List ℕ → Typ → Result Bool ElabFault
fits_member c n ms at name t = and_then (member_form at (form_in t))
    (λ a. and_then (check at OutOfProfile (not (has_auto t)))
    (λ b. and_then (check at BadDeclaration (is_bounded t)) (λ d. and_then (check at Incomplete (is_complete c (held t))) (λ e.
    and_then (check at AbstractObject (not (is_abstract_type c (element_of t))))
    (λ f. and_then (typ_sized c.classes at t) (λ h. check at Redeclared (not (has_member name ms) && not (has_function n name c.funcs))))))))

-- the function in a slot, where it is overridden
abbrev pub overridden_at : List Class → Function → SlotFunc → Option Function
overridden_at classes g x = chosen_if (overridden_by g (slot_function classes x)) (slot_function classes x) None

-- what is taken over from a function that is overridden
abbrev pub taken_over_of : Option Function → TakenOver
taken_over_of o = record { is_some = is_some o; considered = is_considered o }

abbrev pub method_by : Header → Marks → TakenOver → Func
method_by h m x = record (new_function h) {
  declared =
      record (function_record h) {
        is_virtual = h.storage.is_virtual || x.is_some;
        is_override = m.is_override;
        is_final = m.is_final;
        pure_virtual = m.is_pure;
        considered = x.considered;
        no_except = h.qualifiers.no_except || is_destructor_name h.name;
      };
}

-- the function that a member declares
abbrev pub member_made : Ctx → Home → List Member → Header → Marks → Option Definition → Result Func ElabFault
member_made c home ms h m d = and_then (check h.at Redeclared (is_none (first_from (is_same_function h) 0 c.funcs) && not (has_member h.name ms)))
    (λ y. and_then (overrides_well h (overridden c home.base (function_record h))) (λ z.
    and_then (marks_fit h m (is_some (overridden c home.base (function_record h)))
    (h.storage.is_virtual || is_some (overridden c home.base (function_record h)))) (λ x.
    and_then (header_sized c h) (λ w. and_then (definition_sized h.at d)
    (λ v. Ok (as_written d (method_by h m (taken_over_of (overridden c home.base (function_record h))))))))))
