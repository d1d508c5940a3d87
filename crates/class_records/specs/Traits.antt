-- What holds of a class that is completed.
use Rattle.std.specs.Prelude.{ℕ, Bool, not, ◌||◌, ◌&&◌, List, Some, slice_get}
use Rattle.std.specs.List.{list_any}
use Rattle.cpp_types.specs.Conversion.{volatile_of}
use Rattle.cpp_types.specs.Class.{Member}
use Rattle.cpp_types.specs.Trivial.{is_plain}
use Rattle.elab_init.specs.cpp_tree.Units.{SlotFunc}
use Rattle.elab_init.specs.elab_ctx.Ctx.{Ctx, Special, Traits}
use Rattle.elab_init.specs.elab_rules.Objects.{traits_at}
use Rattle.elab_init.specs.elab_rules.Classes.{Home, slot_function, may_assign, all_held, is_pure, base_slots}
use Rattle.class_records.specs.declared.closing.PartFacts.{PartFacts}

-- what is known of the parts of a class that is completed
abbrev pub about_parts : Ctx → Home → List Member → PartFacts
about_parts c h ms = record {
  is_assignable = may_assign c h.base ms;
  is_volatile = not (all_held (λ n. not (traits_at c n).is_volatile) h.base ms) || list_any (λ (m : Member). volatile_of m.typ) ms;
  copied_by_bytes = all_held (λ n. (traits_at c n).is_trivially_copyable) h.base ms;
}

abbrev pub traits_by : Ctx → ℕ → PartFacts → Bool → Special → Special → Special → Traits
traits_by c n x is_const default copy destructor = record {
  default = default;
  copy = copy;
  copies_const = is_const;
  destructor = destructor;
  is_assignable = x.is_assignable;
  is_abstract = list_any (λ (s : SlotFunc). is_pure (slot_function c.classes s)) (base_slots c (Some n));
  is_volatile = x.is_volatile;
  is_trivially_copyable = is_plain n (slice_get c.classes n) && x.copied_by_bytes;
}
