-- A class is completed step by step.
use Rattle.std.proofs.Common.{◌≡◌, ◌∙◌, ℕ, Bool, List, Option, Some, sym, ap, count_by, slice_set}
use Rattle.cpp_types.specs.Class.{Class, Member, Function}
use Rattle.elab_init.specs.cpp_tree.Units.{SlotFunc}
use Rattle.cpp_types.specs.declared.classes.At.{At}
use Rattle.elab_init.specs.elab_ctx.Ctx.{Ctx, Special, Traits}
use Rattle.elab_init.specs.elab_rules.Initialising.{is_constructor, places_from}
use Rattle.elab_init.specs.elab_rules.Functions.{first_from}
use Rattle.elab_init.specs.elab_rules.Classes.{Home, is_destructor_of, is_no_place, written_copy, takes_const, with_destructor, with_copy, with_default}
use Rattle.elab_init.specs.elab_rules.Classes.{with_specials, default_completed, copy_completed, completed, own_functions, slots_of, is_completed, class_named}
use Rattle.elab_init.specs.elab_rules.Classes.{with_record, with_traits}
use Rattle.class_records.specs.declared.closing.PartFacts.{PartFacts}
use Rattle.class_records.specs.Traits.{about_parts, traits_by}

pub completed_is : (c c1 c2 c3 c4 : Ctx) (h : Home) (at : At) (ms : List Member) (is : List ℕ) (none takes : Bool) (first place copy : Option ℕ)
    (s1 s2 s3 : Special) →
    none ≡ is_no_place (places_from (is_constructor h.number) 0 c.funcs) → first ≡ written_copy c h → takes ≡ takes_const c h ms first
    → place ≡ first_from (is_destructor_of h.number) 0 c.funcs →
    with_destructor c h at ms place ≡ record { ctx = c1; special = s1 } → copy ≡ written_copy c1 h
    → with_copy c1 h at ms copy ≡ record { ctx = c2; special = s2 } → with_default c2 h at ms is none ≡ record { ctx = c3; special = s3 } →
    c4 ≡ with_specials h ms takes s2 s1 (record { ctx = c3; special = s3 }) → c4 ≡ completed c h at ms is
completed_is c c1 c2 c3 c4 h at ms is none takes first place copy s1 s2 s3 en ef et ep ed ew ey el e =
    e
    ∙ ap (with_specials h ms takes s2 s1) (sym el)
    ∙ ap (default_completed h at ms is none takes s1) (sym ey)
    ∙ ap (λ z. default_completed h at ms is none takes s1 (with_copy c1 h at ms z)) ew
    ∙ ap (copy_completed h at ms is none takes) (sym ed)
    ∙ ap (λ z. copy_completed h at ms is none takes (with_destructor c h at ms z)) ep
    ∙ ap (λ z. copy_completed h at ms is none z (with_destructor c h at ms (first_from (is_destructor_of h.number) 0 c.funcs)))
    (et ∙ ap (takes_const c h ms) ef)
    ∙ ap (λ z. copy_completed h at ms is z (takes_const c h ms (written_copy c h))
    (with_destructor c h at ms (first_from (is_destructor_of h.number) 0 c.funcs))) en

pub record_is : (c c1 c2 : Ctx) (h : Home) (ms : List Member) (fs : List Function) (xs : List SlotFunc) (k : Class) (count : ℕ) →
    fs ≡ own_functions h.number c.funcs → xs ≡ slots_of c h fs → count ≡ count_by is_completed c.classes
    → k ≡ class_named h.name h.base h.is_final ms fs (Some count) →
    c1 ≡ record c { classes = slice_set c.classes h.number k } → c2 ≡ record c1 { slots = slice_set c1.slots h.number xs } → c2 ≡ with_record c h ms
record_is c c1 c2 h ms fs xs k count ef ex en ek e1 e2 =
    e2
    ∙ ap (λ (z : Ctx). record z { slots = slice_set z.slots h.number xs }) e1
    ∙ ap (λ (z : List SlotFunc). record c { classes = slice_set c.classes h.number k; slots = slice_set c.slots h.number z }) (ex ∙ ap (slots_of c h) ef)
    ∙ ap (λ (z : Class). record c {
      classes = slice_set c.classes h.number z;
      slots = slice_set c.slots h.number
          (slots_of c h (own_functions h.number c.funcs));
    })
    (ek ∙ ap (λ z. class_named h.name h.base h.is_final ms z (Some count)) ef
    ∙ ap (λ (z : ℕ). class_named h.name h.base h.is_final ms (own_functions h.number c.funcs) (Some z)) en)

pub finished_is : (c c1 c2 : Ctx) (h : Home) (ms : List Member) (x : PartFacts) (takes : Bool) (default copy destructor : Special) (t : Traits) →
    x ≡ about_parts c h ms → c1 ≡ with_record c h ms → t ≡ traits_by c1 h.number x takes default copy destructor
    → c2 ≡ record c1 { traits = slice_set c1.traits h.number t } →
    c2 ≡ with_specials h ms takes copy destructor (record { ctx = c; special = default })
finished_is c c1 c2 h ms x takes default copy destructor t ex e1 et e2 =
    e2
    ∙ ap (λ (z : Traits). record c1 { traits = slice_set c1.traits h.number z })
    (et ∙ ap (λ (z : PartFacts). traits_by c1 h.number z takes default copy destructor) ex)
    ∙ ap (λ (z : Ctx). with_traits z h (traits_by z h.number (about_parts c h ms) takes default copy destructor)) e1
