-- The types of expressions are what the laws of trees ask of them.
use Rattle.std.proofs.Common.{◌≡◌, refl, sym, ap, ◌∙◌, Bool, true, false, not, ◌&&◌, ◌||◌, List}
use Rattle.std.proofs.lemmas.Bool.{and_parts}
use Rattle.elab_rules.specs.cpp_types.Typ.{Typ, typ, Form, void, int, enum, null, ptr, ref, array, func, class, closure, tx_ex}
use Rattle.elab_rules.specs.cpp_types.Class.{Class}
use Rattle.elab_rules.specs.cpp_types.declared.ranks.Cat.TheVariants.{Lvalue, Prvalue}
use Rattle.elab_rules.specs.cpp_tree.Typing.{is_scalar_value}
use Rattle.elab_fits.specs.Standing.{IsExpressionType}
use Rattle.elab_sound_types.specs.Types.{object, target, is_positive, is_sound, is_head}
use Rattle.elab_sound_types.specs.Laws.{TargetsAreTypes, HeadsAreTypes, ArraysHold, VoidsAreValues}
use Rattle.elab_sound_types.proofs.Sound.{sound_as, object_target}

pub targets_law : TargetsAreTypes
targets_law cs (typ void c v) h = absurd cc
targets_law cs (typ (int k) c v) h = tt
targets_law cs (typ (enum e x) c v) h = tt
targets_law cs (typ null c v) h = tt
targets_law cs (typ (ptr t) c v) h = tt
targets_law cs (typ (ref t) c v) h = absurd cc
targets_law cs (typ (array t k) c v) h = refl
targets_law cs (typ (func g) c v) h = refl
targets_law cs (typ (class k) c v) h = tt
targets_law cs (typ (closure k) c v) h = tt
targets_law cs (typ (tx_ex t) c v) h = tt

-- values without qualifiers

void_plain : (c v : Bool) → not (c || v) ≡ true → typ void c v ≡ typ void false false
void_plain true v h = absurd cc
void_plain false true h = absurd cc
void_plain false false h = refl

int_plain : (f : Form) (c v : Bool) → is_scalar_value (typ f false false) ≡ true → not (c || v) ≡ true → is_scalar_value (typ f c v) ≡ true
int_plain f true v s h = absurd cc
int_plain f false true s h = absurd cc
int_plain f false false s h = s

values_law : (cs : List Class) (f : Form) (c v : Bool) → is_head cs (typ f c v) Prvalue ≡ true → IsExpressionType (typ f c v) Prvalue
values_law cs void c v h = void_plain c v h
values_law cs (int k) c v h = λ i. int_plain (int k) c v refl h
values_law cs (enum e x) c v h = λ i. int_plain (enum e x) c v refl h
values_law cs null c v h = λ i. int_plain null c v refl h
values_law cs (ptr t) c v h = λ i. int_plain (ptr t) c v refl (and_parts (is_sound cs target t) (not (c || v)) h).1
values_law cs (ref t) c v h = absurd cc
values_law cs (array t k) c v h = absurd cc
values_law cs (func g) c v h = absurd cc
values_law cs (class k) c v h = λ i. absurd cc
values_law cs (closure k) c v h = λ i. absurd cc
values_law cs (tx_ex t) c v h = λ i. absurd cc

pub heads_law : HeadsAreTypes
heads_law cs t Lvalue h = targets_law cs t h
heads_law cs (typ f c v) Prvalue h = values_law cs f c v h

pub arrays_law : ArraysHold
arrays_law cs (typ (array t k) c v) u m Lvalue h e =
    ap (λ (f : Form). is_sound cs target (held_in f)) (sym e) ∙ sound_as cs object target t object_target
    (and_parts (not (c || v)) (is_sound cs object t) (and_parts (is_positive k) (not (c || v) && is_sound cs object t) h).1).1
  where
    held_in : Form → Typ
    held_in (array x i) = x
    held_in f = u
arrays_law cs (typ (array t k) c v) u m Prvalue h e = absurd cc
arrays_law cs (typ void c v) u m cat h e = absurd cc
arrays_law cs (typ (int k) c v) u m cat h e = absurd cc
arrays_law cs (typ (enum o x) c v) u m cat h e = absurd cc
arrays_law cs (typ null c v) u m cat h e = absurd cc
arrays_law cs (typ (ptr t) c v) u m cat h e = absurd cc
arrays_law cs (typ (ref t) c v) u m cat h e = absurd cc
arrays_law cs (typ (func g) c v) u m cat h e = absurd cc
arrays_law cs (typ (class k) c v) u m cat h e = absurd cc
arrays_law cs (typ (closure k) c v) u m cat h e = absurd cc
arrays_law cs (typ (tx_ex t) c v) u m cat h e = absurd cc

pub voids_law : VoidsAreValues
voids_law cs (typ void c v) Lvalue h i = absurd cc
voids_law cs t Prvalue h i = refl
voids_law cs (typ (int k) c v) Lvalue h i = absurd cc
voids_law cs (typ (enum e x) c v) Lvalue h i = absurd cc
voids_law cs (typ null c v) Lvalue h i = absurd cc
voids_law cs (typ (ptr t) c v) Lvalue h i = absurd cc
voids_law cs (typ (ref t) c v) Lvalue h i = absurd cc
voids_law cs (typ (array t k) c v) Lvalue h i = absurd cc
voids_law cs (typ (func g) c v) Lvalue h i = absurd cc
voids_law cs (typ (class k) c v) Lvalue h i = absurd cc
voids_law cs (typ (closure k) c v) Lvalue h i = absurd cc
voids_law cs (typ (tx_ex t) c v) Lvalue h i = absurd cc
