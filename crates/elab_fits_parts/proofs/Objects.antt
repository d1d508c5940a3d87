-- Objects of sound types can be made, where their classes are complete and they have a size.
use Rattle.std.proofs.Common.{◌≡◌, refl, sym, ap, ◌∙◌, ℕ, zero, suc, Bool, true, false, not, ◌&&◌, ◌||◌, nat_lt, List, length, is_some, arith, lt-ltb}
use Rattle.std.proofs.lemmas.Bool.{and_parts, and_from}
use Rattle.elab_rules.specs.cpp_types.Typ.{Typ, typ, Form, void, int, enum, null, ptr, ref, array, func, class, closure, tx_ex}
use Rattle.elab_rules.specs.cpp_types.Class.{Class, completion_of}
use Rattle.elab_rules.specs.cpp_tree.Parts.{size_in, holds_complete}
use Rattle.elab_rules.specs.cpp_tree.Typing.{form_in}
use Rattle.elab_rules.specs.elab_ctx.Ctx.{Ctx}
use Rattle.elab_rules.specs.Objects.{element_of}
use Rattle.elab_fits.specs.Objects.{is_single, is_ready, typ_ready, form_ready, class_ready, is_closure}
use Rattle.elab_fits.proofs.Nodes.{both}
use Rattle.elab_fits.proofs.Wholes.{qualified_none}
use Rattle.elab_fits_objects.specs.Contexts.{is_sorted, is_named_class, IsObjectTyp}
use Rattle.elab_fits_forms.specs.Types.{is_lambda}
use Rattle.elab_fits_forms.specs.Context.{IsComplete}
use Rattle.elab_sound_types.specs.Types.{object}
use Rattle.elab_sound_types.specs.Types as sound
use Rattle.elab_holds.proofs.Sound.{class_is, lambda_same, is_true}
use Rattle.elab_fits_parts.specs.Parts.{ObjectsAreMade}

positive : (n : ℕ) → sound.is_positive n ≡ true → nat_lt 0 n ≡ true
positive zero h = absurd cc
positive (suc n) h = lt-ltb 0 (suc n) (omega arith)

-- an array that is no more than an object has no qualifiers, and so have its elements
record IsArray (cs : List Class) (t : Typ) (n : ℕ) (c v : Bool) : Type 0 where
  bound : nat_lt 0 n ≡ true
  own : not (c || v) ≡ true
  element : sound.is_sound cs object t ≡ true

array_is : (cs : List Class) (t : Typ) (n : ℕ) (c v : Bool) → sound.is_sound cs object (typ (array t n) c v) ≡ true → IsArray cs t n c v
array_is cs t n c v h =
    let a = and_parts (sound.is_positive n) (not (c || v) && sound.is_sound cs object t) h in
    let b = and_parts (not (c || v)) (sound.is_sound cs object t) a.1 in
    record { bound = positive n a.0; own = b.0; element = b.1 }

-- Lambdas' classes

named_sorted : (cs : List Class) (n : ℕ) → sound.is_class cs n ≡ true → not (is_lambda cs n) ≡ true
named_sorted cs n h = ap not (class_is cs n h).1

record IsHeld (cs : List Class) (n : ℕ) : Type 0 where
  complete : is_some (completion_of cs n) ≡ true
  named : not (is_lambda cs n) ≡ true

held_is : (cs : List Class) (n : ℕ) → sound.is_held cs (class n) ≡ true → IsHeld cs n
held_is cs n h = let a = and_parts (is_some (completion_of cs n)) (not (sound.is_lambda cs n)) h in
    record { complete = a.0; named = ap not (sym (lambda_same cs n)) ∙ a.1 }

held_sorted : (cs : List Class) (f : Form) → sound.is_held cs f ≡ true → is_sorted (is_lambda cs) f ≡ true
held_sorted cs (int k) h = refl
held_sorted cs (enum n s) h = refl
held_sorted cs (class n) h = (held_is cs n h).named
held_sorted cs void h = absurd cc
held_sorted cs null h = absurd cc
held_sorted cs (ptr t) h = absurd cc
held_sorted cs (ref t) h = absurd cc
held_sorted cs (array t n) h = absurd cc
held_sorted cs (func s) h = absurd cc
held_sorted cs (closure n) h = absurd cc
held_sorted cs (tx_ex t) h = absurd cc

sorted : (cs : List Class) (t : Typ) → sound.is_sound cs object t ≡ true → is_sorted (is_lambda cs) (form_in t) ≡ true
sorted cs (typ void c v) h = absurd cc
sorted cs (typ (int k) c v) h = refl
sorted cs (typ (enum n s) c v) h = refl
sorted cs (typ null c v) h = refl
sorted cs (typ (ptr t) c v) h = refl
sorted cs (typ (ref t) c v) h = is_true false _ refl h
sorted cs (typ (array t n) c v) h = refl
sorted cs (typ (func s) c v) h = is_true false _ refl h
sorted cs (typ (class n) c v) h = named_sorted cs n h
sorted cs (typ (closure n) c v) h = is_true false _ refl h
sorted cs (typ (tx_ex (typ f d w)) c v) h = held_sorted cs f (and_parts (not (d || w)) (sound.is_held cs f) h).1

-- Ready, by what is known of complete classes

abbrev Knows : List Class → (ℕ → Bool) → Type 0
Knows cs p = (n : ℕ) → is_some (completion_of cs n) ≡ true → not (is_lambda cs n) ≡ true → p n ≡ true

held_ready : (cs : List Class) (p : ℕ → Bool) → Knows cs p → (f : Form) → sound.is_held cs f ≡ true → (is_single f && form_ready p false false f) ≡ true
held_ready cs p q (int k) h = refl
held_ready cs p q (enum n s) h = refl
held_ready cs p q (class n) h = let x = held_is cs n h in q n x.complete x.named
held_ready cs p q void h = absurd cc
held_ready cs p q null h = absurd cc
held_ready cs p q (ptr t) h = absurd cc
held_ready cs p q (ref t) h = absurd cc
held_ready cs p q (array t n) h = absurd cc
held_ready cs p q (func s) h = absurd cc
held_ready cs p q (closure n) h = absurd cc
held_ready cs p q (tx_ex t) h = absurd cc

holds_element : (cs : List Class) (t : Typ) (n : ℕ) (c v : Bool) → holds_complete cs (form_in (typ (array t n) c v)) ≡ true
    → holds_complete cs (form_in t) ≡ true
holds_element cs (typ f d w) n c v h = h

object_ready : (cs : List Class) (p : ℕ → Bool) → Knows cs p → (t : Typ) → sound.is_sound cs object t ≡ true → holds_complete cs (form_in t) ≡ true
    → typ_ready p false t ≡ true
object_ready cs p q (typ void c v) h k = absurd cc
object_ready cs p q (typ (int i) c v) h k = refl
object_ready cs p q (typ (enum n s) c v) h k = refl
object_ready cs p q (typ null c v) h k = refl
object_ready cs p q (typ (ptr t) c v) h k = refl
object_ready cs p q (typ (ref t) c v) h k = is_true false _ refl h
object_ready cs p q (typ (array t n) c v) h k = let a = array_is cs t n c v h in
    and_from (not (c || v)) (nat_lt 0 n && typ_ready p false t) a.own
    (and_from (nat_lt 0 n) (typ_ready p false t) a.bound (object_ready cs p q t a.element (holds_element cs t n c v k)))
object_ready cs p q (typ (func s) c v) h k = is_true false _ refl h
object_ready cs p q (typ (class n) c v) h k = q n k (named_sorted cs n h)
object_ready cs p q (typ (closure n) c v) h k = is_true false _ refl h
object_ready cs p q (typ (tx_ex (typ f d w)) c v) h k = held_ready cs p q f (and_parts (not (d || w)) (sound.is_held cs f) h).1

-- the class is not one that may be only declared
held_complete : (cs : List Class) (f : Form) (c v : Bool) → sound.is_held cs f ≡ true → holds_complete cs (tx_ex (typ f c v)) ≡ true
held_complete cs (int k) c v h = refl
held_complete cs (enum n s) c v h = refl
held_complete cs (class n) c v h = (held_is cs n h).complete
held_complete cs void c v h = absurd cc
held_complete cs null c v h = absurd cc
held_complete cs (ptr t) c v h = absurd cc
held_complete cs (ref t) c v h = absurd cc
held_complete cs (array t n) c v h = absurd cc
held_complete cs (func s) c v h = absurd cc
held_complete cs (closure n) c v h = absurd cc
held_complete cs (tx_ex t) c v h = absurd cc

no_other : (A : Type 0) → true ≡ false → A
no_other A h = absurd cc

element_complete : (cs : List Class) (t : Typ) (n : ℕ) (c v : Bool) → holds_complete cs (form_in t) ≡ true
    → holds_complete cs (form_in (typ (array t n) c v)) ≡ true
element_complete cs (typ f d w) n c v h = h

complete : (cs : List Class) (t : Typ) → sound.is_sound cs object t ≡ true → is_named_class (form_in (element_of t)) ≡ false
    → holds_complete cs (form_in t) ≡ true
complete cs (typ void c v) h e = refl
complete cs (typ (int k) c v) h e = refl
complete cs (typ (enum n s) c v) h e = refl
complete cs (typ null c v) h e = refl
complete cs (typ (ptr t) c v) h e = refl
complete cs (typ (ref t) c v) h e = refl
complete cs (typ (array t n) false false) h e = element_complete cs t n false false
    (complete cs t (array_is cs t n false false h).element (ap (λ (u : Typ). is_named_class (form_in u)) (sym (qualified_none (element_of t))) ∙ e))
complete cs (typ (array t n) true v) h e = no_other _ (sym (array_is cs t n true v h).own)
complete cs (typ (array t n) false true) h e = no_other _ (sym (array_is cs t n false true h).own)
complete cs (typ (func s) c v) h e = refl
complete cs (typ (class n) c v) h e = no_other _ e
complete cs (typ (closure n) c v) h e = is_true false _ refl h
complete cs (typ (tx_ex (typ f d w)) c v) h e = held_complete cs f d w (and_parts (not (d || w)) (sound.is_held cs f) h).1

no_closure : (cs : List Class) (t : Typ) → sound.is_sound cs object t ≡ true → is_closure (form_in t) ≡ false
no_closure cs (typ void c v) h = refl
no_closure cs (typ (int k) c v) h = refl
no_closure cs (typ (enum n s) c v) h = refl
no_closure cs (typ null c v) h = refl
no_closure cs (typ (ptr t) c v) h = refl
no_closure cs (typ (ref t) c v) h = refl
no_closure cs (typ (array t n) c v) h = refl
no_closure cs (typ (func s) c v) h = refl
no_closure cs (typ (class n) c v) h = refl
no_closure cs (typ (closure n) c v) h = is_true false _ refl h
no_closure cs (typ (tx_ex t) c v) h = refl

class_known : (cs : List Class) → ((n : ℕ) → is_some (completion_of cs n) ≡ true → IsComplete cs n) → Knows cs (class_ready (length cs) cs false)
class_known cs k n h l = ((k n h).whole (class n) false false refl l).ready

pub made : (c : Ctx) → ((n : ℕ) → is_some (completion_of c.classes n) ≡ true → IsComplete c.classes n) → (t : Typ) → sound.is_sound c.classes object t ≡ true
    → (holds_complete c.classes (form_in t) ≡ true → is_some (size_in c.classes t) ≡ true) → IsObjectTyp c (is_lambda c.classes) t
made c k t h z = record {
  sorted = sorted c.classes t h;
  whole = λ d. both (z d) (ap (λ (r : Bool). is_ready c.classes r t) (no_closure c.classes t h)
      ∙ object_ready c.classes (class_ready (length c.classes) c.classes false) (class_known c.classes k) t h d);
  complete = complete c.classes t h;
}

pub objects_law : ObjectsAreMade
objects_law s c w t h i z = made c h.complete t i z
