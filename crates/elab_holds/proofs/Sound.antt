-- Types that are sound pass the tests that the laws of expressions make.
use Rattle.std.proofs.Common.{arith, ltb-true, lt-ltb, ◌<◌, ◌≡◌, refl, sym, ap, ◌∙◌, ℕ, zero, suc, Bool, true, false, not, ◌&&◌, ◌||◌, nat_lt, List, [], ◌∷◌, length, Option, Some, None, is_some, slice_get, option_and_then}
use Rattle.std.proofs.lemmas.Bool.{and_parts, and_from}
use Rattle.elab_rules.specs.cpp_types.Typ.{Typ, typ, Form, void, int, enum, null, ptr, ref, array, func, class, closure, tx_ex, Signature, signature, Typs, none, more}
use Rattle.elab_rules.specs.cpp_types.Class.{Class, completion_of, typ_below, form_below, signature_below, typs_below}
use Rattle.elab_rules.specs.cpp_tree.Typing.{passes}
use Rattle.elab_rules.specs.Types.{is_nothing}
use Rattle.elab_sound_types.specs.Types.{Use, object, target, variable, parameter, result}
use Rattle.elab_sound_types.specs.Types as sound
use Rattle.elab_fits_forms.specs.Types as forms
use Rattle.elab_contexts.specs.Texts.{is_no_name}
use Rattle.elab_contexts.specs.Steps.{has_name}

-- The same of names

empty_same : (xs : List ℕ) → is_nothing xs ≡ forms.is_empty xs
empty_same [] = refl
empty_same (x ∷ xs) = refl

pub name_same : (xs : List ℕ) → is_no_name xs ≡ forms.is_empty xs
name_same [] = refl
name_same (x ∷ xs) = refl

lambda_by : (o : Option Class) → passes (λ (k : Class). is_nothing k.name) o ≡ passes (λ (k : Class). forms.is_empty k.name) o
lambda_by None = refl
lambda_by (Some k) = empty_same k.name

pub lambda_same : (cs : List Class) (n : ℕ) → sound.is_lambda cs n ≡ forms.is_lambda cs n
lambda_same cs n = lambda_by (slice_get cs n)

-- a class of the list is a lambda's or has a name
named_by : (o : Option Class) → passes (λ (k : Class). forms.is_empty k.name) o ≡ false → is_some o ≡ true → passes (λ (k : Class). not (is_no_name k.name)) o ≡ true
named_by None h e = absurd cc
named_by (Some k) h e = ap not (name_same k.name ∙ h)

pub named_is : (cs : List Class) (n : ℕ) → forms.is_lambda cs n ≡ false → is_some (slice_get cs n) ≡ true → has_name cs n ≡ true
named_is cs n h e = named_by (slice_get cs n) h e

no_lambda_by : (o : Option Class) → passes (λ (k : Class). not (is_no_name k.name)) o ≡ true → passes (λ (k : Class). forms.is_empty k.name) o ≡ false
no_lambda_by None h = absurd cc
no_lambda_by (Some k) h = by k.name h
  where
    by : (xs : List ℕ) → not (is_no_name xs) ≡ true → forms.is_empty xs ≡ false
    by [] e = absurd cc
    by (x ∷ xs) e = refl

pub no_lambda : (cs : List Class) (n : ℕ) → has_name cs n ≡ true → forms.is_lambda cs n ≡ false
no_lambda cs n h = no_lambda_by (slice_get cs n) h

-- Places in the list

place_within : (cs : List Class) (n : ℕ) → is_some (slice_get cs n) ≡ true → n < length cs
place_within [] n h = absurd cc
place_within (c ∷ cs) zero h = omega arith
place_within (c ∷ cs) (suc n) h = let l = place_within cs n h in omega (arith, l)

pub listed : (cs : List Class) (n : ℕ) → is_some (slice_get cs n) ≡ true → nat_lt n (length cs) ≡ true
listed cs n h = lt-ltb n (length cs) (place_within cs n h)

within_place : (cs : List Class) (n : ℕ) → n < length cs → is_some (slice_get cs n) ≡ true
within_place [] n h = absurd (omega (arith, h))
within_place (c ∷ cs) zero h = refl
within_place (c ∷ cs) (suc n) h = within_place cs n (omega (arith, h))

pub found : (cs : List Class) (n : ℕ) → nat_lt n (length cs) ≡ true → is_some (slice_get cs n) ≡ true
found cs n h = within_place cs n (ltb-true n (length cs) h)

some_by : (p : Class → Bool) (o : Option Class) → passes p o ≡ true → is_some o ≡ true
some_by p None h = absurd cc
some_by p (Some k) h = refl

complete_by : (o : Option Class) → is_some (option_and_then (λ (c : Class). c.complete) o) ≡ true → is_some o ≡ true
complete_by None h = absurd cc
complete_by (Some k) h = refl

pub lambda_found : (cs : List Class) (n : ℕ) → forms.is_lambda cs n ≡ true → is_some (slice_get cs n) ≡ true
lambda_found cs n h = some_by (λ (k : Class). forms.is_empty k.name) (slice_get cs n) h

pub complete_found : (cs : List Class) (n : ℕ) → is_some (completion_of cs n) ≡ true → is_some (slice_get cs n) ≡ true
complete_found cs n h = complete_by (slice_get cs n) h

pub name_found : (cs : List Class) (n : ℕ) → has_name cs n ≡ true → is_some (slice_get cs n) ≡ true
name_found cs n h = some_by (λ (k : Class). not (is_no_name k.name)) (slice_get cs n) h

pub not_true : (b : Bool) → not b ≡ true → b ≡ false
not_true false h = refl
not_true true h = absurd cc

pub class_is : (cs : List Class) (n : ℕ) → sound.is_class cs n ≡ true → (nat_lt n (length cs) ≡ true) × (forms.is_lambda cs n ≡ false)
class_is cs n h = let p = and_parts (nat_lt n (length cs)) (not (sound.is_lambda cs n)) h in
    (p.0, sym (lambda_same cs n) ∙ not_true (sound.is_lambda cs n) p.1)

pub class_named : (cs : List Class) (n : ℕ) → sound.is_class cs n ≡ true → has_name cs n ≡ true
class_named cs n h = let p = class_is cs n h in named_is cs n p.1 (found cs n p.0)

pub lambda_is : (cs : List Class) (way : Use) (n : ℕ) → (sound.may_be_lambda way && sound.is_lambda cs n) ≡ true → forms.is_lambda cs n ≡ true
lambda_is cs way n h = sym (lambda_same cs n) ∙ (and_parts (sound.may_be_lambda way) (sound.is_lambda cs n) h).1

-- The value of an exception

pub exception_sound : (cs : List Class) (f : Form) (c v : Bool) → (not (c || v) && sound.is_held cs f) ≡ true → forms.is_exception_value cs (typ f c v) ≡ true
exception_sound cs (int k) false false h = refl
exception_sound cs (enum n s) false false h = refl
exception_sound cs (class n) false false h = let p = and_parts (is_some (completion_of cs n)) (not (sound.is_lambda cs n)) h in
    and_from (is_some (completion_of cs n)) (not (forms.is_lambda cs n)) p.0 (ap not (sym (lambda_same cs n)) ∙ p.1)
exception_sound cs f true v h = absurd (no_true h)
  where
    no_true : false ≡ true → ⊥
    no_true e = absurd cc
exception_sound cs f false true h = absurd (no_true h)
  where
    no_true : false ≡ true → ⊥
    no_true e = absurd cc
exception_sound cs void false false h = absurd cc
exception_sound cs null false false h = absurd cc
exception_sound cs (ptr t) false false h = absurd cc
exception_sound cs (ref t) false false h = absurd cc
exception_sound cs (array t n) false false h = absurd cc
exception_sound cs (func s) false false h = absurd cc
exception_sound cs (closure n) false false h = absurd cc
exception_sound cs (tx_ex t) false false h = absurd cc

-- Types

abbrev no_more : Use → Type 0
no_more way = (sound.may_be_void way ≡ false) × (sound.may_refer way ≡ false)

pub both_true : (a b : Bool) (A : Type 0) → a ≡ false → (a && b) ≡ true → A
both_true false b A e h = absurd cc
both_true true b A e h = absurd cc

pub is_true : (a : Bool) (A : Type 0) → a ≡ false → a ≡ true → A
is_true false A e h = absurd cc
is_true true A e h = absurd cc

mutual
  pub form_sound : (cs : List Class) (way : Use) (own : Bool) (f : Form) → sound.is_sound_form cs way own f ≡ true → forms.is_sound_form cs f ≡ true
  form_sound cs way own void h = refl
  form_sound cs way own (int k) h = refl
  form_sound cs way own (enum n s) h = refl
  form_sound cs way own null h = refl
  form_sound cs way own (ptr t) h = target_by cs target t (refl, refl) h
  form_sound cs way own (ref t) h = let p = and_parts (sound.may_refer way) (not own && sound.is_sound cs target t) h in
      target_by cs target t (refl, refl) (and_parts (not own) (sound.is_sound cs target t) p.1).1
  form_sound cs way own (array t n) h = let p = and_parts (sound.may_be_array way n) (not own && sound.is_sound cs object t) h in
      target_by cs object t (refl, refl) (and_parts (not own) (sound.is_sound cs object t) p.1).1
  form_sound cs way own (func s) h = let p = and_parts (sound.may_be_function way) (not own && sound.is_sound_signature cs s) h in
      signature_sound cs s (and_parts (not own) (sound.is_sound_signature cs s) p.1).1
  form_sound cs way own (class n) h = ap not (class_is cs n h).1
  form_sound cs way own (closure n) h = lambda_is cs way n h
  form_sound cs way own (tx_ex (typ f c v)) h = exception_sound cs f c v h

  target_by : (cs : List Class) (way : Use) (t : Typ) → no_more way → sound.is_sound cs way t ≡ true → forms.is_target cs t ≡ true
  target_by cs way (typ void c v) q h = is_true (sound.may_be_void way) _ q.0 h
  target_by cs way (typ (ref t) c v) q h = both_true (sound.may_refer way) _ _ q.1 h
  target_by cs way (typ (int k) c v) q h = refl
  target_by cs way (typ (enum n s) c v) q h = refl
  target_by cs way (typ null c v) q h = refl
  target_by cs way (typ (ptr t) c v) q h = form_sound cs way (c || v) (ptr t) h
  target_by cs way (typ (array t n) c v) q h = form_sound cs way (c || v) (array t n) h
  target_by cs way (typ (func s) c v) q h = form_sound cs way (c || v) (func s) h
  target_by cs way (typ (class n) c v) q h = form_sound cs way (c || v) (class n) h
  target_by cs way (typ (closure n) c v) q h = form_sound cs way (c || v) (closure n) h
  target_by cs way (typ (tx_ex t) c v) q h = form_sound cs way (c || v) (tx_ex t) h

  pub signature_sound : (cs : List Class) (s : Signature) → sound.is_sound_signature cs s ≡ true → forms.is_sound_signature cs s ≡ true
  signature_sound cs (signature ps r safe) h = let p = and_parts (sound.are_sound cs ps) (sound.is_sound cs result r) h in
      and_from (forms.are_parameters cs ps) (forms.is_result cs r) (parameters_sound cs ps p.0) (result_sound cs r p.1)

  pub parameters_sound : (cs : List Class) (ps : Typs) → sound.are_sound cs ps ≡ true → forms.are_parameters cs ps ≡ true
  parameters_sound cs none h = refl
  parameters_sound cs (more t ts) h =
      let p = and_parts (sound.is_unqualified t) (sound.is_sound cs parameter t && sound.are_sound cs ts) h in
      let q = and_parts (sound.is_sound cs parameter t) (sound.are_sound cs ts) p.1 in
      and_from (forms.is_parameter cs t) (forms.are_parameters cs ts) (parameter_sound cs t q.0) (parameters_sound cs ts q.1)

  pub parameter_sound : (cs : List Class) (t : Typ) → sound.is_sound cs parameter t ≡ true → forms.is_parameter cs t ≡ true
  parameter_sound cs (typ void c v) h = absurd cc
  parameter_sound cs (typ (array t n) c v) h = is_true false _ refl h
  parameter_sound cs (typ (func s) c v) h = is_true false _ refl h
  parameter_sound cs (typ (int k) c v) h = refl
  parameter_sound cs (typ (enum n s) c v) h = refl
  parameter_sound cs (typ null c v) h = refl
  parameter_sound cs (typ (ptr t) c v) h = form_sound cs parameter (c || v) (ptr t) h
  parameter_sound cs (typ (ref t) c v) h = form_sound cs parameter (c || v) (ref t) h
  parameter_sound cs (typ (class n) c v) h = form_sound cs parameter (c || v) (class n) h
  parameter_sound cs (typ (closure n) c v) h = form_sound cs parameter (c || v) (closure n) h
  parameter_sound cs (typ (tx_ex t) c v) h = form_sound cs parameter (c || v) (tx_ex t) h

  pub result_sound : (cs : List Class) (t : Typ) → sound.is_sound cs result t ≡ true → forms.is_result cs t ≡ true
  result_sound cs (typ (array t n) c v) h = is_true false _ refl h
  result_sound cs (typ (func s) c v) h = is_true false _ refl h
  result_sound cs (typ void c v) h = refl
  result_sound cs (typ (int k) c v) h = refl
  result_sound cs (typ (enum n s) c v) h = refl
  result_sound cs (typ null c v) h = refl
  result_sound cs (typ (ptr t) c v) h = form_sound cs result (c || v) (ptr t) h
  result_sound cs (typ (ref t) c v) h = form_sound cs result (c || v) (ref t) h
  result_sound cs (typ (class n) c v) h = form_sound cs result (c || v) (class n) h
  result_sound cs (typ (closure n) c v) h = form_sound cs result (c || v) (closure n) h
  result_sound cs (typ (tx_ex t) c v) h = form_sound cs result (c || v) (tx_ex t) h

pub typ_sound : (cs : List Class) (way : Use) (t : Typ) → sound.is_sound cs way t ≡ true → forms.is_sound cs t ≡ true
typ_sound cs way (typ f c v) h = form_sound cs way (c || v) f h

pub target_sound : (cs : List Class) (t : Typ) → sound.is_sound cs target t ≡ true → forms.is_target cs t ≡ true
target_sound cs t h = target_by cs target t (refl, refl) h

-- what is declared as a variable
pub declared_sound : (cs : List Class) (way : Use) (t : Typ) → sound.may_be_void way ≡ false → sound.is_sound cs way t ≡ true → forms.is_declared cs t ≡ true
declared_sound cs way (typ void c v) q h = is_true (sound.may_be_void way) _ q h
declared_sound cs way (typ (int k) c v) q h = refl
declared_sound cs way (typ (enum n s) c v) q h = refl
declared_sound cs way (typ null c v) q h = refl
declared_sound cs way (typ (ptr t) c v) q h = form_sound cs way (c || v) (ptr t) h
declared_sound cs way (typ (ref t) c v) q h = form_sound cs way (c || v) (ref t) h
declared_sound cs way (typ (array t n) c v) q h = form_sound cs way (c || v) (array t n) h
declared_sound cs way (typ (func s) c v) q h = form_sound cs way (c || v) (func s) h
declared_sound cs way (typ (class n) c v) q h = form_sound cs way (c || v) (class n) h
declared_sound cs way (typ (closure n) c v) q h = form_sound cs way (c || v) (closure n) h
declared_sound cs way (typ (tx_ex t) c v) q h = form_sound cs way (c || v) (tx_ex t) h

-- Classes in types are of the list

mutual
  pub typ_listed : (cs : List Class) (way : Use) (t : Typ) → sound.is_sound cs way t ≡ true → typ_below (length cs) t ≡ true
  typ_listed cs way (typ f c v) h = form_listed cs way (c || v) f h

  form_listed : (cs : List Class) (way : Use) (own : Bool) (f : Form) → sound.is_sound_form cs way own f ≡ true → form_below (length cs) f ≡ true
  form_listed cs way own void h = refl
  form_listed cs way own (int k) h = refl
  form_listed cs way own (enum n s) h = refl
  form_listed cs way own null h = refl
  form_listed cs way own (ptr t) h = typ_listed cs target t h
  form_listed cs way own (ref t) h = let p = and_parts (sound.may_refer way) (not own && sound.is_sound cs target t) h in
      typ_listed cs target t (and_parts (not own) (sound.is_sound cs target t) p.1).1
  form_listed cs way own (array t n) h = let p = and_parts (sound.may_be_array way n) (not own && sound.is_sound cs object t) h in
      typ_listed cs object t (and_parts (not own) (sound.is_sound cs object t) p.1).1
  form_listed cs way own (func s) h = let p = and_parts (sound.may_be_function way) (not own && sound.is_sound_signature cs s) h in
      signature_listed cs s (and_parts (not own) (sound.is_sound_signature cs s) p.1).1
  form_listed cs way own (class n) h = (class_is cs n h).0
  form_listed cs way own (closure n) h = listed cs n (lambda_found cs n (lambda_is cs way n h))
  form_listed cs way own (tx_ex (typ f c v)) h = held_listed cs f (and_parts (not (c || v)) (sound.is_held cs f) h).1

  held_listed : (cs : List Class) (f : Form) → sound.is_held cs f ≡ true → form_below (length cs) f ≡ true
  held_listed cs (int k) h = refl
  held_listed cs (enum n s) h = refl
  held_listed cs (class n) h = listed cs n (complete_found cs n (and_parts (is_some (completion_of cs n)) (not (sound.is_lambda cs n)) h).0)
  held_listed cs void h = absurd cc
  held_listed cs null h = absurd cc
  held_listed cs (ptr t) h = absurd cc
  held_listed cs (ref t) h = absurd cc
  held_listed cs (array t n) h = absurd cc
  held_listed cs (func s) h = absurd cc
  held_listed cs (closure n) h = absurd cc
  held_listed cs (tx_ex t) h = absurd cc

  pub signature_listed : (cs : List Class) (s : Signature) → sound.is_sound_signature cs s ≡ true → signature_below (length cs) s ≡ true
  signature_listed cs (signature ps r safe) h = let p = and_parts (sound.are_sound cs ps) (sound.is_sound cs result r) h in
      and_from (typs_below (length cs) ps) (typ_below (length cs) r) (typs_listed cs ps p.0) (typ_listed cs result r p.1)

  typs_listed : (cs : List Class) (ps : Typs) → sound.are_sound cs ps ≡ true → typs_below (length cs) ps ≡ true
  typs_listed cs none h = refl
  typs_listed cs (more t ts) h =
      let p = and_parts (sound.is_unqualified t) (sound.is_sound cs parameter t && sound.are_sound cs ts) h in
      let q = and_parts (sound.is_sound cs parameter t) (sound.are_sound cs ts) p.1 in
      and_from (typ_below (length cs) t) (typs_below (length cs) ts) (typ_listed cs parameter t q.0) (typs_listed cs ts q.1)
