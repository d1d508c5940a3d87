-- Types stay sound where classes are added.
use Rattle.std.proofs.Common.{◌≡◌, refl, ap, ◌∙◌, ℕ, zero, suc, Bool, true, not, ◌&&◌, ◌||◌, nat_lt, List, [], ◌∷◌, length, is_some, arith}
use Rattle.std.proofs.lemmas.Bool.{and_parts, lt-ltb, ltb-true}
use Rattle.std.proofs.Math.Nat.{le_trans, le_refl}
use Rattle.elab_rules.specs.cpp_types.Typ.{Typ, typ, Form, void, int, enum, null, ptr, ref, array, func, class, closure, tx_ex, Signature, signature, Typs}
use Rattle.elab_rules.specs.cpp_types.Typ.{none as no_typs, more as and_typ}
use Rattle.elab_rules.specs.cpp_types.Class.{Class, completion_of}
use Rattle.elab_sound_types.specs.Types.{Use, object, target, parameter, result, may_refer, may_be_array, may_be_function, may_be_lambda, is_lambda, is_class}
use Rattle.elab_sound_types.specs.Types.{is_held, is_sound, is_sound_form, is_sound_signature, are_sound, is_unqualified}
use Rattle.elab_sound_types.specs.States.{Kept, Grown}
use Rattle.elab_sound_types.proofs.Sound.{both}

-- Numbers of classes

first_within : (k : ℕ) → nat_lt 0 (suc k) ≡ true
first_within k = lt-ltb 0 (suc k) (omega arith)

next_within : (k l : ℕ) → nat_lt k l ≡ true → nat_lt (suc k) (suc l) ≡ true
next_within k l h = let lt = ltb-true k l h in lt-ltb (suc k) (suc l) (omega arith)

-- a lambda's class is declared
pub lambda_within : (xs : List Class) (k : ℕ) → is_lambda xs k ≡ true → nat_lt k (length xs) ≡ true
lambda_within [] k h = absurd cc
lambda_within (x ∷ xs) zero h = first_within (length xs)
lambda_within (x ∷ xs) (suc k) h = next_within k (length xs) (lambda_within xs k h)

-- so is a complete class
pub complete_within : (xs : List Class) (k : ℕ) → is_some (completion_of xs k) ≡ true → nat_lt k (length xs) ≡ true
complete_within [] k h = absurd cc
complete_within (x ∷ xs) zero h = first_within (length xs)
complete_within (x ∷ xs) (suc k) h = next_within k (length xs) (complete_within xs k h)

-- what an exception may hold is an object of a class that is declared
pub held_class : (xs : List Class) (k : ℕ) → is_held xs (class k) ≡ true → is_class xs k ≡ true
held_class xs k h = let p = and_parts (is_some (completion_of xs k)) (not (is_lambda xs k)) h in both (complete_within xs k p.0) p.1

module _ (old new : List Class) (l : Kept old new) where
  number_more : (k : ℕ) → nat_lt k (length old) ≡ true → nat_lt k (length new) ≡ true
  number_more k h = lt-ltb k (length new) (le_trans (ltb-true k (length old) h) l.longer)

  pub lambda_more : (k : ℕ) → is_lambda old k ≡ true → is_lambda new k ≡ true
  lambda_more k h = l.names k (lambda_within old k h) ∙ h

  named_more : (k : ℕ) → nat_lt k (length old) ≡ true → not (is_lambda old k) ≡ true → not (is_lambda new k) ≡ true
  named_more k i h = ap not (l.names k i) ∙ h

  pub class_more : (k : ℕ) → is_class old k ≡ true → is_class new k ≡ true
  class_more k h = let p = and_parts (nat_lt k (length old)) (not (is_lambda old k)) h in both (number_more k p.0) (named_more k p.0 p.1)

  held_more : (f : Form) → is_held old f ≡ true → is_held new f ≡ true
  held_more (int k) h = refl
  held_more (enum e s) h = refl
  held_more (class k) h = let p = and_parts (is_some (completion_of old k)) (not (is_lambda old k)) h in
      both (l.complete k p.0) (named_more k (complete_within old k p.0) p.1)
  held_more void h = absurd cc
  held_more null h = absurd cc
  held_more (ptr t) h = absurd cc
  held_more (ref t) h = absurd cc
  held_more (array t k) h = absurd cc
  held_more (func s) h = absurd cc
  held_more (closure k) h = absurd cc
  held_more (tx_ex t) h = absurd cc

  mutual
    pub sound_more : (way : Use) (t : Typ) → is_sound old way t ≡ true → is_sound new way t ≡ true
    sound_more way (typ f c v) h = form_more way (c || v) f h

    form_more : (way : Use) (own : Bool) (f : Form) → is_sound_form old way own f ≡ true → is_sound_form new way own f ≡ true
    form_more way own void h = h
    form_more way own (int k) h = refl
    form_more way own (enum e s) h = refl
    form_more way own null h = refl
    form_more way own (ptr t) h = sound_more target t h
    form_more way own (ref t) h = let p = and_parts (may_refer way) (not own && is_sound old target t) h in
        let q = and_parts (not own) (is_sound old target t) p.1 in both p.0 (both q.0 (sound_more target t q.1))
    form_more way own (array t k) h = let p = and_parts (may_be_array way k) (not own && is_sound old object t) h in
        let q = and_parts (not own) (is_sound old object t) p.1 in both p.0 (both q.0 (sound_more object t q.1))
    form_more way own (func s) h = let p = and_parts (may_be_function way) (not own && is_sound_signature old s) h in
        let q = and_parts (not own) (is_sound_signature old s) p.1 in both p.0 (both q.0 (signature_more s q.1))
    form_more way own (class k) h = class_more k h
    form_more way own (closure k) h = let p = and_parts (may_be_lambda way) (is_lambda old k) h in both p.0 (lambda_more k p.1)
    form_more way own (tx_ex (typ f c v)) h = let p = and_parts (not (c || v)) (is_held old f) h in both p.0 (held_more f p.1)

    pub signature_more : (s : Signature) → is_sound_signature old s ≡ true → is_sound_signature new s ≡ true
    signature_more (signature ps r safe) h = let p = and_parts (are_sound old ps) (is_sound old result r) h in
        both (typs_more ps p.0) (sound_more result r p.1)

    typs_more : (ts : Typs) → are_sound old ts ≡ true → are_sound new ts ≡ true
    typs_more no_typs h = refl
    typs_more (and_typ t ts) h = let p = and_parts (is_unqualified t) (is_sound old parameter t && are_sound old ts) h in
        let q = and_parts (is_sound old parameter t) (are_sound old ts) p.1 in both p.0 (both (sound_more parameter t q.0) (typs_more ts q.1))

-- What is added, step by step

pub kept_same : (xs : List Class) → Kept xs xs
kept_same xs = record { longer = le_refl (length xs); names = λ k h. refl; complete = λ k h. h }

pub kept_joined : (xs ys zs : List Class) → Kept xs ys → Kept ys zs → Kept xs zs
kept_joined xs ys zs h g = record {
  longer = le_trans h.longer g.longer;
  names = λ k i. g.names k (number_more xs ys h k i) ∙ h.names k i;
  complete = λ k i. g.complete k (h.complete k i);
}

pub grown_same : (b : Bool) (xs : List Class) → Grown b xs xs
grown_same b xs = record { kept = kept_same xs; same = λ i. refl }

pub grown_joined : (b : Bool) (xs ys zs : List Class) → Grown b xs ys → Grown b ys zs → Grown b xs zs
grown_joined b xs ys zs h g = record { kept = kept_joined xs ys zs h.kept g.kept; same = λ i. g.same i ∙ h.same i }

pub grown_sound : (b : Bool) (xs ys : List Class) (way : Use) (t : Typ) → Grown b xs ys → is_sound xs way t ≡ true → is_sound ys way t ≡ true
grown_sound b xs ys way t g h = sound_more xs ys g.kept way t h
