-- The list of classes stays in order where a class is begun, and where one is completed.
use Rattle.std.proofs.Common.{◌≡◌, ◌∙◌, ℕ, zero, suc, ◌+◌, ◌≤◌, Bool, true, false, ◌&&◌, length, List, [], ◌∷◌, ◌++◌, set, Option, Some, None, is_none}
use Rattle.std.proofs.Common.{slice_get, refl, sym, ap, arith, length-append, lt-ltb, ◌⊎◌, inl, inr}
use Rattle.std.specs.Prelude.{nat_lt, option_and_then}
use Rattle.std.specs.List.{list_all}
use Rattle.std.proofs.lemmas.Bool.{and_parts, ltb-true}
use Rattle.std.proofs.lemmas.List.{length-set}
use Rattle.cpp_types.specs.Typ.{Typ, typ, Form, void, int, enum, null, ptr, ref, array, func, class, closure, tx_ex, Signature, signature, Typs, none, more}
use Rattle.cpp_types.specs.Class.{Class, Member, Function, completion_of, held, typ_below, form_below, signature_below, typs_below}
use Rattle.cpp_types.specs.Order.{each_passes, one_passes, is_below, members_below, functions_below, class_below, is_complete_below, members_earlier}
use Rattle.cpp_types.specs.Order.{holds_earlier, is_consistent, all_consistent}
use Rattle.elab_init.specs.elab_rules.Classes.{class_named}
use Rattle.class_records.specs.Within.{may_stand, may_follow}

both : (a b : Bool) → a ≡ true → b ≡ true → (a && b) ≡ true
both true true h g = refl
both true false h g = absurd cc
both false b h g = absurd cc

-- Tests that all pass

all_all : {A : Type 0} (p q : A → Bool) (xs : List A) → list_all p xs ≡ true → ((x : A) → p x ≡ true → q x ≡ true) → list_all q xs ≡ true
all_all p q [] h f = refl
all_all p q (x ∷ xs) h f = let a = and_parts (p x) (list_all p xs) h in both (q x) (list_all q xs) (f x a.0) (all_all p q xs a.1 f)

all_set : {A : Type 0} (p q : A → Bool) (xs : List A) (n : ℕ) (c : A) → list_all p xs ≡ true → ((x : A) → p x ≡ true → q x ≡ true) → q c ≡ true
    → list_all q (set xs n c) ≡ true
all_set p q [] n c h f g = refl
all_set p q (x ∷ xs) zero c h f g = let a = and_parts (p x) (list_all p xs) h in both (q c) (list_all q xs) g (all_all p q xs a.1 f)
all_set p q (x ∷ xs) (suc n) c h f g = let a = and_parts (p x) (list_all p xs) h in both (q x) (list_all q (set xs n c)) (f x a.0) (all_set p q xs n c a.1 f g)

all_push : {A : Type 0} (p q : A → Bool) (xs : List A) (c : A) → list_all p xs ≡ true → ((x : A) → p x ≡ true → q x ≡ true) → q c ≡ true
    → list_all q (xs ++ c ∷ []) ≡ true
all_push p q [] c h f g = both (q c) true g refl
all_push p q (x ∷ xs) c h f g = let a = and_parts (p x) (list_all p xs) h in both (q x) (list_all q (xs ++ c ∷ [])) (f x a.0) (all_push p q xs c a.1 f g)

each_each : (p q : ℕ → Bool) (o : Option ℕ) → each_passes p o ≡ true → ((x : ℕ) → p x ≡ true → q x ≡ true) → each_passes q o ≡ true
each_each p q None h f = refl
each_each p q (Some n) h f = f n h

holds_more : (classes others : List Class) (limit : ℕ) (c : Class)
    → ((m : ℕ) → is_complete_below classes limit m ≡ true → is_complete_below others limit m ≡ true) → holds_earlier classes c limit ≡ true
    → holds_earlier others c limit ≡ true
holds_more classes others limit c f h =
    let a = and_parts (each_passes (is_complete_below classes limit) c.base) (members_earlier classes limit c.members) h in
    both (each_passes (is_complete_below others limit) c.base) (members_earlier others limit c.members)
    (each_each (is_complete_below classes limit) (is_complete_below others limit) c.base a.0 f)
    (all_all (λ (x : Member). each_passes (is_complete_below classes limit) (held x.typ))
    (λ (x : Member). each_passes (is_complete_below others limit) (held x.typ)) c.members a.1
    (λ x e. each_each (is_complete_below classes limit) (is_complete_below others limit) (held x.typ) e f))

complete_more : (classes others : List Class) (c : Class) (o : Option ℕ)
    → ((limit m : ℕ) → is_complete_below classes limit m ≡ true → is_complete_below others limit m ≡ true) → each_passes (holds_earlier classes c) o ≡ true
    → each_passes (holds_earlier others c) o ≡ true
complete_more classes others c None f h = refl
complete_more classes others c (Some k) f h = holds_more classes others k c (f k) h

-- A class in the place of another

set_other : {A : Type 0} (xs : List A) (n m : ℕ) (c : A) → (m ≡ n → ⊥) → slice_get (set xs n c) m ≡ slice_get xs m
set_other [] n m c h = refl
set_other (x ∷ xs) zero zero c h = absurd (h refl)
set_other (x ∷ xs) zero (suc m) c h = refl
set_other (x ∷ xs) (suc n) zero c h = refl
set_other (x ∷ xs) (suc n) (suc m) c h = set_other xs n m c (λ e. h (ap suc e))

same_or_other : (m n : ℕ) → (m ≡ n) ⊎ (m ≡ n → ⊥)
same_or_other zero zero = inl refl
same_or_other zero (suc n) = inr (λ e. absurd cc)
same_or_other (suc m) zero = inr (λ e. absurd cc)
same_or_other (suc m) (suc n) = later (same_or_other m n)
  where
    later : (m ≡ n) ⊎ (m ≡ n → ⊥) → (suc m ≡ suc n) ⊎ (suc m ≡ suc n → ⊥)
    later (inl e) = inl (ap suc e)
    later (inr f) = inr (λ e. f (omega (arith, e)))

none_passes : (p : ℕ → Bool) (o : Option ℕ) → is_none o ≡ true → one_passes p o ≡ true → ⊥
none_passes p None h g = absurd cc
none_passes p (Some k) h g = absurd cc

still_by : (classes : List Class) (n : ℕ) (c : Class) → is_none (completion_of classes n) ≡ true → (limit m : ℕ) → (m ≡ n) ⊎ (m ≡ n → ⊥)
    → is_complete_below classes limit m ≡ true → is_complete_below (set classes n c) limit m ≡ true
still_by classes n c h limit m (inl e) g = absurd (none_passes (is_below limit) (completion_of classes n) h
    (ap (λ z. one_passes (is_below limit) (completion_of classes z)) (sym e) ∙ g))
still_by classes n c h limit m (inr f) g = ap (λ z. one_passes (is_below limit) (option_and_then (λ (x : Class). x.complete) z)) (set_other classes n m c f) ∙ g

pub renewed : (classes : List Class) (n k : ℕ) (c : Class) → all_consistent classes ≡ true → may_stand classes n k c ≡ true → c.complete ≡ Some k
    → all_consistent (set classes n c) ≡ true
renewed classes n k c h s e =
    let a = and_parts (nat_lt n (length classes)) (is_none (completion_of classes n) && (class_below (length classes) c && holds_earlier classes c k)) s in
    let b = and_parts (is_none (completion_of classes n)) (class_below (length classes) c && holds_earlier classes c k) a.1 in
    let d = and_parts (class_below (length classes) c) (holds_earlier classes c k) b.1 in
    let still : (limit m : ℕ) → is_complete_below classes limit m ≡ true → is_complete_below (set classes n c) limit m ≡ true =
    λ limit m. still_by classes n c b.0 limit m (same_or_other m n) in
    let same : (x : Class) → class_below (length classes) x ≡ true → class_below (length (set classes n c)) x ≡ true =
    λ x g. ap (λ z. class_below z x) (length-set classes n c) ∙ g in
    all_set (is_consistent classes) (is_consistent (set classes n c)) classes n c h
    (λ x g. let p = and_parts (class_below (length classes) x) (each_passes (holds_earlier classes x) x.complete) g in
    both (class_below (length (set classes n c)) x) (each_passes (holds_earlier (set classes n c) x) x.complete) (same x p.0)
    (complete_more classes (set classes n c) x x.complete still p.1))
    (both (class_below (length (set classes n c)) c) (each_passes (holds_earlier (set classes n c) c) c.complete) (same c d.0)
    (ap (each_passes (holds_earlier (set classes n c) c)) e ∙ holds_more classes (set classes n c) k c (still k) d.1))

-- One more class

below_more : (n m k : ℕ) → m ≤ k → nat_lt n m ≡ true → nat_lt n k ≡ true
below_more n m k h e = let g = ltb-true n m e in lt-ltb n k (omega (arith, g, h))

mutual
  typ_more : (m k : ℕ) (t : Typ) → m ≤ k → typ_below m t ≡ true → typ_below k t ≡ true
  typ_more m k (typ f c v) h e = form_more m k f h e

  form_more : (m k : ℕ) (f : Form) → m ≤ k → form_below m f ≡ true → form_below k f ≡ true
  form_more m k void h e = refl
  form_more m k (int j) h e = refl
  form_more m k (enum n s) h e = refl
  form_more m k null h e = refl
  form_more m k (ptr t) h e = typ_more m k t h e
  form_more m k (ref t) h e = typ_more m k t h e
  form_more m k (array t n) h e = typ_more m k t h e
  form_more m k (tx_ex t) h e = typ_more m k t h e
  form_more m k (func s) h e = signature_more m k s h e
  form_more m k (class n) h e = below_more n m k h e
  form_more m k (closure n) h e = below_more n m k h e

  signature_more : (m k : ℕ) (s : Signature) → m ≤ k → signature_below m s ≡ true → signature_below k s ≡ true
  signature_more m k (signature ps r safe) h e = let a = and_parts (typs_below m ps) (typ_below m r) e in
      both (typs_below k ps) (typ_below k r) (typs_more m k ps h a.0) (typ_more m k r h a.1)

  typs_more : (m k : ℕ) (ts : Typs) → m ≤ k → typs_below m ts ≡ true → typs_below k ts ≡ true
  typs_more m k none h e = refl
  typs_more m k (more t ts) h e = let a = and_parts (typ_below m t) (typs_below m ts) e in
      both (typ_below k t) (typs_below k ts) (typ_more m k t h a.0) (typs_more m k ts h a.1)

class_more : (m k : ℕ) (c : Class) → m ≤ k → class_below m c ≡ true → class_below k c ≡ true
class_more m k c h e =
    let a = and_parts (each_passes (is_below m) c.base) (members_below m c.members && functions_below m c.functions) e in
    let b = and_parts (members_below m c.members) (functions_below m c.functions) a.1 in
    both (each_passes (is_below k) c.base) (members_below k c.members && functions_below k c.functions)
    (each_each (is_below m) (is_below k) c.base a.0 (λ n. below_more n m k h))
    (both (members_below k c.members) (functions_below k c.functions)
    (all_all (λ (x : Member). typ_below m x.typ) (λ (x : Member). typ_below k x.typ) c.members b.0 (λ x. typ_more m k x.typ h))
    (all_all (λ (x : Function). signature_below m x.signature) (λ (x : Function). signature_below k x.signature) c.functions b.1
    (λ x. signature_more m k x.signature h)))

longer : {A : Type 0} (xs ys : List A) → length xs ≤ length (xs ++ ys)
longer [] ys = omega arith
longer (x ∷ xs) ys = let h = longer xs ys in omega (arith, h)

none_there : (m : ℕ) → completion_of [] m ≡ None
none_there zero = refl
none_there (suc m) = refl

kept_by : (p : ℕ → Bool) (xs ys : List Class) (m : ℕ) → one_passes p (completion_of xs m) ≡ true → one_passes p (completion_of (xs ++ ys) m) ≡ true
kept_by p [] ys m h = absurd (let e : one_passes p (completion_of [] m) ≡ false = ap (one_passes p) (none_there m) in cc)
kept_by p (x ∷ xs) ys zero h = h
kept_by p (x ∷ xs) ys (suc m) h = kept_by p xs ys m h

pub one_more : (classes : List Class) (name : List ℕ) → all_consistent classes ≡ true
    → all_consistent (classes ++ class_named name None false [] [] None ∷ []) ≡ true
one_more classes name h =
    let others = classes ++ class_named name None false [] [] None ∷ [] in
    all_push (is_consistent classes) (is_consistent others) classes (class_named name None false [] [] None) h
    (λ x g. let p = and_parts (class_below (length classes) x) (each_passes (holds_earlier classes x) x.complete) g in
    both (class_below (length others) x) (each_passes (holds_earlier others x) x.complete)
    (class_more (length classes) (length others) x (longer classes _) p.0)
    (complete_more classes others x x.complete (λ limit m. kept_by (is_below limit) classes _ m) p.1))
    refl

pub follows : (classes : List Class) (c : Class) → all_consistent classes ≡ true → may_follow classes c ≡ true → all_consistent (classes ++ c ∷ []) ≡ true
follows classes c h s =
    let others = classes ++ c ∷ [] in
    let long : length classes + 1 ≤ length others = simp length-append (omega arith) in
    let a = and_parts (class_below (length classes + 1) c) (each_passes (holds_earlier classes c) c.complete) s in
    all_push (is_consistent classes) (is_consistent others) classes c h
    (λ x g. let p = and_parts (class_below (length classes) x) (each_passes (holds_earlier classes x) x.complete) g in
    both (class_below (length others) x) (each_passes (holds_earlier others x) x.complete)
    (class_more (length classes) (length others) x (longer classes _) p.0)
    (complete_more classes others x x.complete (λ limit m. kept_by (is_below limit) classes _ m) p.1))
    (both (class_below (length others) c) (each_passes (holds_earlier others c) c.complete) (class_more (length classes + 1) (length others) c long a.0)
    (complete_more classes others c c.complete (λ limit m. kept_by (is_below limit) classes _ m) a.1))
