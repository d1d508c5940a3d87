-- What places of lists and addresses find.
use Rattle.std.proofs.Common.{ℕ, zero, suc, ◌≡◌, ◌+◌, ◌-◌, ◌*◌, ◌/◌, ◌%◌, ◌<◌, ◌≤◌, ◌==◌, Bool, true, false, cond, refl, ap, sym, ◌∙◌, List, [], ◌∷◌, length}
use Rattle.std.proofs.Common.{Option, Some, None, arith}
use Rattle.std.specs.Prelude.{slice_get, ◌&&◌, nat_le, nat_eq, if◌then◌else◌, option_and_then, option_map}
use Rattle.std.specs.List.{list_all}
use Rattle.std.proofs.lemmas.Bool.{and_parts, eqb-true, leb-true, eq-eqb}
use Rattle.tx_code.specs.Program.{number_at}
use Rattle.cpp_tree.specs.cpp_types.Typ.{Typ}
use Rattle.cpp_tree.specs.cpp_types.Equal.{flag_eq, name_eq}
use Rattle.cpp_tree.specs.Units.{Definition}
use Rattle.src_mean.specs.Links.{Def, numbered}
use Rattle.src_bind.proofs.Entries.{numbered_hit, numbered_miss}
use Rattle.image_links.specs.Books.{first_place, all_places, same_number, first_class, first_typ}

-- ---- places

pub all_at : {A : Type 0} (test : ℕ → Bool) (k : ℕ) (xs : List A) (n : ℕ) → all_places test k xs ≡ true → n < length xs → test (k + n) ≡ true
all_at test k [] n h l = absurd (omega (arith, l))
all_at test k (x ∷ xs) zero h l = ap test (none k) ∙ (and_parts (test k) (all_places test (suc k) xs) h).0
  where
    none : (k : ℕ) → k + 0 ≡ k
    none k = omega arith
all_at test k (x ∷ xs) (suc n) h l = ap test (next k n) ∙ all_at test (suc k) xs n (and_parts (test k) (all_places test (suc k) xs) h).1 (less (length xs) l)
  where
    next : (k n : ℕ) → k + suc n ≡ suc k + n
    next k n = omega arith

    less : (m : ℕ) → suc n < suc m → n < m
    less m h = omega (arith, h)

same_some : {X : Type 0} (x y : X) → ◌≡◌ {A = Option X} (Some x) (Some y) → x ≡ y
same_some x y e = cc

chosen : {X : Type 0} (test : X → Bool) (x n : X) (rest : Option X) → cond (test x) (Some x) rest ≡ Some n → (rest ≡ Some n → test n ≡ true) → test n ≡ true
chosen test x n rest e go = by_test (test x) refl e
  where
    by_test : (b : Bool) → test x ≡ b → cond b (Some x) rest ≡ Some n → test n ≡ true
    by_test true is e = ap test (sym (same_some x n e)) ∙ is
    by_test false is e = go e

chosen_holds : {X : Type 0} (good : X → Bool) (b : Bool) (x n : X) (rest : Option X) → good x ≡ true → cond b (Some x) rest ≡ Some n
    → (rest ≡ Some n → good n ≡ true) → good n ≡ true
chosen_holds good true x n rest h e go = ap good (sym (same_some x n e)) ∙ h
chosen_holds good false x n rest h e go = go e

pub first_is : {A : Type 0} (test : ℕ → Bool) (k : ℕ) (xs : List A) (n : ℕ) → first_place test k xs ≡ Some n → test n ≡ true
first_is test k [] n e = absurd cc
first_is test k (x ∷ xs) n e = chosen test k n (first_place test (suc k) xs) e (first_is test (suc k) xs n)

pub class_is : (test : ℕ → Bool) (ds : List Definition) (n : ℕ) → first_class test ds ≡ Some n → test n ≡ true
class_is test [] n e = absurd cc
class_is test (d ∷ ds) n e = chosen test d.class n (first_class test ds) e (class_is test ds n)

-- what holds of each class that is defined holds of the first one
pub class_holds : (test good : ℕ → Bool) (ds : List Definition) (n : ℕ) → list_all (λ (d : Definition). good d.class) ds ≡ true → first_class test ds ≡ Some n
    → good n ≡ true
class_holds test good [] n h e = absurd cc
class_holds test good (d ∷ ds) n h e =
    let both = and_parts (good d.class) (list_all (λ (d : Definition). good d.class) ds) h in
    chosen_holds good (test d.class) d.class n (first_class test ds) both.0 e (class_holds test good ds n both.1)

pub typ_is : (test : Typ → Bool) (ts : List Typ) (t : Typ) → first_typ test ts ≡ Some t → test t ≡ true
typ_is test [] t e = absurd cc
typ_is test (u ∷ us) t e = chosen test u t (first_typ test us) e (typ_is test us t)

pub all_there : {A : Type 0} (test : A → Bool) (xs : List A) (n : ℕ) (x : A) → list_all test xs ≡ true → slice_get xs n ≡ Some x → test x ≡ true
all_there test [] n x h e = absurd cc
all_there test (y ∷ ys) zero x h e = ap test (sym (same_some y x e)) ∙ (and_parts (test y) (list_all test ys) h).0
all_there test (y ∷ ys) (suc n) x h e = all_there test ys n x (and_parts (test y) (list_all test ys) h).1 e

-- ---- tests

pub number_same : (m n : Option ℕ) → same_number m n ≡ true → m ≡ n
number_same None None h = refl
number_same None (Some n) h = absurd cc
number_same (Some m) None h = absurd cc
number_same (Some m) (Some n) h = ap Some (eqb-true m n h)

pub flag_same : (a b : Bool) → flag_eq a b ≡ true → a ≡ b
flag_same true b h = sym h
flag_same false true h = absurd cc
flag_same false false h = refl

pub name_same : (s t : List ℕ) → name_eq s t ≡ true → s ≡ t
name_same [] [] h = refl
name_same [] (b ∷ t) h = absurd cc
name_same (a ∷ s) [] h = absurd cc
name_same (a ∷ s) (b ∷ t) h =
    let both = and_parts (a == b) (name_eq s t) h in
    ap (λ z. z ∷ s) (eqb-true a b both.0) ∙ ap (λ (z : List ℕ). b ∷ z) (name_same s t both.1)

-- equal where either is there
pub where_there : (o q : Option ℕ) → ((m : ℕ) → o ≡ Some m → o ≡ q) → ((m : ℕ) → q ≡ Some m → o ≡ q) → o ≡ q
where_there None None g h = refl
where_there None (Some n) g h = h n refl
where_there (Some m) q g h = g m refl

pub is_there : {A : Type 0} (xs : List A) (n : ℕ) → n < length xs → (x : A) × (slice_get xs n ≡ Some x)
is_there [] n l = absurd (omega (arith, l))
is_there (x ∷ xs) zero l = (x, refl)
is_there (x ∷ xs) (suc n) l = is_there xs n (less n (length xs) l)
  where
    less : (n m : ℕ) → suc n < suc m → n < m
    less n m h = omega (arith, h)

-- ---- addresses

pub number_is : (start a n : ℕ) → number_at start a ≡ Some n → a ≡ start + 16 * n
number_is start a n e = by_test (nat_le start a && nat_eq ((a - start) % 16) 0) refl e
  where
    whole : (s a n : ℕ) → s ≤ a → (a - s) % 16 ≡ 0 → (a - s) / 16 ≡ n → a ≡ s + 16 * n
    whole s a n l m e = omega (arith, l, m, e)

    by_test : (b : Bool) → (nat_le start a && nat_eq ((a - start) % 16) 0) ≡ b → (if b then Some ((a - start) / 16) else None) ≡ Some n → a ≡ start + 16 * n
    by_test true is e =
        let both = and_parts (nat_le start a) (nat_eq ((a - start) % 16) 0) is in
        let same : (a - start) / 16 ≡ n = cc in
        whole start a n (leb-true start a both.0) (eqb-true ((a - start) % 16) 0 both.1) same
    by_test false is e = absurd cc

pub number_of : (start a n : ℕ) → a ≡ start + 16 * n → number_at start a ≡ Some n
number_of start a n e =
    ap (λ b. if b && nat_eq ((a - start) % 16) 0 then Some ((a - start) / 16) else None) (leb start a n e)
    ∙ (ap (λ b. if b then Some ((a - start) / 16) else None) (eq-eqb ((a - start) % 16) 0 (whole start a n e)) ∙ ap Some (part start a n e))
  where
    leb : (start a n : ℕ) → a ≡ start + 16 * n → nat_le start a ≡ true
    leb start a n e = grind (arith, e)

    whole : (start a n : ℕ) → a ≡ start + 16 * n → (a - start) % 16 ≡ 0
    whole start a n e = omega (arith, e)

    part : (start a n : ℕ) → a ≡ start + 16 * n → (a - start) / 16 ≡ n
    part start a n e = omega (arith, e)

-- what is found by an address
pub record Hit (base a n : ℕ) (ds : List Def) (go : Def × ℕ → Option ℕ) : Type 0 where
  pub at : ℕ
  pub def : Def
  pub address : a ≡ base + 16 * at
  pub there : slice_get ds at ≡ Some def
  pub found : go (def, at) ≡ Some n

pub numbered_found : (base a n : ℕ) (ds : List Def) (go : Def × ℕ → Option ℕ) → option_and_then go (numbered 0 (λ i. base + 16 * i) a ds) ≡ Some n
    → Hit base a n ds go
numbered_found base a n ds go e = by_number (number_at base a) refl
  where
    missed : ((k : ℕ) → a ≡ base + 16 * k → ⊥) → Hit base a n ds go
    missed h =
        let none : option_and_then go None ≡ Some n = ap (option_and_then go) (sym (numbered_miss base 0 a ds h)) ∙ e in
        absurd cc

    by_def : (k : ℕ) → a ≡ base + 16 * k → (o : Option Def) → slice_get ds k ≡ o → option_and_then go (option_map (λ d. (d, k)) o) ≡ Some n → Hit base a n ds go
    by_def k is None there f = absurd cc
    by_def k is (Some d) there f = record { at = k; def = d; address = is; there = there; found = f }

    by_number : (o : Option ℕ) → number_at base a ≡ o → Hit base a n ds go
    by_number None is = missed (λ k i. absurd (none_some k (sym is ∙ number_of base a k i)))
      where
        none_some : (k : ℕ) → None ≡ Some k → ⊥
        none_some k h = absurd cc
    by_number (Some k) is =
        let place = number_is base a k is in
        by_def k place (slice_get ds k) refl (ap (option_and_then go)
        (sym (numbered_hit base 0 k a ds (place ∙ ap (λ z. base + 16 * z) (own k)) ∙ ap (λ z. option_map (λ d. (d, z)) (slice_get ds k)) (sym (own k))))
        ∙ e)
      where
        own : (k : ℕ) → k ≡ 0 + k
        own k = omega arith
