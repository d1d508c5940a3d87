-- What stands in tables.
use Rattle.std.proofs.Common.{◌≡◌, ◌∙◌, ◌+◌, ◌*◌, ℕ, zero, suc, Bool, cond, List, [], ◌∷◌, map, refl, sym, ap, arith, Option, Some, None, slice_get, option_map}
use Rattle.std.proofs.Common.{option_and_then}
use Rattle.std.specs.Global.{Vec}
use Rattle.std.proofs.lemmas.Option.{slice_get-map}
use Rattle.std.proofs.lemmas.Bool.{eq-eqb, ne_eqb}
use Rattle.cpp_tree.specs.Typing.{passes}
use Rattle.src_mean.specs.Links.{Def, number_if, numbered}
use Rattle.src_bind.specs.Numbers.{rows, entry, indexed}

pub and_then_map : {A B C : Type 0} (g : B → Option C) (v : A → B) (o : Option A) → option_and_then g (option_map v o) ≡ option_and_then (λ a. g (v a)) o
and_then_map g v None = refl
and_then_map g v (Some x) = refl

slice_indexed : {A B : Type 0} (f : ℕ → A → B) (m n : ℕ) (xs : List A) → slice_get (indexed f m xs) n ≡ option_map (f (m + n)) (slice_get xs n)
slice_indexed f m n [] = refl
slice_indexed f m zero (x ∷ xs) = let e : m ≡ m + zero = omega arith in ap (λ z. Some (f z x)) e
slice_indexed f m (suc n) (x ∷ xs) = let e : suc m + n ≡ m + suc n = omega arith in slice_indexed f (suc m) n xs ∙ ap (λ z. option_map (f z) (slice_get xs n)) e

slice_first : {A B : Type 0} (f : ℕ → A → B) (n : ℕ) (xs : List A) → slice_get (indexed f 0 xs) n ≡ option_map (f n) (slice_get xs n)
slice_first f n xs = let e : 0 + n ≡ n = omega arith in slice_indexed f 0 n xs ∙ ap (λ z. option_map (f z) (slice_get xs n)) e

pub entry_rows : {A : Type 0} (table : List (Vec A)) (u n : ℕ) → entry table u n ≡ option_and_then (λ row. slice_get row n) (slice_get (rows table) u)
entry_rows table u n = sym (ap (option_and_then (λ row. slice_get row n)) (slice_get-map (λ row. row.items) table u) ∙ and_then_map (λ row. slice_get row n)
    (λ row. row.items) (slice_get table u))

by_unit : {A B X : Type 0} (f : ℕ → A → B) (items : X → List A) (n : ℕ) (o : Option X)
    → option_and_then (λ x. slice_get (indexed f 0 (items x)) n) o ≡ option_map (f n) (option_and_then (λ x. slice_get (items x) n) o)
by_unit f items n None = refl
by_unit f items n (Some x) = slice_first f n (items x)

-- a table that is made of lists of lists, by their indexes
pub table_entry : {A B X : Type 0} (f : ℕ → ℕ → A → B) (items : X → List A) (xs : List X) (table : List (Vec B)) (u n : ℕ)
    → rows table ≡ indexed (λ u x. indexed (f u) 0 (items x)) 0 xs
    → entry table u n ≡ option_map (f u n) (option_and_then (λ x. slice_get (items x) n) (slice_get xs u))
table_entry f items xs table u n e =
    entry_rows table u n ∙ ap (λ z. option_and_then (λ row. slice_get row n) (slice_get z u)) e
    ∙ ap (option_and_then (λ row. slice_get row n)) (slice_first (λ u x. indexed (f u) 0 (items x)) u xs)
    ∙ and_then_map (λ row. slice_get row n) (λ x. indexed (f u) 0 (items x)) (slice_get xs u) ∙ by_unit (f u) items n (slice_get xs u)

-- two lists side by side
pub shown_by : {X Y Z : Type 0} (v : X → Z) (w : Y → Option Z) (is : List X) (ds : List Y) (n : ℕ) → map (λ i. Some (v i)) is ≡ map w ds
    → option_map v (slice_get is n) ≡ option_and_then w (slice_get ds n)
shown_by v w [] [] n e = refl
shown_by v w [] (d ∷ ds) n e = absurd cc
shown_by v w (i ∷ is) [] n e = absurd cc
shown_by v w (i ∷ is) (d ∷ ds) zero e = let h : Some (v i) ≡ w d = cc in h
shown_by v w (i ∷ is) (d ∷ ds) (suc n) e = let h : map (λ i. Some (v i)) is ≡ map w ds = cc in shown_by v w is ds n h

pub tested_by : {X Y : Type 0} (p : X → Bool) (q : Y → Bool) (is : List X) (ds : List Y) (n k : ℕ) → map p is ≡ map q ds
    → option_and_then (λ i. number_if (p i) k) (slice_get is n) ≡ option_and_then (λ d. number_if (q d) k) (slice_get ds n)
tested_by p q [] [] n k e = refl
tested_by p q [] (d ∷ ds) n k e = absurd cc
tested_by p q (i ∷ is) [] n k e = absurd cc
tested_by p q (i ∷ is) (d ∷ ds) zero k e = let h : p i ≡ q d = cc in ap (λ z. number_if z k) h
tested_by p q (i ∷ is) (d ∷ ds) (suc n) k e = let h : map p is ≡ map q ds = cc in tested_by p q is ds n k h

pub number_if_passes : {A : Type 0} (p : A → Bool) (o : Option A) (k : ℕ) → number_if (passes p o) k ≡ option_and_then (λ f. number_if (p f) k) o
number_if_passes p None k = refl
number_if_passes p (Some f) k = refl

-- addresses, each 16 behind the one before it
pub numbered_hit : (base m k a : ℕ) (ds : List Def) → a ≡ base + 16 * (m + k)
    → numbered m (λ i. base + 16 * i) a ds ≡ option_map (λ d. (d, m + k)) (slice_get ds k)
numbered_hit base m k a [] e = refl
numbered_hit base m zero a (d ∷ ds) e =
    let f : base + 16 * m ≡ a = omega (arith, e) in
    let g : m ≡ m + zero = omega arith in
    ap (λ b. cond b (Some (d, m)) (numbered (suc m) (λ i. base + 16 * i) a ds)) (eq-eqb (base + 16 * m) a f) ∙ ap (λ z. Some (d, z)) g
numbered_hit base m (suc k) a (d ∷ ds) e =
    let f : base + 16 * m ≡ a → ⊥ = λ h. absurd (omega (arith, e, h)) in
    let g : suc m + k ≡ m + suc k = omega arith in
    let l : a ≡ base + 16 * (suc m + k) = omega (arith, e) in
    ap (λ b. cond b (Some (d, m)) (numbered (suc m) (λ i. base + 16 * i) a ds)) (ne_eqb (base + 16 * m) a f) ∙ numbered_hit base (suc m) k a ds l
    ∙ ap (λ z. option_map (λ d. (d, z)) (slice_get ds k)) g

pub numbered_miss : (base m a : ℕ) (ds : List Def) → ((i : ℕ) → a ≡ base + 16 * i → ⊥) → numbered m (λ i. base + 16 * i) a ds ≡ None
numbered_miss base m a [] h = refl
numbered_miss base m a (d ∷ ds) h = ap (λ b. cond b (Some (d, m)) (numbered (suc m) (λ i. base + 16 * i) a ds)) (ne_eqb (base + 16 * m) a (λ e. h m (sym e)))
    ∙ numbered_miss base (suc m) a ds h
