-- Marks of the indexes that rows cover.
use Rattle.std.proofs.Common.{Bool, true, false, ◌≡◌, ◌≢◌, ◌<◌, ◌≤◌, ◌+◌, inl, inr, ℕ, zero, suc, List, [], ◌∷◌, length, set, get_or, drop, refl, sym, ap, ◌∙◌}
use Rattle.std.proofs.Common.{subst, arith, get_or-set_other, get_or-set_same}
use Rattle.std.specs.Prelude.{nat_le, nat_lt, ◌&&◌, ◌||◌}
use Rattle.std.proofs.lemmas.Bool.{lt-ltb, le-ltb, le-leb, lt-leb, cases_eq, cases_lt}
use Rattle.tx_code.specs.declared.body.Row.{Row}
use Rattle.tx_code.specs.Sound.{has_edge}

or_true : (b : Bool) → (b || true) ≡ true
or_true true = refl
or_true false = refl

or_same : (b c d : Bool) → (b || (c || d)) ≡ ((b || c) || d)
or_same true c d = refl
or_same false c d = refl

and_false : (b : Bool) → (b && false) ≡ false
and_false true = refl
and_false false = refl

-- one index more of a row's range
below_more : (i n : ℕ) → i ≢ n → nat_lt i n ≡ nat_lt i (n + 1)
below_more i n d = elim (cases_lt i n) [
  | inl h ↦ lt-ltb i n h ∙ sym (lt-ltb i (n + 1) (omega (arith, h)))
  | inr h ↦ le-ltb i n h ∙ sym (le-ltb i (n + 1) (omega (arith, h, d)))
]

pub marked : (init now : List Bool) (from n i : ℕ) → from ≤ n → n < length now → get_or now i false ≡ (get_or init i false || (nat_le from i && nat_lt i n))
    → get_or (set now n true) i false ≡ (get_or init i false || (nat_le from i && nat_lt i (n + 1)))
marked init now from n i h l e = elim (cases_eq i n) [
  | inl q ↦
      let a : nat_le from i ≡ true = le-leb from i (omega (arith, h, q)) in
      let b : nat_lt i (n + 1) ≡ true = lt-ltb i (n + 1) (omega (arith, q)) in
      subst (λ j. get_or (set now n true) j false ≡ true) (sym q) (get_or-set_same now n true false l)
      ∙ sym (ap (λ z. get_or init i false || (z && nat_lt i (n + 1))) a ∙ ap (λ z. get_or init i false || z) b ∙ or_true (get_or init i false))
  | inr d ↦ get_or-set_other now n i true false d ∙ e ∙ ap (λ z. get_or init i false || (nat_le from i && z)) (below_more i n d)
]

-- the range of a row, as far as there are indexes
pub ranged : (len from to end n i : ℕ) (b : Bool) → i < len → (to < len → end ≡ to) → (len ≤ to → end ≡ len) → (from < end → n ≡ end) → (end ≤ from → n ≡ from)
    → (b || (nat_le from i && nat_lt i n)) ≡ (b || (nat_le from i && nat_lt i to))
ranged len from to end n i b l p q f g = ap (λ z. b || z) (elim (cases_lt i from) [
  | inl low ↦ ap (λ z. z && nat_lt i n) (lt-leb from i low) ∙ sym (ap (λ z. z && nat_lt i to) (lt-leb from i low))
  | inr high ↦ ap (λ z. nat_le from i && z) (elim (cases_lt i to) [
    | inl below ↦ lt-ltb i n (elim (cases_lt to len) [
      | inl s ↦ let e : end ≡ to = p s in let k : n ≡ end = f (omega (arith, high, below, e)) in omega (arith, k, e, below)
      | inr t ↦ let e : end ≡ len = q t in let k : n ≡ end = f (omega (arith, high, l, e)) in omega (arith, k, e, l)
    ]) ∙ sym (lt-ltb i to below)
    | inr past ↦ le-ltb i n (elim (cases_lt from end) [
      | inl s ↦ let k : n ≡ end = f s in elim (cases_lt to len) [
        | inl t ↦ let e : end ≡ to = p t in omega (arith, k, e, past)
        | inr t ↦ absurd
            (omega (arith, t, past, l))
      ]
      | inr t ↦ let k : n ≡ from = g t in omega (arith, k, high)
    ]) ∙ sym (le-ltb i to past)
  ])
])

pub none_yet : (b : Bool) (from i : ℕ) → b ≡ (b || (nat_le from i && nat_lt i from))
none_yet b from i = or_no b ∙ sym (ap (λ z. b || z) (elim (cases_lt i from) [
  | inl low ↦ ap (λ z. z && nat_lt i from) (lt-leb from i low)
  | inr high ↦ ap (λ z. nat_le from i && z) (le-ltb i from high) ∙ and_false (nat_le from i)
])) where
  or_no : (c : Bool) → c ≡ (c || false)
  or_no true = refl
  or_no false = refl

pub edge_yes : (x b c : Bool) → b ≡ true → (x || c) ≡ (x || (b && c))
edge_yes x b c h = sym (ap (λ z. x || (z && c)) h)

pub edge_no : (x b c : Bool) → b ≡ false → x ≡ (x || (b && c))
edge_no true b c h = refl
edge_no false b c h = sym (ap (λ z. z && c) h)

-- the marks of one row more
pub row_more : (x y a rest : Bool) → y ≡ (x || a) → (y || rest) ≡ (x || (a || rest))
row_more x y a rest e = ap (λ z. z || rest) e ∙ sym (or_same x a rest)

pub at_default : (xs : List Bool) (i : ℕ) (d : Bool) → i < length xs → d ≡ get_or xs i d → get_or xs i false ≡ d
at_default [] i d h e = absurd (omega (arith, h))
at_default (x ∷ xs) zero d h e = sym e
at_default (x ∷ xs) (suc i) d h e = at_default xs i d (omega (arith, h)) e

drop_end : {A : Type 0} (xs : List A) (k : ℕ) → length xs ≤ k → drop k xs ≡ []
drop_end [] zero h = refl
drop_end [] (suc k) h = refl
drop_end (x ∷ xs) zero h = absurd (omega (arith, h))
drop_end (x ∷ xs) (suc k) h = drop_end xs k (omega (arith, h))

or_none : (b : Bool) → b ≡ (b || false)
or_none true = refl
or_none false = refl

pub all_marked : (rows : List Row) (k i : ℕ) (b : Bool) → length rows ≤ k → (b || has_edge (drop k rows) i) ≡ has_edge rows i → b ≡ has_edge rows i
all_marked rows k i b l e = or_none b ∙ sym (ap (λ z. b || has_edge z i) (drop_end rows k l)) ∙ e
