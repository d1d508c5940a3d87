-- Lists of records, after a write, a push and a filter.
use Rattle.std.proofs.Common.{ℕ, ◌≡◌, ◌==◌, ◌<◌, ◌≤◌, suc, zero, Bool, true, false, not, cond, Option, Some, None, List, [], ◌∷◌, ◌++◌, length, get_or, refl}
use Rattle.std.proofs.Common.{ap, sym, ◌∙◌, inl, inr, arith}
use Rattle.std.proofs.Math.ListN.{set}
use Rattle.std.specs.List.{filter, list_all, position, position_or_len, remove}
use Rattle.std.proofs.lemmas.Bool.{eqb-true, eqb-false, eq-eqb, ne_eqb, cases_eq, cases_Bool, cases_lt, and_parts, and_from}
use Rattle.std.proofs.lemmas.List.Sums.{sum_by-cons, sum_by_push, sum_by-set, get_or-le-sum_by}
use Rattle.std.proofs.lemmas.List.Filters.{sum_by-filter_both}
use Rattle.std.proofs.lemmas.List.Folds.{find_at}
use Rattle.std.proofs.lemmas.Option.{slice_get_past, none-some, same_Some}
use Rattle.std.proofs.lemmas.Bool.{lt-ltb}
use Rattle.std.proofs.lemmas.List.Recursion.{and_at, and_set, and_push}
use Rattle.std.proofs.lemmas.List.Quantifiers.{position-Some}
use Rattle.own_table.specs.declared.hold.HoldRec.{HoldRec}
use Rattle.own_table.specs.Records.{record_of, records_of}
use Rattle.own_table.proofs.LeastWord.{one}

-- no number is two
apart : (a b w : ℕ) → (a == b) ≡ false → (a == w) ≡ true → (b == w) ≡ false
apart a b w d e = ne_eqb b w (λ z. eqb-false a b d (eqb-true a w e ∙ sym z))

-- which of two words that differ comes first does not matter
swapped : {X : Type 0} (a b w : ℕ) (x y z : X) → (a == b) ≡ false → cond (a == w) x (cond (b == w) y z) ≡ cond (b == w) y (cond (a == w) x z)
swapped a b w x y z d = elim (cases_Bool (a == w)) [
  | inl e ↦ ap (λ p. cond p x (cond (b == w) y z)) e ∙ sym (ap (λ p. cond p y (cond (a == w) x z)) (apart a b w d e) ∙ ap (λ p. cond p x z) e)
  | inr e ↦ ap (λ p. cond p x (cond (b == w) y z)) e ∙ sym (ap (λ p. cond (b == w) y (cond p x z)) e)
]

-- a write at the first record of the word
found_set : (xs : List HoldRec) (i : ℕ) (h : HoldRec) (w : ℕ) → i < length xs → ((get_or xs i h).word == h.word) ≡ true
    → ((k : ℕ) → k < i → ((get_or xs k h).word == h.word) ≡ false) → record_of (set xs i h) w ≡ cond (h.word == w) (Some h) (record_of xs w)
found_set [] i h w l at before = absurd (omega arith)
found_set (x ∷ xs) zero h w l at before =
    let same : x.word ≡ h.word = eqb-true x.word h.word at in
    elim (cases_Bool (h.word == w)) [
      | inl e ↦ ap (λ p. cond p (Some h) (record_of xs w)) e ∙ sym (ap (λ p. cond p (Some h) (cond (x.word == w) (Some x) (record_of xs w))) e)
      | inr e ↦ ap (λ p. cond p (Some h) (record_of xs w)) e
          ∙ sym (ap (λ p. cond p (Some h) (cond (x.word == w) (Some x) (record_of xs w))) e ∙ ap (λ p. cond p (Some x) (record_of xs w))
          (ap (λ a. a == w) same ∙ e))
    ]
found_set (x ∷ xs) (suc i) h w l at before =
    ap (λ r. cond (x.word == w) (Some x) r) (found_set xs i h w (omega arith) at (λ k m. before (suc k) (omega arith)))
    ∙ swapped x.word h.word w (Some x) (Some h) (record_of xs w) (before zero (omega arith))

pub record_of-set : (xs : List HoldRec) (i : ℕ) (h : HoldRec) → position (λ r. r.word == h.word) xs ≡ Some i → (w : ℕ)
    → record_of (set xs i h) w ≡ cond (h.word == w) (Some h) (record_of xs w)
record_of-set xs i h e w =
    let at = position-Some (λ (r : HoldRec). r.word == h.word) xs i h e in
    found_set xs i h w at.0 at.1 at.2

-- where there is no index, there is no record
pub record_of-nowhere : (xs : List HoldRec) (word : ℕ) → position (λ r. r.word == word) xs ≡ None → record_of xs word ≡ None
record_of-nowhere xs word e =
    let p : HoldRec → Bool = λ r. r.word == word in
    find_at p xs ∙ slice_get_past xs (position_or_len p xs) (elim (cases_lt (position_or_len p xs) (length xs)) [
      | inl l ↦ absurd (none-some (position_or_len p xs)
          (sym e ∙ ap (λ b. cond b (Some (position_or_len p xs)) None) (lt-ltb (position_or_len p xs) (length xs) l)))
      | inr g ↦ g
    ])

found_here : (xs : List HoldRec) (i word : ℕ) (d : HoldRec) → i < length xs → ((get_or xs i d).word == word) ≡ true
    → ((k : ℕ) → k < i → ((get_or xs k d).word == word) ≡ false) → record_of xs word ≡ Some (get_or xs i d)
found_here [] i word d l at before = absurd (omega arith)
found_here (x ∷ xs) zero word d l at before = ap (λ b. cond b (Some x) (record_of xs word)) at
found_here (x ∷ xs) (suc i) word d l at before =
    let other : (x.word == word) ≡ false = before zero (omega arith) in
    ap (λ b. cond b (Some x) (record_of xs word)) other ∙ found_here xs i word d (omega arith) at (λ k m. before (suc k) (omega arith))

-- the record at the index of the word is its record
pub record_at : (xs : List HoldRec) (i word : ℕ) (r : HoldRec) → position (λ r. r.word == word) xs ≡ Some i → r ≡ get_or xs i r → record_of xs word ≡ Some r
record_at xs i word r e g =
    let at = position-Some (λ (r : HoldRec). r.word == word) xs i r e in
    found_here xs i word r at.0 at.1 at.2 ∙ ap Some (sym g)

-- a push where there was none
pub record_of-push : (xs : List HoldRec) (h : HoldRec) → record_of xs h.word ≡ None → (w : ℕ)
    → record_of (xs ++ h ∷ []) w ≡ cond (h.word == w) (Some h) (record_of xs w)
record_of-push [] h e w = refl
record_of-push (x ∷ xs) h e w =
    let none : ((x.word == h.word) ≡ false) × (record_of xs h.word ≡ None) =
    elim (x.word == h.word) as (λ b. cond b (Some x) (record_of xs h.word) ≡ None → (b ≡ false)
    × (record_of xs h.word ≡ None)) [ true ↦ λ k. absurd (cc) | false ↦ λ k. (refl, k) ] e in
    ap (λ r. cond (x.word == w) (Some x) r) (record_of-push xs h none.1 w) ∙ swapped x.word h.word w (Some x) (Some h) (record_of xs w) none.0

abbrev is_other : ℕ → HoldRec → Bool
is_other word r = not (r.word == word)

-- the records of all other words
pub record_of-filter : (xs : List HoldRec) (word w : ℕ) → record_of (filter (λ r. not (r.word == word)) xs) w ≡ cond (word == w) None (record_of xs w)
record_of-filter [] word w = elim (word == w) as (λ b. ◌≡◌ {A = Option HoldRec} None (cond b None None)) [ true ↦ refl | false ↦ refl ]
record_of-filter (x ∷ xs) word w = elim (cases_Bool (x.word == word)) [
  | inl e ↦
      ap (λ b. record_of (cond (not b) (x ∷ filter (is_other word) xs) (filter (is_other word) xs)) w) e
      ∙ (record_of-filter xs word w ∙ elim (cases_Bool (word == w)) [
        | inl q ↦ ap (λ b. cond b None (record_of xs w)) q ∙ sym (ap (λ b. cond b None (cond (x.word == w) (Some x) (record_of xs w))) q)
        | inr q ↦ ap (λ b. cond b None (record_of xs w)) q
            ∙ sym (ap (λ b. cond b None (cond (x.word == w) (Some x) (record_of xs w))) q ∙ ap (λ b. cond b (Some x) (record_of xs w))
            (ap (λ a. a == w) (eqb-true x.word word e) ∙ q))
      ])
  | inr e ↦
      ap (λ b. record_of (cond (not b) (x ∷ filter (is_other word) xs) (filter (is_other word) xs)) w) e
      ∙ (ap (λ r. cond (x.word == w) (Some x) r) (record_of-filter xs word w) ∙ swapped x.word word w (Some x) None (record_of xs w) e)
]

abbrev is_of : ℕ → HoldRec → ℕ
is_of w r = one (r.word == w)

none_left : (xs : List HoldRec) (word : ℕ) → records_of xs word ≡ 0 → filter (is_other word) xs ≡ xs
none_left [] word e = refl
none_left (x ∷ xs) word e =
    let both = sum_by-cons (is_of word) x xs in
    elim (cases_Bool (x.word == word)) [
      | inl q ↦ let here : is_of word x ≡ 1 = ap one q in absurd (omega (arith, both, e, here))
      | inr q ↦ ap (λ b. cond (not b) (x ∷ filter (is_other word) xs) (filter (is_other word) xs)) q
          ∙ ap (λ rs. x ∷ rs) (none_left xs word (omega (arith, both, e)))
    ]

one_left : (xs : List HoldRec) (i word : ℕ) (d : HoldRec) → i < length xs → ((get_or xs i d).word == word) ≡ true
    → ((k : ℕ) → k < i → ((get_or xs k d).word == word) ≡ false) → records_of xs word ≤ 1 → filter (is_other word) xs ≡ remove xs i
one_left [] i word d l at before few = absurd (omega arith)
one_left (x ∷ xs) zero word d l at before few =
    let here : is_of word x ≡ 1 = ap one at in
    ap (λ b. cond (not b) (x ∷ filter (is_other word) xs) (filter (is_other word) xs)) at
    ∙ none_left xs word (omega (arith, sum_by-cons (is_of word) x xs, few, here))
one_left (x ∷ xs) (suc i) word d l at before few =
    let other : (x.word == word) ≡ false = before zero (omega arith) in
    ap (λ b. cond (not b) (x ∷ filter (is_other word) xs) (filter (is_other word) xs)) other
    ∙ ap (λ rs. x ∷ rs) (one_left xs i word d (omega arith) at (λ k m. before (suc k) (omega arith)) (omega (arith, sum_by-cons (is_of word) x xs, few)))

-- where each word has one record at most, the others are those without the one at its index
pub others_are : (xs : List HoldRec) (i word : ℕ) (d : HoldRec) → position (λ r. r.word == word) xs ≡ Some i → records_of xs word ≤ 1
    → remove xs i ≡ filter (λ r. not (r.word == word)) xs
others_are xs i word d e few =
    let at = position-Some (λ (r : HoldRec). r.word == word) xs i d e in
    sym (one_left xs i word d at.0 at.1 at.2 few)

pub list_all-filter : (p q : HoldRec → Bool) (xs : List HoldRec) → list_all p xs ≡ true → list_all p (filter q xs) ≡ true
list_all-filter p q [] h = refl
list_all-filter p q (x ∷ xs) h =
    let parts = and_parts (p x) (list_all p xs) h in
    elim (q x) as (λ b. list_all p (cond b (x ∷ filter q xs) (filter q xs)) ≡ true) [
      | true ↦ and_from (p x) (list_all p (filter q xs)) parts.0 (list_all-filter p q xs parts.1)
      | false ↦ list_all-filter p q xs parts.1
    ]

pub list_all-set : (p : HoldRec → Bool) (xs : List HoldRec) (i : ℕ) (h : HoldRec) → list_all p xs ≡ true → p h ≡ true → list_all p (set xs i h) ≡ true
list_all-set p xs i h all here = and_set (list_all p) p refl (λ x ys. refl) xs i h here all

pub list_all-push : (p : HoldRec → Bool) (xs : List HoldRec) (h : HoldRec) → list_all p xs ≡ true → p h ≡ true → list_all p (xs ++ h ∷ []) ≡ true
list_all-push p xs h all here = and_push (list_all p) p refl (λ x ys. refl) xs h ∙ and_from (list_all p xs) (p h) all here

pub records_of-set : (xs : List HoldRec) (i : ℕ) (h : HoldRec) (w : ℕ) → position (λ r. r.word == h.word) xs ≡ Some i
    → records_of (set xs i h) w ≡ records_of xs w
records_of-set xs i h w e =
    let at = position-Some (λ (r : HoldRec). r.word == h.word) xs i h e in
    let same : is_of w (get_or xs i h) ≡ is_of w h = ap (λ a. one (a == w)) (eqb-true (get_or xs i h).word h.word at.1) in
    omega (arith, sum_by-set (is_of w) xs i h h at.0, same)

none_of : (xs : List HoldRec) (w : ℕ) → record_of xs w ≡ None → records_of xs w ≡ 0
none_of [] w e = refl
none_of (x ∷ xs) w e =
    let none : ((x.word == w) ≡ false) × (record_of xs w ≡ None) =
    elim (x.word == w) as (λ b. cond b (Some x) (record_of xs w) ≡ None → (b ≡ false)
    × (record_of xs w ≡ None)) [ true ↦ λ k. absurd (cc) | false ↦ λ k. (refl, k) ] e in
    let here : is_of w x ≡ 0 = ap one none.0 in
    sum_by-cons (is_of w) x xs ∙ omega (arith, here, none_of xs w none.1)

one_le : (b : Bool) → one b ≤ 1
one_le true = omega arith
one_le false = omega arith

pub records_of-push : (xs : List HoldRec) (h : HoldRec) (w : ℕ) → record_of xs h.word ≡ None → records_of xs w ≤ 1 → records_of (xs ++ h ∷ []) w ≤ 1
records_of-push xs h w e l = elim (cases_eq h.word w) [
  | inl same ↦ omega (arith, sum_by_push (is_of w) xs h, none_of xs w (ap (record_of xs) (sym same) ∙ e), one_le (h.word == w))
  | inr d ↦ omega (arith, sum_by_push (is_of w) xs h, ap one (ne_eqb h.word w d))
]

pub records_of-filter : (q : HoldRec → Bool) (xs : List HoldRec) (w : ℕ) → records_of (filter q xs) w ≤ records_of xs w
records_of-filter q xs w = omega (arith, sum_by-filter_both q (λ x. not (q x)) (λ x. refl) (is_of w) xs)

-- where each word has one record at most, each record is the one of its word
pub record_of-own : (xs : List HoldRec) → ((w : ℕ) → records_of xs w ≤ 1) → (k : ℕ) (d : HoldRec) → k < length xs
    → record_of xs (get_or xs k d).word ≡ Some (get_or xs k d)
record_of-own [] once k d l = absurd (omega arith)
record_of-own (x ∷ xs) once zero d l = ap (λ b. cond b (Some x) (record_of xs x.word)) (eq-eqb x.word x.word refl)
record_of-own (x ∷ xs) once (suc k) d l =
    let r : HoldRec = get_or xs k d in
    let fewer : (w : ℕ) → records_of xs w ≤ 1 = λ w. omega (arith, sum_by-cons (is_of w) x xs, once w) in
    elim (cases_Bool (x.word == r.word)) [
      | inl e ↦
          let mine : is_of r.word x ≡ 1 = ap one e in
          let its : is_of r.word r ≡ 1 = ap one (eq-eqb r.word r.word refl) in
          let below : is_of r.word r ≤ records_of xs r.word = get_or-le-sum_by (is_of r.word) xs k d (omega arith) in
          absurd (omega (arith, sum_by-cons (is_of r.word) x xs, once r.word, mine, its, below))
      | inr e ↦ ap (λ b. cond b (Some x) (record_of xs r.word)) e ∙ record_of-own xs fewer k d (omega arith)
    ]

-- the record that was found is of the word, and passes what all pass
pub found_is : (xs : List HoldRec) (w : ℕ) (r : HoldRec) (p : HoldRec → Bool) → record_of xs w ≡ Some r → list_all p xs ≡ true → (r.word ≡ w) × (p r ≡ true)
found_is [] w r p e all = absurd (none-some r e)
found_is (x ∷ xs) w r p e all =
    let parts = and_parts (p x) (list_all p xs) all in
    elim (cases_Bool (x.word == w)) [
      | inl q ↦
          let same : x ≡ r = same_Some x r (sym (ap (λ b. cond b (Some x) (record_of xs w)) q) ∙ e) in
          (ap (λ (y : HoldRec). y.word) (sym same) ∙ eqb-true x.word w q, ap p (sym same) ∙ parts.0)
      | inr q ↦ found_is xs w r p (sym (ap (λ b. cond b (Some x) (record_of xs w)) q) ∙ e) parts.1
    ]

pub list_all-at : (p : HoldRec → Bool) (xs : List HoldRec) (k : ℕ) (d : HoldRec) → k < length xs → list_all p xs ≡ true → p (get_or xs k d) ≡ true
list_all-at p xs k d l all = and_at (list_all p) p refl (λ x ys. refl) xs k d l all
