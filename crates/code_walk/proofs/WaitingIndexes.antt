-- The heap of the indexes that wait, as slots change.
use Rattle.std.proofs.Common.{Bool, true, false, ◌≡◌, ◌==◌, ◌<◌, ◌≤◌, ◌+◌, inl, inr, ℕ, zero, suc, List, [], ◌∷◌, length, map, set, get_or, replicate, Option}
use Rattle.std.proofs.Common.{Some, None, refl, sym, ap, ◌∙◌, subst, arith, get_or-set_other, get_or-set_same}
use Rattle.std.specs.Prelude.{IsSome, is_some, is_none, not, ◌&&◌, if◌then◌else◌}
use Rattle.std.specs.Option.{option_map}
use Rattle.std.specs.declared.cmp.Reverse.{Reverse}
use Rattle.std.proofs.lemmas.Bool.{cases_eq, cases_lt, eq-eqb, ne_eqb, false≢true}
use Rattle.tx_events.specs.Thread.{Open}
use Rattle.tx_code.proofs.ReachedIndexes.{and_right}
use Rattle.code_walk.specs.declared.shapes.Shape.{Shape}
use Rattle.code_walk.specs.declared.walk.Slot.{Slot}
use Rattle.code_walk.specs.Walk.{waits, lowest}
use Rattle.code_walk.specs.ShapeViews.{shape_of}
use Rattle.code_walk.specs.Slots.{slot_of}
use Rattle.code_walk.specs.Waiting.{times_in, bare_slot, looked_slot, is_waiting, AreWaiting}
use Rattle.code_walk.proofs.LeastIndex.{one}

one_most : (b : Bool) → one b ≤ 1
one_most true = omega arith
one_most false = omega arith

is_one : (b : Bool) → 1 ≤ one b → b ≡ true
is_one true h = refl
is_one false h = absurd (omega (arith, h))

is_zero : (b : Bool) → one b ≡ 0 → b ≡ false
is_zero true h = absurd (omega (arith, h))
is_zero false h = refl

past_end : {A : Type 0} (xs : List A) (i : ℕ) (d : A) → length xs ≤ i → get_or xs i d ≡ d
past_end [] i d h = refl
past_end (x ∷ xs) zero d h = absurd (omega (arith, h))
past_end (x ∷ xs) (suc i) d h = past_end xs i d (omega (arith, h))

pub bares_wait : (n : ℕ) (xs : List (Reverse ℕ)) → ((i : ℕ) → times_in xs i ≡ 0) → AreWaiting (replicate n bare_slot) xs
bares_wait n xs h = λ i. h i ∙ ap (λ z. one (is_waiting z)) (sym (bare_at n i)) where
  bare_at : (m j : ℕ) → get_or (replicate m bare_slot) j bare_slot ≡ bare_slot
  bare_at zero j = refl
  bare_at (suc m) zero = refl
  bare_at (suc m) (suc j) = bare_at m j

module _ (slots : List Slot) (at : ℕ) (v d : Slot) (l : at < length slots) (is : d ≡ get_or slots at d) where
  same_default : get_or slots at bare_slot ≡ d
  same_default = either slots at l ∙ sym is where
    either : (xs : List Slot) (i : ℕ) → i < length xs → get_or xs i bare_slot ≡ get_or xs i d
    either [] i h = absurd (omega (arith, h))
    either (x ∷ xs) zero h = refl
    either (x ∷ xs) (suc i) h = either xs i (omega (arith, h))

  -- a slot that waits as before
  pub same_wait : (xs : List (Reverse ℕ)) → is_waiting v ≡ is_waiting d → AreWaiting slots xs → AreWaiting (set slots at v) xs
  same_wait xs h w = λ i. elim (cases_eq i at) [
    | inl e ↦ subst (λ j. times_in xs j ≡ one (is_waiting (get_or (set slots at v) j bare_slot))) (sym e)
        (w at ∙ ap (λ z. one (is_waiting z)) same_default ∙ ap one (sym h) ∙ ap (λ z. one (is_waiting z)) (sym (get_or-set_same slots at v bare_slot l)))
    | inr n ↦ w i ∙ ap (λ z. one (is_waiting z)) (sym (get_or-set_other slots at i v bare_slot n))
  ]

  -- one that waits from now on
  pub more_wait : (xs ys : List (Reverse ℕ)) → is_waiting d ≡ false → is_waiting v ≡ true → ((i : ℕ) → times_in ys i ≡ times_in xs i + one (at == i))
      → AreWaiting slots xs → AreWaiting (set slots at v) ys
  more_wait xs ys h k g w = λ i. elim (cases_eq i at) [
    | inl e ↦
        let a : times_in xs at ≡ 0 = w at ∙ ap (λ z. one (is_waiting z)) same_default ∙ ap one h in
        let b : one (at == at) ≡ 1 = ap one (eq-eqb at at refl) in
        let t : times_in ys at ≡ times_in xs at + one (at == at) = g at in
        let u : times_in ys at ≡ 1 = omega (arith, a, b, t) in
        subst (λ j. times_in ys j ≡ one (is_waiting (get_or (set slots at v) j bare_slot))) (sym e)
        (u ∙ ap one (sym k) ∙ ap (λ z. one (is_waiting z)) (sym (get_or-set_same slots at v bare_slot l)))
    | inr n ↦
        let b : one (at == i) ≡ 0 = ap one (ne_eqb at i (λ e. n (sym e))) in
        let t : times_in ys i ≡ times_in xs i + one (at == i) = g i in
        let u : times_in ys i ≡ times_in xs i = omega (arith, b, t) in
        u ∙ w i ∙ ap (λ z. one (is_waiting z)) (sym (get_or-set_other slots at i v bare_slot n))
  ]

  -- one that waits no more
  pub less_wait : (xs ys : List (Reverse ℕ)) → is_waiting v ≡ false → ((i : ℕ) → times_in xs i ≡ times_in ys i + one (at == i)) → AreWaiting slots xs
      → AreWaiting (set slots at v) ys
  less_wait xs ys h g w = λ i. elim (cases_eq i at) [
    | inl e ↦
        let a : times_in xs at ≡ one (is_waiting (get_or slots at bare_slot)) = w at in
        let m : one (is_waiting (get_or slots at bare_slot)) ≤ 1 = one_most (is_waiting (get_or slots at bare_slot)) in
        let b : one (at == at) ≡ 1 = ap one (eq-eqb at at refl) in
        let t : times_in xs at ≡ times_in ys at + one (at == at) = g at in
        let u : times_in ys at ≡ 0 = omega (arith, a, m, b, t) in
        subst (λ j. times_in ys j ≡ one (is_waiting (get_or (set slots at v) j bare_slot))) (sym e)
        (u ∙ ap one (sym h) ∙ ap (λ z. one (is_waiting z)) (sym (get_or-set_same slots at v bare_slot l)))
    | inr n ↦
        let b : one (at == i) ≡ 0 = ap one (ne_eqb at i (λ e. n (sym e))) in
        let t : times_in xs i ≡ times_in ys i + one (at == i) = g i in
        let u : times_in ys i ≡ times_in xs i = omega (arith, b, t) in
        u ∙ w i ∙ ap (λ z. one (is_waiting z)) (sym (get_or-set_other slots at i v bare_slot n))
  ]

-- an index that is taken out waits
pub taken_waits : (slots : List Slot) (xs ys : List (Reverse ℕ)) (at : ℕ) → ((i : ℕ) → times_in xs i ≡ times_in ys i + one (at == i)) → AreWaiting slots xs
    → is_waiting (get_or slots at bare_slot) ≡ true
taken_waits slots xs ys at g w =
    let a : times_in xs at ≡ one (is_waiting (get_or slots at bare_slot)) = w at in
    let b : one (at == at) ≡ 1 = ap one (eq-eqb at at refl) in
    let t : times_in xs at ≡ times_in ys at + one (at == at) = g at in
    is_one (is_waiting (get_or slots at bare_slot)) (omega (arith, a, b, t))

pub taken_within : (slots : List Slot) (xs ys : List (Reverse ℕ)) (at : ℕ) → ((i : ℕ) → times_in xs i ≡ times_in ys i + one (at == i)) → AreWaiting slots xs
    → at < length slots
taken_within slots xs ys at g w = elim (cases_lt at (length slots)) [
  | inl h ↦ h
  | inr h ↦ absurd (false≢true (sym (ap is_waiting (past_end slots at bare_slot h)) ∙ taken_waits slots xs ys at g w))
]

-- ---- the lowest of them

waits_some : (t : List (List Open)) (o : Option Shape) (b : Bool) → (is_some (option_map (shape_of t) o) && b) ≡ (is_some o && b)
waits_some t None b = refl
waits_some t (Some s) b = refl

waits_is : (t : List (List Open)) (s : Slot) → waits (slot_of t s) ≡ is_waiting s
waits_is t s = waits_some t s.shape (not s.looked)

lowest_from : (t : List (List Open)) (n : ℕ) (ss : List Slot) (k : ℕ) → k < length ss → is_waiting (get_or ss k bare_slot) ≡ true
    → ((j : ℕ) → j < k → is_waiting (get_or ss j bare_slot) ≡ false) → lowest n (map (slot_of t) ss) ≡ Some (n + k)
lowest_from t n [] k l h b = absurd (omega (arith, l))
lowest_from t n (s ∷ ss) zero l h b = ap (λ c. if c then Some n else lowest (n + 1) (map (slot_of t) ss)) (waits_is t s ∙ h) ∙ ap Some (omega arith)
lowest_from t n (s ∷ ss) (suc k) l h b =
    ap (λ c. if c then Some n else lowest (n + 1) (map (slot_of t) ss)) (waits_is t s ∙ b 0 (omega arith))
    ∙ lowest_from t (n + 1) ss k (omega (arith, l)) h (λ j m. b (suc j) (omega (arith, m))) ∙ ap Some (omega arith)

lowest_none : (t : List (List Open)) (n : ℕ) (ss : List Slot) → ((j : ℕ) → is_waiting (get_or ss j bare_slot) ≡ false) → lowest n (map (slot_of t) ss) ≡ None
lowest_none t n [] h = refl
lowest_none t n (s ∷ ss) h = ap (λ c. if c then Some n else lowest (n + 1) (map (slot_of t) ss)) (waits_is t s ∙ h 0)
    ∙ lowest_none t (n + 1) ss (λ j. h (suc j))

pub none_waits : (t : List (List Open)) (slots : List Slot) (xs : List (Reverse ℕ)) → AreWaiting slots xs → ((i : ℕ) → times_in xs i ≡ 0)
    → lowest 0 (map (slot_of t) slots) ≡ None
none_waits t slots xs w h = lowest_none t 0 slots (λ j. is_zero (is_waiting (get_or slots j bare_slot)) (sym (w j) ∙ h j))

pub least_waits : (t : List (List Open)) (slots : List Slot) (xs ys : List (Reverse ℕ)) (at : ℕ) → AreWaiting slots xs
    → ((i : ℕ) → times_in xs i ≡ times_in ys i + one (at == i)) → ((i : ℕ) → i < at → times_in xs i ≡ 0) → lowest 0 (map (slot_of t) slots) ≡ Some at
least_waits t slots xs ys at w g b = lowest_from t 0 slots at (taken_within slots xs ys at g w) (taken_waits slots xs ys at g w)
    (λ j m. is_zero (is_waiting (get_or slots j bare_slot)) (sym (w j) ∙ b j m)) ∙ ap Some (omega arith)

-- ---- slots

and_false : (b : Bool) → (b && false) ≡ false
and_false true = refl
and_false false = refl

pub looked_waits_not : (s : Slot) → is_waiting (looked_slot s) ≡ false
looked_waits_not s = and_false (is_some s.shape)

pub new_waits_not : (d : Slot) → (is_none d.shape && not d.looked) ≡ true → is_waiting d ≡ false
new_waits_not d h = by_shape d.shape (not d.looked) h where
  by_shape : (o : Option Shape) (b : Bool) → (is_none o && b) ≡ true → (is_some o && b) ≡ false
  by_shape None b e = refl
  by_shape (Some s) b e = absurd (false≢true e)

pub new_waits : (d v : Slot) → (is_none d.shape && not d.looked) ≡ true → IsSome v.shape → v.looked ≡ d.looked → is_waiting v ≡ true
new_waits d v h k e = by_looked d.looked v.looked (and_right (is_none d.shape) (not d.looked) h) e where
  by_looked : (b c : Bool) → not b ≡ true → c ≡ b → (is_some v.shape && not c) ≡ true
  by_looked true c n q = absurd (false≢true n)
  by_looked false c n q = ap (λ z. z && not c) k ∙ ap not q
