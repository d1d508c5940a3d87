-- The walk comes to its end.
use Rattle.std.proofs.Common.{Bool, true, false, ◌≡◌, ◌⊎◌, inl, inr, ℕ, zero, suc, ◌+◌, ◌<◌, List, [], ◌∷◌, length, set, replicate, Option, Some, None, refl}
use Rattle.std.proofs.Common.{sym, ap, ◌∙◌, subst, arith}
use Rattle.std.proofs.lemmas.Bool.{cases_Bool, false≢true}
use Rattle.std.proofs.lemmas.Option.{none-some, same_Some}
use Rattle.std.specs.Prelude.{nat_lt, not, ◌&&◌, is_some, if◌then◌else◌}
use Rattle.tx_code.proofs.ReachedIndexes.{and_left, and_right}
use Rattle.code_walk.specs.Walk.{Given, Space, Tests, Slot, slot, bare, slot_at, noted, note, note_all, seen_slot, gives_at, look, waits, lowest, step_at}
use Rattle.code_walk.specs.Walk.{steps, start, walked}
use Rattle.code_walk.proofs.Notes.{grows_noted}

-- how many were not looked at
left : {S : Type 0} → List (Slot S) → ℕ
left [] = 0
left (s ∷ ss) = if s.looked then left ss else suc (left ss)

left_if : (b c : Bool) (n m : ℕ) → b ≡ c → n ≡ m → (if b then n else suc n) ≡ (if c then m else suc m)
left_if b c n m p q = cc (p, q)

left_set : {S : Type 0} (ss : List (Slot S)) (i : ℕ) (x : Slot S) → x.looked ≡ (slot_at ss i).looked → left (set ss i x) ≡ left ss
unfolding left
left_set [] i x h = refl
left_set (s ∷ ss) zero x h = left_if x.looked s.looked (left ss) (left ss) h refl
left_set (s ∷ ss) (suc i) x h = left_if s.looked s.looked (left (set ss i x)) (left ss) refl (left_set ss i x h)

left_mark : {S : Type 0} (ss : List (Slot S)) (i : ℕ) (x : Slot S) → i < length ss → x.looked ≡ true → (slot_at ss i).looked ≡ false
    → suc (left (set ss i x)) ≡ left ss
unfolding left
left_mark [] i x l h g = absurd (omega (arith, l))
left_mark (s ∷ ss) zero x l h g = rw (h, g)
left_mark (s ∷ ss) (suc i) x l h g = let k : i < length ss = omega (arith, l) in let r : suc (left (set ss i x)) ≡ left ss = left_mark ss i x k h g in
    elim (cases_Bool s.looked) [ inl e ↦ rw (e, r) | inr e ↦ rw (e, r) ]

lowest_none : {S : Type 0} (n : ℕ) (ss : List (Slot S)) → lowest n ss ≡ None → (j : ℕ) → waits (slot_at ss j) ≡ false
lowest_none n [] h j = refl
lowest_none n (s ∷ ss) h zero = elim (cases_Bool (waits s)) [
  | inl e ↦ absurd
      (none-some n (sym h ∙ ap (λ b. if b then Some n else lowest (n + 1) ss) e))
  | inr e ↦ e
]
lowest_none n (s ∷ ss) h (suc j) = elim (cases_Bool (waits s)) [
  | inl e ↦ absurd
      (none-some n (sym h ∙ ap (λ b. if b then Some n else lowest (n + 1) ss) e))
  | inr e ↦ lowest_none (n + 1) ss
      (sym (ap (λ b. if b then Some n else lowest (n + 1) ss) e) ∙ h) j
]

pub record Lowest {S : Type 0} (n : ℕ) (ss : List (Slot S)) (k : ℕ) : Type 0 where
  pub place : ℕ
  pub is : k ≡ n + place
  pub within : place < length ss
  pub waits : waits (slot_at ss place) ≡ true

lowest_later : {S : Type 0} (n k : ℕ) (s : Slot S) (ss : List (Slot S)) → Lowest (n + 1) ss k → Lowest n (s ∷ ss) k
lowest_later n k s ss l = record { place = suc l.place; is = omega (arith, l.is); within = omega (arith, l.within); waits = l.waits }

pub lowest_some : {S : Type 0} (n : ℕ) (ss : List (Slot S)) (k : ℕ) → lowest n ss ≡ Some k → Lowest n ss k
lowest_some n [] k h = absurd (none-some k h)
lowest_some n (s ∷ ss) k h = elim (cases_Bool (waits s)) [
  | inl e ↦ let q : n ≡ k = same_Some n k (sym (ap (λ b. if b then Some n else lowest (n + 1) ss) e) ∙ h) in
      record { place = 0; is = omega (arith, q); within = omega arith; waits = e }
  | inr e ↦ lowest_later n k s ss (lowest_some (n + 1) ss k (sym (ap (λ b. if b then Some n else lowest (n + 1) ss) e) ∙ h))
]

and_false : (a : Bool) → (a && false) ≡ false
and_false true = refl
and_false false = refl

left_not : {S : Type 0} (o : Option S) (b : Bool) (n : ℕ) (ss : List (Slot S)) → b ≡ true → lowest (n + 1) ss ≡ None
    → Path (Option ℕ) (if is_some o && not b then Some n else lowest (n + 1) ss) None
left_not o b n ss e h = rw (e, and_false (is_some o), h)

left_none : {S : Type 0} (n : ℕ) (ss : List (Slot S)) → left ss ≡ 0 → lowest n ss ≡ None
unfolding left
left_none n [] h = refl
left_none n (s ∷ ss) h = elim (cases_Bool s.looked) [
  | inl e ↦ left_not s.shape s.looked n ss e (left_none (n + 1) ss (sym (ap (λ b. if b then left ss else suc (left ss)) e) ∙ h))
  | inr e ↦ absurd (let q : suc (left ss) ≡ 0 = sym (ap (λ b. if b then left ss else suc (left ss)) e) ∙ h in omega (arith, q))
]

left_if_set : {S : Type 0} (b : Bool) (ss : List (Slot S)) (i : ℕ) (x : Slot S) → x.looked ≡ (slot_at ss i).looked
    → left (if b then set ss i x else ss) ≡ left ss
left_if_set true ss i x h = left_set ss i x h
left_if_set false ss i x h = refl

waits_shape : {S : Type 0} (o : Option S) → is_some o ≡ true → (s : S) × (o ≡ Some s)
waits_shape None h = absurd (false≢true h)
waits_shape (Some s) h = (s, refl)

no_true : (b : Bool) → not b ≡ true → b ≡ false
no_true true h = absurd (false≢true h)
no_true false h = refl

pub waits_has : {S : Type 0} (s : Slot S) → waits s ≡ true → (t : S) × (s.shape ≡ Some t)
waits_has s h = waits_shape s.shape (and_left (is_some s.shape) (not s.looked) h)

waits_new : {S : Type 0} (s : Slot S) → waits s ≡ true → s.looked ≡ false
waits_new s h = no_true s.looked (and_right (is_some s.shape) (not s.looked) h)

looked_if : (b : Bool) → not b ≡ false → b ≡ true
looked_if true h = refl
looked_if false h = absurd (false≢true (sym h))

-- an index with a shape that does not wait was looked at
pub waits_not : {S : Type 0} (s : Slot S) (t : S) → waits s ≡ false → s.shape ≡ Some t → s.looked ≡ true
waits_not s t h e = looked_if s.looked (sym (ap (λ o. is_some o && not s.looked) e) ∙ h)

pub bares_at : {S : Type 0} (n j : ℕ) → slot_at (replicate n (bare {S = S})) j ≡ bare
bares_at zero j = refl
bares_at (suc n) zero = refl
bares_at (suc n) (suc j) = bares_at n j

pub length_bares : (S : Type 0) (n : ℕ) → length (replicate n (bare {S = S})) ≡ n
length_bares S zero = refl
length_bares S (suc n) = ap suc (length_bares S n)

bares_left : (S : Type 0) (n : ℕ) → left (replicate n (bare {S = S})) ≡ n
unfolding left
bares_left S zero = refl
bares_left S (suc n) = ap suc (bares_left S n)

abbrev Ended : {S : Type 0} → List (Slot S) → ℕ → ℕ → Type 0
Ended ss n total = (lowest 0 ss ≡ None) ⊎ (left ss + n ≡ total)

ended_none : {S : Type 0} (ss : List (Slot S)) (n : ℕ) → Ended ss n n → lowest 0 ss ≡ None
ended_none ss n (inl h) = h
ended_none ss n (inr h) = let q : left ss ≡ 0 = omega (arith, h) in left_none 0 ss q

module _ {S : Type 0} (w : Space S) (l : Tests w) where
  left_all : (gs : List (Given S)) (ss : List (Slot S)) → left (note_all w ss gs) ≡ left ss
  left_all [] ss = refl
  left_all (g ∷ gs) ss = left_all gs (note w ss g) ∙ left_if_set (nat_lt g.at (length ss)) ss g.at (noted w (slot_at ss g.at) g.shape)
      ((grows_noted w l (slot_at ss g.at) g.shape).looked)

  left_look : (ss : List (Slot S)) (i : ℕ) → i < length ss → waits (slot_at ss i) ≡ true → suc (left (look w i ss)) ≡ left ss
  left_look ss i k h = ap suc (left_all (gives_at w i (slot_at ss i).shape) (set ss i (seen_slot (slot_at ss i))))
      ∙ left_mark ss i (seen_slot (slot_at ss i)) k refl (waits_new (slot_at ss i) h)

  start_left : left (start w) ≡ w.count
  start_left = left_set (replicate w.count bare) 0 (slot (Some w.entry) false false) (sym (ap (λ x. x.looked) (bares_at w.count 0))) ∙ bares_left S w.count

  ended_at : (ss : List (Slot S)) (n total : ℕ) (o : Option ℕ) → lowest 0 ss ≡ o → Ended ss n total → Ended (step_at w ss o) (suc n) total
  ended_at ss n total None h e = inl h
  ended_at ss n total (Some k) h (inl e) = absurd (none-some k (sym e ∙ h))
  ended_at ss n total (Some k) h (inr e) =
      let m : Lowest 0 ss k = lowest_some 0 ss k h in
      let q : m.place ≡ k = omega (arith, m.is) in
      let r : suc (left (look w k ss)) ≡ left ss = subst (λ x. suc (left (look w x ss)) ≡ left ss) q (left_look ss m.place m.within m.waits) in
      inr (omega (arith, r, e))

  ended : (n : ℕ) → Ended (steps w n (start w)) n w.count
  ended zero = let q : left (start w) ≡ w.count = start_left in inr (omega (arith, q))
  ended (suc n) = ended_at (steps w n (start w)) n w.count (lowest 0 (steps w n (start w))) refl (ended n)

  -- in the end none waits
  pub walked_ends : (j : ℕ) → waits (slot_at (walked w) j) ≡ false
  walked_ends j = lowest_none 0 (walked w) (ended_none (walked w) w.count (ended w.count)) j
