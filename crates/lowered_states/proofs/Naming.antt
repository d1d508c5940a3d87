-- Names and their numbers.
use Rattle.std.proofs.Common.{◌≡◌, ◌∙◌, refl, sym, ap, subst, Bool, true, false, cond, not, ◌||◌, ℕ, zero, suc, ◌+◌, ◌<◌, List, [], ◌∷◌, ◌++◌, length, slice_get, Some, arith, ◌⊎◌, inl, inr, bytes_eq}
use Rattle.std.specs.List.{list_any}
use Rattle.std.proofs.lemmas.Slice.Eq.{bytes_eq-Decides}
use Rattle.std.proofs.lemmas.List.{length_push}
use Rattle.low_code.specs.Names.{number_of, with_name}
use Rattle.lowered_states.specs.Kept.{Begins}
use Rattle.lowered_states.specs.Sound.{AreNumbered}
use Rattle.lowered_states.proofs.Counting.{begins_same, begins_push}

self_eq : (name : List ℕ) → bytes_eq name name ≡ true
self_eq name = (bytes_eq-Decides name name).1 refl

pub name_kept : (name : List ℕ) (names : List (List ℕ)) → Begins names (with_name name names)
name_kept name names = elim (list_any (bytes_eq name) names) as (λ b. Begins names (cond b names (names ++ name ∷ []))) [
  | true ↦ begins_same names
  | false ↦ begins_push names name
]

-- the number of a name that is there is its place, also where others come behind
pub number_append : (name : List ℕ) (xs ys : List (List ℕ)) → number_of name xs < length xs → number_of name (xs ++ ys) ≡ number_of name xs
number_append name [] ys h = absurd (omega arith)
number_append name (x ∷ xs) ys h = by (bytes_eq name x) h (number_append name xs ys)
  where
    by : (b : Bool) → cond (not b) (1 + number_of name xs) 0 < suc (length xs) → (number_of name xs < length xs → number_of name (xs ++ ys) ≡ number_of name xs)
        → cond (not b) (1 + number_of name (xs ++ ys)) 0 ≡ cond (not b) (1 + number_of name xs) 0
    by true l k = refl
    by false l k = let e : number_of name (xs ++ ys) ≡ number_of name xs = k (omega arith) in omega arith

-- the name at a place
pub name_there : (name : List ℕ) (names : List (List ℕ)) → number_of name names < length names → slice_get names (number_of name names) ≡ Some name
name_there name [] h = absurd (omega arith)
name_there name (x ∷ xs) h = by (bytes_eq name x) refl h (name_there name xs)
  where
    by : (b : Bool) → bytes_eq name x ≡ b → cond (not b) (1 + number_of name xs) 0 < suc (length xs)
        → (number_of name xs < length xs → slice_get xs (number_of name xs) ≡ Some name)
        → slice_get (x ∷ xs) (cond (not b) (1 + number_of name xs) 0) ≡ Some name
    by true e l k = ap Some (sym ((bytes_eq-Decides name x).0 e))
    by false e l k = ap (λ n. slice_get (x ∷ xs) n) {x = 1 + number_of name xs} {y = suc (number_of name xs)} (omega arith) ∙ k (omega arith)

-- a name that is not there
any_false : (b m : Bool) → (b || m) ≡ false → (b ≡ false) × (m ≡ false)
any_false true m e = absurd cc
any_false false m e = (refl, e)

number_new : (name : List ℕ) (xs : List (List ℕ)) → list_any (bytes_eq name) xs ≡ false → number_of name (xs ++ name ∷ []) ≡ length xs
number_new name [] e = ap (λ b. cond (not b) 1 0) (self_eq name)
number_new name (x ∷ xs) e =
    let h = any_false (bytes_eq name x) (list_any (bytes_eq name) xs) e in
    let k : number_of name (xs ++ name ∷ []) ≡ length xs = number_new name xs h.1 in
    ap (λ b. cond (not b) (1 + number_of name (xs ++ name ∷ [])) 0) h.0 ∙ omega arith

-- a name that is there has a number
there_any : (name : List ℕ) (xs : List (List ℕ)) → list_any (bytes_eq name) xs ≡ true → number_of name xs < length xs
there_any name [] e = absurd cc
there_any name (x ∷ xs) e = by (bytes_eq name x) e (there_any name xs)
  where
    by : (b : Bool) → (b || list_any (bytes_eq name) xs) ≡ true → (list_any (bytes_eq name) xs ≡ true → number_of name xs < length xs)
        → cond (not b) (1 + number_of name xs) 0 < suc (length xs)
    by true e k = omega arith
    by false e k = let l : number_of name xs < length xs = k e in omega arith

number_old : (name : List ℕ) (xs : List (List ℕ)) → list_any (bytes_eq name) xs ≡ false → number_of name xs ≡ length xs
number_old name [] e = refl
number_old name (x ∷ xs) e =
    let h = any_false (bytes_eq name x) (list_any (bytes_eq name) xs) e in
    let k : number_of name xs ≡ length xs = number_old name xs h.1 in
    ap (λ b. cond (not b) (1 + number_of name xs) 0) h.0 ∙ omega arith

-- the name that comes has the number that is foreseen, and keeps it
pub named_number : (name : List ℕ) (names : List (List ℕ)) → (number_of name (with_name name names) ≡ number_of name names)
    × (number_of name names < length (with_name name names))
named_number name names = by (list_any (bytes_eq name) names) refl
  where
    by : (b : Bool) → list_any (bytes_eq name) names ≡ b → (number_of name (cond b names (names ++ name ∷ [])) ≡ number_of name names)
        × (number_of name names < length (cond b names (names ++ name ∷ [])))
    by true e = (refl, there_any name names e)
    by false e = (number_new name names e ∙ sym (number_old name names e), omega (arith, number_old name names e, length_push names name))

-- no name stands twice
at_push : (names : List (List ℕ)) (new : List ℕ) (number : ℕ) (name : List ℕ) → slice_get (names ++ new ∷ []) number ≡ Some name
    → (slice_get names number ≡ Some name) ⊎ ((number ≡ length names) × (new ≡ name))
at_push [] new zero name e = inr (refl, cc)
at_push [] new (suc number) name e = absurd cc
at_push (x ∷ xs) new zero name e = inl e
at_push (x ∷ xs) new (suc number) name e = elim (at_push xs new number name e) as (λ _. (slice_get xs number ≡ Some name) ⊎ ((suc number ≡ suc (length xs)) ×
    (new ≡ name))) [
      | inl h ↦ inl h
      | inr h ↦ inr (ap suc h.0, h.1)
    ]

at_within : (names : List (List ℕ)) (number : ℕ) (name : List ℕ) → slice_get names number ≡ Some name → number < length names
at_within [] number name e = absurd cc
at_within (x ∷ xs) zero name e = omega arith
at_within (x ∷ xs) (suc number) name e = omega (arith, at_within xs number name e)

numbered_push : (new : List ℕ) (names : List (List ℕ)) → list_any (bytes_eq new) names ≡ false → AreNumbered names → AreNumbered (names ++ new ∷ [])
numbered_push new names e h number name is = by (at_push names new number name is)
  where
    by : (slice_get names number ≡ Some name) ⊎ ((number ≡ length names) × (new ≡ name)) → number_of name (names ++ new ∷ []) ≡ number
    by (inl k) = let n : number_of name names ≡ number = h number name k in
        number_append name names (new ∷ []) (omega (arith, at_within names number name k)) ∙ n
    by (inr k) = subst (λ (x : List ℕ). number_of x (names ++ new ∷ []) ≡ number) k.1 (number_new new names e ∙ sym k.0)

pub name_numbered : (name : List ℕ) (names : List (List ℕ)) → AreNumbered names → AreNumbered (with_name name names)
name_numbered name names h = by (list_any (bytes_eq name) names) refl
  where
    by : (b : Bool) → list_any (bytes_eq name) names ≡ b → AreNumbered (cond b names (names ++ name ∷ []))
    by true e = h
    by false e = numbered_push name names e h
