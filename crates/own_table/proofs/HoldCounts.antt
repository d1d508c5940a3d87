-- How many words a thread holds.
use Rattle.std.proofs.Common.{ℕ, ◌≡◌, ◌≢◌, ◌==◌, ◌<◌, ◌≤◌, ◌+◌, Bool, true, false, cond, Option, Some, None, IsSome, List, [], ◌∷◌, length, refl, ap, sym, ◌∙◌}
use Rattle.std.proofs.Common.{subst, inl, inr, arith}
use Rattle.std.proofs.lemmas.Bool.{eqb-true, eq-eqb, cases_Bool, true≢false, false≢true}
use Rattle.std.proofs.lemmas.List.Sums.{sum_by-cons}
use Rattle.std.specs.declared.cmp.Reverse.{Reverse}
use Rattle.own_table.specs.declared.hold.Mode.{Mode}
use Rattle.own_table.specs.Words.{times_in}
use Rattle.own_table.proofs.LeastWord.{one}
use Rattle.own_table.proofs.TableLemmas.{held_once, none_from_count, some_from_count}

more_times : (x : Reverse ℕ) (xs : List (Reverse ℕ)) (w : ℕ) → times_in (x ∷ xs) w ≡ one (x.0 == w) + times_in xs w
more_times x xs w = sum_by-cons (λ (z : Reverse ℕ). cond (z.0 == w) 1 0) x xs

own_time : (x : Reverse ℕ) → one (x.0 == x.0) ≡ 1
own_time x = ap one (eq-eqb x.0 x.0 refl)

module _ (hold : ℕ → Option Mode) where
  -- each word that is held is there once, and no other
  abbrev Listed : List (Reverse ℕ) → Type 0
  Listed xs = (w : ℕ) → times_in xs w ≡ held_once (hold w)

  pub count_none : (xs : List (Reverse ℕ)) → Listed xs → length xs ≡ 0 → (w : ℕ) → hold w ≡ None
  count_none [] h e w = none_from_count (hold w) (sym (h w))
  count_none (x ∷ xs) h e w = absurd (omega (arith, e))

  first_held : (x : Reverse ℕ) (xs : List (Reverse ℕ)) → Listed (x ∷ xs) → IsSome (hold x.0)
  first_held x xs h =
      let times = more_times x xs x.0 in
      let its = own_time x in
      let there = h x.0 in
      some_from_count (hold x.0) (omega (arith, times, its, there))

  pub count_some : (xs : List (Reverse ℕ)) → Listed xs → 0 < length xs → (w : ℕ) × IsSome (hold w)
  count_some [] h e = absurd (omega (arith, e))
  count_some (x ∷ xs) h e = (x.0, first_held x xs h)

  held_one : (o : Option Mode) → IsSome o → held_once o ≡ 1
  held_one None h = absurd (false≢true h)
  held_one (Some m) h = refl

  only_first : (x : Reverse ℕ) → Listed (x ∷ []) → (v : ℕ) → IsSome (hold v) → v ≡ x.0
  only_first x h v s = elim (cases_Bool (x.0 == v)) [
    | inl e ↦ sym (eqb-true x.0 v e)
    | inr e ↦
        let times = more_times x [] v in
        let its = ap one e in
        let there = h v in
        let held = held_one (hold v) s in
        let none : times_in [] v ≡ 0 = refl in
        absurd (omega (arith, times, its, there, held, none))
  ]

  pub count_one : (xs : List (Reverse ℕ)) → Listed xs → length xs ≡ 1 → (w : ℕ) × (IsSome (hold w) × ((v : ℕ) → IsSome (hold v) → v ≡ w))
  count_one [] h e = absurd (omega (arith, e))
  count_one (x ∷ y ∷ ys) h e = absurd (omega (arith, e))
  count_one (x ∷ []) h e = (x.0, (first_held x [] h, only_first x h))

  second_held : (x y : Reverse ℕ) (ys : List (Reverse ℕ)) → Listed (x ∷ y ∷ ys) → IsSome (hold y.0)
  second_held x y ys h =
      let times = more_times x (y ∷ ys) y.0 in
      let more = more_times y ys y.0 in
      let its = own_time y in
      let there = h y.0 in
      some_from_count (hold y.0) (omega (arith, times, more, its, there))

  at_most_once : (o : Option Mode) → held_once o ≤ 1
  at_most_once None = omega arith
  at_most_once (Some m) = omega arith

  apart : (x y : Reverse ℕ) (ys : List (Reverse ℕ)) → Listed (x ∷ y ∷ ys) → x.0 ≡ y.0 → ⊥
  apart x y ys h e =
      let times = more_times x (y ∷ ys) y.0 in
      let more = more_times y ys y.0 in
      let its = own_time y in
      let others = ap one (eq-eqb x.0 y.0 e) in
      let there = h y.0 in
      let most = at_most_once (hold y.0) in
      absurd (omega (arith, times, more, its, others, there, most))

  pub count_more : (xs : List (Reverse ℕ)) → Listed xs → 1 < length xs → (v w : ℕ) × (v ≢ w × IsSome (hold v) × IsSome (hold w))
  count_more [] h e = absurd (omega (arith, e))
  count_more (x ∷ []) h e = absurd (omega (arith, e))
  count_more (x ∷ y ∷ ys) h e = (x.0, y.0, (apart x y ys h, first_held x (y ∷ ys) h, second_held x y ys h))
