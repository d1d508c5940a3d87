-- Terms in the place of variables, in sums with numbers.
use Rattle.std.proofs.Common.{ℕ, ◌≡◌, ◌+◌, refl, ap, sym, ◌∙◌, Bool, true, false, cond, ◌==◌, arith}
use Rattle.std.proofs.lemmas.Bool.{eqb-true}
use Rattle.symbolic_source.specs.Terms.{Term, number, local, sum}
use Rattle.symbolic_source.specs.Terms.{at_offset, plus_number}
use Rattle.symbolic_source.specs.Replacing.{Replacing, joined, in_term}

no_more : (n : ℕ) → n ≡ n + 0
no_more n = omega arith

more_again : (a b c : ℕ) → a + (b + c) ≡ (a + b) + c
more_again a b c = omega arith

same_sum : (m n : ℕ) → (n == 0) ≡ true → m ≡ m + n
same_sum m n e = no_more m ∙ ap (λ (z : ℕ). m + z) (sym (eqb-true n 0 e))

numbers_by : (b : Bool) (m n : ℕ) → (n == 0) ≡ b → cond b (number m) (number (m + n)) ≡ number (m + n)
numbers_by true m n e = ap number (same_sum m n e)
numbers_by false m n e = refl

locals_by : (b : Bool) (o n : ℕ) → (n == 0) ≡ b → cond b (local o) (local (o + n)) ≡ local (o + n)
locals_by true o n e = ap local (same_sum o n e)
locals_by false o n e = refl

sums_by : (b : Bool) (a : Term) (m n : ℕ) → (n == 0) ≡ b → cond b (sum a (number m)) (sum a (number (m + n))) ≡ sum a (number (m + n))
sums_by true a m n e = ap (λ (z : ℕ). sum a (number z)) (same_sum m n e)
sums_by false a m n e = refl

-- a sum with what may be 0
either_sum : (u : Term) (n : ℕ) → cond (n == 0) u (joined u n) ≡ plus_number u n
either_sum (number m) n = numbers_by (n == 0) m n refl
either_sum (local o) n = locals_by (n == 0) o n refl
either_sum (sum a (number m)) n = sums_by (n == 0) a m n refl
either_sum u n = refl

joined_again : (u : Term) (m n : ℕ) → joined u (m + n) ≡ plus_number (joined u m) n
joined_again (number k) m n = ap number (more_again k m n)
joined_again (local o) m n = ap local (more_again o m n)
joined_again (sum a (number k)) m n = ap (λ (z : ℕ). sum a (number z)) (more_again k m n)
joined_again u m n = refl

module _ (r : Replacing) where
  either_in : (b : Bool) (t u : Term) → in_term r (cond b t u) ≡ cond b (in_term r t) (in_term r u)
  either_in true t u = refl
  either_in false t u = refl

  at_offset_in : (t : Term) (n : ℕ) → in_term r (at_offset t n) ≡ plus_number (in_term r t) n
  at_offset_in t n = either_in (n == 0) t (sum t (number n)) ∙ either_sum (in_term r t) n

  pub plus_in : (t : Term) (n : ℕ) → in_term r (plus_number t n) ≡ plus_number (in_term r t) n
  plus_in (number m) n = refl
  plus_in (local o) n = refl
  plus_in (sum a (number m)) n = joined_again (in_term r a) m n
  plus_in t n = at_offset_in t n
