-- Picks of thread 0, one more.
use Rattle.std.proofs.Common.{ℕ, ◌≡◌, ◌+◌, suc, cond, List, ◌∷◌, ap, ◌∙◌, arith}
use Rattle.std.proofs.lemmas.Bool.{ne_eqb, eq-eqb}
use Rattle.turn_bounds.specs.Alone.{zeros_in}

pub counted_zero : (t : ℕ) (ts : List ℕ) → t ≡ 0 → zeros_in (t ∷ ts) ≡ zeros_in ts + 1
counted_zero t ts e = ap (λ b. cond b (suc (zeros_in ts)) (zeros_in ts)) (eq-eqb t 0 e) ∙ more (zeros_in ts)
  where
    more : (n : ℕ) → suc n ≡ n + 1
    more n = omega arith

pub counted_other : (t : ℕ) (ts : List ℕ) → (t ≡ 0 → ⊥) → zeros_in (t ∷ ts) ≡ zeros_in ts
counted_other t ts e = ap (λ b. cond b (suc (zeros_in ts)) (zeros_in ts)) (ne_eqb t 0 e)
