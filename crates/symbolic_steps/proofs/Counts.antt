-- So many steps.
use Rattle.std.proofs.Common.{◌≡◌, ℕ, zero, suc, ◌-◌, ◌<◌, ap, arith}
use Rattle.src_mean.specs.Linked.{Func, Program}
use Rattle.symbolic_source.specs.Outcomes.{Outcome}
use Rattle.symbolic_source.specs.Steps.{Answers, step_of, advanced}

pub advanced_next : (p : Program) (f : Func) (answers : Answers) (n : ℕ) (o : Outcome) → 0 < n → advanced p f answers n o ≡ advanced p f answers (n - 1) (step_of p f answers o)
advanced_next p f answers zero o h = absurd (omega (arith, h))
advanced_next p f answers (suc n) o h =
    let e : n ≡ suc n - 1 = omega arith in
    ap (λ (z : ℕ). advanced p f answers z (step_of p f answers o)) e
