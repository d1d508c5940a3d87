use Rattle.std.proofs.Common.{◌≡◌, ◌↔◌, Bool, true, false, not, cond, nat_lt, refl}
use Rattle.choosers.specs.Answers.{is_older}
use Rattle.choosers.specs.declared.Choice.TheVariants.{Wait, Yield}
use Rattle.choosers.proofs.policy.older_rule.Goals as goal

waits : (b : Bool) → (b ≡ true) ↔ (Wait ≡ cond b Wait Yield)
waits true = (λ _. refl, λ _. refl)
waits false = (λ e. cc, λ e. cc)

yields : (b : Bool) → (not b ≡ true) ↔ (Yield ≡ cond b Wait Yield)
yields true = (λ e. cc, λ e. cc)
yields false = (λ _. refl, λ _. refl)

pub returns : goal.returns
returns c = λ clash choice. elim choice as (λ a. (is_older clash a ≡ true) ↔ (a ≡ cond (nat_lt clash.mine clash.least) Wait Yield)) [
  | Wait ↦ waits
      (nat_lt clash.mine clash.least)
  | Yield ↦ yields (nat_lt clash.mine clash.least)
]
