use Rattle.std.proofs.Common.{ℕ, ◌==◌, cond, arith}
use Rattle.std.specs.declared.cmp.Reverse.{Reverse}
use Rattle.std.proofs.lemmas.List.Sorted.{sum_by_pushed}
use Rattle.code_walk.proofs.waiting.Waiting.add.Goals as goal

pub returns-clause-added : goal.returns-clause-added
returns-clause-added c = λ i.
    let total = sum_by_pushed (λ (z : Reverse ℕ). cond (z.0 == i) 1 0) _ _ _ c.in_ok-push.ensures.permutation in
    omega (arith, total)
