use Rattle.std.proofs.Common.{ℕ, ◌≡◌, ◌==◌, false, cond, ap, sym, ◌∙◌, arith}
use Rattle.std.specs.declared.cmp.Reverse.{Reverse}
use Rattle.std.proofs.lemmas.Bool.{ne_eqb}
use Rattle.std.proofs.lemmas.List.Sorted.{sum_by_popped}
use Rattle.code_walk.proofs.LeastIndex.{none_below, one}
use Rattle.code_walk.proofs.waiting.Waiting.take_least.Goals as goal

pub returns-clause-one : goal.returns-clause-one
returns-clause-one c = λ i. sym (sum_by_popped (λ (z : Reverse ℕ). cond (z.0 == i) 1 0) _ _ _ c.in-Some.ensures.permutation)

pub returns-clause-least : goal.returns-clause-least
returns-clause-least c = λ i l.
    let rest = none_below _ _ i (c.in-Some.ensures.below_top c.args.self.now.ordered) l in
    let other : (c.in-Some.field-0.0 == i) ≡ false = ne_eqb c.in-Some.field-0.0 i (λ e. absurd (omega (arith, e))) in
    sym (sum_by_popped (λ (z : Reverse ℕ). cond (z.0 == i) 1 0) _ _ _ c.in-Some.ensures.permutation) ∙ omega (arith, rest, ap one other)
