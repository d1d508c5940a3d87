use Rattle.std.proofs.Common.{ℕ, ◌==◌, cond, arith}
use Rattle.std.specs.declared.cmp.Reverse.{Reverse}
use Rattle.std.proofs.lemmas.List.Sorted.{sum_by_pushed}
use Rattle.own_table.proofs.LeastWord.{ok_then}
use Rattle.own_table.proofs.held.HeldWords.add.Goals as goal

pub returns-clause-added : goal.returns-clause-added
returns-clause-added c = λ w.
    let moved = ok_then c.push.result (c.push.ensures.succeeds c.requires.capacity) c.push.ensures.permutation in
    let total = sum_by_pushed (λ (z : Reverse ℕ). cond (z.0 == w) 1 0) _ _ _ moved in
    omega (arith, total)
