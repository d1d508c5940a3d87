use Rattle.std.proofs.Common.{◌≡◌, sym, subst, replicate}
use Rattle.race_check.specs.Clocks.{row_in}
use Rattle.race_check.proofs.ClockSteps.{zero_rows}
use Rattle.race_check.proofs.clocks.empty_rows.Goals as goal

pub returns-clause-zero : goal.returns-clause-zero
returns-clause-zero c =
    let are : c.in_ok-rows.rows.items ≡ replicate 64 c.empty_row-row.result = c.in_ok-rows.ensures.items_if_clones_equal (λ y e. e) in
    λ t s. subst (λ z. row_in z t s ≡ 0) (sym are) (zero_rows c.empty_row-row.result c.empty_row-row.ensures t s)
