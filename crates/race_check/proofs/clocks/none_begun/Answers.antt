use Rattle.std.proofs.Common.{◌≡◌, sym, subst, false, replicate}
use Rattle.std.specs.Prelude.{slice_index_or}
use Rattle.race_check.proofs.ClockSteps.{none_marked_begun}
use Rattle.race_check.proofs.clocks.none_begun.Goals as goal

pub returns-clause-none : goal.returns-clause-none
returns-clause-none c =
    let are : c.in_ok-begun.begun.items ≡ replicate 64 false = c.in_ok-begun.ensures.items_if_clones_equal (λ y e. e) in
    λ t. subst (λ z. slice_index_or z t false ≡ false) (sym are) (none_marked_begun t)
