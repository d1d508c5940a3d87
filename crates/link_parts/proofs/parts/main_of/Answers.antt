use Rattle.std.proofs.Common.{◌≡◌, ◌+◌, ℕ, Some, arith, sym, ap, ◌∙◌, map}
use Rattle.link_tables.specs.Found.{func_row}
use Rattle.link_parts.specs.Parts.{is_main_row}
use Rattle.link_faults.proofs.KeptDefinitions.{whole}
use Rattle.link_parts.proofs.PartSteps.{first_absent, first_there}
use Rattle.link_parts.proofs.parts.main_of.Goals as goal

pub returns-then-is_main : goal.returns-then-is_main
returns-then-is_main c =
    let s : 0 + c.loop-func.func-index ≡ c.loop-func.number = omega (arith, c.loop-func.invariant.0) in
    sym (first_there is_main_row func_row 0 c.args.kept.now c.loop-func.func-index c.func-item.result c.loop-func-test.true c.func-item.is
    c.loop-func.invariant.1 (sym c.is_main.ensures ∙ c.if-is_main.true) ∙ ap (λ (k : ℕ). Some k) s)

pub returns : goal.returns
returns c = sym (first_absent is_main_row 0 (map func_row c.args.kept.now)
    (rw (whole c.args.kept.now c.loop-func.func-index c.loop-func-test.false) at c.loop-func.invariant.1))
