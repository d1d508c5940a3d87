use Rattle.std.proofs.Common.{◌≡◌, ℤ, ap, ◌∙◌, sym, Ok, true}
use Rattle.std.proofs.lemmas.Int.{to_z-of_z}
use Rattle.std.specs.Int.{w128}
use Rattle.tx_ints.specs.Integers.{is_in_range}
use Rattle.tx_ints.proofs.Values.{settled}
use Rattle.tx_ints.proofs.operators.settle.Goals as goal

pub returns-then-has-clause-value : goal.returns-then-has-clause-value
returns-then-has-clause-value c =
    let same : is_in_range c.args.kind c.args.value ≡ true =
    ap (λ (v : ℤ). is_in_range c.args.kind v) (sym (to_z-of_z w128 c.args.value c.ranges.value)) ∙ sym c.has.ensures.value ∙ c.if-has.true in
    ap Ok (to_z-of_z w128 c.args.value c.ranges.value) ∙ settled c.args.kind c.args.value same
