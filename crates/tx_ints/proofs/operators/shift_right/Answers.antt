use Rattle.std.proofs.Common.{◌≡◌, ◌^◌, ℤ, ap, subst, sym, ◌∙◌, Ok, true}
use Rattle.std.proofs.lemmas.Int.{to_z-of_z}
use Rattle.std.specs.Int.{w128}
use Rattle.std.specs.Prelude.{unsigned_abs}
use Rattle.tx_ints.specs.Integers.{InRange, is_count}
use Rattle.tx_ints.proofs.Shifts.{shr_is, shr_value, shr_count, div_range}
use Rattle.tx_ints.proofs.operators.shift_right.Goals as goal

pub returns-then-counts-clause-value : goal.returns-then-counts-clause-value
returns-then-counts-clause-value c =
    let h : is_count c.args.kind c.args.count ≡ true =
    ap (is_count c.args.kind) (sym (to_z-of_z w128 c.args.count c.ranges.count)) ∙ sym c.counts.ensures ∙ c.if-counts.true in
    ap Ok (shr_is c.args.kind c.args.a c.args.count c.requires.left h) ∙ shr_value c.args.kind c.args.a c.args.count c.requires.left h

pub returns-then-counts-clause-range : goal.returns-then-counts-clause-range
returns-then-counts-clause-range c =
    let h : is_count c.args.kind c.args.count ≡ true =
    ap (is_count c.args.kind) (sym (to_z-of_z w128 c.args.count c.ranges.count)) ∙ sym c.counts.ensures ∙ c.if-counts.true in
    subst (λ (z : ℤ). InRange c.args.kind z) (sym (shr_is c.args.kind c.args.a c.args.count c.requires.left h))
    (div_range c.args.kind c.args.a (2 ^ unsigned_abs c.args.count) c.requires.left)

pub returns-else-counts-clause-value : goal.returns-else-counts-clause-value
returns-else-counts-clause-value c =
    shr_count c.args.kind c.args.a c.args.count
    (ap (is_count c.args.kind) (sym (to_z-of_z w128 c.args.count c.ranges.count)) ∙ sym c.counts.ensures ∙ c.if-counts.false)
