use Rattle.std.proofs.Common.{◌≡◌, ℤ, pos, ◌<ℤ◌, ◌≤ℤ◌, arith, ap, subst, sym, ◌∙◌}
use Rattle.std.proofs.lemmas.Int.{ints, to_z-of_z}
use Rattle.std.specs.Int.{w128, int_rem_euclid}
use Rattle.tx_ints.proofs.Modulo.{reduced_in, remainder_down, remainder_kept, remainder, many}
use Rattle.tx_ints.specs.Integers.{InRange, modulus, greatest}
use Rattle.tx_ints.proofs.conversions.reduce.Goals as goal

pub returns-then-low-greatest-clause-value : goal.returns-then-low-greatest-clause-value
returns-then-low-greatest-clause-value c =
    let e : c.low_bits-low.result ≡ int_rem_euclid c.args.v (pos (modulus c.args.kind)) =
    c.low_bits-low.ensures ∙ ap (λ (t : ℤ). int_rem_euclid t (pos (modulus c.args.kind))) (to_z-of_z w128 c.args.v c.ranges.v) in
    let r = remainder (modulus c.args.kind) c.args.v (many c.args.kind) in
    let over : greatest c.args.kind <ℤ c.low_bits-low.result = omega (arith, ints) in
    omega (arith, ints, remainder_down c.args.kind c.args.v c.low_bits-low.result e over, r.is, e)

pub returns-then-low-greatest-clause-range : goal.returns-then-low-greatest-clause-range
returns-then-low-greatest-clause-range c =
    let P : ℤ → Type 0 = λ (t : ℤ). InRange c.args.kind t in
    subst P (sym (returns-then-low-greatest-clause-value c)) (reduced_in c.args.kind c.args.v)

pub returns-else-low-greatest-clause-value : goal.returns-else-low-greatest-clause-value
returns-else-low-greatest-clause-value c =
    let e : c.low_bits-low.result ≡ int_rem_euclid c.args.v (pos (modulus c.args.kind)) =
    c.low_bits-low.ensures ∙ ap (λ (t : ℤ). int_rem_euclid t (pos (modulus c.args.kind))) (to_z-of_z w128 c.args.v c.ranges.v) in
    let under : c.low_bits-low.result ≤ℤ greatest c.args.kind = omega (arith, ints) in
    omega (arith, ints, remainder_kept c.args.kind c.args.v c.low_bits-low.result e under)
