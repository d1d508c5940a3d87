use Rattle.std.proofs.Common.{◌≡◌, ◌^◌, ◌*ℤ◌, ℤ, pos, ap, sym, ◌∙◌, Ok, true, false, inl, inr, ◌⊎◌}
use Rattle.std.proofs.lemmas.Int.{to_z-of_z}
use Rattle.std.specs.Int.{w128}
use Rattle.std.specs.Prelude.{unsigned_abs, int_lt}
use Rattle.tx_ints.specs.Integers.{is_count, is_signed, modulus, reduced}
use Rattle.tx_ints.proofs.Shifts.{shl_is, shl_value, shl_count, shl_negative, shl_beyond, negative_signed, below, not_below}
use Rattle.tx_ints.proofs.operators.shift_left.Goals as goal
use Rattle.tx_ints.proofs.operators.shift_left.Goals.{else-is_signed-via-then-is_signed+else-value-modulus, else-is_signed-via-else-is_signed}

pub returns-then-not-counts-clause-value : goal.returns-then-not-counts-clause-value
returns-then-not-counts-clause-value c =
    shl_count c.args.kind c.args.a c.args.count
    (ap (is_count c.args.kind) (sym (to_z-of_z w128 c.args.count c.ranges.count)) ∙ sym c.counts.ensures ∙ c.if-not-counts.true)

pub returns-then-a-lt0-clause-value : goal.returns-then-a-lt0-clause-value
returns-then-a-lt0-clause-value c =
    let h : is_count c.args.kind c.args.count ≡ true =
    ap (is_count c.args.kind) (sym (to_z-of_z w128 c.args.count c.ranges.count)) ∙ sym c.counts.ensures ∙ c.if-not-counts.false in
    let n : int_lt c.args.a (pos 0) ≡ true = ap (λ (z : ℤ). int_lt z (pos 0)) (sym (to_z-of_z w128 c.args.a c.ranges.a)) ∙ c.if-a-lt0.true in
    shl_negative c.args.kind c.args.a c.args.count h (negative_signed c.args.kind c.args.a c.requires.left n) n

pub returns-then-value-modulus-clause-value : goal.returns-then-value-modulus-clause-value
returns-then-value-modulus-clause-value c =
    let h : is_count c.args.kind c.args.count ≡ true =
    ap (is_count c.args.kind) (sym (to_z-of_z w128 c.args.count c.ranges.count)) ∙ sym c.counts.ensures ∙ c.if-not-counts.false in
    let n : int_lt c.args.a (pos 0) ≡ false = ap (λ (z : ℤ). int_lt z (pos 0)) (sym (to_z-of_z w128 c.args.a c.ranges.a)) ∙ c.if-a-lt0.false in
    let v = shl_is c.args.kind c.args.a c.args.count c.requires.left h n in
    let large : int_lt (c.args.a *ℤ pos (2 ^ unsigned_abs c.args.count)) (pos (modulus c.args.kind)) ≡ false =
    not_below c.modulus.result _ _ _ (record { sfits = c.modulus.type_inv }) c.modulus.ensures v c.if-value-modulus.true in
    shl_beyond c.args.kind c.args.a c.args.count h (sym c.is_signed.ensures ∙ c.if-is_signed.true) large

pub returns-clause-value : goal.returns-clause-value
returns-clause-value c =
    let h : is_count c.args.kind c.args.count ≡ true =
    ap (is_count c.args.kind) (sym (to_z-of_z w128 c.args.count c.ranges.count)) ∙ sym c.counts.ensures ∙ c.if-not-counts.false in
    let n : int_lt c.args.a (pos 0) ≡ false = ap (λ (z : ℤ). int_lt z (pos 0)) (sym (to_z-of_z w128 c.args.a c.ranges.a)) ∙ c.if-a-lt0.false in
    let v = shl_is c.args.kind c.args.a c.args.count c.requires.left h n in
    let fits : (is_signed c.args.kind ≡ false) ⊎ (int_lt (c.args.a *ℤ pos (2 ^ unsigned_abs c.args.count)) (pos (modulus c.args.kind)) ≡ true) =
    elim c.else-is_signed.branch [
      | else-is_signed-via-then-is_signed+else-value-modulus w ↦
          inr (below w.modulus.result _ _ _ (record { sfits = w.modulus.type_inv }) w.modulus.ensures v w.if-value-modulus.false)
      | else-is_signed-via-else-is_signed w ↦ inl (sym c.is_signed.ensures ∙ w.if-is_signed.false)
    ] in
    ap Ok (to_z-of_z w128 c.reduce.result (record { sfits = c.reduce.type_inv }) ∙ c.reduce.ensures.value ∙ ap (reduced c.args.kind) v)
    ∙ shl_value c.args.kind c.args.a c.args.count h n fits
