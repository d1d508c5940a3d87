use Rattle.std.proofs.Common.{◌≡◌, ℤ, ◌*ℤ◌, ap, ap₂, subst, sym, ◌∙◌, Ok}
use Rattle.std.proofs.lemmas.Int.{to_z-of_z}
use Rattle.std.specs.Int.{w128, cast_signed, cast_unsigned}
use mir.Val.{SFits}
use Rattle.tx_ints.specs.Integers.{overflow_of, trapped_or, apply_of}
use Rattle.tx_ints.proofs.Products.{product_fits, wrapped_product}
use Rattle.tx_ints.proofs.operators.product.Goals as goal

pub overflow_mul-a : goal.overflow_mul-a
overflow_mul-a c =
    let e : cast_signed w128 (cast_unsigned w128 c.args.a) *ℤ cast_signed w128 (cast_unsigned w128 c.args.b) ≡ c.args.a *ℤ c.args.b =
    ap₂ (λ (x y : ℤ). x *ℤ y) (to_z-of_z w128 c.args.a c.ranges.a) (to_z-of_z w128 c.args.b c.ranges.b) in
    subst (λ (z : ℤ). SFits w128 z) (sym e)
    (product_fits c.args.kind c.args.a c.args.b (sym c.is_signed.ensures ∙ c.if-is_signed.true) c.requires.left c.requires.right)

pub returns-then-is_signed-clause-value : goal.returns-then-is_signed-clause-value
unfolding apply_of
returns-then-is_signed-clause-value c =
    let e : cast_signed w128 (cast_unsigned w128 c.args.a) *ℤ cast_signed w128 (cast_unsigned w128 c.args.b) ≡ c.args.a *ℤ c.args.b =
    ap₂ (λ (x y : ℤ). x *ℤ y) (to_z-of_z w128 c.args.a c.ranges.a) (to_z-of_z w128 c.args.b c.ranges.b) in
    let fits : SFits w128 (c.args.a *ℤ c.args.b) =
    product_fits c.args.kind c.args.a c.args.b (sym c.is_signed.ensures ∙ c.if-is_signed.true) c.requires.left c.requires.right in
    let whole : cast_signed w128 (cast_unsigned w128 (cast_signed w128 (cast_unsigned w128 c.args.a) *ℤ cast_signed w128 (cast_unsigned w128 c.args.b)))
    ≡ c.args.a *ℤ c.args.b =
    ap (λ (z : ℤ). cast_signed w128 (cast_unsigned w128 z)) e ∙ to_z-of_z w128 (c.args.a *ℤ c.args.b) fits in
    c.settle.ensures.value ∙ ap (λ (z : ℤ). trapped_or (overflow_of c.args.kind z) c.args.kind z) whole

pub returns-else-is_signed-clause-value : goal.returns-else-is_signed-clause-value
returns-else-is_signed-clause-value c =
    ap Ok (to_z-of_z w128 c.reduce.result (record { sfits = c.reduce.type_inv }))
    ∙ wrapped_product c.args.kind c.args.a c.args.b c.reduce.result
    (sym c.is_signed.ensures ∙ c.if-is_signed.false) c.ranges.a c.ranges.b c.reduce.ensures.value
