use Rattle.std.proofs.Common.{◌≡◌, ℤ, ap, ap₂, sym, ◌∙◌}
use Rattle.std.proofs.lemmas.Int.{to_z-of_z}
use Rattle.std.specs.Int.{w128}
use Rattle.std.specs.Prelude.{int_lt, int_le, not, Bool}
use Rattle.std.specs.Ordering.{int_eq}
use Rattle.tx_ints.specs.declared.kinds.BinOp.{BinOp}
use Rattle.tx_ints.specs.Integers.{InRange, is_shift, apply_of, overflow_of, trapped_or, truth}
use Rattle.tx_ints.proofs.Values.{sum_is, difference_is, truth_value, truth_range, eq_is}
use Rattle.tx_ints.proofs.Bits.{and_value, or_value, xor_value, and_range, or_range, xor_range}
use Rattle.tx_ints.proofs.operators.apply.Goals as goal

pub returns-in-Add-clause-value : goal.returns-in-Add-clause-value
unfolding apply_of
returns-in-Add-clause-value c =
    let right : InRange c.args.kind c.args.b = c.requires.right (ap is_shift c.in-Add.is) in
    c.settle.ensures.value
    ∙ ap (λ (z : ℤ). trapped_or (overflow_of c.args.kind z) c.args.kind z) (sum_is c.args.kind c.args.a c.args.b c.requires.left right)
    ∙ ap (λ (op : BinOp). apply_of op c.args.kind c.args.a c.args.b) (sym c.in-Add.is)

pub returns-in-Sub-clause-value : goal.returns-in-Sub-clause-value
unfolding apply_of
returns-in-Sub-clause-value c =
    let right : InRange c.args.kind c.args.b = c.requires.right (ap is_shift c.in-Sub.is) in
    c.settle-in-Sub.ensures.value
    ∙ ap (λ (z : ℤ). trapped_or (overflow_of c.args.kind z) c.args.kind z) (difference_is c.args.kind c.args.a c.args.b c.requires.left right)
    ∙ ap (λ (op : BinOp). apply_of op c.args.kind c.args.a c.args.b) (sym c.in-Sub.is)

pub returns-in-And-clause-value : goal.returns-in-And-clause-value
returns-in-And-clause-value c =
    and_value c.args.kind c.args.a c.args.b c.requires.left (c.requires.right (ap is_shift c.in-And.is))
    ∙ ap (λ (op : BinOp). apply_of op c.args.kind c.args.a c.args.b) (sym c.in-And.is)

pub returns-in-And-clause-range : goal.returns-in-And-clause-range
returns-in-And-clause-range c =
    and_range c.args.kind c.args.a c.args.b c.requires.left (c.requires.right (ap is_shift c.in-And.is))

pub returns-in-Xor-clause-value : goal.returns-in-Xor-clause-value
returns-in-Xor-clause-value c =
    xor_value c.args.kind c.args.a c.args.b c.requires.left (c.requires.right (ap is_shift c.in-Xor.is))
    ∙ ap (λ (op : BinOp). apply_of op c.args.kind c.args.a c.args.b) (sym c.in-Xor.is)

pub returns-in-Xor-clause-range : goal.returns-in-Xor-clause-range
returns-in-Xor-clause-range c =
    xor_range c.args.kind c.args.a c.args.b c.requires.left (c.requires.right (ap is_shift c.in-Xor.is))

pub returns-in-Or-clause-value : goal.returns-in-Or-clause-value
returns-in-Or-clause-value c =
    or_value c.args.kind c.args.a c.args.b c.requires.left (c.requires.right (ap is_shift c.in-Or.is))
    ∙ ap (λ (op : BinOp). apply_of op c.args.kind c.args.a c.args.b) (sym c.in-Or.is)

pub returns-in-Or-clause-range : goal.returns-in-Or-clause-range
returns-in-Or-clause-range c =
    or_range c.args.kind c.args.a c.args.b c.requires.left (c.requires.right (ap is_shift c.in-Or.is))

pub returns-in-Lt-clause-value : goal.returns-in-Lt-clause-value
unfolding apply_of
returns-in-Lt-clause-value c =
    let e : c.number.result ≡ truth (int_lt c.args.a c.args.b) =
    c.number.ensures ∙ ap₂ (λ (x y : ℤ). truth (int_lt x y)) (to_z-of_z w128 c.args.a c.ranges.a) (to_z-of_z w128 c.args.b c.ranges.b) in
    truth_value c.args.kind (int_lt c.args.a c.args.b) c.number.result e ∙ ap (λ (op : BinOp). apply_of op c.args.kind c.args.a c.args.b) (sym c.in-Lt.is)

pub returns-in-Lt-clause-range : goal.returns-in-Lt-clause-range
returns-in-Lt-clause-range c = truth_range c.args.kind _ c.number.result c.number.ensures

pub returns-in-Gt-clause-value : goal.returns-in-Gt-clause-value
unfolding apply_of
returns-in-Gt-clause-value c =
    let e : c.number-in-Gt.result ≡ truth (int_lt c.args.b c.args.a) =
    c.number-in-Gt.ensures ∙ ap₂ (λ (x y : ℤ). truth (int_lt y x)) (to_z-of_z w128 c.args.a c.ranges.a) (to_z-of_z w128 c.args.b c.ranges.b) in
    truth_value c.args.kind (int_lt c.args.b c.args.a) c.number-in-Gt.result e ∙ ap (λ (op : BinOp). apply_of op c.args.kind c.args.a c.args.b) (sym c.in-Gt.is)

pub returns-in-Gt-clause-range : goal.returns-in-Gt-clause-range
returns-in-Gt-clause-range c = truth_range c.args.kind _ c.number-in-Gt.result c.number-in-Gt.ensures

pub returns-in-Le-clause-value : goal.returns-in-Le-clause-value
unfolding apply_of
returns-in-Le-clause-value c =
    let e : c.number-in-Le.result ≡ truth (int_le c.args.a c.args.b) =
    c.number-in-Le.ensures ∙ ap₂ (λ (x y : ℤ). truth (int_le x y)) (to_z-of_z w128 c.args.a c.ranges.a) (to_z-of_z w128 c.args.b c.ranges.b) in
    truth_value c.args.kind (int_le c.args.a c.args.b) c.number-in-Le.result e ∙ ap (λ (op : BinOp). apply_of op c.args.kind c.args.a c.args.b) (sym c.in-Le.is)

pub returns-in-Le-clause-range : goal.returns-in-Le-clause-range
returns-in-Le-clause-range c = truth_range c.args.kind _ c.number-in-Le.result c.number-in-Le.ensures

pub returns-in-Ge-clause-value : goal.returns-in-Ge-clause-value
unfolding apply_of
returns-in-Ge-clause-value c =
    let e : c.number-in-Ge.result ≡ truth (int_le c.args.b c.args.a) =
    c.number-in-Ge.ensures ∙ ap₂ (λ (x y : ℤ). truth (int_le y x)) (to_z-of_z w128 c.args.a c.ranges.a) (to_z-of_z w128 c.args.b c.ranges.b) in
    truth_value c.args.kind (int_le c.args.b c.args.a) c.number-in-Ge.result e ∙ ap (λ (op : BinOp). apply_of op c.args.kind c.args.a c.args.b) (sym c.in-Ge.is)

pub returns-in-Ge-clause-range : goal.returns-in-Ge-clause-range
returns-in-Ge-clause-range c = truth_range c.args.kind _ c.number-in-Ge.result c.number-in-Ge.ensures

pub returns-in-Eq-clause-value : goal.returns-in-Eq-clause-value
unfolding apply_of
returns-in-Eq-clause-value c =
    let e : c.number-in-Eq.result ≡ truth (int_eq c.args.a c.args.b) =
    c.number-in-Eq.ensures ∙ ap truth (eq_is c.args.a c.args.b c.ranges.a c.ranges.b) in
    truth_value c.args.kind (int_eq c.args.a c.args.b) c.number-in-Eq.result e ∙ ap (λ (op : BinOp). apply_of op c.args.kind c.args.a c.args.b) (sym c.in-Eq.is)

pub returns-in-Ne-clause-value : goal.returns-in-Ne-clause-value
unfolding apply_of
returns-in-Ne-clause-value c =
    let e : c.number-in-Ne.result ≡ truth (not (int_eq c.args.a c.args.b)) =
    c.number-in-Ne.ensures ∙ ap (λ (t : Bool). truth (not t)) (eq_is c.args.a c.args.b c.ranges.a c.ranges.b) in
    truth_value c.args.kind (not (int_eq c.args.a c.args.b)) c.number-in-Ne.result e
    ∙ ap (λ (op : BinOp). apply_of op c.args.kind c.args.a c.args.b) (sym c.in-Ne.is)
