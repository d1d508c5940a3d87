-- Products in 128 bits are the operator's values, or equal to them modulo 2^n.
use Rattle.std.proofs.Common.{◌≡◌, ℕ, ◌+◌, ◌≤◌, ℤ, pos, negsuc, ◌*ℤ◌, ◌≤ℤ◌, ap, sym, ◌∙◌, refl, arith, Option, Some, None, Ok, true, false, not, ◌&&◌}
use Rattle.std.proofs.Common.{if◌then◌else◌}
use Rattle.std.specs.Prelude.{Bool as Test, unsigned_abs}
use Rattle.std.proofs.lemmas.Int.{ints, fits_signed_mul, wrapping_mul_is}
use Rattle.std.specs.Int.{int_wrap, int_wrapping_mul, w128}
use mir.Val.{SFits}
use Rattle.tx_ints.specs.declared.kinds.IntKind.{IntKind}
use Rattle.tx_ints.specs.declared.kinds.IntKind.TheVariants.{Bool, Char, SChar, UChar, Short, UShort, Int, UInt, Long, ULong, LLong, ULLong}
use Rattle.tx_ints.specs.declared.kinds.ArithTrap.{ArithTrap}
use Rattle.tx_ints.specs.declared.kinds.ArithTrap.TheVariants.{Overflow}
use Rattle.tx_ints.specs.declared.kinds.BinOp.TheVariants.{Mul}
use Rattle.tx_ints.specs.Integers.{is_signed, InRange, is_in_range, reduced, trapped_or, apply_of}
use Rattle.tx_ints.proofs.Values.{reduced_same}
use Rattle.tx_ints.proofs.Masks.{wrap_turns, finer_in_kind}

magnitude : (v : ℤ) (m : ℕ) → negsuc m ≤ℤ v → v ≤ℤ pos m → unsigned_abs v ≤ m + 1
magnitude (pos n) m low high = omega (arith, ints)
magnitude (negsuc n) m low high = omega (arith, ints)

signed_bounds : (k : IntKind) (v : ℤ) → is_signed k ≡ true → InRange k v → unsigned_abs v ≤ 9223372036854775808
signed_bounds Bool v s h = absurd (cc)
signed_bounds Char v s h = magnitude v 9223372036854775807 (omega (arith, ints)) (omega (arith, ints))
signed_bounds SChar v s h = magnitude v 9223372036854775807 (omega (arith, ints)) (omega (arith, ints))
signed_bounds UChar v s h = absurd (cc)
signed_bounds Short v s h = magnitude v 9223372036854775807 (omega (arith, ints)) (omega (arith, ints))
signed_bounds UShort v s h = absurd (cc)
signed_bounds Int v s h = magnitude v 9223372036854775807 (omega (arith, ints)) (omega (arith, ints))
signed_bounds UInt v s h = absurd (cc)
signed_bounds Long v s h = magnitude v 9223372036854775807 (omega (arith, ints)) (omega (arith, ints))
signed_bounds ULong v s h = absurd (cc)
signed_bounds LLong v s h = magnitude v 9223372036854775807 (omega (arith, ints)) (omega (arith, ints))
signed_bounds ULLong v s h = absurd (cc)

pub product_fits : (k : IntKind) (a b : ℤ) → is_signed k ≡ true → InRange k a → InRange k b → SFits w128 (a *ℤ b)
product_fits k a b s f g =
    fits_signed_mul w128 a b 9223372036854775808 9223372036854775808 (signed_bounds k a s f) (signed_bounds k b s g) (omega arith)

pub unsigned_keeps : (s r : Test) → s ≡ false → ◌≡◌ {A = Option ArithTrap} (if s && not r then Some Overflow else None) None
unsigned_keeps true r h = cc
unsigned_keeps false r h = refl

pub wrapped_product : (k : IntKind) (a b r : ℤ) → is_signed k ≡ false → SFits w128 a → SFits w128 b → r ≡ reduced k (int_wrapping_mul w128 a b)
    → Ok r ≡ apply_of Mul k a b
unfolding apply_of
wrapped_product k a b r s f g e =
    ap Ok (e ∙ ap (reduced k) (wrapping_mul_is w128 a b f g) ∙ sym
    (reduced_same k (a *ℤ b) (int_wrap w128 (a *ℤ b)) (finer_in_kind k (a *ℤ b) (int_wrap w128 (a *ℤ b)) (wrap_turns (a *ℤ b)))))
    ∙ ap (λ (t : Option ArithTrap). trapped_or t k (a *ℤ b)) (sym (unsigned_keeps (is_signed k) (is_in_range k (a *ℤ b)) s))
