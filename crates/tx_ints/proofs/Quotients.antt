-- Quotients and remainders, with their traps.
use Rattle.std.proofs.Common.{◌≡◌, ◌≢◌, ℕ, ◌/◌, ◌<◌, ◌≤◌, suc, zero, ℤ, pos, negsuc, neg_ℤ, ◌≤ℤ◌, ap, sym, ◌∙◌, refl, arith, Option, Some, None, Ok, Err, false}
use Rattle.std.proofs.Common.{if◌then◌else◌}
use Rattle.std.specs.Prelude.{Bool as Test, int_div, int_rem, unsigned_abs}
use Rattle.std.proofs.lemmas.Int.{ints, fits_signed_from_abs}
use Rattle.std.specs.Int.{cast_unsigned, w128}
use Rattle.std.specs.Ordering.{int_eq}
use mir.Val.{SFits}
use Rattle.tx_ints.specs.declared.kinds.IntKind.{IntKind}
use Rattle.tx_ints.specs.declared.kinds.ArithTrap.{ArithTrap}
use Rattle.tx_ints.specs.declared.kinds.ArithTrap.TheVariants.{DivideByZero}
use Rattle.tx_ints.specs.declared.kinds.BinOp.TheVariants.{Div, Rem}
use Rattle.tx_ints.specs.Integers.{least, greatest, InRange, reduced, overflow_of, division_trap, trapped_or, apply_of}
use Rattle.std.proofs.Math.Nat.{div-le_self, mod-le}
use Rattle.std.proofs.lemmas.Bool.Decides.{Decides-int_eq}
use Rattle.tx_ints.proofs.Modulo.{zero_least, one_greatest}
use Rattle.tx_ints.proofs.Values.{reduced_kept, Bounded, small_abs, test_false}

neg_abs : (n : ℕ) → unsigned_abs (neg_ℤ (pos n)) ≡ n
neg_abs zero = refl
neg_abs (suc n) = refl

quot_abs : (a b : ℤ) → unsigned_abs (int_div a b) ≤ unsigned_abs a
quot_abs (pos a) (pos b) = div-le_self a b
quot_abs (pos a) (negsuc b) = omega (arith, neg_abs (a / suc b), div-le_self a (suc b))
quot_abs (negsuc a) (pos b) = omega (arith, neg_abs (suc a / b), div-le_self (suc a) b)
quot_abs (negsuc a) (negsuc b) = div-le_self (suc a) (suc b)

pub quot_small : (a b : ℤ) → Bounded a → SFits w128 (int_div a b)
quot_small a b h = fits_signed_from_abs w128 (int_div a b) (omega (arith, quot_abs a b, small_abs a h))

pub zero_from_word : (b : ℤ) → SFits w128 b → cast_unsigned w128 b ≡ 0 → b ≡ pos 0
zero_from_word (pos n) f e = ap pos e
zero_from_word (negsuc n) f e = absurd (omega (arith, f.sfits))

pub word_from_not_zero : (b : ℤ) → SFits w128 b → b ≢ pos 0 → 0 < cast_unsigned w128 b
word_from_not_zero (pos zero) f h = absurd (h refl)
word_from_not_zero (pos (suc n)) f h = omega arith
word_from_not_zero (negsuc n) f h = omega (arith, f.sfits)

pub divided_by_zero : (k : IntKind) (a b : ℤ) → b ≡ pos 0 → Err DivideByZero ≡ apply_of Div k a b
unfolding apply_of
divided_by_zero k a b e = rw e refl

division_settles : (k : IntKind) (a b : ℤ) → b ≢ pos 0 → division_trap k a b ≡ overflow_of k (int_div a b)
division_settles k a b h =
    let no : int_eq b (pos 0) ≡ false = test_false (int_eq b (pos 0)) (λ e. h ((Decides-int_eq b (pos 0)).0 e)) in
    ap (λ (t : Test). if t then Some DivideByZero else overflow_of k (int_div a b)) no

pub divided : (k : IntKind) (a b : ℤ) → b ≢ pos 0 → trapped_or (overflow_of k (int_div a b)) k (int_div a b) ≡ apply_of Div k a b
unfolding apply_of
divided k a b h = ap (λ (t : Option ArithTrap). trapped_or t k (int_div a b)) (sym (division_settles k a b h))

rem_in : (l g a b : ℤ) → l ≤ℤ pos 0 → pos 0 ≤ℤ g → l ≤ℤ a → a ≤ℤ g → (l ≤ℤ int_rem a b) × (int_rem a b ≤ℤ g)
rem_in l g (pos a) b lz gz low high = (omega (arith, ints), omega (arith, ints, mod-le a (unsigned_abs b)))
rem_in l g (negsuc a) b lz gz low high =
    (omega (arith, ints, mod-le (suc a) (unsigned_abs b)), omega (arith, ints))

pub rem_range : (k : IntKind) (a b : ℤ) → InRange k a → InRange k (int_rem a b)
rem_range k a b h =
    let r = rem_in (least k) (greatest k) a b (zero_least k) (omega (arith, ints, one_greatest k)) h.from_least h.to_greatest in
    record { from_least = r.0; to_greatest = r.1 }

same_trap : (t : Option ArithTrap) (k : IntKind) (y z : ℤ) (e : ArithTrap) → trapped_or t k y ≡ Err e → trapped_or t k z ≡ Err e
same_trap (Some x) k y z e h = h
same_trap None k y z e h = cc

no_trap : (t : Option ArithTrap) (k : IntKind) (y z v : ℤ) → trapped_or t k y ≡ Ok v → trapped_or t k z ≡ Ok (reduced k z)
no_trap (Some x) k y z v h = cc
no_trap None k y z v h = refl

pub remainder_traps : (k : IntKind) (a b : ℤ) (e : ArithTrap) → apply_of Div k a b ≡ Err e → apply_of Rem k a b ≡ Err e
unfolding apply_of
remainder_traps k a b e h = same_trap (division_trap k a b) k (int_div a b) (int_rem a b) e h

pub remainder_value : (k : IntKind) (a b q : ℤ) → InRange k a → apply_of Div k a b ≡ Ok q → Ok (int_rem a b) ≡ apply_of Rem k a b
unfolding apply_of
remainder_value k a b q f h =
    ap Ok (sym (reduced_kept k (int_rem a b) (rem_range k a b f))) ∙ sym (no_trap (division_trap k a b) k (int_div a b) (int_rem a b) q h)
