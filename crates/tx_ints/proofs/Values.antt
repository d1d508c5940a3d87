-- A kind's numbers in 128 bits, and what is computed of them there.
use Rattle.std.proofs.Common.{◌≡◌, ◌^◌, ◌<◌, ◌≤◌, ℤ, pos, negsuc, ◌+ℤ◌, ◌-ℤ◌, ◌≤ℤ◌, ap, sym, ◌∙◌, refl, arith, Option, Some, None, Ok, true, false, not, ◌&&◌}
use Rattle.std.proofs.Common.{if◌then◌else◌, subst}
use Rattle.std.specs.Prelude.{Bool as Test, ◌==◌, int_le, unsigned_abs}
use Rattle.std.proofs.lemmas.Int.{ints, to_z-of_z, fits_signed_from_abs}
use Rattle.std.specs.Int.{cast_unsigned, cast_signed, w128}
use Rattle.std.specs.Ordering.{int_eq}
use mir.Val.{SFits}
use Rattle.tx_ints.specs.declared.kinds.IntKind.{IntKind}
use Rattle.tx_ints.specs.declared.kinds.IntKind.TheVariants.{Bool, Char, SChar, UChar, Short, UShort, Int, UInt, Long, ULong, LLong, ULLong}
use Rattle.tx_ints.specs.declared.kinds.ArithTrap.{ArithTrap}
use Rattle.tx_ints.specs.declared.kinds.ArithTrap.TheVariants.{Overflow}
use Rattle.tx_ints.specs.Integers.{least, greatest, modulus, width, is_signed, InRange, is_in_range, reduced, truth, overflow_of, trapped_or}
use Rattle.std.proofs.lemmas.Bool.Decides.{Decides-int_eq, Decides-eqb}
use Rattle.tx_ints.proofs.Modulo.{Turns, reduced_is, reduced_in, reduced_turns, turns_then, zero_least, one_greatest}

-- ---- a kind keeps its own numbers

pub reduced_kept : (k : IntKind) (v : ℤ) → InRange k v → reduced k v ≡ v
reduced_kept k v h = reduced_is k v v h (record { up = 0; down = 0; meet = refl })

pub reduced_same : (k : IntKind) (y z : ℤ) → Turns (modulus k) y z → reduced k y ≡ reduced k z
reduced_same k y z t = reduced_is k y (reduced k z) (reduced_in k z) (turns_then (modulus k) y z (reduced k z) t (reduced_turns k z))

in_bounds : (l v g : ℤ) → int_le l v && int_le v g ≡ true → (l ≤ℤ v) × (v ≤ℤ g)
in_bounds l v g h = (grind (arith, ints), grind (arith, ints))

pub in_range : (k : IntKind) (v : ℤ) → is_in_range k v ≡ true → InRange k v
in_range k v h = let b = in_bounds (least k) v (greatest k) h in record { from_least = b.0; to_greatest = b.1 }

keeps : (s r : Test) → r ≡ true → ◌≡◌ {A = Option ArithTrap} (if s && not r then Some Overflow else None) None
keeps true true h = refl
keeps true false h = cc
keeps false r h = refl

pub settled : (k : IntKind) (v : ℤ) → is_in_range k v ≡ true → Ok v ≡ trapped_or (overflow_of k v) k v
settled k v h =
    ap Ok (sym (reduced_kept k v (in_range k v h)))
    ∙ ap (λ (t : Option ArithTrap). trapped_or t k v) (sym (keeps (is_signed k) (is_in_range k v) h))

-- ---- bounds of all kinds

pub record Bounded (v : ℤ) : Type 0 where
  pub low : negsuc 9223372036854775807 ≤ℤ v
  pub high : v ≤ℤ pos 18446744073709551615

pub bounded : (k : IntKind) (v : ℤ) → InRange k v → Bounded v
bounded Bool v h = record { low = omega (arith, ints); high = omega (arith, ints) }
bounded Char v h = record { low = omega (arith, ints); high = omega (arith, ints) }
bounded SChar v h = record { low = omega (arith, ints); high = omega (arith, ints) }
bounded UChar v h = record { low = omega (arith, ints); high = omega (arith, ints) }
bounded Short v h = record { low = omega (arith, ints); high = omega (arith, ints) }
bounded UShort v h = record { low = omega (arith, ints); high = omega (arith, ints) }
bounded Int v h = record { low = omega (arith, ints); high = omega (arith, ints) }
bounded UInt v h = record { low = omega (arith, ints); high = omega (arith, ints) }
bounded Long v h = record { low = omega (arith, ints); high = omega (arith, ints) }
bounded ULong v h = record { low = omega (arith, ints); high = omega (arith, ints) }
bounded LLong v h = record { low = omega (arith, ints); high = omega (arith, ints) }
bounded ULLong v h = record { low = omega (arith, ints); high = omega (arith, ints) }

-- a comparison's number
pub truth_in : (k : IntKind) (t : Test) → InRange k (truth t)
truth_in k true = record { from_least = omega (arith, ints, zero_least k); to_greatest = one_greatest k }
truth_in k false = record { from_least = zero_least k; to_greatest = omega (arith, ints, one_greatest k) }

truth_fits : (t : Test) → SFits w128 (truth t)
truth_fits true = record { sfits = omega arith }
truth_fits false = record { sfits = omega arith }

code_truth : (t : Test) (r : ℤ) → r ≡ truth t → cast_signed w128 (cast_unsigned w128 r) ≡ truth t
code_truth t r e = ap (λ (z : ℤ). cast_signed w128 (cast_unsigned w128 z)) e ∙ to_z-of_z w128 (truth t) (truth_fits t)

pub truth_value : (k : IntKind) (t : Test) (r : ℤ) → r ≡ truth t → Ok (cast_signed w128 (cast_unsigned w128 r)) ≡ trapped_or None k (truth t)
truth_value k t r e = ap Ok (code_truth t r e ∙ sym (reduced_kept k (truth t) (truth_in k t)))

pub truth_range : (k : IntKind) (t : Test) (r : ℤ) → r ≡ truth t → InRange k (cast_signed w128 (cast_unsigned w128 r))
truth_range k t r e = subst (λ (z : ℤ). InRange k z) (sym (code_truth t r e)) (truth_in k t)

pub small_abs : (v : ℤ) → Bounded v → unsigned_abs v < 2 ^ 127
small_abs (pos n) b = omega (arith, ints, b.high)
small_abs (negsuc n) b = omega (arith, ints, b.low)

pub fits_bounded : (v : ℤ) → Bounded v → SFits w128 v
fits_bounded v h = fits_signed_from_abs w128 v (small_abs v h)

pub width_word : (k : IntKind) → width k ≤ 64
width_word Bool = omega arith
width_word Char = omega arith
width_word SChar = omega arith
width_word UChar = omega arith
width_word Short = omega arith
width_word UShort = omega arith
width_word Int = omega arith
width_word UInt = omega arith
width_word Long = omega arith
width_word ULong = omega arith
width_word LLong = omega arith
width_word ULLong = omega arith

-- ---- sums, in the code's 128 bits

pub sum_is : (k : IntKind) (a b : ℤ) → InRange k a → InRange k b
    → cast_signed w128 (cast_unsigned w128 (cast_signed w128 (cast_unsigned w128 a) +ℤ cast_signed w128 (cast_unsigned w128 b))) ≡ a +ℤ b
sum_is k a b f g = let x = bounded k a f in let y = bounded k b g in omega (arith, ints)

pub difference_is : (k : IntKind) (a b : ℤ) → InRange k a → InRange k b
    → cast_signed w128 (cast_unsigned w128 (cast_signed w128 (cast_unsigned w128 a) -ℤ cast_signed w128 (cast_unsigned w128 b))) ≡ a -ℤ b
difference_is k a b f g = let x = bounded k a f in let y = bounded k b g in omega (arith, ints)

-- ---- equality, which the code tests on the 128 bits

pub test_false : (t : Test) → (t ≡ true → ⊥) → t ≡ false
test_false true h = absurd (h refl)
test_false false h = refl

pub test_same : (s t : Test) → (s ≡ true → t ≡ true) → (t ≡ true → s ≡ true) → s ≡ t
test_same true t f g = sym (f refl)
test_same false true f g = g refl
test_same false false f g = refl

pub eq_is : (a b : ℤ) → SFits w128 a → SFits w128 b → (cast_unsigned w128 a == cast_unsigned w128 b) ≡ int_eq a b
eq_is a b f g =
    let words = Decides-eqb (cast_unsigned w128 a) (cast_unsigned w128 b) in
    let numbers = Decides-int_eq a b in
    test_same (cast_unsigned w128 a == cast_unsigned w128 b) (int_eq a b)
    (λ h. numbers.1 (sym (to_z-of_z w128 a f) ∙ ap (cast_signed w128) (words.0 h) ∙ to_z-of_z w128 b g))
    (λ h. words.1 (ap (cast_unsigned w128) (numbers.0 h)))
