-- What the code's masks leave of a number of 128 bits.
use Rattle.std.proofs.Common.{◌≡◌, ℕ, ◌+◌, ◌-◌, ◌*◌, ◌/◌, ◌%◌, ◌^◌, ◌<◌, suc, ℤ, pos, negsuc, ◌-ℤ◌, ap, sym, ◌∙◌, refl, arith, bit_and, ◌≤◌, inl, inr, ◌+ℤ◌}
use Rattle.std.proofs.lemmas.Int.{to_z_pos, ints}
use Rattle.std.proofs.lemmas.Nat.{mod-mul-add, div-add-mod', mod_below, and_mask, div_below}
use Rattle.std.proofs.Math.Nat.{add-mul, mul_assoc}
use Rattle.std.specs.Int.{int_rem_euclid, cast_unsigned, cast_signed, w128, int_wrap}
use mir.Val.{SFits}
use Rattle.tx_ints.specs.declared.kinds.IntKind.{IntKind}
use Rattle.tx_ints.specs.declared.kinds.IntKind.TheVariants.{Bool, Char, SChar, UChar, Short, UShort, Int, UInt, Long, ULong, LLong, ULLong}
use Rattle.tx_ints.specs.Integers.{modulus}
use Rattle.std.specs.Prelude.{unsigned_abs}
use Rattle.std.proofs.lemmas.Bool.{cases_lt}
use Rattle.tx_ints.proofs.Modulo.{Turns, Remainder, remainder, turns_rest}

-- the remainder of -(a + 1), taken up by j times m
turned : (j m a : ℕ) → 0 < m → a < j * m → (j * m - suc a) % m ≡ m - 1 - a % m
turned j m a h within =
    let below : a % m < m = mod_below a m h in
    let split : a / m * m + a % m ≡ a = div-add-mod' a m in
    let fewer : a / m < j = div_below a m j h within in
    let parts : (j - suc (a / m)) * m + suc (a / m) * m ≡ j * m =
    sym (add-mul (j - suc (a / m)) (suc (a / m)) m) ∙ ap (λ n. n * m) (omega arith) in
    let e : j * m - suc a ≡ (j - suc (a / m)) * m + (m - 1 - a % m) = omega arith in
    ap (λ n. n % m) e ∙ mod-mul-add (j - suc (a / m)) m (m - 1 - a % m) (omega arith)

pub masked : (j n : ℕ) (z : ℤ) → 2 ^ n < 2 ^ 127 → 2 ^ j * 2 ^ n ≡ 2 ^ 128 → 0 < 2 ^ n → SFits w128 z
    → cast_signed w128 (bit_and (cast_unsigned w128 z) (2 ^ n - 1)) ≡ int_rem_euclid z (pos (2 ^ n))
masked j n (pos a) small e h f =
    ap (cast_signed w128) (and_mask a n) ∙ to_z_pos w128 (a % 2 ^ n) (omega (arith, mod_below a (2 ^ n) h))
masked j n (negsuc a) small e h f =
    let within : a < 2 ^ j * 2 ^ n = omega (arith, f.sfits) in
    ap (cast_signed w128) (and_mask (2 ^ 128 - suc a) n)
    ∙ ap (λ t. cast_signed w128 ((t - suc a) % 2 ^ n)) (sym e)
    ∙ ap (cast_signed w128) (turned (2 ^ j) (2 ^ n) a h within)
    ∙ to_z_pos w128 (2 ^ n - 1 - a % 2 ^ n) (omega arith)

pub low_is : (k : IntKind) (z : ℤ) → SFits w128 z
    → cast_signed w128 (bit_and (cast_unsigned w128 z) (cast_unsigned w128 (cast_signed w128 (cast_unsigned w128 (pos (modulus k))) -ℤ pos 1)))
    ≡ int_rem_euclid z (pos (modulus k))
low_is Bool z f = masked 127 1 z (omega arith) refl (omega arith) f
low_is Char z f = masked 120 8 z (omega arith) refl (omega arith) f
low_is SChar z f = masked 120 8 z (omega arith) refl (omega arith) f
low_is UChar z f = masked 120 8 z (omega arith) refl (omega arith) f
low_is Short z f = masked 112 16 z (omega arith) refl (omega arith) f
low_is UShort z f = masked 112 16 z (omega arith) refl (omega arith) f
low_is Int z f = masked 96 32 z (omega arith) refl (omega arith) f
low_is UInt z f = masked 96 32 z (omega arith) refl (omega arith) f
low_is Long z f = masked 64 64 z (omega arith) refl (omega arith) f
low_is ULong z f = masked 64 64 z (omega arith) refl (omega arith) f
low_is LLong z f = masked 64 64 z (omega arith) refl (omega arith) f
low_is ULLong z f = masked 64 64 z (omega arith) refl (omega arith) f

-- ---- 128 bits modulo 2^n

-- to wrap at 128 bits is to differ by a multiple of 2^128
pub turned_down : (n : ℕ) → 2 ^ 127 ≤ n → n < 2 ^ 128 → pos n +ℤ pos (0 * 2 ^ 128) ≡ cast_signed w128 n +ℤ pos (1 * 2 ^ 128)
turned_down n large h = grind (arith, ints)

pub unsigned_turns : (n : ℕ) → n < 2 ^ 128 → Turns (2 ^ 128) (pos n) (cast_signed w128 n)
unsigned_turns n h =
    elim (cases_lt n (2 ^ 127)) [
      | inl small ↦ record { up = 0; down = 0; meet = omega (arith, ints) }
      | inr large ↦ record { up = 0; down = 1; meet = turned_down n large h }
    ]

pub wrap_turns : (z : ℤ) → Turns (2 ^ 128) z (int_wrap w128 z)
unfolding int_wrap
wrap_turns z =
    let r : Remainder (2 ^ 128) z = remainder (2 ^ 128) z (omega arith) in
    let t : Turns (2 ^ 128) z (int_rem_euclid z (pos (2 ^ 128))) = turns_rest (2 ^ 128) z (omega arith) in
    let u : Turns (2 ^ 128) (pos r.rest) (cast_signed w128 r.rest) = unsigned_turns r.rest r.below in
    let e : int_wrap w128 z ≡ cast_signed w128 r.rest = ap (λ (n : ℤ). cast_signed w128 (unsigned_abs n)) r.is in
    record { up = t.up + u.up; down = t.down + u.down; meet = omega (arith, ints, t.meet, u.meet, r.is, e) }

-- a multiple of j times m is one of m
pub finer : (j m : ℕ) (y z : ℤ) → Turns (j * m) y z → Turns m y z
finer j m y z t = record { up = t.up * j; down = t.down * j; meet = omega (arith, ints, t.meet, mul_assoc t.up j m, mul_assoc t.down j m) }

pub finer_in_kind : (k : IntKind) (y z : ℤ) → Turns (2 ^ 128) y z → Turns (modulus k) y z
finer_in_kind Bool y z t = finer (2 ^ 127) 2 y z t
finer_in_kind Char y z t = finer (2 ^ 120) (2 ^ 8) y z t
finer_in_kind SChar y z t = finer (2 ^ 120) (2 ^ 8) y z t
finer_in_kind UChar y z t = finer (2 ^ 120) (2 ^ 8) y z t
finer_in_kind Short y z t = finer (2 ^ 112) (2 ^ 16) y z t
finer_in_kind UShort y z t = finer (2 ^ 112) (2 ^ 16) y z t
finer_in_kind Int y z t = finer (2 ^ 96) (2 ^ 32) y z t
finer_in_kind UInt y z t = finer (2 ^ 96) (2 ^ 32) y z t
finer_in_kind Long y z t = finer (2 ^ 64) (2 ^ 64) y z t
finer_in_kind ULong y z t = finer (2 ^ 64) (2 ^ 64) y z t
finer_in_kind LLong y z t = finer (2 ^ 64) (2 ^ 64) y z t
finer_in_kind ULLong y z t = finer (2 ^ 64) (2 ^ 64) y z t
