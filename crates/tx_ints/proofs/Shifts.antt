-- Shifts, with their traps.
use Rattle.std.proofs.Common.{◌≡◌, ℕ, ◌+◌, ◌*◌, ◌%◌, ◌^◌, ◌<◌, ◌≤◌, ℤ, pos, negsuc, ◌*ℤ◌, ◌≤ℤ◌, ◌<ℤ◌, ap, sym, ◌∙◌, refl, arith, Option, Some, None, Ok, Err}
use Rattle.std.proofs.Common.{true, false, not, ◌&&◌, ◌||◌, if◌then◌else◌, inl, inr, ◌⊎◌, ap₂}
use Rattle.std.specs.Prelude.{Bool as Test, int_le, int_lt, unsigned_abs}
use Rattle.std.proofs.lemmas.Int.{ints, to_z_pos, to_z-of_z}
use Rattle.std.proofs.lemmas.Nat.{shl_below, shl_whole}
use Rattle.std.specs.Int.{int_div_euclid, cast_unsigned, cast_signed, w128}
use mir.Val.{SFits}
use lib.Signed.{shr_z}
use Rattle.tx_ints.specs.declared.kinds.IntKind.{IntKind}
use Rattle.tx_ints.specs.declared.kinds.IntKind.TheVariants.{Bool, Char, SChar, UChar, Short, UShort, Int, UInt, Long, ULong, LLong, ULLong}
use Rattle.tx_ints.specs.declared.kinds.ArithTrap.{ArithTrap}
use Rattle.tx_ints.specs.declared.kinds.ArithTrap.TheVariants.{Overflow, ShiftRange}
use Rattle.tx_ints.specs.declared.kinds.BinOp.TheVariants.{Shl, Shr}
use Rattle.tx_ints.specs.Integers.{least, greatest, modulus, width, is_signed, InRange, reduced, shift_overflow, is_count, trapped_or, apply_of}
use Rattle.std.proofs.Math.Nat.{div-le_self, pow-le-pow_right}
use Rattle.tx_ints.proofs.Modulo.{zero_least, one_greatest}
use Rattle.tx_ints.proofs.Values.{reduced_kept, Bounded, bounded, fits_bounded, width_word}

count_bounds : (b w : ℤ) → int_le (pos 0) b && int_lt b w ≡ true → (pos 0 ≤ℤ b) × (b <ℤ w)
count_bounds b w h = (grind (arith, ints), grind (arith, ints))

-- a count is a natural number below the width
pub record Count (k : IntKind) (b : ℤ) : Type 0 where
  pub by : ℕ
  pub is : b ≡ pos by
  pub below : by < width k

count_from : (w : ℕ) (b : ℤ) → pos 0 ≤ℤ b → b <ℤ pos w → (n : ℕ) × ((b ≡ pos n) × (n < w))
count_from w (pos n) h below = (n, (refl, omega (arith, ints)))
count_from w (negsuc n) h below = absurd (omega (arith, ints))

pub count : (k : IntKind) (b : ℤ) → is_count k b ≡ true → Count k b
count k b h =
    let bounds = count_bounds b (pos (width k)) h in
    let n = count_from (width k) b bounds.0 bounds.1 in
    record { by = n.0; is = n.1.0; below = n.1.1 }

shr_div : (a : ℤ) (m : ℕ) → shr_z a m ≡ int_div_euclid a (pos m)
shr_div (pos n) m = refl
shr_div (negsuc n) m = refl

div_in : (l g a : ℤ) (m : ℕ) → l ≤ℤ pos 0 → pos 0 ≤ℤ g → l ≤ℤ a → a ≤ℤ g → (l ≤ℤ int_div_euclid a (pos m)) × (int_div_euclid a (pos m) ≤ℤ g)
div_in l g (pos a) m lz gz low high = (omega (arith, ints), omega (arith, ints, div-le_self a m))
div_in l g (negsuc a) m lz gz low high = (omega (arith, ints, div-le_self a m), omega (arith, ints))

pub div_range : (k : IntKind) (a : ℤ) (m : ℕ) → InRange k a → InRange k (int_div_euclid a (pos m))
div_range k a m h =
    let r = div_in (least k) (greatest k) a m (zero_least k) (omega (arith, ints, one_greatest k)) h.from_least h.to_greatest in
    record { from_least = r.0; to_greatest = r.1 }

pub shr_is : (k : IntKind) (a b : ℤ) → InRange k a → is_count k b ≡ true
    → cast_signed w128 (cast_unsigned w128 (shr_z (cast_signed w128 (cast_unsigned w128 a)) (2 ^ cast_unsigned w128 b)))
    ≡ int_div_euclid a (pos (2 ^ unsigned_abs b))
shr_is k a b f h =
    let n : Count k b = count k b h in
    let quotient : shr_z (cast_signed w128 (cast_unsigned w128 a)) (2 ^ cast_unsigned w128 b) ≡ int_div_euclid a (pos (2 ^ n.by)) =
    ap₂ (λ (x y : ℤ). shr_z x (2 ^ cast_unsigned w128 y)) (to_z-of_z w128 a (fits_bounded a (bounded k a f))) n.is ∙ shr_div a (2 ^ n.by) in
    ap (λ (z : ℤ). cast_signed w128 (cast_unsigned w128 z)) quotient
    ∙ to_z-of_z w128 (int_div_euclid a (pos (2 ^ n.by)))
    (fits_bounded (int_div_euclid a (pos (2 ^ n.by))) (bounded k (int_div_euclid a (pos (2 ^ n.by))) (div_range k a (2 ^ n.by) f)))
    ∙ ap (λ (z : ℤ). int_div_euclid a (pos (2 ^ unsigned_abs z))) (sym n.is)

pub shr_value : (k : IntKind) (a b : ℤ) → InRange k a → is_count k b ≡ true → Ok (int_div_euclid a (pos (2 ^ unsigned_abs b))) ≡ apply_of Shr k a b
unfolding apply_of
shr_value k a b f h =
    ap Ok (sym (reduced_kept k (int_div_euclid a (pos (2 ^ unsigned_abs b))) (div_range k a (2 ^ unsigned_abs b) f)))
    ∙ ap (λ (t : Test). trapped_or (if t then None else Some ShiftRange) k (int_div_euclid a (pos (2 ^ unsigned_abs b)))) (sym h)

pub shr_count : (k : IntKind) (a b : ℤ) → is_count k b ≡ false → Err ShiftRange ≡ apply_of Shr k a b
unfolding apply_of
shr_count k a b h = ap (λ (t : Test). trapped_or (if t then None else Some ShiftRange) k (int_div_euclid a (pos (2 ^ unsigned_abs b)))) (sym h)

pub shl_count : (k : IntKind) (a b : ℤ) → is_count k b ≡ false → Err ShiftRange ≡ apply_of Shl k a b
unfolding apply_of
shl_count k a b h =
    let z : ℤ = a *ℤ pos (2 ^ unsigned_abs b) in
    ap (λ (t : Test). trapped_or (if t then shift_overflow k a z else Some ShiftRange) k z) (sym h)

shl_settles : (k : IntKind) (a b : ℤ) → is_count k b ≡ true
    → trapped_or (shift_overflow k a (a *ℤ pos (2 ^ unsigned_abs b))) k (a *ℤ pos (2 ^ unsigned_abs b)) ≡ apply_of Shl k a b
unfolding apply_of
shl_settles k a b h =
    let z : ℤ = a *ℤ pos (2 ^ unsigned_abs b) in
    ap (λ (t : Test). trapped_or (if t then shift_overflow k a z else Some ShiftRange) k z) (sym h)

overflows : (s n l : Test) → s ≡ true → n || not l ≡ true → ◌≡◌ {A = Option ArithTrap} (if s && (n || not l) then Some Overflow else None) (Some Overflow)
overflows s n l h g = ap₂ (λ (x y : Test). if x && y then Some Overflow else None) h g

pub shl_negative : (k : IntKind) (a b : ℤ) → is_count k b ≡ true → is_signed k ≡ true → int_lt a (pos 0) ≡ true → Err Overflow ≡ apply_of Shl k a b
shl_negative k a b h s n =
    let z : ℤ = a *ℤ pos (2 ^ unsigned_abs b) in
    let e : int_lt a (pos 0) || not (int_lt z (pos (modulus k))) ≡ true = ap (λ (t : Test). t || not (int_lt z (pos (modulus k)))) n in
    ap (λ (t : Option ArithTrap). trapped_or t k z) (sym (overflows (is_signed k) (int_lt a (pos 0)) (int_lt z (pos (modulus k))) s e))
    ∙ shl_settles k a b h

or_true : (n l : Test) → l ≡ false → n || not l ≡ true
or_true true l h = refl
or_true false l h = ap not h

pub shl_beyond : (k : IntKind) (a b : ℤ) → is_count k b ≡ true → is_signed k ≡ true
    → int_lt (a *ℤ pos (2 ^ unsigned_abs b)) (pos (modulus k)) ≡ false → Err Overflow ≡ apply_of Shl k a b
shl_beyond k a b h s n =
    let z : ℤ = a *ℤ pos (2 ^ unsigned_abs b) in
    ap (λ (t : Option ArithTrap). trapped_or t k z)
    (sym (overflows (is_signed k) (int_lt a (pos 0)) (int_lt z (pos (modulus k))) s (or_true (int_lt a (pos 0)) (int_lt z (pos (modulus k))) n)))
    ∙ shl_settles k a b h

admits : (s n l : Test) → n ≡ false → (s ≡ false) ⊎ (l ≡ true) → ◌≡◌ {A = Option ArithTrap} (if s && (n || not l) then Some Overflow else None) None
admits true n l h (inl e) = cc
admits true true l h (inr e) = cc
admits true false l h (inr e) = ap (λ (t : Test). if not t then Some Overflow else None) e
admits false n l h e = refl

pub shl_value : (k : IntKind) (a b : ℤ) → is_count k b ≡ true → int_lt a (pos 0) ≡ false
    → (is_signed k ≡ false) ⊎ (int_lt (a *ℤ pos (2 ^ unsigned_abs b)) (pos (modulus k)) ≡ true)
    → Ok (reduced k (a *ℤ pos (2 ^ unsigned_abs b))) ≡ apply_of Shl k a b
shl_value k a b h n e =
    let z : ℤ = a *ℤ pos (2 ^ unsigned_abs b) in
    ap (λ (t : Option ArithTrap). trapped_or t k z) (sym (admits (is_signed k) (int_lt a (pos 0)) (int_lt z (pos (modulus k))) n e))
    ∙ shl_settles k a b h

-- a number that is not negative is shifted without loss
shl_nat : (x n : ℕ) → x < 2 ^ 64 → n < 64 → cast_signed w128 ((x * 2 ^ n) % 2 ^ 128) ≡ pos (x * 2 ^ n)
shl_nat x n small below =
    let two : 0 < 2 = omega arith in
    let up : 2 ^ (64 + n) ≤ 2 ^ 127 = pow-le-pow_right two {i = 64 + n} {j = 127} (omega arith) in
    ap (cast_signed w128) (shl_whole x 64 n 128 small (omega arith)) ∙ to_z_pos w128 (x * 2 ^ n) (omega (arith, shl_below x 64 n small, up))

shl_int : (a : ℤ) (n : ℕ) → Bounded a → int_lt a (pos 0) ≡ false → n < 64 → cast_signed w128 ((cast_unsigned w128 a * 2 ^ n) % 2 ^ 128) ≡ a *ℤ pos (2 ^ n)
shl_int (pos x) n h s below = shl_nat x n (omega (arith, ints, h.high)) below
shl_int (negsuc x) n h s below = cc

pub shl_is : (k : IntKind) (a b : ℤ) → InRange k a → is_count k b ≡ true → int_lt a (pos 0) ≡ false
    → cast_signed w128 ((cast_unsigned w128 a * 2 ^ cast_unsigned w128 b) % 2 ^ 128) ≡ a *ℤ pos (2 ^ unsigned_abs b)
shl_is k a b f h s =
    let n : Count k b = count k b h in
    ap (λ (z : ℤ). cast_signed w128 ((cast_unsigned w128 a * 2 ^ cast_unsigned w128 z) % 2 ^ 128)) n.is
    ∙ shl_int a n.by (bounded k a f) s (omega (arith, n.below, width_word k))
    ∙ ap (λ (z : ℤ). a *ℤ pos (2 ^ unsigned_abs z)) (sym n.is)

negative_in : (l a : ℤ) → l ≡ pos 0 → l ≤ℤ a → int_lt a (pos 0) ≡ true → ⊥
negative_in l (pos n) e h s = omega (arith, ints)
negative_in l (negsuc n) e h s = omega (arith, ints, e, h)

pub negative_signed : (k : IntKind) (a : ℤ) → InRange k a → int_lt a (pos 0) ≡ true → is_signed k ≡ true
negative_signed Bool a f h = absurd (negative_in (pos 0) a refl f.from_least h)
negative_signed Char a f h = refl
negative_signed SChar a f h = refl
negative_signed UChar a f h = absurd (negative_in (pos 0) a refl f.from_least h)
negative_signed Short a f h = refl
negative_signed UShort a f h = absurd (negative_in (pos 0) a refl f.from_least h)
negative_signed Int a f h = refl
negative_signed UInt a f h = absurd (negative_in (pos 0) a refl f.from_least h)
negative_signed Long a f h = refl
negative_signed ULong a f h = absurd (negative_in (pos 0) a refl f.from_least h)
negative_signed LLong a f h = refl
negative_signed ULLong a f h = absurd (negative_in (pos 0) a refl f.from_least h)

pub not_below : (m v z : ℤ) (n : ℕ) → SFits w128 m → m ≡ pos n → v ≡ z → int_le (cast_signed w128 (cast_unsigned w128 m)) v ≡ true
    → int_lt z (pos n) ≡ false
not_below m v z n f e g h =
    let le : int_le (pos n) z ≡ true = ap₂ int_le (sym e ∙ sym (to_z-of_z w128 m f)) (sym g) ∙ h in grind (arith, ints)

pub below : (m v z : ℤ) (n : ℕ) → SFits w128 m → m ≡ pos n → v ≡ z → int_le (cast_signed w128 (cast_unsigned w128 m)) v ≡ false
    → int_lt z (pos n) ≡ true
below m v z n f e g h =
    let le : int_le (pos n) z ≡ false = ap₂ int_le (sym e ∙ sym (to_z-of_z w128 m f)) (sym g) ∙ h in grind (arith, ints)
