-- The bit operators of 128 bits, seen through the lowest bits of a kind.
use Rattle.std.proofs.Common.{◌≡◌, ℕ, ◌+◌, ◌-◌, ◌*◌, ◌/◌, ◌%◌, ◌^◌, ◌<◌, ◌≤◌, suc, zero, min, max, ℤ, pos, negsuc, ◌+ℤ◌, ◌≤ℤ◌, ◌<ℤ◌, ◌⊎◌, inl, inr, subst, ap}
use Rattle.std.proofs.Common.{ap₂, sym, ◌∙◌, refl, arith, Ok, bit_and, bit_or, bit_xor, add_comm, Result}
use Rattle.std.proofs.lemmas.Int.{ints, to_z_pos, of_z-to_z}
use Rattle.std.proofs.Math.Nat.{div-eq_of_lt, suc-mul, zero-mul}
use Rattle.std.proofs.lemmas.Nat.{mod-pow-add, mod_below, and_le_l, or_lt, xor_lt, and_shr, or_shr, xor_shr, div-add-mod', div-mul-add}
use Rattle.std.proofs.lemmas.Nat.Bits.{bit_at_and, bit_at_or, bit_at_xor, bit_at_not}
use Rattle.std.specs.Int.{bit_at, cast_unsigned, cast_signed, w128}
use mir.Val.{SFits}
use Rattle.tx_ints.specs.declared.kinds.IntKind.{IntKind}
use Rattle.tx_ints.specs.declared.kinds.IntKind.TheVariants.{Bool, Char, SChar, UChar, Short, UShort, Int, UInt, Long, ULong, LLong, ULLong}
use Rattle.tx_ints.specs.declared.kinds.BinOp.TheVariants.{And, Xor, Or}
use Rattle.tx_ints.specs.Integers.{width, modulus, least, greatest, InRange, reduced, bit_of, from_bits, of_bits, apply_of}
use Rattle.tx_ints.specs.Laws.{AndBits, XorBits, OrBits}
use Rattle.tx_ints.specs.declared.kinds.ArithTrap.{ArithTrap}
use Rattle.tx_ints.proofs.Modulo.{reduced_in, Turns, turns_then, turns_back}
use Rattle.tx_ints.proofs.Masks.{unsigned_turns, turned_down, finer_in_kind}
use Rattle.tx_ints.proofs.Values.{reduced_same, reduced_kept, width_word, bounded, fits_bounded}

bit_word : (v : ℤ) (i : ℕ) → SFits w128 v → i < 128 → bit_at (cast_unsigned w128 v) i ≡ bit_of v i
bit_word (pos n) i f h = refl
bit_word (negsuc n) i f h =
    let turned : 2 ^ 128 - suc n ≡ 2 ^ 128 - 1 - n = omega arith in
    ap (λ t. bit_at t i) turned ∙ bit_at_not w128 n i (omega (arith, f.sfits)) h

from_bits_same : (f g : ℕ → ℕ) (n : ℕ) → ((i : ℕ) → i < n → f i ≡ g i) → from_bits f n ≡ from_bits g n
unfolding from_bits
from_bits_same f g zero h = refl
from_bits_same f g (suc n) h =
    ap₂ (λ x y. x + y * 2 ^ n) (from_bits_same f g n (λ i below. h i (omega arith))) (h n (omega arith))

from_bits_rest : (m n : ℕ) → from_bits (λ i. bit_at m i) n ≡ m % 2 ^ n
unfolding from_bits
from_bits_rest m zero = omega arith
from_bits_rest m (suc n) = ap (λ x. x + bit_at m n * 2 ^ n) (from_bits_rest m n)
    ∙ add_comm (m % 2 ^ n) (bit_at m n * 2 ^ n) ∙ sym (mod-pow-add m 1 n) ∙ ap (λ t. m % 2 ^ t) (omega arith)

word_below : (v : ℤ) → SFits w128 v → cast_unsigned w128 v < 2 ^ 128
word_below (pos n) f = omega (arith, f.sfits)
word_below (negsuc n) f = omega (arith, f.sfits)

-- a number below 2^128 is, in each kind, what its lowest bits make
lowest_bits : (k : IntKind) (m : ℕ) (bit : ℕ → ℕ) → m < 2 ^ 128 → ((i : ℕ) → i < width k → bit_at m i ≡ bit i)
    → reduced k (cast_signed w128 m) ≡ reduced k (of_bits k bit)
lowest_bits k m bit h same =
    let rest : from_bits bit (width k) ≡ m % modulus k = sym (from_bits_same (λ i. bit_at m i) bit (width k) same) ∙ from_bits_rest m (width k) in
    let high : Turns (modulus k) (cast_signed w128 m) (pos m) =
    turns_back (modulus k) (pos m) (cast_signed w128 m) (finer_in_kind k (pos m) (cast_signed w128 m) (unsigned_turns m h)) in
    let low : Turns (modulus k) (pos m) (pos (m % modulus k)) =
    record { up = 0; down = m / modulus k; meet = omega (arith, ints, div-add-mod' m (modulus k)) } in
    reduced_same k (cast_signed w128 m) (pos (m % modulus k)) (turns_then (modulus k) (cast_signed w128 m) (pos m) (pos (m % modulus k)) high low)
    ∙ ap (λ n. reduced k (pos n)) (sym rest) ∙ sym (reduced_kept k (of_bits k bit) (reduced_in k (pos (from_bits bit (width k)))))

-- ---- the answers stay in the kind

-- what the three bit operators share: they work on the high bits and on the low ones apart, and keep bits that are all 0 or all 1
record Closed (f : ℕ → ℕ → ℕ) (ones : ℕ) : Type 0 where
  zeros : (f 0 0 ≡ 0) ⊎ (f 0 0 ≡ ones)
  left : (f ones 0 ≡ 0) ⊎ (f ones 0 ≡ ones)
  right : (f 0 ones ≡ 0) ⊎ (f 0 ones ≡ ones)
  both : (f ones ones ≡ 0) ⊎ (f ones ones ≡ ones)

record Bitwise (f : ℕ → ℕ → ℕ) : Type 0 where
  high : (a b k : ℕ) → f a b / 2 ^ k ≡ f (a / 2 ^ k) (b / 2 ^ k)
  below : (k a b : ℕ) → a < 2 ^ k → b < 2 ^ k → f a b < 2 ^ k
  above_7 : Closed f (2 ^ 121 - 1)
  above_15 : Closed f (2 ^ 113 - 1)
  above_31 : Closed f (2 ^ 97 - 1)
  above_63 : Closed f (2 ^ 65 - 1)

closed : (f : ℕ → ℕ → ℕ) (ones x y : ℕ) → Closed f ones → (x ≡ 0) ⊎ (x ≡ ones) → (y ≡ 0) ⊎ (y ≡ ones) → (f x y ≡ 0) ⊎ (f x y ≡ ones)
closed f ones x y c (inl p) (inl q) = rw (p, q) c.zeros
closed f ones x y c (inl p) (inr q) = rw (p, q) c.right
closed f ones x y c (inr p) (inl q) = rw (p, q) c.left
closed f ones x y c (inr p) (inr q) = rw (p, q) c.both

-- above its sign a small number has one bit throughout
sign_bits : (j m : ℕ) (v : ℤ) → 0 < m → 0 < j → j * m ≡ 2 ^ 128 → negsuc (m - 1) ≤ℤ v → v ≤ℤ pos (m - 1)
    → (cast_unsigned w128 v / m ≡ 0) ⊎ (cast_unsigned w128 v / m ≡ j - 1)
sign_bits j m (pos n) h i e low high = inl (div-eq_of_lt (omega (arith, ints, high)))
sign_bits j m (negsuc n) h i e low high =
    let small : n < m = omega (arith, ints, low) in
    let one : suc (j - 1) ≡ j = omega arith in
    let parts : (j - 1) * m + m ≡ j * m = sym (suc-mul (j - 1) m) ∙ ap (λ t. t * m) one in
    let split : 2 ^ 128 - suc n ≡ (j - 1) * m + (m - suc n) = omega arith in
    inr (ap (λ t. t / m) split ∙ div-mul-add (j - 1) m (m - suc n) (omega arith))

sign_back : (j m n : ℕ) → 0 < m → 0 < j → j * m ≡ 2 ^ 128 → m ≤ 2 ^ 127 → n < 2 ^ 128 → (n / m ≡ 0) ⊎ (n / m ≡ j - 1)
    → (negsuc (m - 1) ≤ℤ cast_signed w128 n) × (cast_signed w128 n ≤ℤ pos (m - 1))
sign_back j m n h i e small below (inl z) =
    let split : n / m * m + n % m ≡ n = div-add-mod' n m in
    let rest : n % m < m = mod_below n m h in
    let none : n / m * m ≡ 0 = ap (λ t. t * m) z ∙ zero-mul m in
    let least : n < 2 ^ 127 = omega arith in
    let is : cast_signed w128 n ≡ pos n = to_z_pos w128 n least in
    (omega (arith, ints, is), omega (arith, ints, is))
sign_back j m n h i e small below (inr z) =
    let split : n / m * m + n % m ≡ n = div-add-mod' n m in
    let one : suc (j - 1) ≡ j = omega arith in
    let parts : (j - 1) * m + m ≡ j * m = sym (suc-mul (j - 1) m) ∙ ap (λ t. t * m) one in
    let most : n / m * m ≡ (j - 1) * m = ap (λ t. t * m) z in
    let large : 2 ^ 127 ≤ n = omega arith in
    let t : pos n +ℤ pos (0 * 2 ^ 128) ≡ cast_signed w128 n +ℤ pos (1 * 2 ^ 128) = turned_down n large below in
    (omega (arith, ints, t), omega (arith, ints, t))

signed_bits : (f : ℕ → ℕ → ℕ) (j h : ℕ) (a b : ℤ) → Bitwise f → Closed f (2 ^ j - 1) → 0 < 2 ^ h → 0 < 2 ^ j → 2 ^ j * 2 ^ h ≡ 2 ^ 128 → 2 ^ h ≤ 2 ^ 127
    → SFits w128 a → SFits w128 b → negsuc (2 ^ h - 1) ≤ℤ a → a ≤ℤ pos (2 ^ h - 1) → negsuc (2 ^ h - 1) ≤ℤ b → b ≤ℤ pos (2 ^ h - 1)
    → (negsuc (2 ^ h - 1) ≤ℤ cast_signed w128 (f (cast_unsigned w128 a) (cast_unsigned w128 b)))
    × (cast_signed w128 (f (cast_unsigned w128 a) (cast_unsigned w128 b)) ≤ℤ pos (2 ^ h - 1))
signed_bits f j h a b w c p q e small x y la ha lb hb =
    let m : ℕ = cast_unsigned w128 a in
    let n : ℕ = cast_unsigned w128 b in
    let signs : (f (m / 2 ^ h) (n / 2 ^ h) ≡ 0) ⊎ (f (m / 2 ^ h) (n / 2 ^ h) ≡ 2 ^ j - 1) =
    closed f (2 ^ j - 1) (m / 2 ^ h) (n / 2 ^ h) c (sign_bits (2 ^ j) (2 ^ h) a p q e la ha) (sign_bits (2 ^ j) (2 ^ h) b p q e lb hb) in
    sign_back (2 ^ j) (2 ^ h) (f m n) p q e small (w.below 128 m n (word_below a x) (word_below b y))
    (subst (λ (t : ℕ). (t ≡ 0) ⊎ (t ≡ 2 ^ j - 1)) (sym (w.high m n h)) signs)

unsigned_word : (v : ℤ) (m : ℕ) → pos 0 ≤ℤ v → v <ℤ pos m → cast_unsigned w128 v < m
unsigned_word (pos n) m low high = omega (arith, ints, high)
unsigned_word (negsuc n) m low high = absurd (omega (arith, ints, low))

unsigned_bits : (f : ℕ → ℕ → ℕ) (n : ℕ) (a b : ℤ) → Bitwise f → 2 ^ n ≤ 2 ^ 127 → pos 0 ≤ℤ a → a <ℤ pos (2 ^ n) → pos 0 ≤ℤ b → b <ℤ pos (2 ^ n)
    → (pos 0 ≤ℤ cast_signed w128 (f (cast_unsigned w128 a) (cast_unsigned w128 b)))
    × (cast_signed w128 (f (cast_unsigned w128 a) (cast_unsigned w128 b)) <ℤ pos (2 ^ n))
unsigned_bits f n a b w small la ha lb hb =
    let x : ℕ = cast_unsigned w128 a in
    let y : ℕ = cast_unsigned w128 b in
    let below : f x y < 2 ^ n = w.below n x y (unsigned_word a (2 ^ n) la ha) (unsigned_word b (2 ^ n) lb hb) in
    let least : f x y < 2 ^ 127 = omega arith in
    let is : cast_signed w128 (f x y) ≡ pos (f x y) = to_z_pos w128 (f x y) least in
    (omega (arith, ints, is), omega (arith, ints, is))

signed_kind : (f : ℕ → ℕ → ℕ) (k : IntKind) (j h : ℕ) (a b : ℤ) → Bitwise f → Closed f (2 ^ j - 1) → least k ≡ negsuc (2 ^ h - 1) → greatest k ≡ pos (2 ^ h - 1)
    → 0 < 2 ^ h → 0 < 2 ^ j → 2 ^ j * 2 ^ h ≡ 2 ^ 128 → 2 ^ h ≤ 2 ^ 127 → InRange k a → InRange k b
    → InRange k (cast_signed w128 (f (cast_unsigned w128 a) (cast_unsigned w128 b)))
signed_kind f k j h a b w c l g p q e small x y =
    let r = signed_bits f j h a b w c p q e small (fits_bounded a (bounded k a x)) (fits_bounded b (bounded k b y))
    (omega (arith, ints, l, x.from_least)) (omega (arith, ints, g, x.to_greatest))
    (omega (arith, ints, l, y.from_least)) (omega (arith, ints, g, y.to_greatest)) in
    record { from_least = omega (arith, ints, l, r.0); to_greatest = omega (arith, ints, g, r.1) }

unsigned_kind : (f : ℕ → ℕ → ℕ) (k : IntKind) (n : ℕ) (a b : ℤ) → Bitwise f → least k ≡ pos 0 → greatest k ≡ pos (2 ^ n - 1) → 0 < 2 ^ n → 2 ^ n ≤ 2 ^ 127
    → InRange k a → InRange k b → InRange k (cast_signed w128 (f (cast_unsigned w128 a) (cast_unsigned w128 b)))
unsigned_kind f k n a b w l g p small x y =
    let r = unsigned_bits f n a b w small
    (omega (arith, ints, l, x.from_least)) (omega (arith, ints, g, x.to_greatest))
    (omega (arith, ints, l, y.from_least)) (omega (arith, ints, g, y.to_greatest)) in
    record { from_least = omega (arith, ints, l, r.0); to_greatest = omega (arith, ints, g, r.1) }

bits_range : (f : ℕ → ℕ → ℕ) → Bitwise f → (k : IntKind) (a b : ℤ) → InRange k a → InRange k b
    → InRange k (cast_signed w128 (f (cast_unsigned w128 a) (cast_unsigned w128 b)))
bits_range f w Bool a b x y = unsigned_kind f Bool 1 a b w refl refl (omega arith) (omega arith) x y
bits_range f w Char a b x y = signed_kind f Char 121 7 a b w w.above_7 refl refl (omega arith) (omega arith) refl (omega arith) x y
bits_range f w SChar a b x y = signed_kind f SChar 121 7 a b w w.above_7 refl refl (omega arith) (omega arith) refl (omega arith) x y
bits_range f w UChar a b x y = unsigned_kind f UChar 8 a b w refl refl (omega arith) (omega arith) x y
bits_range f w Short a b x y = signed_kind f Short 113 15 a b w w.above_15 refl refl (omega arith) (omega arith) refl (omega arith) x y
bits_range f w UShort a b x y = unsigned_kind f UShort 16 a b w refl refl (omega arith) (omega arith) x y
bits_range f w Int a b x y = signed_kind f Int 97 31 a b w w.above_31 refl refl (omega arith) (omega arith) refl (omega arith) x y
bits_range f w UInt a b x y = unsigned_kind f UInt 32 a b w refl refl (omega arith) (omega arith) x y
bits_range f w Long a b x y = signed_kind f Long 65 63 a b w w.above_63 refl refl (omega arith) (omega arith) refl (omega arith) x y
bits_range f w ULong a b x y = unsigned_kind f ULong 64 a b w refl refl (omega arith) (omega arith) x y
bits_range f w LLong a b x y = signed_kind f LLong 65 63 a b w w.above_63 refl refl (omega arith) (omega arith) refl (omega arith) x y
bits_range f w ULLong a b x y = unsigned_kind f ULLong 64 a b w refl refl (omega arith) (omega arith) x y

and_closed : (ones : ℕ) → bit_and ones 0 ≡ 0 → bit_and ones ones ≡ ones → Closed bit_and ones
and_closed ones z o = record { zeros = inl refl; left = inl z; right = inl refl; both = inr o }

or_closed : (ones : ℕ) → bit_or ones 0 ≡ ones → bit_or ones ones ≡ ones → Closed bit_or ones
or_closed ones z o = record { zeros = inl refl; left = inr z; right = inr refl; both = inr o }

xor_closed : (ones : ℕ) → bit_xor ones 0 ≡ ones → bit_xor ones ones ≡ 0 → Closed bit_xor ones
xor_closed ones z o = record { zeros = inl refl; left = inr z; right = inr refl; both = inl o }

and_bitwise : Bitwise bit_and
and_bitwise = record {
  high = and_shr;
  below = (λ k a b h i. omega (arith, and_le_l a b, h));
  above_7 = and_closed (2 ^ 121 - 1) refl refl;
  above_15 = and_closed (2 ^ 113 - 1) refl refl;
  above_31 = and_closed (2 ^ 97 - 1) refl refl;
  above_63 = and_closed (2 ^ 65 - 1) refl refl;
}

or_bitwise : Bitwise bit_or
or_bitwise = record {
  high = or_shr;
  below = or_lt;
  above_7 = or_closed (2 ^ 121 - 1) refl refl;
  above_15 = or_closed (2 ^ 113 - 1) refl refl;
  above_31 = or_closed (2 ^ 97 - 1) refl refl;
  above_63 = or_closed (2 ^ 65 - 1) refl refl;
}

xor_bitwise : Bitwise bit_xor
xor_bitwise = record {
  high = xor_shr;
  below = xor_lt;
  above_7 = xor_closed (2 ^ 121 - 1) refl refl;
  above_15 = xor_closed (2 ^ 113 - 1) refl refl;
  above_31 = xor_closed (2 ^ 97 - 1) refl refl;
  above_63 = xor_closed (2 ^ 65 - 1) refl refl;
}

pub and_range : (k : IntKind) (a b : ℤ) → InRange k a → InRange k b → InRange k (cast_signed w128 (bit_and (cast_unsigned w128 a) (cast_unsigned w128 b)))
and_range = bits_range bit_and and_bitwise

pub or_range : (k : IntKind) (a b : ℤ) → InRange k a → InRange k b → InRange k (cast_signed w128 (bit_or (cast_unsigned w128 a) (cast_unsigned w128 b)))
or_range = bits_range bit_or or_bitwise

pub xor_range : (k : IntKind) (a b : ℤ) → InRange k a → InRange k b → InRange k (cast_signed w128 (bit_xor (cast_unsigned w128 a) (cast_unsigned w128 b)))
xor_range = bits_range bit_xor xor_bitwise

-- ---- and are the kind's numbers for the values

pub and_value : (k : IntKind) (a b : ℤ) → InRange k a → InRange k b
    → Ok (cast_signed w128 (bit_and (cast_unsigned w128 a) (cast_unsigned w128 b))) ≡ apply_of And k a b
unfolding apply_of
and_value k a b x y =
    let f : SFits w128 a = fits_bounded a (bounded k a x) in
    let g : SFits w128 b = fits_bounded b (bounded k b y) in
    let m : ℕ = cast_unsigned w128 a in
    let n : ℕ = cast_unsigned w128 b in
    ap Ok (sym (reduced_kept k (cast_signed w128 (bit_and m n)) (and_range k a b x y)))
    ∙ ap Ok (lowest_bits k (bit_and m n) (λ i. min (bit_of a i) (bit_of b i)) (omega (arith, and_le_l m n, word_below a f))
    (λ i h. bit_at_and m n i ∙ ap₂ min (bit_word a i f (omega (arith, width_word k))) (bit_word b i g (omega (arith, width_word k)))))

pub or_value : (k : IntKind) (a b : ℤ) → InRange k a → InRange k b
    → Ok (cast_signed w128 (bit_or (cast_unsigned w128 a) (cast_unsigned w128 b))) ≡ apply_of Or k a b
unfolding apply_of
or_value k a b x y =
    let f : SFits w128 a = fits_bounded a (bounded k a x) in
    let g : SFits w128 b = fits_bounded b (bounded k b y) in
    let m : ℕ = cast_unsigned w128 a in
    let n : ℕ = cast_unsigned w128 b in
    ap Ok (sym (reduced_kept k (cast_signed w128 (bit_or m n)) (or_range k a b x y)))
    ∙ ap Ok (lowest_bits k (bit_or m n) (λ i. max (bit_of a i) (bit_of b i)) (or_lt 128 m n (word_below a f) (word_below b g))
    (λ i h. bit_at_or m n i ∙ ap₂ max (bit_word a i f (omega (arith, width_word k))) (bit_word b i g (omega (arith, width_word k)))))

pub xor_value : (k : IntKind) (a b : ℤ) → InRange k a → InRange k b
    → Ok (cast_signed w128 (bit_xor (cast_unsigned w128 a) (cast_unsigned w128 b))) ≡ apply_of Xor k a b
unfolding apply_of
xor_value k a b x y =
    let f : SFits w128 a = fits_bounded a (bounded k a x) in
    let g : SFits w128 b = fits_bounded b (bounded k b y) in
    let m : ℕ = cast_unsigned w128 a in
    let n : ℕ = cast_unsigned w128 b in
    ap Ok (sym (reduced_kept k (cast_signed w128 (bit_xor m n)) (xor_range k a b x y)))
    ∙ ap Ok (lowest_bits k (bit_xor m n) (λ i. (bit_of a i + bit_of b i) % 2) (xor_lt 128 m n (word_below a f) (word_below b g))
    (λ i h. bit_at_xor m n i ∙ ap₂ (λ x y. (x + y) % 2) (bit_word a i f (omega (arith, width_word k))) (bit_word b i g (omega (arith, width_word k)))))

-- ---- and have the operators' bits

answer_bit : (n i : ℕ) → n < 2 ^ 128 → SFits w128 (cast_signed w128 n) → i < 128 → bit_of (cast_signed w128 n) i ≡ bit_at n i
answer_bit n i below f h = sym (bit_word (cast_signed w128 n) i f h) ∙ ap (λ t. bit_at t i) (of_z-to_z w128 n below)

same_answer : (v w : ℤ) → ◌≡◌ {A = Result ℤ ArithTrap} (Ok v) (Ok w) → v ≡ w
same_answer v w e = cc

pub and_bits : AndBits
and_bits k a b v i x y h inside =
    let f : SFits w128 a = fits_bounded a (bounded k a x) in
    let g : SFits w128 b = fits_bounded b (bounded k b y) in
    let m : ℕ = cast_unsigned w128 a in
    let n : ℕ = cast_unsigned w128 b in
    let place : i < 128 = omega (arith, width_word k, inside) in
    let low : bit_and m n < 2 ^ 128 = omega (arith, and_le_l m n, word_below a f) in
    let fits : SFits w128 (cast_signed w128 (bit_and m n)) = fits_bounded _ (bounded k _ (and_range k a b x y)) in
    ap (λ (z : ℤ). bit_of z i) (sym (same_answer (cast_signed w128 (bit_and m n)) v (and_value k a b x y ∙ h)))
    ∙ answer_bit (bit_and m n) i low fits place
    ∙ bit_at_and m n i ∙ ap₂ min (bit_word a i f place) (bit_word b i g place)

pub xor_bits : XorBits
xor_bits k a b v i x y h inside =
    let f : SFits w128 a = fits_bounded a (bounded k a x) in
    let g : SFits w128 b = fits_bounded b (bounded k b y) in
    let m : ℕ = cast_unsigned w128 a in
    let n : ℕ = cast_unsigned w128 b in
    let place : i < 128 = omega (arith, width_word k, inside) in
    let low : bit_xor m n < 2 ^ 128 = xor_lt 128 m n (word_below a f) (word_below b g) in
    let fits : SFits w128 (cast_signed w128 (bit_xor m n)) = fits_bounded _ (bounded k _ (xor_range k a b x y)) in
    ap (λ (z : ℤ). bit_of z i) (sym (same_answer (cast_signed w128 (bit_xor m n)) v (xor_value k a b x y ∙ h)))
    ∙ answer_bit (bit_xor m n) i low fits place
    ∙ bit_at_xor m n i ∙ ap₂ (λ x y. (x + y) % 2) (bit_word a i f place) (bit_word b i g place)

pub or_bits : OrBits
or_bits k a b v i x y h inside =
    let f : SFits w128 a = fits_bounded a (bounded k a x) in
    let g : SFits w128 b = fits_bounded b (bounded k b y) in
    let m : ℕ = cast_unsigned w128 a in
    let n : ℕ = cast_unsigned w128 b in
    let place : i < 128 = omega (arith, width_word k, inside) in
    let low : bit_or m n < 2 ^ 128 = or_lt 128 m n (word_below a f) (word_below b g) in
    let fits : SFits w128 (cast_signed w128 (bit_or m n)) = fits_bounded _ (bounded k _ (or_range k a b x y)) in
    ap (λ (z : ℤ). bit_of z i) (sym (same_answer (cast_signed w128 (bit_or m n)) v (or_value k a b x y ∙ h)))
    ∙ answer_bit (bit_or m n) i low fits place
    ∙ bit_at_or m n i ∙ ap₂ max (bit_word a i f place) (bit_word b i g place)
