-- Words of the code as those of the source.
use Rattle.std.proofs.Common.{ℕ, zero, suc, ℤ, pos, ◌≡◌, ◌≢◌, ◌⊎◌, inl, inr, ◌+◌, ◌*◌, ◌%◌, ◌^◌, ◌<◌, false, refl, ap, ap₂, sym, ◌∙◌, subst, Ok, arith}
use Rattle.std.proofs.lemmas.Int.{ints}
use Rattle.std.specs.Prelude.{◌-◌, ◌-ℤ◌, unsigned_abs}
use Rattle.std.specs.Int.{int_rem_euclid}
use Rattle.std.proofs.lemmas.Bool.{true≢false}
use Rattle.std.proofs.Math.Pow.{mod-mod-pow}
use Rattle.tx_ints.specs.declared.kinds.IntKind.{IntKind}
use Rattle.tx_ints.specs.declared.kinds.IntKind.TheVariants.{Bool as BoolKind, Char, SChar, UChar, Short, UShort, Int, UInt, Long, ULong, LLong, ULLong}
use Rattle.tx_ints.specs.declared.kinds.BinOp.{BinOp}
use Rattle.tx_ints.specs.declared.kinds.BinOp.TheVariants.{Add, Sub, Mul, Eq, Shl, Shr}
use Rattle.tx_ints.specs.declared.kinds.ArithTrap.{ArithTrap}
use Rattle.tx_ints.specs.declared.kinds.ArithTrap.TheVariants.{Overflow, DivideByZero, ShiftRange}
use Rattle.tx_ints.specs.Integers.{convert_of, reduced, apply_of}
use Rattle.tx_ints.specs.Words.{word_of, value_of_word}
use Rattle.tx_ints.proofs.ConversionLaws.{converts_into_range, zero_or_one, convert_keeps, convert_twice, converts_modulo, convert_same}
use Rattle.tx_ints.proofs.WordLaws.{word_converts}
use Rattle.tx_ints.proofs.Modulo.{Turns, rem_same}
use Rattle.tx_code.specs.Meaning.{size_of, bits_of, right_kind}
use Rattle.tx_code.specs.Meaning as code
use Rattle.cpp_tree.specs.cpp_layout.Layout.{kind_size}
use Rattle.src_mean.specs.Source.{plus, stored_bytes, converted, right_value, applied}
use Rattle.src_mean.specs.Source as source
use Rattle.symbolic_code.specs.Following.{is_bool}

pub size_same : (k : IntKind) → size_of k ≡ kind_size k
size_same BoolKind = refl
size_same Char = refl
size_same SChar = refl
size_same UChar = refl
size_same Short = refl
size_same UShort = refl
size_same Int = refl
size_same UInt = refl
size_same Long = refl
size_same ULong = refl
size_same LLong = refl
size_same ULLong = refl

-- an address is its own value
pub value_plain : (w : ℕ) → w < 2 ^ 64 → value_of_word ULong w ≡ pos w
value_plain w h = convert_keeps ULong (pos w) (record { from_least = omega (arith, ints, h); to_greatest = omega (arith, ints, h) })

remainder_word : (w n : ℕ) → unsigned_abs (int_rem_euclid (pos w) (pos n)) ≡ w % n
remainder_word w n = refl

-- the bytes of what is stored, but for bool
pub bits_same : (k : IntKind) (w : ℕ) → is_bool k ≡ false → bits_of k (value_of_word k w) ≡ stored_bytes k w
unfolding stored_bytes
bits_same BoolKind w h = absurd (true≢false h)
bits_same Char w h = ap unsigned_abs (converts_modulo Char (pos w) (λ e. cc))
bits_same SChar w h = ap unsigned_abs (converts_modulo SChar (pos w) (λ e. cc))
bits_same UChar w h = ap unsigned_abs (converts_modulo UChar (pos w) (λ e. cc))
bits_same Short w h = ap unsigned_abs (converts_modulo Short (pos w) (λ e. cc))
bits_same UShort w h = ap unsigned_abs (converts_modulo UShort (pos w) (λ e. cc))
bits_same Int w h = ap unsigned_abs (converts_modulo Int (pos w) (λ e. cc))
bits_same UInt w h = ap unsigned_abs (converts_modulo UInt (pos w) (λ e. cc))
bits_same Long w h = ap unsigned_abs (converts_modulo Long (pos w) (λ e. cc))
bits_same ULong w h = ap unsigned_abs (converts_modulo ULong (pos w) (λ e. cc))
bits_same LLong w h = ap unsigned_abs (converts_modulo LLong (pos w) (λ e. cc))
bits_same ULLong w h = ap unsigned_abs (converts_modulo ULLong (pos w) (λ e. cc))

pub not_bool : (k : IntKind) → is_bool k ≡ false → k ≢ BoolKind
not_bool k h e = true≢false (sym (ap is_bool e) ∙ h)

-- a conversion is not seen in what is stored
pub stored_converted : (k : IntKind) (w : ℕ) → is_bool k ≡ false → stored_bytes k (converted k w) ≡ stored_bytes k w
stored_converted k w h = sym (bits_same k (converted k w) h)
    ∙ (ap (λ (v : ℤ). bits_of k v) (word_converts k k (value_of_word k w) (converts_into_range k (pos w)) ∙ convert_twice k (pos w)) ∙ bits_same k w h)

bit_stored : (v : ℤ) → (v ≡ pos 0) ⊎ (v ≡ pos 1) → bits_of BoolKind v ≡ word_of v % 2 ^ 8
unfolding word_of
bit_stored v (inl e) = subst (λ (z : ℤ). bits_of BoolKind z ≡ word_of z % 2 ^ 8) (sym e) refl
bit_stored v (inr e) = subst (λ (z : ℤ). bits_of BoolKind z ≡ word_of z % 2 ^ 8) (sym e) refl

-- a store as bool
pub bool_same : (w : ℕ) → bits_of BoolKind (value_of_word BoolKind w) ≡ stored_bytes BoolKind (converted BoolKind w)
unfolding stored_bytes
bool_same w = bit_stored (value_of_word BoolKind w) (zero_or_one (value_of_word BoolKind w) (converts_into_range BoolKind (pos w)))

-- a kind that is not bool sees of a number what is left modulo 2^64
shorter : (r j k : ℕ) → j + k ≡ 64 → r % 2 ^ k ≡ r % 2 ^ 64 % 2 ^ k
shorter r j k e = sym (mod-mod-pow r j k) ∙ ap (λ z. r % 2 ^ z % 2 ^ k) e

pub short_number : (k : IntKind) (r : ℕ) → is_bool k ≡ false → convert_of k (pos r) ≡ convert_of k (pos (r % 2 ^ 64))
short_number BoolKind r h = absurd (true≢false h)
short_number Char r h = convert_same Char (pos r) (pos (r % 2 ^ 64)) (λ e. cc) (ap (λ n. pos n) (shorter r 56 8 refl))
short_number SChar r h = convert_same SChar (pos r) (pos (r % 2 ^ 64)) (λ e. cc) (ap (λ n. pos n) (shorter r 56 8 refl))
short_number UChar r h = convert_same UChar (pos r) (pos (r % 2 ^ 64)) (λ e. cc) (ap (λ n. pos n) (shorter r 56 8 refl))
short_number Short r h = convert_same Short (pos r) (pos (r % 2 ^ 64)) (λ e. cc) (ap (λ n. pos n) (shorter r 48 16 refl))
short_number UShort r h = convert_same UShort (pos r) (pos (r % 2 ^ 64)) (λ e. cc) (ap (λ n. pos n) (shorter r 48 16 refl))
short_number Int r h = convert_same Int (pos r) (pos (r % 2 ^ 64)) (λ e. cc) (ap (λ n. pos n) (shorter r 32 32 refl))
short_number UInt r h = convert_same UInt (pos r) (pos (r % 2 ^ 64)) (λ e. cc) (ap (λ n. pos n) (shorter r 32 32 refl))
short_number Long r h = convert_same Long (pos r) (pos (r % 2 ^ 64)) (λ e. cc) (ap (λ n. pos n) (shorter r 0 64 refl))
short_number ULong r h = convert_same ULong (pos r) (pos (r % 2 ^ 64)) (λ e. cc) (ap (λ n. pos n) (shorter r 0 64 refl))
short_number LLong r h = convert_same LLong (pos r) (pos (r % 2 ^ 64)) (λ e. cc) (ap (λ n. pos n) (shorter r 0 64 refl))
short_number ULLong r h = convert_same ULLong (pos r) (pos (r % 2 ^ 64)) (λ e. cc) (ap (λ n. pos n) (shorter r 0 64 refl))

-- and what is left modulo as many bits as it has
pub low_number : (k : IntKind) (r : ℕ) → is_bool k ≡ false → convert_of k (pos r) ≡ convert_of k (pos (r % 2 ^ (8 * size_of k)))
low_number BoolKind r h = absurd (true≢false h)
low_number Char r h = convert_same Char (pos r) (pos (r % 2 ^ 8)) (λ e. cc) (ap (λ n. pos n) (sym (mod-mod-pow r 0 8)))
low_number SChar r h = convert_same SChar (pos r) (pos (r % 2 ^ 8)) (λ e. cc) (ap (λ n. pos n) (sym (mod-mod-pow r 0 8)))
low_number UChar r h = convert_same UChar (pos r) (pos (r % 2 ^ 8)) (λ e. cc) (ap (λ n. pos n) (sym (mod-mod-pow r 0 8)))
low_number Short r h = convert_same Short (pos r) (pos (r % 2 ^ 16)) (λ e. cc) (ap (λ n. pos n) (sym (mod-mod-pow r 0 16)))
low_number UShort r h = convert_same UShort (pos r) (pos (r % 2 ^ 16)) (λ e. cc) (ap (λ n. pos n) (sym (mod-mod-pow r 0 16)))
low_number Int r h = convert_same Int (pos r) (pos (r % 2 ^ 32)) (λ e. cc) (ap (λ n. pos n) (sym (mod-mod-pow r 0 32)))
low_number UInt r h = convert_same UInt (pos r) (pos (r % 2 ^ 32)) (λ e. cc) (ap (λ n. pos n) (sym (mod-mod-pow r 0 32)))
low_number Long r h = convert_same Long (pos r) (pos (r % 2 ^ 64)) (λ e. cc) (ap (λ n. pos n) (sym (mod-mod-pow r 0 64)))
low_number ULong r h = convert_same ULong (pos r) (pos (r % 2 ^ 64)) (λ e. cc) (ap (λ n. pos n) (sym (mod-mod-pow r 0 64)))
low_number LLong r h = convert_same LLong (pos r) (pos (r % 2 ^ 64)) (λ e. cc) (ap (λ n. pos n) (sym (mod-mod-pow r 0 64)))
low_number ULLong r h = convert_same ULLong (pos r) (pos (r % 2 ^ 64)) (λ e. cc) (ap (λ n. pos n) (sym (mod-mod-pow r 0 64)))

-- a number modulo 2^64
address_word : (n : ℕ) → word_of (reduced ULong (pos n)) ≡ n % 2 ^ 64
unfolding word_of
address_word n = ap unsigned_abs (converts_modulo ULong (pos n) (λ e. cc))

pub right_same : (op : BinOp) (k : IntKind) (w : ℕ) → w < 2 ^ 64 → value_of_word (right_kind op k) w ≡ right_value op k w
right_same Shl k w h = value_plain w h
right_same Shr k w h = value_plain w h
right_same op k w h = refl

pub trap_same : (trap : ArithTrap) → code.trap_of trap ≡ source.trap_of trap
trap_same Overflow = refl
trap_same DivideByZero = refl
trap_same ShiftRange = refl

-- sums and products of addresses
pub sum_same : (a b : ℕ) → a < 2 ^ 64 → b < 2 ^ 64 → (z : ℤ) × (apply_of Add ULong (value_of_word ULong a) (value_of_word ULong b) ≡ Ok z)
    × (word_of z ≡ plus a b)
unfolding apply_of plus
sum_same a b h g = (reduced ULong (pos (a + b)), ap₂ (λ u v. apply_of Add ULong u v) (value_plain a h) (value_plain b g), address_word (a + b))

pub product_same : (a b : ℕ) → a < 2 ^ 64 → b < 2 ^ 64 → (z : ℤ) × (apply_of Mul ULong (value_of_word ULong a) (value_of_word ULong b) ≡ Ok z)
    × (word_of z ≡ (a * b) % 2 ^ 64)
unfolding apply_of
product_same a b h g = (reduced ULong (pos (a * b)), ap₂ (λ u v. apply_of Mul ULong u v) (value_plain a h) (value_plain b g), address_word (a * b))

-- a difference is taken modulo 2^64
pub difference_same : (a n : ℕ) → a < 2 ^ 64 → n < 2 ^ 64 → (z : ℤ) × (apply_of Sub ULong (value_of_word ULong a) (value_of_word ULong n) ≡ Ok z)
    × (word_of z ≡ (a + (2 ^ 64 - n)) % 2 ^ 64)
unfolding apply_of
difference_same a n h g = (
  reduced ULong (pos (a + (2 ^ 64 - n))),
  ap₂ (λ u v. apply_of Sub ULong u v) (value_plain a h) (value_plain n g) ∙ ap (λ z. Ok z)
      (turned a n g),
  address_word (a + (2 ^ 64 - n)),
)
  where
    around : (a n : ℕ) → n < 2 ^ 64 → Turns (2 ^ 64) (pos a -ℤ pos n) (pos (a + (2 ^ 64 - n)))
    around a n g = record { up = 1; down = 0; meet = omega (arith, ints, g) }

    turned : (a n : ℕ) → n < 2 ^ 64 → reduced ULong (pos a -ℤ pos n) ≡ reduced ULong (pos (a + (2 ^ 64 - n)))
    turned a n g = convert_same ULong (pos a -ℤ pos n) (pos (a + (2 ^ 64 - n))) (λ e. cc)
        (rem_same (2 ^ 64) (pos a -ℤ pos n) (pos (a + (2 ^ 64 - n))) (omega arith) (around a n g))

pub one_from : (a : ℕ) → a < 2 ^ 64 → (a ≡ 0 → ⊥) → (a + (2 ^ 64 - 1)) % 2 ^ 64 ≡ a - 1
one_from zero h g = absurd (g refl)
one_from (suc n) h g = omega (arith, h)

pub equal_same : (a b : ℕ) → (z : ℤ) × (apply_of Eq ULong (value_of_word ULong a) (value_of_word ULong b) ≡ Ok z)
unfolding apply_of
equal_same a b = (_, refl)

-- a conversion of an address
pub conversion_same : (k : IntKind) (w : ℕ) → w < 2 ^ 64 → word_of (convert_of k (value_of_word ULong w)) ≡ source.converted k w
conversion_same k w h = ap (λ z. word_of (convert_of k z)) (value_plain w h)
