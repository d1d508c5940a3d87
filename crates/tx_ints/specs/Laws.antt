-- What holds of the definitions in Integers and Words, at all kinds and numbers.
use Rattle.std.specs.Prelude.{◌≡◌, ◌≢◌, ◌⊎◌, ℕ, ◌+◌, ◌%◌, ◌^◌, ◌<◌, min, max, ℤ, true, false, Ok, Err}
use Rattle.tx_ints.specs.declared.kinds.IntKind.{IntKind}
use Rattle.tx_ints.specs.declared.kinds.IntKind.TheVariants.{Bool}
use Rattle.tx_ints.specs.declared.kinds.BinOp.{BinOp}
use Rattle.tx_ints.specs.declared.kinds.BinOp.TheVariants.{Shl, And, Xor, Or}
use Rattle.tx_ints.specs.declared.kinds.ArithTrap.{ArithTrap}
use Rattle.tx_ints.specs.declared.kinds.ArithTrap.TheVariants.{DivideByZero, ShiftRange}
use Rattle.tx_ints.specs.Integers.{InRange, EqualModulo, modulus, width, is_signed, convert_of, promote_of, usual_of, apply_of, value_of, bit_of}
use Rattle.tx_ints.specs.Words.{word_of, value_of_word}

-- ---- conversions

abbrev pub ConvertsIntoRange : Type 0
ConvertsIntoRange = (k : IntKind) (v : ℤ) → InRange k (convert_of k v)

-- a kind keeps its own numbers
abbrev pub ConvertKeeps : Type 0
ConvertKeeps = (k : IntKind) (v : ℤ) → InRange k v → convert_of k v ≡ v

-- so to convert twice is to convert once
abbrev pub ConvertTwice : Type 0
ConvertTwice = (k : IntKind) (v : ℤ) → convert_of k (convert_of k v) ≡ convert_of k v

-- but for bool, a conversion changes a number by a multiple of 2^n
abbrev pub ConvertsModulo : Type 0
ConvertsModulo = (k : IntKind) (v : ℤ) → k ≢ Bool → EqualModulo (modulus k) (convert_of k v) v

-- and no other number of the kind is equal to it modulo 2^n
abbrev pub ConvertOnly : Type 0
ConvertOnly = (k : IntKind) (v r : ℤ) → k ≢ Bool → InRange k r → EqualModulo (modulus k) r v → convert_of k v ≡ r

-- so numbers that are equal modulo 2^n convert to one
abbrev pub ConvertSame : Type 0
ConvertSame = (k : IntKind) (y z : ℤ) → k ≢ Bool → EqualModulo (modulus k) y z → convert_of k y ≡ convert_of k z

-- ---- words

abbrev pub WordBelow : Type 0
WordBelow = (v : ℤ) → word_of v < 2 ^ 64

-- the word of a kind's number stands for that number
abbrev pub WordBack : Type 0
WordBack = (k : IntKind) (v : ℤ) → InRange k v → value_of_word k (word_of v) ≡ v

-- in a kind of 64 bits each word is that of the number that it stands for
abbrev pub WordThere : Type 0
WordThere = (k : IntKind) (word : ℕ) → width k ≡ 64 → word < 2 ^ 64 → word_of (value_of_word k word) ≡ word

-- a number of one kind converts to another as its word does
abbrev pub WordConverts : Type 0
WordConverts = (j k : IntKind) (v : ℤ) → InRange j v → value_of_word k (word_of v) ≡ convert_of k v

-- ---- promotions

abbrev pub PromoteTwice : Type 0
PromoteTwice = (k : IntKind) → promote_of (promote_of k) ≡ promote_of k

abbrev pub UsualPromoted : Type 0
UsualPromoted = (a b : IntKind) → promote_of (usual_of a b) ≡ usual_of a b

abbrev pub UsualTurned : Type 0
UsualTurned = (a b : IntKind) → usual_of a b ≡ usual_of b a

-- ---- operators

abbrev pub AppliesIntoRange : Type 0
AppliesIntoRange = (op : BinOp) (k : IntKind) (a b v : ℤ) → apply_of op k a b ≡ Ok v → InRange k v

-- an unsigned kind has two traps
abbrev pub UnsignedTraps : Type 0
UnsignedTraps = (op : BinOp) (k : IntKind) (a b : ℤ) (trap : ArithTrap) → is_signed k ≡ false → apply_of op k a b ≡ Err trap
    → (trap ≡ DivideByZero) ⊎ (trap ≡ ShiftRange)

-- a signed kind keeps each operator's value as it is, but for `<<`
abbrev pub SignedKeeps : Type 0
SignedKeeps = (op : BinOp) (k : IntKind) (a b v : ℤ) → is_signed k ≡ true → op ≢ Shl → InRange k a → apply_of op k a b ≡ Ok v
    → v ≡ value_of op k a b

-- each bit of an answer is the operator's on the operands' bits
abbrev pub AndBits : Type 0
AndBits = (k : IntKind) (a b v : ℤ) (i : ℕ) → InRange k a → InRange k b → apply_of And k a b ≡ Ok v → i < width k
    → bit_of v i ≡ min (bit_of a i) (bit_of b i)

abbrev pub XorBits : Type 0
XorBits = (k : IntKind) (a b v : ℤ) (i : ℕ) → InRange k a → InRange k b → apply_of Xor k a b ≡ Ok v → i < width k
    → bit_of v i ≡ (bit_of a i + bit_of b i) % 2

abbrev pub OrBits : Type 0
OrBits = (k : IntKind) (a b v : ℤ) (i : ℕ) → InRange k a → InRange k b → apply_of Or k a b ≡ Ok v → i < width k
    → bit_of v i ≡ max (bit_of a i) (bit_of b i)
