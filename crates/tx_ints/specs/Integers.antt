-- Integers (C++14 3.9.1, 4.5, 4.7 and clause 5): numbers without width, and what each kind makes of them.
use Rattle.std.specs.Prelude.{◌≡◌, ℕ, zero, suc, ◌+◌, ◌-◌, ◌*◌, ◌%◌, ◌^◌, min, max, nat_lt, ℤ, pos, negsuc, neg_ℤ, ◌+ℤ◌, ◌-ℤ◌, ◌*ℤ◌, ◌≤ℤ◌, int_lt, int_le}
use Rattle.std.specs.Prelude.{int_div, int_rem, unsigned_abs, Bool as Test, true, false, not, ◌&&◌, ◌||◌, if◌then◌else◌, Option, Some, None, Result, Ok, Err}
use Rattle.std.specs.Int.{bit_at, int_div_euclid, int_rem_euclid}
use Rattle.std.specs.Ordering.{int_eq}
use Rattle.tx_ints.specs.declared.kinds.IntKind.{IntKind}
use Rattle.tx_ints.specs.declared.kinds.IntKind.TheVariants.{Bool, Char, SChar, UChar, Short, UShort, Int, UInt, Long, ULong, LLong, ULLong}
use Rattle.tx_ints.specs.declared.kinds.BinOp.{BinOp}
use Rattle.tx_ints.specs.declared.kinds.BinOp.TheVariants.{Add, Sub, Mul, Div, Rem, Shl, Shr, And, Xor, Or, Lt, Gt, Le, Ge, Eq, Ne}
use Rattle.tx_ints.specs.declared.kinds.ArithTrap.{ArithTrap}
use Rattle.tx_ints.specs.declared.kinds.ArithTrap.TheVariants.{Overflow, DivideByZero, ShiftRange}

-- ---- the kinds

-- how many bits hold a kind's value and sign; a bool is one bit of its byte
abbrev pub width : IntKind → ℕ
width Bool = 1
width Char = 8
width SChar = 8
width UChar = 8
width Short = 16
width UShort = 16
width Int = 32
width UInt = 32
width Long = 64
width ULong = 64
width LLong = 64
width ULLong = 64

-- plain char is signed
abbrev pub is_signed : IntKind → Test
is_signed Bool = false
is_signed Char = true
is_signed SChar = true
is_signed UChar = false
is_signed Short = true
is_signed UShort = false
is_signed Int = true
is_signed UInt = false
is_signed Long = true
is_signed ULong = false
is_signed LLong = true
is_signed ULLong = false

-- how many numbers a kind has
abbrev pub modulus : IntKind → ℕ
modulus k = 2 ^ width k

-- the first and the last of them: a signed kind begins half of them below 0
abbrev pub least : IntKind → ℤ
least k = if is_signed k then neg_ℤ (pos (2 ^ (width k - 1))) else pos 0

abbrev pub greatest : IntKind → ℤ
greatest k = least k +ℤ pos (modulus k - 1)

-- v is a number of the kind, and the test of it
pub record InRange (k : IntKind) (v : ℤ) : Type 0 where
  pub from_least : least k ≤ℤ v
  pub to_greatest : v ≤ℤ greatest k

abbrev pub is_in_range : IntKind → ℤ → Test
is_in_range k v = int_le (least k) v && int_le v (greatest k)

-- ---- numbers modulo 2^n

-- two numbers are equal modulo m where they leave the same remainder
abbrev pub EqualModulo : ℕ → ℤ → ℤ → Type 0
EqualModulo m y z = int_rem_euclid y (pos m) ≡ int_rem_euclid z (pos m)

-- the number of the kind that is equal to z modulo 2^n: as far above the least one as z is, modulo 2^n
unfoldable pub reduced : IntKind → ℤ → ℤ
reduced k z = least k +ℤ int_rem_euclid (z -ℤ least k) (pos (modulus k))

-- ---- conversions

-- conversion to a kind (4.7 and, to bool, 4.12)
abbrev pub convert_of : IntKind → ℤ → ℤ
convert_of Bool v = if int_eq v (pos 0) then pos 0 else pos 1
convert_of k v = reduced k v

-- the integer conversion rank (4.13)
abbrev pub rank : IntKind → ℕ
rank Bool = 0
rank Char = 1
rank SChar = 1
rank UChar = 1
rank Short = 2
rank UShort = 2
rank Int = 3
rank UInt = 3
rank Long = 4
rank ULong = 4
rank LLong = 5
rank ULLong = 5

-- the first kind can represent all the values of the second
abbrev pub represents : IntKind → IntKind → Test
represents k j = int_le (least k) (least j) && int_le (greatest j) (greatest k)

-- integral promotion (4.5): a kind of a rank below int's goes to int, or to unsigned int if int can't represent all its values
abbrev pub promote_of : IntKind → IntKind
promote_of k = if nat_lt (rank k) (rank Int) then (if represents Int k then Int else UInt) else k

-- the unsigned kind that corresponds to a promoted kind
abbrev pub unsigned_of : IntKind → IntKind
unsigned_of Int = UInt
unsigned_of Long = ULong
unsigned_of LLong = ULLong
unsigned_of k = k

-- the common kind of two kinds of one sign: the one of the greater rank
abbrev pub higher_of : IntKind → IntKind → IntKind
higher_of a b = if nat_lt (rank a) (rank b) then b else a

-- of an unsigned and a signed kind: the unsigned one if its rank is not below the other's, else the signed one if that can
-- represent all its values, else the unsigned kind that corresponds to the signed one
abbrev pub mixed_of : IntKind → IntKind → IntKind
mixed_of u s = if not (nat_lt (rank u) (rank s)) then u else (if represents s u then s else unsigned_of s)

-- of any two promoted kinds
abbrev pub common_of : IntKind → IntKind → IntKind
common_of a b =
    if is_signed a then (if is_signed b then higher_of a b else mixed_of b a) else (if is_signed b then mixed_of a b else higher_of a b)

-- the usual arithmetic conversions (clause 5, paragraph 10)
abbrev pub usual_of : IntKind → IntKind → IntKind
usual_of a b = common_of (promote_of a) (promote_of b)

-- ---- operators

abbrev pub truth : Test → ℤ
truth holds = if holds then pos 1 else pos 0

-- bit i of a number in two's complement: -(n + 1) has the bits of n turned
abbrev pub bit_of : ℤ → ℕ → ℕ
bit_of (pos n) i = bit_at n i
bit_of (negsuc n) i = 1 - bit_at n i

-- the number that the first n bits make
unfoldable pub from_bits : (ℕ → ℕ) → ℕ → ℕ
from_bits bit zero = 0
from_bits bit (suc n) = from_bits bit n + bit n * 2 ^ n

-- the kind's number that has these bits
abbrev pub of_bits : IntKind → (ℕ → ℕ) → ℤ
of_bits k bit = reduced k (pos (from_bits bit (width k)))

-- the operators whose right operand is a count
abbrev pub is_shift : BinOp → Test
is_shift Shl = true
is_shift Shr = true
is_shift op = false

-- an operator's mathematical value: `/` truncates, `%` has the dividend's sign, `<<` multiplies by a power of two, `>>`
-- divides by one and rounds down, and a bit operator works on each of the kind's bits. A comparison gives 1 or 0
abbrev pub value_of : BinOp → IntKind → ℤ → ℤ → ℤ
value_of Add k a b = a +ℤ b
value_of Sub k a b = a -ℤ b
value_of Mul k a b = a *ℤ b
value_of Div k a b = int_div a b
value_of Rem k a b = int_rem a b
value_of Shl k a b = a *ℤ pos (2 ^ unsigned_abs b)
value_of Shr k a b = int_div_euclid a (pos (2 ^ unsigned_abs b))
value_of And k a b = of_bits k (λ i. min (bit_of a i) (bit_of b i))
value_of Xor k a b = of_bits k (λ i. (bit_of a i + bit_of b i) % 2)
value_of Or k a b = of_bits k (λ i. max (bit_of a i) (bit_of b i))
value_of Lt k a b = truth (int_lt a b)
value_of Gt k a b = truth (int_lt b a)
value_of Le k a b = truth (int_le a b)
value_of Ge k a b = truth (int_le b a)
value_of Eq k a b = truth (int_eq a b)
value_of Ne k a b = truth (not (int_eq a b))

-- ---- traps

-- a signed kind overflows at a value that it does not have
abbrev pub overflow_of : IntKind → ℤ → Option ArithTrap
overflow_of k z = if is_signed k && not (is_in_range k z) then Some Overflow else None

-- `/` and `%`
abbrev pub division_trap : IntKind → ℤ → ℤ → Option ArithTrap
division_trap k a b = if int_eq b (pos 0) then Some DivideByZero else overflow_of k (int_div a b)

-- a shift's count is not below 0, and below the width
abbrev pub is_count : IntKind → ℤ → Test
is_count k b = int_le (pos 0) b && int_lt b (pos (width k))

-- a signed `<<` overflows at a negative number, and at a value that the unsigned kind of its width does not have
abbrev pub shift_overflow : IntKind → ℤ → ℤ → Option ArithTrap
shift_overflow k a z =
    if is_signed k && (int_lt a (pos 0) || not (int_lt z (pos (modulus k)))) then Some Overflow else None

-- all other operators have a value everywhere
abbrev pub trap_of : BinOp → IntKind → ℤ → ℤ → Option ArithTrap
trap_of Add k a b = overflow_of k (value_of Add k a b)
trap_of Sub k a b = overflow_of k (value_of Sub k a b)
trap_of Mul k a b = overflow_of k (value_of Mul k a b)
trap_of Div k a b = division_trap k a b
trap_of Rem k a b = division_trap k a b
trap_of Shl k a b = if is_count k b then shift_overflow k a (value_of Shl k a b) else Some ShiftRange
trap_of Shr k a b = if is_count k b then None else Some ShiftRange
trap_of op k a b = None

-- the trap, or else the kind's number for the value
abbrev pub trapped_or : Option ArithTrap → IntKind → ℤ → Result ℤ ArithTrap
trapped_or (Some trap) k z = Err trap
trapped_or None k z = Ok (reduced k z)

-- what an operator gives on two numbers of a kind: a signed kind has its value already, but for `<<`
unfoldable pub apply_of : BinOp → IntKind → ℤ → ℤ → Result ℤ ArithTrap
apply_of op k a b = trapped_or (trap_of op k a b) k (value_of op k a b)

-- what the unary `-` gives
unfoldable pub negate_of : IntKind → ℤ → Result ℤ ArithTrap
negate_of k v = trapped_or (overflow_of k (neg_ℤ v)) k (neg_ℤ v)
