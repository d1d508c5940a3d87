-- Integer literals: C++14 [lex.icon].
use Rattle.std.specs.Prelude.{◌≡◌, ◌≢◌, ℕ, ◌+◌, ◌-◌, ◌^◌, Bool, true, false, List, [], ◌∷◌, Option, slice_index, count_by, zero, suc, find, if◌then◌else◌}
use Rattle.std.specs.Prelude.{nat_eq, nat_le, ◌||◌}
use Rattle.std.specs.List.{list_any}
use Rattle.cpp_lex.specs.Bytes.{is_digit}
use Rattle.cpp_lex.specs.Numbers.{number}
use Rattle.tx_ints.specs.declared.kinds.IntKind.{IntKind}
use Rattle.tx_ints.specs.declared.kinds.IntKind.TheVariants.{Int, UInt, Long, ULong, LLong, ULLong}
use Rattle.tx_ints.specs.Integers.{width, is_signed}

-- digits of the base, where a ' may stand between two of them
pub data Digits (base : ℕ) (text : List ℕ) : ℕ → ℕ → Type 0 where
  one : {at : ℕ} → is_digit base (slice_index text at) ≡ true → Digits base text at (at + 1)
  more : {from at : ℕ} → Digits base text from at → is_digit base (slice_index text at) ≡ true → Digits base text from (at + 1)
  marked : {from at : ℕ} → Digits base text from at → slice_index text at ≡ 39 → is_digit base (slice_index text (at + 1)) ≡ true
      → Digits base text from (at + 2)

-- behind the 0 at a position x and hexadecimal digits, or b and binary digits
pub data Prefixed (text : List ℕ) : ℕ → ℕ → Type 0 where
  hexadecimal : {from to : ℕ} → slice_index text (from + 1) ≡ 120 → Digits 16 text (from + 2) to → Prefixed text from to
  binary : {from to : ℕ} → slice_index text (from + 1) ≡ 98 → Digits 2 text (from + 2) to → Prefixed text from to

-- a literal without its suffix: decimal, 0 and octal digits, 0x and hexadecimal digits, or 0b and binary digits
pub data Literal (text : List ℕ) : ℕ → ℕ → Type 0 where
  decimal : {from to : ℕ} → slice_index text from ≢ 48 → Digits 10 text from to → Literal text from to
  octal : {from to : ℕ} → slice_index text from ≡ 48 → Digits 8 text from to → Literal text from to
  prefixed : {from to : ℕ} → slice_index text from ≡ 48 → Prefixed text from to → Literal text from to

-- u or U
abbrev pub is_u : ℕ → Bool
is_u b = nat_eq b 117 || nat_eq b 85

-- l or L
abbrev pub is_l : ℕ → Bool
is_l b = nat_eq b 108 || nat_eq b 76

-- l, L, ll or LL
pub data LongSuffix (text : List ℕ) : ℕ → ℕ → Type 0 where
  one_l : {at : ℕ} → is_l (slice_index text at) ≡ true → LongSuffix text at (at + 1)
  two_l : {at : ℕ} → is_l (slice_index text at) ≡ true → slice_index text (at + 1) ≡ slice_index text at → LongSuffix text at (at + 2)

-- no suffix, u, a long one, or both in either order
pub data Suffix (text : List ℕ) : ℕ → ℕ → Type 0 where
  no_suffix : {at : ℕ} → Suffix text at at
  only_u : {at : ℕ} → is_u (slice_index text at) ≡ true → Suffix text at (at + 1)
  only_l : {at to : ℕ} → LongSuffix text at to → Suffix text at to
  u_then_l : {at to : ℕ} → is_u (slice_index text at) ≡ true → LongSuffix text (at + 1) to → Suffix text at to
  l_then_u : {at mid : ℕ} → LongSuffix text at mid → is_u (slice_index text mid) ≡ true → Suffix text at (mid + 1)

-- a literal and its suffix
pub record IsInt (text : List ℕ) (from to : ℕ) : Type 0 where
  pub digits_end : ℕ
  pub digits : Literal text from digits_end
  pub suffix : Suffix text digits_end to

-- whether a spelling is that of a decimal literal
abbrev pub is_decimal : List ℕ → Bool
is_decimal bytes = if nat_eq (slice_index bytes 0) 48 then false else true

-- the base that a spelling is written in
abbrev pub base_of : List ℕ → ℕ
base_of bytes = if nat_eq (slice_index bytes 0) 48 then
    (if nat_eq (slice_index bytes 1) 120 then 16 else (if nat_eq (slice_index bytes 1) 98 then 2 else 8)) else 10

-- the number that a spelling writes: no mark, no letter of a prefix and none of a suffix is a digit of its base
unfoldable pub int_value : List ℕ → ℕ
int_value bytes = number (base_of bytes) bytes

-- the largest value of a kind
abbrev pub int_largest : IntKind → ℕ
int_largest kind = if is_signed kind then 2 ^ (width kind - 1) - 1 else 2 ^ width kind - 1

-- what stands for no l, for one, and for two
abbrev pub by_longs : ℕ → List IntKind → List IntKind → List IntKind → List IntKind
by_longs zero without single twice = without
by_longs (suc zero) without single twice = single
by_longs (suc (suc n)) without single twice = twice

-- the types that a literal may have, in the order in which they are tried (C++14 [lex.icon], table 6): by whether
-- it is decimal, whether its suffix has a u, and how many l it has
abbrev pub int_types : Bool → Bool → ℕ → List IntKind
int_types in_decimal has_u longs =
    if has_u then by_longs longs (UInt ∷ ULong ∷ []) (ULong ∷ []) (ULLong ∷ [])
    else (if in_decimal then by_longs longs (Int ∷ Long ∷ []) (Long ∷ []) (LLong ∷ [])
    else by_longs longs (Int ∷ UInt ∷ Long ∷ ULong ∷ []) (Long ∷ ULong ∷ []) (LLong ∷ ULLong ∷ []))

-- the type of an Int token of this spelling and value: the first of its row that holds the value, if one does
unfoldable pub int_type_of : List ℕ → ℕ → Option IntKind
int_type_of bytes value =
    find (λ kind. nat_le value (int_largest kind)) (int_types (is_decimal bytes) (list_any is_u bytes) (count_by is_l bytes))
