-- Classes of bytes, and runs of bytes of one class. A position past the end of a text reads as byte 0,
-- which is in none of the classes but `is_line_byte`.
use Rattle.std.specs.Prelude.{◌≡◌, ℕ, ◌+◌, ◌-◌, ◌<◌, ◌≤◌, Bool, true, false, List, length, if◌then◌else◌, nat_le, nat_lt, nat_eq, ◌&&◌, ◌||◌, slice_index}
use Rattle.std.specs.Char.{is_ascii_digit, is_ascii_alphabetic}

-- a letter or _
abbrev pub is_letter : ℕ → Bool
is_letter b = is_ascii_alphabetic b || nat_eq b 95

-- a byte of a name behind its first
abbrev pub is_word_byte : ℕ → Bool
is_word_byte b = is_letter b || is_ascii_digit b

-- space, tab, and bytes 10 to 13
abbrev pub is_blank : ℕ → Bool
is_blank b = nat_eq b 32 || (nat_le 9 b && nat_le b 13)

-- any byte but the end of a line
abbrev pub is_line_byte : ℕ → Bool
is_line_byte b = if nat_eq b 10 then false else true

-- a blank that ends no line: space, tab, and bytes 11 to 13
abbrev pub is_line_blank : ℕ → Bool
is_line_blank b = is_blank b && is_line_byte b

-- ' or "
abbrev pub is_quote : ℕ → Bool
is_quote b = nat_eq b 39 || nat_eq b 34

-- what a digit of base 16 or less counts
abbrev pub digit_value : ℕ → ℕ
digit_value b = if nat_le 97 b then b - 87 else (if nat_le 65 b then b - 55 else b - 48)

-- a digit of the base, which is at most 16
abbrev pub is_digit : ℕ → ℕ → Bool
is_digit base b = (is_ascii_digit b || (nat_le 97 b && nat_le b 102) || (nat_le 65 b && nat_le b 70)) && nat_lt (digit_value b) base

-- each byte from a position up to another passes the test
pub record Run (test : ℕ → Bool) (text : List ℕ) (from to : ℕ) : Type 0 where
  pub ordered : from ≤ to
  pub inside : to ≤ length text
  pub each : (k : ℕ) → from ≤ k → k < to → test (slice_index text k) ≡ true

-- two bytes stand at a position
pub record Are (text : List ℕ) (at first second : ℕ) : Type 0 where
  pub one : slice_index text at ≡ first
  pub two : slice_index text (at + 1) ≡ second
