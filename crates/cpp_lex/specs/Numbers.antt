-- The number that digits in a spelling write.
use Rattle.std.specs.Prelude.{ℕ, ◌+◌, ◌*◌, List, fold, if◌then◌else◌}
use Rattle.cpp_lex.specs.Bytes.{is_digit, digit_value}

-- the number so far, with one more byte: a byte that is no digit of the base adds nothing
abbrev pub with_byte : ℕ → ℕ → ℕ → ℕ
with_byte base number b = if is_digit base b then number * base + digit_value b else number

-- the number that the digits of the base among these bytes write
unfoldable pub number : ℕ → List ℕ → ℕ
number base bytes = fold (with_byte base) 0 bytes
