-- Character and string literals with their escapes: C++14 [lex.ccon], [lex.string].
use Rattle.std.specs.Prelude.{◌≡◌, ℕ, ◌+◌, ◌-◌, ◌<◌, ◌≤◌, Bool, true, false, List, length, Option, Some, None, IsSome, if◌then◌else◌, nat_eq, nat_le, ◌&&◌}
use Rattle.std.specs.Prelude.{◌||◌, slice_index, slice_range, unwrap_or}
use Rattle.cpp_lex.specs.Bytes.{is_digit, Run}
use Rattle.cpp_lex.specs.Numbers.{number}

-- the value of an escape of one letter: \n \t \v \b \r \f \a \\ \? \' \"
unfoldable pub simple_escape : ℕ → Option ℕ
simple_escape b =
    if nat_eq b 110 then Some 10
    else (if nat_eq b 116 then Some 9
    else (if nat_eq b 118 then Some 11
    else (if nat_eq b 98 then Some 8
    else (if nat_eq b 114 then Some 13
    else (if nat_eq b 102 then Some 12
    else (if nat_eq b 97 then Some 7
    else (if nat_eq b 92 || nat_eq b 63 || nat_eq b 39 || nat_eq b 34 then Some b
    else None)))))))

-- \ and one to three octal digits, as many as there are, that write at most 255
pub record OctalEscape (text : List ℕ) (from to : ℕ) : Type 0 where
  pub some : from + 2 ≤ to
  pub three : to ≤ from + 4
  pub digits : Run (is_digit 8) text (from + 1) to
  pub ends : to < from + 4 → is_digit 8 (slice_index text to) ≡ false
  pub fits : number 8 (slice_range text from to) ≤ 255

-- \x and hexadecimal digits, as many as there are, that write at most 255
pub record HexEscape (text : List ℕ) (from to : ℕ) : Type 0 where
  pub letter : slice_index text (from + 1) ≡ 120
  pub some : from + 3 ≤ to
  pub digits : Run (is_digit 16) text (from + 2) to
  pub ends : is_digit 16 (slice_index text to) ≡ false
  pub fits : number 16 (slice_range text from to) ≤ 255

-- what follows a \ at a position
pub data EscapeBody (text : List ℕ) : ℕ → ℕ → Type 0 where
  by_letter : {from : ℕ} → IsSome (simple_escape (slice_index text (from + 1))) → EscapeBody text from (from + 2)
  in_octal : {from to : ℕ} → OctalEscape text from to → EscapeBody text from to
  in_hex : {from to : ℕ} → HexEscape text from to → EscapeBody text from to

pub record Escape (text : List ℕ) (from to : ℕ) : Type 0 where
  pub backslash : slice_index text from ≡ 92
  pub body : EscapeBody text from to

-- a byte that stands for itself in a character: 32 to 126 but ' and \
abbrev pub is_char_byte : ℕ → Bool
is_char_byte b = nat_le 32 b && nat_le b 126 && (if nat_eq b 39 || nat_eq b 92 then false else true)

-- a byte that stands for itself in a string: 32 to 126 but " and \, and 128 to 255
abbrev pub is_str_byte : ℕ → Bool
is_str_byte b = (nat_le 32 b && nat_le b 126 && (if nat_eq b 34 || nat_eq b 92 then false else true)) || (nat_le 128 b && nat_le b 255)

-- one byte that stands for itself, or one escape
pub data OneOf (test : ℕ → Bool) (text : List ℕ) : ℕ → ℕ → Type 0 where
  itself : {at : ℕ} → test (slice_index text at) ≡ true → OneOf test text at (at + 1)
  escaped : {at to : ℕ} → Escape text at to → OneOf test text at to

-- any number of them, one after the other
pub data SomeOf (test : ℕ → Bool) (text : List ℕ) : ℕ → ℕ → Type 0 where
  no_more : {at : ℕ} → SomeOf test text at at
  one_more : {from mid to : ℕ} → OneOf test text from mid → SomeOf test text mid to → SomeOf test text from to

-- ' and one byte or escape and '
pub record IsChar (text : List ℕ) (from to : ℕ) : Type 0 where
  pub opened : slice_index text from ≡ 39
  pub inner_end : ℕ
  pub inner : OneOf is_char_byte text (from + 1) inner_end
  pub closed : slice_index text inner_end ≡ 39
  pub ends : to ≡ inner_end + 1

-- " and any number of bytes and escapes and "
pub record IsStr (text : List ℕ) (from to : ℕ) : Type 0 where
  pub opened : slice_index text from ≡ 34
  pub inner_end : ℕ
  pub inner : SomeOf is_str_byte text (from + 1) inner_end
  pub closed : slice_index text inner_end ≡ 34
  pub ends : to ≡ inner_end + 1

-- the value of an escape, from its spelling: no other byte of it is a digit of its base
unfoldable pub escape_value : List ℕ → ℕ
escape_value bytes = unwrap_or (simple_escape (slice_index bytes 1)) (if nat_eq (slice_index bytes 1) 120 then number 16 bytes else number 8 bytes)

-- the value of a character, from its spelling with its quotes
unfoldable pub char_value : List ℕ → ℕ
char_value bytes = if nat_eq (slice_index bytes 1) 92 then escape_value (slice_range bytes 1 (length bytes - 1)) else slice_index bytes 1
