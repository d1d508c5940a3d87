-- What a reader of the text at a position answers.
use Rattle.std.specs.Prelude.{◌≡◌, ℕ, ◌≤◌, ◌+◌, ◌<◌, List, length, Bool, Option, Some, None}
use Rattle.cpp_lex.specs.declared.bytes.Class.{Class}
use Rattle.cpp_lex.specs.declared.bytes.Class.TheVariants.{WordByte, Blank, LineByte, LineBlank, OctalDigit, HexDigit}
use Rattle.cpp_lex.specs.declared.quoted.Quote.{Quote}
use Rattle.cpp_lex.specs.declared.quoted.Quote.TheVariants.{Single, Double}
use Rattle.cpp_lex.specs.Bytes.{is_word_byte, is_blank, is_line_byte, is_line_blank, is_digit, Are}
use Rattle.cpp_lex.specs.Quoted.{is_char_byte, is_str_byte}

-- the furthest end that a reading may have
pub record IsFurthest (Reads : ℕ → Type 0) (to : ℕ) : Type 0 where
  pub reads : Reads to
  pub furthest : (end : ℕ) → Reads end → end ≤ to

-- the longest reading, or none where there is none
abbrev pub IsLongest : (ℕ → Type 0) → Option ℕ → Type 0
IsLongest Reads None = (end : ℕ) → Reads end → ⊥
IsLongest Reads (Some to) = IsFurthest Reads to

-- the one end that a reading has
pub record IsOnly (Reads : ℕ → Type 0) (to : ℕ) : Type 0 where
  pub reads : Reads to
  pub only : (end : ℕ) → Reads end → end ≡ to

-- the one reading, or none where there is none
abbrev pub IsTheOne : (ℕ → Type 0) → Option ℕ → Type 0
IsTheOne Reads None = (end : ℕ) → Reads end → ⊥
IsTheOne Reads (Some to) = IsOnly Reads to

-- the bytes of a class
abbrev pub in_class : Class → ℕ → Bool
in_class WordByte = is_word_byte
in_class Blank = is_blank
in_class LineByte = is_line_byte
in_class LineBlank = is_line_blank
in_class OctalDigit = is_digit 8
in_class HexDigit = is_digit 16

-- the bytes that stand for themselves between two quotes
abbrev pub own_byte : Quote → ℕ → Bool
own_byte Single = is_char_byte
own_byte Double = is_str_byte

-- the first position from a position on where the end of a comment stands
pub record IsClosing (text : List ℕ) (from at : ℕ) : Type 0 where
  pub behind : from ≤ at
  pub inside : at + 2 ≤ length text
  pub closed : Are text at 42 47
  pub nowhere_before : (k : ℕ) → from ≤ k → k < at → Are text k 42 47 → ⊥
