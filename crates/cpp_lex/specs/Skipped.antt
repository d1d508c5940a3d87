-- What stands between tokens: blanks, comments (C++14 [lex.comment]), and the lines of a preprocessed text that
-- begin with #: line markers and pragmas.
use Rattle.std.specs.Prelude.{◌≡◌, ℕ, ◌+◌, ◌-◌, ◌<◌, ◌≤◌, ◌⊎◌, true, false, List, length, codes, slice_index, slice_range}
use Rattle.std.specs.Char.{is_ascii_digit}
use Rattle.cpp_lex.specs.Bytes.{is_blank, is_line_byte, is_line_blank, is_word_byte, Run, Are}

-- space, tab and bytes 10 to 13, at least one
pub record IsBlank (text : List ℕ) (from to : ℕ) : Type 0 where
  pub first : is_blank (slice_index text from) ≡ true
  pub rest : Run is_blank text (from + 1) to

-- // and the rest of the line
pub record IsLineComment (text : List ℕ) (from to : ℕ) : Type 0 where
  pub opened : Are text from 47 47
  pub rest : Run is_line_byte text (from + 2) to

-- /* and the first */ behind it
pub record IsBlockComment (text : List ℕ) (from to : ℕ) : Type 0 where
  pub opened : Are text from 47 42
  pub inside : to ≤ length text
  pub room : from + 4 ≤ to
  pub closed : Are text (to - 2) 42 47
  pub nowhere_before : (k : ℕ) → from + 2 ≤ k → k + 2 < to → Are text k 42 47 → ⊥

-- only blanks stand between the beginning of the place's line and the position
pub record IsFirstOnLine (text : List ℕ) (at : ℕ) : Type 0 where
  pub line : ℕ
  pub begins : (line ≡ 0) ⊎ ((0 < line) × (slice_index text (line - 1) ≡ 10))
  pub blanks : Run is_line_blank text line at

-- the word pragma
pub record IsPragma (text : List ℕ) (at : ℕ) : Type 0 where
  pub word : slice_range text at (at + 6) ≡ codes "pragma"
  pub whole : is_word_byte (slice_index text (at + 6)) ≡ false

-- a decimal digit, or the word pragma
abbrev pub IsMarker : List ℕ → ℕ → Type 0
IsMarker text at = (is_ascii_digit (slice_index text at) ≡ true) ⊎ IsPragma text at

-- # as the first byte of its line that is no blank, then blanks, a digit or the word pragma, and the rest of the line
pub record IsHashLine (text : List ℕ) (from to : ℕ) : Type 0 where
  pub hash : slice_index text from ≡ 35
  pub first : IsFirstOnLine text from
  pub marker_at : ℕ
  pub blanks : Run is_line_blank text (from + 1) marker_at
  pub marker : IsMarker text marker_at
  pub rest : Run is_line_byte text marker_at to
