-- The bytes of a string literal (C++14 2.14.3, 2.14.5), by reading its spelling once from the left.
use Rattle.std.specs.Prelude.{ℕ, zero, suc, ◌+◌, ◌*◌, nat_eq, List, [], ◌∷◌, ◌++◌, fold}
use Rattle.std.specs.Prelude.{if◌then◌else◌, unwrap_or}
use Rattle.elab_ctx.specs.cpp_lex.Bytes.{digit_value, is_digit}
use Rattle.elab_ctx.specs.cpp_lex.Quoted.{simple_escape}

-- where the reading is: in text, behind a backslash, or in a number with so many octal digits left, or a hexadecimal one
pub data Mode : Type 0 where
  text : Mode
  slash : Mode
  octal : ℕ → ℕ → Mode
  hex : ℕ → Mode

pub record Reading : Type 0 where
  pub mode : Mode
  pub bytes : List ℕ

-- a byte that begins something: quotes only bound the pieces
abbrev pub fresh : List ℕ → ℕ → Reading
fresh bytes b = if nat_eq b 34 then record { mode = text; bytes = bytes } else
    (if nat_eq b 92 then record { mode = slash; bytes = bytes } else record { mode = text; bytes = bytes ++ b ∷ [] })

abbrev pub escaped : List ℕ → ℕ → Reading
escaped bytes b = if is_digit 8 b then record { mode = octal 2 (digit_value b); bytes = bytes } else
    (if nat_eq b 120 then record { mode = hex 0; bytes = bytes }
    else record { mode = text; bytes = bytes ++ unwrap_or (simple_escape b) b ∷ [] })

abbrev pub read_in : Mode → List ℕ → ℕ → Reading
read_in text bytes b = fresh bytes b
read_in slash bytes b = escaped bytes b
read_in (octal zero v) bytes b = fresh (bytes ++ v ∷ []) b
read_in (octal (suc n) v) bytes b = if is_digit 8 b then record { mode = octal n (v * 8 + digit_value b); bytes = bytes } else fresh (bytes ++ v ∷ []) b
read_in (hex v) bytes b = if is_digit 16 b then record { mode = hex (v * 16 + digit_value b); bytes = bytes } else fresh (bytes ++ v ∷ []) b

abbrev pub read_byte : Reading → ℕ → Reading
read_byte r b = read_in r.mode r.bytes b

-- the bytes of the spellings of strings that are one token; each ends with a quote, which ends a number
abbrev pub string_bytes : List ℕ → List ℕ
string_bytes spelling = (fold read_byte (record { mode = text; bytes = [] }) spelling).bytes
