-- The kind of piece that a place's first two bytes leave: what spells a piece of another kind begins otherwise.
use Rattle.std.specs.Prelude.{ℕ, ◌+◌, List, if◌then◌else◌, nat_eq, ◌&&◌, slice_index}
use Rattle.std.specs.Char.{is_ascii_digit}
use Rattle.cpp_lex.specs.declared.piece.PieceKind.{PieceKind}
use Rattle.cpp_lex.specs.declared.piece.PieceKind.TheVariants.{Blank, LineComment, BlockComment, HashLine, Word, IntegerLiteral, CharacterLiteral}
use Rattle.cpp_lex.specs.declared.piece.PieceKind.TheVariants.{StringLiteral, Punctuator}
use Rattle.cpp_lex.specs.Bytes.{is_letter, is_blank}

unfoldable pub kind_by : ℕ → ℕ → PieceKind
kind_by b next =
    if is_letter b then Word
    else (if is_ascii_digit b then IntegerLiteral
    else (if is_blank b then Blank
    else (if nat_eq b 39 then CharacterLiteral
    else (if nat_eq b 34 then StringLiteral
    else (if nat_eq b 35 then HashLine
    else (if nat_eq b 47 && nat_eq next 47 then LineComment
    else (if nat_eq b 47 && nat_eq next 42 then BlockComment
    else Punctuator)))))))

abbrev pub kind_of : List ℕ → ℕ → PieceKind
kind_of text from = kind_by (slice_index text from) (slice_index text (from + 1))
