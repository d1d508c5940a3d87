-- The pieces of a text: tokens and what is skipped between them, each the longest that its position allows.
use Rattle.std.specs.Prelude.{◌≡◌, ◌≢◌, ℕ, ◌+◌, ◌≤◌, false, List, [], ◌∷◌, IsSome, slice_index, slice_range}
use Rattle.cpp_lex.specs.declared.piece.PieceKind.{PieceKind}
use Rattle.cpp_lex.specs.declared.piece.PieceKind.TheVariants.{Blank, LineComment, BlockComment, HashLine, Word, IntegerLiteral, CharacterLiteral}
use Rattle.cpp_lex.specs.declared.piece.PieceKind.TheVariants.{StringLiteral, Punctuator}
use Rattle.cpp_lex.specs.Bytes.{is_word_byte, is_quote}
use Rattle.cpp_lex.specs.Words.{IsWord}
use Rattle.cpp_lex.specs.Ints.{IsInt, int_type_of, int_value}
use Rattle.cpp_lex.specs.Quoted.{IsChar, IsStr}
use Rattle.cpp_lex.specs.Puncts.{IsPunct, is_digraph}
use Rattle.cpp_lex.specs.Skipped.{IsBlank, IsLineComment, IsBlockComment, IsHashLine}

-- the bytes from a position up to another spell a piece of the kind
abbrev pub Spells : List ℕ → PieceKind → ℕ → ℕ → Type 0
Spells text Blank from to = IsBlank text from to
Spells text LineComment from to = IsLineComment text from to
Spells text BlockComment from to = IsBlockComment text from to
Spells text HashLine from to = IsHashLine text from to
Spells text Word from to = IsWord text from to
Spells text IntegerLiteral from to = IsInt text from to
Spells text CharacterLiteral from to = IsChar text from to
Spells text StringLiteral from to = IsStr text from to
Spells text Punctuator from to = IsPunct text from to

-- a word has no quote directly behind it
pub record IsLegalWord (text : List ℕ) (to : ℕ) : Type 0 where
  pub no_quote : is_quote (slice_index text to) ≡ false

-- an integer has no letter, digit, _ or . directly behind it, and a type that holds its value
pub record IsLegalInt (text : List ℕ) (from to : ℕ) : Type 0 where
  pub no_word : is_word_byte (slice_index text to) ≡ false
  pub no_dot : slice_index text to ≢ 46
  pub typed : IsSome (int_type_of (slice_range text from to) (int_value (slice_range text from to)))

-- no digraph stands where a punct begins: not even in <::, which would be < and :: in C++14
pub record IsLegalPunct (text : List ℕ) (from : ℕ) : Type 0 where
  pub no_digraph : is_digraph (slice_index text from) (slice_index text (from + 1)) ≡ false

-- what a piece must keep to besides its spelling
abbrev pub IsLegal : List ℕ → PieceKind → ℕ → ℕ → Type 0
IsLegal text Word from to = IsLegalWord text to
IsLegal text IntegerLiteral from to = IsLegalInt text from to
IsLegal text Punctuator from to = IsLegalPunct text from
IsLegal text Blank from to = Unit {0}
IsLegal text LineComment from to = Unit {0}
IsLegal text BlockComment from to = Unit {0}
IsLegal text HashLine from to = Unit {0}
IsLegal text CharacterLiteral from to = Unit {0}
IsLegal text StringLiteral from to = Unit {0}

-- the piece at a position: the longest of any kind that is spelled there
pub record PieceAt (text : List ℕ) (kind : PieceKind) (from to : ℕ) : Type 0 where
  pub spelled : Spells text kind from to
  pub longest : (other : PieceKind) (end : ℕ) → Spells text other from end → end ≤ to
  pub legal : IsLegal text kind from to

-- no piece begins at a position
abbrev pub NoPiece : List ℕ → ℕ → Type 0
NoPiece text at = (kind : PieceKind) (to : ℕ) → PieceAt text kind at to → ⊥

pub record Piece : Type 0 where
  pub kind : PieceKind
  pub from : ℕ
  pub to : ℕ

-- the text from a position up to another is these pieces, one after the other
pub data Pieces (text : List ℕ) : ℕ → List Piece → ℕ → Type 0 where
  done : {at : ℕ} → Pieces text at [] at
  next : {from mid to : ℕ} {pieces : List Piece} → (kind : PieceKind) → PieceAt text kind from mid → Pieces text mid pieces to
      → Pieces text from (record { kind = kind; from = from; to = mid } ∷ pieces) to
