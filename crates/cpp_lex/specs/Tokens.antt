-- The tokens of a text: its pieces that are not skipped, where strings with nothing but skipped pieces between them
-- make one token. And where a text has none.
use Rattle.std.specs.Prelude.{◌≡◌, ℕ, ◌<◌, ◌≤◌, List, [], ◌∷◌, ◌++◌, Bool, true, false, length, map, Option, Some, None, IsSome, if◌then◌else◌, ◌&&◌}
use Rattle.std.specs.Prelude.{slice_range}
use Rattle.cpp_lex.specs.declared.TokKind.{TokKind}
use Rattle.cpp_lex.specs.declared.TokKind.TheVariants.{Name, Key, Punct, Int, Char, Str}
use Rattle.cpp_lex.specs.declared.Token.{Token}
use Rattle.cpp_lex.specs.declared.Tokens.{Tokens}
use Rattle.cpp_lex.specs.declared.LexFault.{LexFault}
use Rattle.cpp_lex.specs.declared.LexFault.TheVariants.{At, Memory}
use Rattle.cpp_lex.specs.declared.piece.PieceKind.{PieceKind}
use Rattle.cpp_lex.specs.declared.piece.PieceKind.TheVariants.{Blank, LineComment, BlockComment, HashLine, Word, IntegerLiteral, CharacterLiteral}
use Rattle.cpp_lex.specs.declared.piece.PieceKind.TheVariants.{StringLiteral, Punctuator}
use Rattle.cpp_lex.specs.declared.piece.Piece.{Piece as ReadPiece}
use Rattle.cpp_lex.specs.Words.{is_keyword}
use Rattle.cpp_lex.specs.Ints.{int_value, int_type_of}
use Rattle.cpp_lex.specs.Quoted.{char_value}
use Rattle.cpp_lex.specs.Pieces.{Piece, Pieces, PieceAt, NoPiece}

-- a token as plain data: the offsets of its first byte and of the byte behind its last, its value, its spelling
pub record Lexeme : Type 0 where
  pub kind : TokKind
  pub from : ℕ
  pub to : ℕ
  pub value : ℕ
  pub bytes : List ℕ

-- what a token shows, and what a list of tokens shows
abbrev pub lexeme_of : Token → Lexeme
lexeme_of token = record { kind = token.kind; from = token.from; to = token.to; value = token.value; bytes = token.bytes.items }

abbrev pub lexemes_of : Tokens → List Lexeme
lexemes_of tokens = map lexeme_of tokens.items.items

-- the kind of token that a word is
abbrev pub word_kind : List ℕ → TokKind
word_kind word = if is_keyword word then Key else Name

-- the kind of token that a piece of this spelling is, or none where it is skipped
abbrev pub token_kind : PieceKind → List ℕ → Option TokKind
token_kind Blank bytes = None
token_kind LineComment bytes = None
token_kind BlockComment bytes = None
token_kind HashLine bytes = None
token_kind Word bytes = Some (word_kind bytes)
token_kind IntegerLiteral bytes = Some Int
token_kind CharacterLiteral bytes = Some Char
token_kind StringLiteral bytes = Some Str
token_kind Punctuator bytes = Some Punct

-- the value of a piece of this spelling: 0 but for integers and characters
abbrev pub piece_value : PieceKind → List ℕ → ℕ
piece_value Blank bytes = 0
piece_value LineComment bytes = 0
piece_value BlockComment bytes = 0
piece_value HashLine bytes = 0
piece_value Word bytes = 0
piece_value IntegerLiteral bytes = int_value bytes
piece_value CharacterLiteral bytes = char_value bytes
piece_value StringLiteral bytes = 0
piece_value Punctuator bytes = 0

-- a piece of the text that begins at a position
pub record IsPiece (text : List ℕ) (from : ℕ) (piece : ReadPiece) : Type 0 where
  pub at : PieceAt text piece.kind from piece.to
  pub value : piece.value ≡ piece_value piece.kind (slice_range text from piece.to)

-- the token of a kind, if there is one
abbrev pub token_of : Option TokKind → ℕ → ℕ → ℕ → List ℕ → List Lexeme
token_of None from to value bytes = []
token_of (Some kind) from to value bytes = record { kind = kind; from = from; to = to; value = value; bytes = bytes } ∷ []

-- the token that a piece of a text is, or none where it is skipped
abbrev pub token_at : List ℕ → PieceKind → ℕ → ℕ → List Lexeme
token_at text kind from to = let bytes = slice_range text from to in token_of (token_kind kind bytes) from to (piece_value kind bytes) bytes

-- the pieces that are not skipped
abbrev pub kept : List ℕ → List Piece → List Lexeme
kept text [] = []
kept text (piece ∷ pieces) = token_at text piece.kind piece.from piece.to ++ kept text pieces

abbrev pub is_str : TokKind → Bool
is_str Str = true
is_str Name = false
is_str Key = false
is_str Punct = false
is_str Int = false
is_str Char = false

-- two strings as one, from the first byte of the one to the end of the other
abbrev pub as_one : Lexeme → Lexeme → Lexeme
as_one a b = record { kind = a.kind; from = a.from; to = b.to; value = a.value; bytes = a.bytes ++ b.bytes }

-- a token and the tokens behind it, of which the first may be a string that belongs to it
abbrev pub joined_to : Lexeme → List Lexeme → List Lexeme
joined_to token [] = token ∷ []
joined_to token (after ∷ rest) = if is_str token.kind && is_str after.kind then as_one token after ∷ rest else token ∷ after ∷ rest

-- tokens with each run of strings as one
abbrev pub joined : List Lexeme → List Lexeme
joined [] = []
joined (token ∷ tokens) = joined_to token (joined tokens)

-- the tokens of a text
pub record IsTokens (text : List ℕ) (tokens : List Lexeme) : Type 0 where
  pub pieces : List Piece
  pub whole : Pieces text 0 pieces (length text)
  pub are_kept : tokens ≡ joined (kept text pieces)

-- pieces lead from the beginning of a text to a position in it where none begins
pub record IsFaultAt (text : List ℕ) (at : ℕ) : Type 0 where
  pub inside : at < length text
  pub pieces : List Piece
  pub before : Pieces text 0 pieces at
  pub none : NoPiece text at

-- what a fault of `lex` says of the text: want of memory says nothing
abbrev pub IsFault : List ℕ → LexFault → Type 0
IsFault text (At offset) = IsFaultAt text offset
IsFault text Memory = Unit {0}

-- each token begins at or behind the end of the one before it and ends behind its beginning, all between two positions
abbrev pub IsAscending : ℕ → List Lexeme → ℕ → Type 0
IsAscending from [] to = from ≤ to
IsAscending from (token ∷ tokens) to = (from ≤ token.from) × (token.from < token.to) × IsAscending token.to tokens to

-- an Int has a type that holds its value, and the value of a Char is at most 255
pub record IsTyped (token : Lexeme) : Type 0 where
  pub int : token.kind ≡ Int → IsSome (int_type_of token.bytes token.value)
  pub char : token.kind ≡ Char → token.value ≤ 255
