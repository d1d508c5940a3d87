-- What holds of every list of tokens.
use Rattle.std.proofs.Common.{List, [], ◌∷◌, ◌++◌, ◌≡◌, ℕ, ◌<◌, ◌≤◌, Bool, true, false, length, Option, Some, None, if◌then◌else◌, ◌&&◌, refl, sym, ◌∙◌, subst}
use Rattle.std.proofs.Common.{ap, arith, slice_range}
use Rattle.std.specs.Prelude.{All}
use Rattle.std.proofs.lemmas.List.Elements.{All-nil, All-cons, All-head, All-tail, All-append}
use Rattle.cpp_lex.specs.declared.piece.PieceKind.{PieceKind}
use Rattle.cpp_lex.specs.declared.piece.PieceKind.TheVariants.{Blank, LineComment, BlockComment, HashLine, Word, IntegerLiteral, CharacterLiteral}
use Rattle.cpp_lex.specs.declared.piece.PieceKind.TheVariants.{StringLiteral, Punctuator}
use Rattle.cpp_lex.specs.declared.TokKind.{TokKind}
use Rattle.cpp_lex.specs.declared.TokKind.TheVariants.{Name, Key, Int, Char}
use Rattle.cpp_lex.specs.Words.{is_keyword}
use Rattle.cpp_lex.specs.Pieces.{PieceAt, NoPiece, Piece, Pieces, done, next}
use Rattle.cpp_lex.specs.Tokens.{Lexeme, token_kind, piece_value, token_of, token_at, kept, is_str, as_one, joined_to, joined, IsTokens, IsFaultAt, IsAscending}
use Rattle.cpp_lex.specs.Tokens.{IsTyped}
use Rattle.cpp_lex.proofs.Ends.{spelled_within}
use Rattle.cpp_lex.proofs.Readings.{same_reading}
use Rattle.cpp_lex.proofs.Values.{char_small}

none_at_end : (text : List ℕ) → NoPiece text (length text)
none_at_end text kind to p = let w = spelled_within text kind (length text) to p.spelled in omega (arith, w.after, w.inside)

pub one_tokens : (text : List ℕ) (ts us : List Lexeme) → IsTokens text ts → IsTokens text us → ts ≡ us
one_tokens text ts us a b =
    let same = same_reading text a.whole b.whole (none_at_end text) (none_at_end text) in
    a.are_kept ∙ ap (λ (pieces : List Piece). joined (kept text pieces)) same.pieces ∙ sym b.are_kept

pub fault_has_no_tokens : (text : List ℕ) (at : ℕ) → IsFaultAt text at → (ts : List Lexeme) → IsTokens text ts → ⊥
fault_has_no_tokens text at f ts a =
    let same = same_reading text f.before a.whole f.none (none_at_end text) in
    let position : at ≡ length text = same.position in
    let inside : at < length text = f.inside in
    omega arith

pub one_fault : (text : List ℕ) (at other : ℕ) → IsFaultAt text at → IsFaultAt text other → at ≡ other
one_fault text at other f g = let same = same_reading text f.before g.before f.none g.none in same.position

-- offsets

ascending_from : (from mid to : ℕ) (ts : List Lexeme) → from ≤ mid → IsAscending mid ts to → IsAscending from ts to
ascending_from from mid to [] h a = omega arith
ascending_from from mid to (t ∷ ts) h a = (let b = a.0 in omega arith, a.1, a.2)

ascending_of : (kind : Option TokKind) (from mid to value : ℕ) (bytes : List ℕ) (rest : List Lexeme) → from < mid → IsAscending mid rest to
    → IsAscending from (token_of kind from mid value bytes ++ rest) to
ascending_of None from mid to value bytes rest h a = ascending_from from mid to rest (omega arith) a
ascending_of (Some kind) from mid to value bytes rest h a = (omega arith, h, a)

kept_ascending : (text : List ℕ) {from to : ℕ} {pieces : List Piece} → Pieces text from pieces to → IsAscending from (kept text pieces) to
kept_ascending text done = omega arith
kept_ascending text {from} {to} (next {mid = mid} {pieces = pieces} kind p rest) =
    let bytes = slice_range text from mid in
    let w = spelled_within text kind from mid p.spelled in
    ascending_of (token_kind kind bytes) from mid to (piece_value kind bytes) bytes (kept text pieces) w.after (kept_ascending text rest)

choose_ascending : (strings : Bool) (from to : ℕ) (t a : Lexeme) (rest : List Lexeme) → from ≤ t.from → t.from < t.to → IsAscending t.to (a ∷ rest) to
    → IsAscending from (if strings then as_one t a ∷ rest else t ∷ a ∷ rest) to
choose_ascending true from to t a rest h g b = (h, let x = b.0 in let y = b.1 in omega arith, b.2)
choose_ascending false from to t a rest h g b = (h, g, b)

joined_to_ascending : (from to : ℕ) (t : Lexeme) (ts : List Lexeme) → from ≤ t.from → t.from < t.to → IsAscending t.to ts to
    → IsAscending from (joined_to t ts) to
joined_to_ascending from to t [] h g a = (h, g, a)
joined_to_ascending from to t (a ∷ rest) h g b = choose_ascending (is_str t.kind && is_str a.kind) from to t a rest h g b

joined_ascending : (from to : ℕ) (ts : List Lexeme) → IsAscending from ts to → IsAscending from (joined ts) to
joined_ascending from to [] a = a
joined_ascending from to (t ∷ ts) a = joined_to_ascending from to t (joined ts) a.0 a.1 (joined_ascending t.to to ts a.2)

pub tokens_ascending : (text : List ℕ) (ts : List Lexeme) → IsTokens text ts → IsAscending 0 ts (length text)
tokens_ascending text ts a = rw a.are_kept (joined_ascending 0 (length text) (kept text a.pieces) (kept_ascending text a.whole))

-- types and values

neither_typed : (token : Lexeme) → (token.kind ≡ Int → ⊥) → (token.kind ≡ Char → ⊥) → IsTyped token
neither_typed token no_int no_char = record { int = λ e. absurd (no_int e); char = λ e. absurd (no_char e) }

choice_typed : (keyword : Bool) (from to : ℕ) (bytes : List ℕ)
    → IsTyped (record { kind = if keyword then Key else Name; from = from; to = to; value = 0; bytes = bytes })
choice_typed true from to bytes = neither_typed _ (λ e. cc) (λ e. cc)
choice_typed false from to bytes = neither_typed _ (λ e. cc) (λ e. cc)

alone : (token : Lexeme) → IsTyped token → All IsTyped (token ∷ [])
alone token h = All-cons IsTyped token [] h (All-nil IsTyped)

token_typed : (text : List ℕ) (kind : PieceKind) (from to : ℕ) → PieceAt text kind from to → All IsTyped (token_at text kind from to)
token_typed text Blank from to p = All-nil IsTyped
token_typed text LineComment from to p = All-nil IsTyped
token_typed text BlockComment from to p = All-nil IsTyped
token_typed text HashLine from to p = All-nil IsTyped
token_typed text Word from to p = alone _ (choice_typed (is_keyword (slice_range text from to)) from to (slice_range text from to))
token_typed text IntegerLiteral from to p = alone _ (record { int = λ e. p.legal.typed; char = λ e. absurd cc })
token_typed text CharacterLiteral from to p = alone _ (record { int = λ e. absurd cc; char = λ e. char_small text from to p.spelled })
token_typed text StringLiteral from to p = alone _ (neither_typed _ (λ e. cc) (λ e. cc))
token_typed text Punctuator from to p = alone _ (neither_typed _ (λ e. cc) (λ e. cc))

kept_typed : (text : List ℕ) {from to : ℕ} {pieces : List Piece} → Pieces text from pieces to → All IsTyped (kept text pieces)
kept_typed text done = All-nil IsTyped
kept_typed text {from} (next {mid = mid} {pieces = pieces} kind p rest) =
    All-append IsTyped (token_at text kind from mid) (kept text pieces) (token_typed text kind from mid p) (kept_typed text rest)

str_is_no_int : (kind : TokKind) → is_str kind ≡ true → kind ≡ Int → ⊥
str_is_no_int kind h e = let g : is_str kind ≡ false = rw e refl in cc

str_is_no_char : (kind : TokKind) → is_str kind ≡ true → kind ≡ Char → ⊥
str_is_no_char kind h e = let g : is_str kind ≡ false = rw e refl in cc

choose_typed : (first second : Bool) (t a : Lexeme) (rest : List Lexeme) → is_str t.kind ≡ first → All IsTyped (t ∷ a ∷ rest)
    → All IsTyped (if first && second then as_one t a ∷ rest else t ∷ a ∷ rest)
choose_typed true true t a rest e h = All-cons IsTyped (as_one t a) rest (neither_typed (as_one t a) (str_is_no_int t.kind e) (str_is_no_char t.kind e))
    (All-tail IsTyped a rest (All-tail IsTyped t (a ∷ rest) h))
choose_typed true false t a rest e h = h
choose_typed false second t a rest e h = h

joined_to_typed : (t : Lexeme) (ts : List Lexeme) → All IsTyped (t ∷ ts) → All IsTyped (joined_to t ts)
joined_to_typed t [] h = h
joined_to_typed t (a ∷ rest) h = choose_typed (is_str t.kind) (is_str a.kind) t a rest refl h

joined_typed : (ts : List Lexeme) → All IsTyped ts → All IsTyped (joined ts)
joined_typed [] h = h
joined_typed (t ∷ ts) h = joined_to_typed t (joined ts) (All-cons IsTyped t (joined ts) (All-head IsTyped t ts h) (joined_typed ts (All-tail IsTyped t ts h)))

pub tokens_typed : (text : List ℕ) (ts : List Lexeme) → IsTokens text ts → All IsTyped ts
tokens_typed text ts a = subst (λ (us : List Lexeme). All IsTyped us) (sym a.are_kept) (joined_typed (kept text a.pieces) (kept_typed text a.whole))
