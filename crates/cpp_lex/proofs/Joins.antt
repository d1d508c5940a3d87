-- Joining strings one token at a time.
use Rattle.std.proofs.Common.{List, [], ◌∷◌, ◌++◌, ◌≡◌, ℕ, Bool, true, false, refl, sym, ◌∙◌, ap, if◌then◌else◌, ◌&&◌, append_assoc, append-nil, Option, Some}
use Rattle.std.proofs.Common.{None, slice_range}
use Rattle.cpp_lex.specs.declared.TokKind.{TokKind}
use Rattle.cpp_lex.specs.Tokens.{Lexeme, is_str, as_one, joined_to, joined, token_at, token_of, token_kind, piece_value, kept}
use Rattle.cpp_lex.specs.Pieces.{Piece}
use Rattle.cpp_lex.specs.declared.piece.PieceKind.{PieceKind}
use Rattle.cpp_lex.specs.Growth.{added, with_tokens, with_piece}

abbrev as_token : TokKind → ℕ → ℕ → ℕ → List ℕ → Lexeme
as_token kind from to value bytes = record { kind = kind; from = from; to = to; value = value; bytes = bytes }

as_one-assoc : (t a b : Lexeme) → as_one t (as_one a b) ≡ as_one (as_one t a) b
as_one-assoc t a b = let e : t.bytes ++ (a.bytes ++ b.bytes) ≡ (t.bytes ++ a.bytes) ++ b.bytes = sym (append_assoc t.bytes a.bytes b.bytes) in
    ap (λ (bytes : List ℕ). as_token t.kind t.from b.to t.value bytes) e

two : (t a b : Lexeme) (p q r : Bool) → is_str t.kind ≡ p → is_str a.kind ≡ q → is_str b.kind ≡ r
    → joined_to t (added (a ∷ []) b) ≡ added (joined_to t (a ∷ [])) b
two t a b true true true e f g = simp (e, f, g) (ap (λ (x : Lexeme). x ∷ []) (as_one-assoc t a b))
two t a b true true false e f g = simp (e, f, g) refl
two t a b true false r e f g = simp (e, f) refl
two t a b false true true e f g = simp (e, f, g) refl
two t a b false true false e f g = simp (e, f, g) refl
two t a b false false r e f g = simp (e, f) refl

more_behind : (t a : Lexeme) (rest : List Lexeme) (c b : Lexeme) (p : Bool)
    → (if p then as_one t a ∷ added (c ∷ rest) b else t ∷ a ∷ added (c ∷ rest) b) ≡ added (if p then as_one t a ∷ c ∷ rest else t ∷ a ∷ c ∷ rest) b
more_behind t a rest c b true = refl
more_behind t a rest c b false = refl

joined_to-added : (t : Lexeme) (tokens : List Lexeme) (b : Lexeme) → joined_to t (added tokens b) ≡ added (joined_to t tokens) b
joined_to-added t [] b = refl
joined_to-added t (a ∷ []) b = two t a b (is_str t.kind) (is_str a.kind) (is_str b.kind) refl refl refl
joined_to-added t (a ∷ c ∷ rest) b = more_behind t a rest c b (is_str t.kind && is_str a.kind)

pub joined-snoc : (tokens : List Lexeme) (token : Lexeme) → joined (tokens ++ token ∷ []) ≡ added (joined tokens) token
joined-snoc [] token = refl
joined-snoc (t ∷ tokens) token = ap (joined_to t) (joined-snoc tokens token) ∙ joined_to-added t (joined tokens) token

kept-snoc : (text : List ℕ) (pieces : List Piece) (kind : PieceKind) (from to : ℕ)
    → kept text (pieces ++ (record { kind = kind; from = from; to = to } ∷ [])) ≡ kept text pieces ++ token_at text kind from to
kept-snoc text [] kind from to = append-nil (token_at text kind from to)
kept-snoc text (piece ∷ pieces) kind from to =
    ap (λ (ts : List Lexeme). token_at text piece.kind piece.from piece.to ++ ts) (kept-snoc text pieces kind from to)
    ∙ sym (append_assoc (token_at text piece.kind piece.from piece.to) (kept text pieces) (token_at text kind from to))

joined-tokens : (tokens : List Lexeme) (kind : Option TokKind) (from to value : ℕ) (bytes : List ℕ)
    → joined (tokens ++ token_of kind from to value bytes) ≡ with_tokens (joined tokens) (token_of kind from to value bytes)
joined-tokens tokens None from to value bytes = ap joined (append-nil tokens)
joined-tokens tokens (Some kind) from to value bytes = joined-snoc tokens (record { kind = kind; from = from; to = to; value = value; bytes = bytes })

-- the tokens of one more piece
pub joined-piece : (text : List ℕ) (pieces : List Piece) (kind : PieceKind) (from to : ℕ)
    → joined (kept text (pieces ++ (record { kind = kind; from = from; to = to } ∷ []))) ≡ with_piece text (joined (kept text pieces)) kind from to
joined-piece text pieces kind from to =
    let bytes = slice_range text from to in
    ap joined (kept-snoc text pieces kind from to) ∙ joined-tokens (kept text pieces) (token_kind kind bytes) from to (piece_value kind bytes) bytes
