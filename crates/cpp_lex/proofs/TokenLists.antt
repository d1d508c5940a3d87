-- Adding a token to a list of tokens, and the loop over the pieces.
use Rattle.std.proofs.Common.{List, [], ◌∷◌, ◌++◌, ◌≡◌, ℕ, true, false, refl, sym, ◌∙◌, ap, arith, map, append_assoc, ◌&&◌, if◌then◌else◌, inl}
use Rattle.std.proofs.lemmas.List.{map-append}
use Rattle.cpp_lex.specs.declared.Token.{Token}
use Rattle.cpp_lex.specs.declared.piece.PieceKind.{PieceKind}
use Rattle.cpp_lex.specs.Skipped.{IsFirstOnLine}
use Rattle.cpp_lex.specs.Pieces.{Piece, Pieces, PieceAt, done}
use Rattle.cpp_lex.specs.Tokens.{Lexeme, lexeme_of, is_str, as_one, joined, kept}
use Rattle.cpp_lex.specs.Growth.{added, with_piece}
use Rattle.cpp_lex.proofs.Joins.{joined-piece}
use Rattle.cpp_lex.proofs.Readings.{snoc}

added-snoc : (tokens : List Lexeme) (last token : Lexeme)
    → added (tokens ++ last ∷ []) token ≡ tokens ++ (if is_str last.kind && is_str token.kind then as_one last token ∷ [] else last ∷ token ∷ [])
added-snoc [] last token = refl
added-snoc (t ∷ []) last token = refl
added-snoc (t ∷ s ∷ rest) last token = ap (λ (ts : List Lexeme). t ∷ ts) (added-snoc (s ∷ rest) last token)

popped : (old rest : List Token) (last token : Token) → old ≡ rest ++ last ∷ []
    → added (map lexeme_of old) (lexeme_of token) ≡ map lexeme_of rest
    ++ (if is_str last.kind && is_str token.kind then as_one (lexeme_of last) (lexeme_of token) ∷ [] else lexeme_of last ∷ lexeme_of token ∷ [])
popped old rest last token e =
    ap (λ (ts : List Token). added (map lexeme_of ts) (lexeme_of token)) e
    ∙ ap (λ (ts : List Lexeme). added ts (lexeme_of token)) (map-append lexeme_of rest (last ∷ []))
    ∙ added-snoc (map lexeme_of rest) (lexeme_of last) (lexeme_of token)

-- the last token was taken off, joined with the next and put back
pub put_joined : (old rest new : List Token) (last token one : Token) → old ≡ rest ++ last ∷ [] → (is_str last.kind && is_str token.kind) ≡ true
    → lexeme_of one ≡ as_one (lexeme_of last) (lexeme_of token) → new ≡ rest ++ one ∷ [] → map lexeme_of new ≡ added (map lexeme_of old) (lexeme_of token)
put_joined old rest new last token one e both same put =
    let there = popped old rest last token e in
    let f : added (map lexeme_of old) (lexeme_of token) ≡ map lexeme_of rest ++ as_one (lexeme_of last) (lexeme_of token) ∷ [] = rw both at there in
    ap (map lexeme_of) put ∙ map-append lexeme_of rest (one ∷ []) ∙ ap (λ (t : Lexeme). map lexeme_of rest ++ t ∷ []) same ∙ sym f

-- or put back with the next one behind it
pub put_both : (old rest back new : List Token) (last token : Token) → old ≡ rest ++ last ∷ [] → (is_str last.kind && is_str token.kind) ≡ false
    → back ≡ rest ++ last ∷ [] → new ≡ back ++ token ∷ [] → map lexeme_of new ≡ added (map lexeme_of old) (lexeme_of token)
put_both old rest back new last token e not_both put put_next =
    let there = popped old rest last token e in
    let f : added (map lexeme_of old) (lexeme_of token) ≡ map lexeme_of rest ++ (lexeme_of last ∷ lexeme_of token ∷ []) = rw not_both at there in
    ap (map lexeme_of) put_next
    ∙ map-append lexeme_of back (token ∷ [])
    ∙ ap (λ (ts : List Token). map lexeme_of ts ++ lexeme_of token ∷ []) put
    ∙ ap (λ (ts : List Lexeme). ts ++ lexeme_of token ∷ []) (map-append lexeme_of rest (last ∷ []))
    ∙ append_assoc (map lexeme_of rest) (lexeme_of last ∷ []) (lexeme_of token ∷ [])
    ∙ sym f

-- what is read of a text up to a position
pub record ReadSoFar (text : List ℕ) (at : ℕ) (tokens : List Lexeme) : Type 0 where
  pub pieces : List Piece
  pub before : Pieces text 0 pieces at
  pub are_kept : tokens ≡ joined (kept text pieces)

pub nothing_read : (text : List ℕ) → ReadSoFar text 0 []
nothing_read text = record { pieces = []; before = done; are_kept = refl }

pub read_on : (text : List ℕ) (at to : ℕ) (kind : PieceKind) (tokens new : List Lexeme) → ReadSoFar text at tokens → PieceAt text kind at to
    → new ≡ with_piece text tokens kind at to → ReadSoFar text to new
read_on text at to kind tokens new read p e = record {
  pieces = read.pieces ++ (record { kind = kind; from = at; to = to } ∷ []);
  before = snoc text kind read.before p;
  are_kept = e ∙ ap (λ (ts : List Lexeme). with_piece text ts kind at to) read.are_kept ∙ sym (joined-piece text read.pieces kind at to);
}

pub first_of_text : (text : List ℕ) → IsFirstOnLine text 0
first_of_text text = record {
  line = 0;
  begins = inl refl;
  blanks =
      record { ordered = omega arith; inside = omega arith; each = λ k low high. absurd (omega arith) };
}
