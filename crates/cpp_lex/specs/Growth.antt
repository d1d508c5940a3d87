-- A list of tokens that grows piece by piece.
use Rattle.std.specs.Prelude.{ℕ, List, [], ◌∷◌, if◌then◌else◌, ◌&&◌}
use Rattle.cpp_lex.specs.declared.piece.PieceKind.{PieceKind}
use Rattle.cpp_lex.specs.Tokens.{Lexeme, is_str, as_one, token_at}

-- one more token behind those that are joined already
abbrev pub added : List Lexeme → Lexeme → List Lexeme
added [] token = token ∷ []
added (last ∷ []) token = if is_str last.kind && is_str token.kind then as_one last token ∷ [] else last ∷ token ∷ []
added (first ∷ second ∷ rest) token = first ∷ added (second ∷ rest) token

-- none or one more
abbrev pub with_tokens : List Lexeme → List Lexeme → List Lexeme
with_tokens tokens [] = tokens
with_tokens tokens (token ∷ more) = with_tokens (added tokens token) more

-- what a piece gives behind the tokens before it
abbrev pub with_piece : List ℕ → List Lexeme → PieceKind → ℕ → ℕ → List Lexeme
with_piece text tokens kind from to = with_tokens tokens (token_at text kind from to)
