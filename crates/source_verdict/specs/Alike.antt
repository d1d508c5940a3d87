-- Texts that agree in their tokens: spaces and comments may differ, as far as no token moves.
use Rattle.std.specs.Prelude.{ℕ, List, [], ◌∷◌}
use Rattle.cpp_lex.specs.Tokens.{Lexeme, IsTokens}

-- both texts have these tokens
pub record HaveTokens (text other : List ℕ) : Type 0 where
  pub tokens : List Lexeme
  pub lexed : IsTokens text tokens
  pub other_lexed : IsTokens other tokens

-- each text and the one in its place
abbrev pub AgreeInTokens : (texts others : List (List ℕ)) → Type 0
AgreeInTokens [] [] = Unit {0}
AgreeInTokens [] (other ∷ others) = ⊥
AgreeInTokens (text ∷ texts) [] = ⊥
AgreeInTokens (text ∷ texts) (other ∷ others) = HaveTokens text other × AgreeInTokens texts others
