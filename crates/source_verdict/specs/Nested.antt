-- Texts that are refused by their tokens alone, since one of these stands inside of more constructs than a unit may nest.
use Rattle.std.specs.Prelude.{◌≡◌, ℕ, List, ◌∷◌, ◌++◌}
use Rattle.cpp_lex.specs.Tokens.{Lexeme, IsTokens}
use Rattle.cpp_nests.specs.Nests.{IsNested}
use Rattle.cpp_parse.specs.Units.{deepest_allowed}

pub record IsNestedText (text : List ℕ) : Type 0 where
  pub tokens : List Lexeme
  pub lexed : IsTokens text tokens
  pub token : ℕ
  pub nested : IsNested deepest_allowed tokens token

-- one of the texts is such a text
pub record HasNested (texts : List (List ℕ)) : Type 0 where
  pub before : List (List ℕ)
  pub text : List ℕ
  pub after : List (List ℕ)
  pub cut : texts ≡ before ++ text ∷ after
  pub nested : IsNestedText text
