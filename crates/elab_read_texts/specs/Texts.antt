-- A unit that is read from a text is a text as the laws of elaboration ask for it.
use Rattle.std.specs.Prelude.{◌≡◌, ℕ, true, List}
use Rattle.cpp_lex.specs.Tokens.{Lexeme, IsTokens}
use Rattle.cpp_ast.specs.Trees.{Trees}
use Rattle.cpp_syntax.specs.Classes.{source_of}
use Rattle.cpp_syntax.specs.Lookahead.{IsUnit}
use Rattle.elab_contexts.specs.Texts.{have_class_names}
use Rattle.elab_fits_states.specs.States.{AreTexts}

-- the tokens of a text, which is the source with this number, and the declarations that they derive
pub record IsRead (number : ℕ) (text : List ℕ) (tokens : List Lexeme) (decls : Trees) : Type 0 where
  pub lexed : IsTokens text tokens
  pub derives : IsUnit (source_of number tokens) decls

-- Laws

-- each token that a tree names is spelled with something, and each `try` has a handler
abbrev pub ReadUnitsAreTexts : Type 0
ReadUnitsAreTexts = (number : ℕ) (text : List ℕ) (tokens : List Lexeme) (decls : Trees) → IsRead number text tokens decls → AreTexts tokens decls

-- each class has a name
abbrev pub ReadUnitsHaveClassNames : Type 0
ReadUnitsHaveClassNames = (number : ℕ) (text : List ℕ) (tokens : List Lexeme) (decls : Trees) → IsRead number text tokens decls
    → have_class_names tokens decls ≡ true
