-- Texts as the parser makes them, with the names that they declare.
use Rattle.std.specs.Prelude.{◌≡◌, ℕ, true, List}
use Rattle.elab_rules.specs.cpp_lex.Tokens.{Lexeme}
use Rattle.elab_rules.specs.cpp_ast.Trees as syntax
use Rattle.elab_fits_states.specs.States.{IsText, AreTexts}
use Rattle.elab_read_texts.specs.Names.{is_class_name, is_named, are_named}

-- each token is spelled, each `try` has a handler, and members and functions have names of no type
pub record IsNamedText (s : List Lexeme) (t : syntax.Tree) : Type 0 where
  pub text : IsText s t
  pub named : is_named s t ≡ true

pub record AreNamedTexts (s : List Lexeme) (ts : syntax.Trees) : Type 0 where
  pub texts : AreTexts s ts
  pub named : are_named s ts ≡ true

-- the name of a class is one of a type, and does not begin with `~`
abbrev pub IsTitle : List Lexeme → List ℕ → Type 0
IsTitle s name = is_class_name s name ≡ true
