-- What is seen of the shapes of tokens, and what derives from a form.
use Rattle.std.specs.Prelude.{◌≡◌, ℕ, zero, suc, ◌+◌, Bool, true, false, length, [], Option, None}
use Rattle.cpp_ast.specs.Trees.{Trees}
use Rattle.cpp_syntax.specs.Source.{Source, terminal_at}
use Rattle.cpp_syntax.specs.Terminals.{begins_operand, open_paren, close_paren, is_step}
use Rattle.cpp_syntax.specs.Rules.{by_shape, Nonterminal, type_id, parameter_declaration_clause, shaped_declaration, translation_unit, Lookahead, a_cast}
use Rattle.cpp_syntax.specs.Rules.{a_type_in_parentheses, parameters, a_declaration, form}
use Rattle.cpp_syntax.specs.Derivations.{Body, Read, no_read, in_trees, kept_apart, Bodies, Derives}

-- The operand of a cast begins at an index: with a token that begins one, with ( that no ) follows, or with ++ or --
-- before such an index.
pub data BeginsOperand (source : Source) : ℕ → Type 0 where
  at_token : {a : ℕ} → begins_operand (terminal_at source a) ≡ true → BeginsOperand source a
  at_parenthesis : {a : ℕ} → open_paren (terminal_at source a) ≡ true → close_paren (terminal_at source (a + 1)) ≡ false → BeginsOperand source a
  at_step : {a : ℕ} → is_step (terminal_at source a) ≡ true → BeginsOperand source (a + 1) → BeginsOperand source a

-- The shape of a type or of parameters stands between two indices. Their forms look at nothing.
abbrev pub Shape : Source → Nonterminal → ℕ → ℕ → Type 0
Shape source f a b = (k : Option ℕ) × (r : Read) × Derives (λ _ _. Unit {0}) kept_apart source (form f) no_read a b k r

-- the shape of a form stands in parentheses, from one to the other
pub record InParentheses (source : Source) (f : Nonterminal) (a b : ℕ) : Type 0 where
  pub opened : open_paren (terminal_at source a) ≡ true
  pub shape : Shape source f (a + 1) b
  pub closed : close_paren (terminal_at source b) ≡ true

-- What is seen of types and parameters.
abbrev pub lookahead_types : Source → Lookahead → ℕ → Type 0
lookahead_types source a_cast a = (b : ℕ) × InParentheses source (type_id by_shape) a b × BeginsOperand source (b + 1)
lookahead_types source a_type_in_parentheses a = (b : ℕ) × InParentheses source (type_id by_shape) a b
lookahead_types source parameters a = (b : ℕ) × InParentheses source (parameter_declaration_clause by_shape) a b
lookahead_types source a_declaration a = ⊥

-- the shape of a declaration with its semicolon stands between two indices
abbrev pub ShapedDeclaration : Source → ℕ → ℕ → Type 0
ShapedDeclaration source a b = (k : Option ℕ) × (r : Read) × Derives (lookahead_types source) kept_apart source (form shaped_declaration) no_read a b k r

-- What is seen from an index on.
abbrev pub lookahead : Source → Lookahead → ℕ → Type 0
lookahead source a_declaration a = (b : ℕ) × ShapedDeclaration source a b
lookahead source look a = lookahead_types source look a

-- What derives from a form, where the bodies of lambdas are kept apart.
abbrev pub DerivesApart : Source → Nonterminal → ℕ → ℕ → Read → Type 0
DerivesApart source f a b r = Derives (lookahead source) kept_apart source (form f) no_read a b None r

-- The declarations of a unit, with the bodies of lambdas in them.
abbrev pub IsUnit : Source → Trees → Type 0
IsUnit source decls =
    Derives (lookahead source) in_trees source (form translation_unit) no_read 0 (length source.terminals) None
    (record { trees = decls; bodies = [] })
