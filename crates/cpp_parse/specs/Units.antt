-- What the call that reads a unit answers.
use Rattle.std.specs.Prelude.{◌≡◌, ℕ, ◌<◌, ◌≤◌, List, length, Some, Result, Ok, Err}
use Rattle.cpp_lex.specs.Tokens.{Lexeme}
use Rattle.cpp_ast.specs.declared.units.Unit.{Unit as UnitRecord}
use Rattle.cpp_ast.specs.Trees.{Trees, unit_depth}
use Rattle.cpp_ast.specs.Units.{ShowsUnit}
use Rattle.cpp_syntax.specs.declared.limits.TheConstants.{MAX_DEPTH}
use Rattle.cpp_syntax.specs.Source.{position_at}
use Rattle.cpp_syntax.specs.Classes.{source_of}
use Rattle.cpp_syntax.specs.Lookahead.{IsUnit}
use Rattle.cpp_nests.specs.Nests.{IsNested}
use Rattle.cpp_parse_expr.specs.Depths.{deep_kid}
use Rattle.cpp_parse_expr.specs.declared.parse.ParseFault.{ParseFault}
use Rattle.cpp_parse_expr.specs.declared.parse.ParseFault.TheVariants as fault

-- how deep a unit may nest
abbrev pub deepest_allowed : ℕ
deepest_allowed = MAX_DEPTH

-- The one unit of the tokens was read, and it does not nest too deep.
pub record IsUnitRead (number : ℕ) (tokens : List Lexeme) (unit : UnitRecord) : Type 0 where
  pub decls : Trees
  pub derives : IsUnit (source_of number tokens) decls
  pub only : (other : Trees) → IsUnit (source_of number tokens) other → other ≡ decls
  pub shallow : unit_depth decls ≤ deepest_allowed
  pub shows : ShowsUnit unit number tokens decls

-- The one unit of the tokens nests too deep: the token is the index of its first node that does.
pub record IsUnitTooDeep (number : ℕ) (tokens : List Lexeme) (token : ℕ) : Type 0 where
  pub decls : Trees
  pub derives : IsUnit (source_of number tokens) decls
  pub only : (other : Trees) → IsUnit (source_of number tokens) other → other ≡ decls
  pub deep : deepest_allowed < unit_depth decls
  pub position : deep_kid deepest_allowed 1 decls ≡ Some (position_at (source_of number tokens) token)
  pub inside : token ≤ length tokens

-- Why tokens nest too deep: they are a unit whose tree does; or brackets, operators and words of statements alone open more
-- constructs at a token than a unit may nest, which is answered where a reader has no room left, whether or not they are one.
pub data NestsTooDeep (number : ℕ) (tokens : List Lexeme) (token : ℕ) : Type 0 where
  in_its_tree : IsUnitTooDeep number tokens token → NestsTooDeep number tokens token
  by_its_tokens : IsNested deepest_allowed tokens token → NestsTooDeep number tokens token

-- The tokens are no unit.
pub record IsNoUnit (number : ℕ) (tokens : List Lexeme) (token : ℕ) : Type 0 where
  pub nothing : (decls : Trees) → IsUnit (source_of number tokens) decls → ⊥
  pub inside : token ≤ length tokens

-- What is answered of the tokens of a source with this number.
abbrev pub ParsesUnit : ℕ → List Lexeme → Result UnitRecord ParseFault → Type 0
ParsesUnit number tokens (Ok unit) = IsUnitRead number tokens unit
ParsesUnit number tokens (Err (fault.Syntax token)) = IsNoUnit number tokens token
ParsesUnit number tokens (Err (fault.Nesting token)) = NestsTooDeep number tokens token
ParsesUnit number tokens (Err fault.Memory) = Unit {0}
