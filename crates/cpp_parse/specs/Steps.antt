-- What the steps of reading a unit answer.
use Rattle.std.specs.Prelude.{◌≡◌, ℕ, ◌+◌, ◌≤◌, List, length, map, Result, Ok, Err}
use Rattle.std.specs.declared.alloc.AllocError.{AllocError}
use Rattle.cpp_lex.specs.Tokens.{Lexeme}
use Rattle.cpp_ast.specs.declared.arena.Node.{Node}
use Rattle.cpp_ast.specs.declared.arena.NodeId.{NodeId}
use Rattle.cpp_ast.specs.declared.units.LamBody.{LamBody}
use Rattle.cpp_ast.specs.Trees.{Trees, Extends, ShowsAllWith}
use Rattle.cpp_ast.specs.Units.{times_in, times_a_kid}
use Rattle.cpp_syntax.specs.declared.positions.OpenBody.{OpenBody}
use Rattle.cpp_syntax.specs.Source.{Source}
use Rattle.cpp_syntax.specs.Derivations.{Read}
use Rattle.cpp_syntax.specs.Lookahead.{IsUnit}
use Rattle.cpp_syntax.specs.WithBodies.{WholeUnit}
use Rattle.cpp_syntax.specs.View.{BuiltTrees, body_of, trees_at}
use Rattle.cpp_parse.specs.declared.parse.Declarations.{Declarations}
use Rattle.cpp_parse.specs.declared.parse.Declarations.TheVariants as declarations
use Rattle.cpp_parse.specs.declared.parse.Whole.{Whole}
use Rattle.cpp_parse.specs.declared.parse.UnitReading.{UnitReading}
use Rattle.cpp_parse.specs.declared.parse.UnitReading.TheVariants as reading
use Rattle.cpp_parse.specs.declared.parse.Answer.{Answer}
use Rattle.cpp_parse.specs.declared.parse.Answer.TheVariants as answer
use Rattle.cpp_parse.specs.NotedBodies.{AreNoted, roots_noted, one_from}
use Rattle.cpp_parse.specs.Bodies.{AreInside}
use Rattle.cpp_parse.specs.Units.{IsUnitRead, IsUnitTooDeep, IsNoUnit}

-- The tokens are no unit.
pub record HasNoUnit (source : Source) (token : ℕ) : Type 0 where
  pub nothing : (decls : Trees) → IsUnit source decls → ⊥
  pub inside : token ≤ length source.terminals

-- All tokens were read as declarations, without the bodies of their lambdas.
pub record AreDeclarations (source : Source) (old new : List Node) (decls : List NodeId) (inner : List OpenBody) : Type 0 where
  pub got : Read
  pub whole : WholeUnit source got
  pub grown : Extends old new
  pub shown : BuiltTrees (length old) new decls inner
  pub trees : trees_at new decls ≡ got.trees
  pub bodies : map (body_of new) inner ≡ got.bodies
  pub inside : AreInside (length source.terminals) inner

abbrev pub ReadsDeclarations : Source → List Node → List Node → Result Declarations AllocError → Type 0
ReadsDeclarations source old new (Ok (declarations.Read decls bodies)) = AreDeclarations source old new decls.items bodies.items
ReadsDeclarations source old new (Ok (declarations.Refused token)) = HasNoUnit source token
ReadsDeclarations source old new (Err e) = Unit {0}

-- What is known of the nodes of a unit.
pub record UnitIn (nodes : List Node) (decls : List NodeId) (bodies : List LamBody) (trees : Trees) : Type 0 where
  pub noted : AreNoted nodes bodies
  pub each : (id : ℕ) → times_a_kid id nodes + times_in id decls + times_in id (roots_noted bodies) ≤ one_from 0 (length nodes) id
  pub shows : ShowsAllWith bodies nodes decls trees

-- The one unit of the tokens was read, and nothing is said yet of how deep it is.
pub record IsWholeRead (source : Source) (whole : Whole) : Type 0 where
  pub decls : Trees
  pub derives : IsUnit source decls
  pub only : (other : Trees) → IsUnit source other → other ≡ decls
  pub known : UnitIn whole.nodes whole.decls.items whole.bodies.items decls

abbrev pub ReadsWhole : Source → Result UnitReading AllocError → Type 0
ReadsWhole source (Ok (reading.Read whole)) = IsWholeRead source whole
ReadsWhole source (Ok (reading.Refused token)) = HasNoUnit source token
ReadsWhole source (Err e) = Unit {0}

-- What is answered of the tokens of a source with this number, but for want of memory.
abbrev pub AnswersUnit : ℕ → List Lexeme → Result Answer AllocError → Type 0
AnswersUnit number tokens (Ok (answer.Parsed unit)) = IsUnitRead number tokens unit
AnswersUnit number tokens (Ok (answer.Refused token)) = IsNoUnit number tokens token
AnswersUnit number tokens (Ok (answer.TooDeep token)) = IsUnitTooDeep number tokens token
AnswersUnit number tokens (Err e) = Unit {0}
