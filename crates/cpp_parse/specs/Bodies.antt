-- What reading the bodies of lambdas answers.
use Rattle.std.specs.Prelude.{◌≡◌, ℕ, ◌+◌, ◌-◌, ◌≤◌, List, [], ◌∷◌, ◌++◌, length, map, drop, slice_get, Option, Some, None, Result, Ok, Err}
use Rattle.std.specs.declared.alloc.AllocError.{AllocError}
use Rattle.cpp_ast.specs.declared.arena.Node.{Node}
use Rattle.cpp_ast.specs.declared.arena.NodeId.{NodeId}
use Rattle.cpp_ast.specs.declared.units.LamBody.{LamBody}
use Rattle.cpp_ast.specs.Trees.{Tree, Extends}
use Rattle.cpp_ast.specs.Units.{times_in, times_a_kid}
use Rattle.cpp_syntax.specs.declared.positions.OpenBody.{OpenBody}
use Rattle.cpp_syntax.specs.Source.{Source}
use Rattle.cpp_syntax.specs.Rules.{compound_statement, form}
use Rattle.cpp_syntax.specs.Derivations.{Body, Read, no_read, kept_apart}
use Rattle.cpp_syntax.specs.Lookahead.{lookahead}
use Rattle.cpp_syntax.specs.Longest.{LongestMatch}
use Rattle.cpp_syntax.specs.WithBodies.{HasBody, Wholes}
use Rattle.cpp_syntax.specs.View.{BuiltTrees, body_of, lams_of, trees_at}
use Rattle.cpp_parse_expr.specs.Depths.{HoldLower}
use Rattle.cpp_parse.specs.declared.bodies.Block.{Block}
use Rattle.cpp_parse.specs.declared.bodies.Block.TheVariants as block
use Rattle.cpp_parse.specs.NotedBodies.{times, lams_noted, roots_noted, one_from, one_lambda, AreNoted, Among, BodiesShow}

-- a body begins behind a token, among so many
pub record IsInside (most : ℕ) (body : OpenBody) : Type 0 where
  pub behind : 1 ≤ body.from
  pub within : body.from ≤ most

abbrev pub AreInside : ℕ → List OpenBody → Type 0
AreInside most bodies = (k : ℕ) (body : OpenBody) → slice_get bodies k ≡ Some body → IsInside most body

-- The longest compound statement from the brace of a body ends with its closing brace, and this is what was read.
pub record IsBlock (source : Source) (body : OpenBody) (old new : List Node) (root : NodeId) (inner : List OpenBody) : Type 0 where
  pub got : Read
  pub long : LongestMatch (lookahead source) kept_apart source (form compound_statement) no_read (body.from - 1) (body.to + 1) None got
  pub grown : Extends old new
  pub shown : BuiltTrees (length old) new (root ∷ []) inner
  pub trees : trees_at new (root ∷ []) ≡ got.trees
  pub bodies : map (body_of new) inner ≡ got.bodies
  pub inside : AreInside (length source.terminals) inner

-- No tree is that of a body; the token up to which there could be one.
pub record IsNoBody (source : Source) (body : OpenBody) (token : ℕ) : Type 0 where
  pub nothing : (b : Body) (tree : Tree) → b.from ≡ body.from → b.to ≡ body.to → HasBody (lookahead source) source b tree → ⊥
  pub inside : token ≤ length source.terminals

abbrev pub ReadsBlock : Source → OpenBody → List Node → List Node → Result Block AllocError → Type 0
ReadsBlock source body old new (Ok (block.Read root bodies)) = IsBlock source body old new root bodies.items
ReadsBlock source body old new (Ok (block.Refused token)) = IsNoBody source body token
ReadsBlock source body old new (Err e) = Unit {0}

-- What is known of the nodes of bodies, in a list of nodes where these stand first: none of the new nodes is held twice, no
-- lambda was given two bodies, and with all bodies noted each body shows its tree.
pub record BodiesIn (bodies : List OpenBody) (old new : List Node) (added : List LamBody) (trees : List Tree) (all : List Node) : Type 0 where
  pub each : (id : ℕ) → times_a_kid id (drop (length old) new) + times_in id (roots_noted added) ≤ one_from (length old) (length new) id
  pub lams : (id : ℕ) → times_in id (lams_noted added) ≤ times id (lams_of bodies) + one_lambda all (length old) (length new) id
  pub show : (noted : List LamBody) → AreNoted all noted → ((body : LamBody) → Among body added → Among body noted)
      → BodiesShow noted all (lams_of bodies) trees

-- Bodies were read, with those in them, and were noted.
pub record AreRead (source : Source) (bodies : List OpenBody) (old new : List Node) (before now : List LamBody) : Type 0 where
  pub trees : List Tree
  pub wholes : (nodes : List Node) → Wholes (lookahead source) source (map (body_of nodes) bodies) trees
  pub grown : Extends old new
  pub added : List LamBody
  pub noted : now ≡ before ++ added
  pub later : (all : List Node) → Extends new all → HoldLower 0 all → BodiesIn bodies old new added trees all

-- One of some bodies has no tree.
pub record IsBroken (source : Source) (bodies : List OpenBody) (token : ℕ) : Type 0 where
  pub front : List OpenBody
  pub body : OpenBody
  pub back : List OpenBody
  pub are : bodies ≡ front ++ body ∷ back
  pub none : IsNoBody source body token

abbrev pub ReadsBodies : Source → List OpenBody → List Node → List Node → List LamBody → List LamBody → Result (Option ℕ) AllocError → Type 0
ReadsBodies source bodies old new before now (Ok None) = AreRead source bodies old new before now
ReadsBodies source bodies old new before now (Ok (Some token)) = IsBroken source bodies token
ReadsBodies source bodies old new before now (Err e) = Unit {0}

abbrev pub ReadsBody : Source → OpenBody → List Node → List Node → List LamBody → List LamBody → Result (Option ℕ) AllocError → Type 0
ReadsBody source body old new before now (Ok None) = AreRead source (body ∷ []) old new before now
ReadsBody source body old new before now (Ok (Some token)) = IsNoBody source body token
ReadsBody source body old new before now (Err e) = Unit {0}
