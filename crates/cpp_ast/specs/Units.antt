-- Which lists of nodes are trees, and what a unit shows.
use Rattle.std.specs.Prelude.{◌≡◌, ℕ, ◌+◌, ◌≤◌, nat_eq, List, map, sum_by, count_by}
use Rattle.cpp_lex.specs.Tokens.{Lexeme, lexemes_of}
use Rattle.cpp_ast.specs.declared.arena.NodeId.{NodeId}
use Rattle.cpp_ast.specs.declared.arena.Node.{Node}
use Rattle.cpp_ast.specs.declared.units.LamBody.{LamBody}
use Rattle.cpp_ast.specs.declared.units.Unit.{Unit as UnitRecord}
use Rattle.cpp_ast.specs.Trees.{Trees, ShowsAllWith}

-- how often a node stands among ids
abbrev pub times_in : ℕ → List NodeId → ℕ
times_in id ids = count_by (λ (other : NodeId). nat_eq other.0 id) ids

-- how often a node is a kid of a node
abbrev pub times_a_kid : ℕ → List Node → ℕ
times_a_kid id nodes = sum_by (λ (node : Node). times_in id node.kids.items) nodes

-- no node is a kid of two nodes, nor twice of one
pub record IsForest (nodes : List Node) : Type 0 where
  pub each : (id : ℕ) → times_a_kid id nodes ≤ 1

-- no node is held twice, be it as a kid, as a declaration of the unit or as a body, and no lambda has two bodies
pub record IsTree (unit : UnitRecord) : Type 0 where
  pub each : (id : ℕ) → times_a_kid id unit.nodes + times_in id unit.decls.items + times_in id (map (λ (body : LamBody). body.body) unit.bodies.items) ≤ 1
  pub bodies : (id : ℕ) → times_in id (map (λ (body : LamBody). body.lam) unit.bodies.items) ≤ 1

-- the declarations of a unit with the bodies of their lambdas are these trees, read from these tokens
pub record ShowsUnit (unit : UnitRecord) (source : ℕ) (tokens : List Lexeme) (decls : Trees) : Type 0 where
  pub source_is : unit.source ≡ source
  pub tokens_are : lexemes_of unit.tokens ≡ tokens
  pub shows : ShowsAllWith unit.bodies.items unit.nodes unit.decls.items decls
  pub tree : IsTree unit
