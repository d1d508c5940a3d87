-- Trees of a unit that were copied to another list of nodes.
use Rattle.std.specs.Prelude.{◌≡◌, ◌<◌, ◌≤◌, ℕ, true, List, [], ◌∷◌, ◌++◌, length, slice_get, Option, Some}
use Rattle.cpp_ast.specs.declared.arena.NodeId.{NodeId}
use Rattle.cpp_ast.specs.declared.arena.Node.{Node}
use Rattle.cpp_ast.specs.declared.units.LamBody.{LamBody}
use Rattle.cpp_ast.specs.declared.units.Unit.{Unit as UnitRecord}
use Rattle.cpp_ast.specs.Orders.{are_below}
use Rattle.cpp_ast.specs.Trees.{ShowsWith, ShowsAllWith, kids_with}
use Rattle.elab_types.specs.Syntax.{syntax_of, tree_at, trees_at}

-- the body in an entry of a table
abbrev pub body_in : Option (Option NodeId) → List NodeId
body_in (Some (Some body)) = body ∷ []
body_in entry = []

-- A table holds for each node the body that is noted for it.
pub record IsNotedIn (bodies : List LamBody) (table : List (Option NodeId)) : Type 0 where
  pub each : (kids : List NodeId) (id : ℕ) → kids_with kids bodies id ≡ kids ++ body_in (slice_get table id)

-- Nodes were added, and the trees of those before them are the same.
pub record Keeps (old new : List Node) : Type 0 where
  pub longer : length old ≤ length new
  pub same : (id : NodeId) → id.0 < length old → tree_at (syntax_of new) id ≡ tree_at (syntax_of old) id

-- The new node is the root of the whole tree of a node of a unit.
pub record IsCopied (unit : UnitRecord) (old new : List Node) (id copy : NodeId) : Type 0 where
  pub keeps : Keeps old new
  pub there : copy.0 < length new
  pub whole : ShowsWith unit.bodies.items unit.nodes id.0 (tree_at (syntax_of new) copy)

-- The same of some nodes.
pub record AreCopied (unit : UnitRecord) (old new : List Node) (ids copies : List NodeId) : Type 0 where
  pub keeps : Keeps old new
  pub there : are_below (length new) copies ≡ true
  pub whole : ShowsAllWith unit.bodies.items unit.nodes ids (trees_at (syntax_of new) copies)
