-- The trees of nodes, and bodies that are run.
use Rattle.std.specs.Prelude.{◌≡◌, ◌<◌, Bool, false, true, length}
use Rattle.cpp_tree.specs.cpp_types.declared.ranks.Cat.{Cat}
use Rattle.cpp_tree.specs.declared.arena.TNodeId.{TNodeId}
use Rattle.cpp_tree.specs.declared.kinds.TKind.TheVariants.{Block}
use Rattle.cpp_tree.specs.Trees.{node}
use Rattle.cpp_tree.specs.Arena.{IsOrdered, trees_of, tree_at, trees_at}
use Rattle.cpp_tree.specs.WellFormed.{WellFormedBody, setting_of, outermost}
use Rattle.low_code.specs.Temporaries.{temporaries_of}
use Rattle.unwind_lower.specs.declared.items.Way.TheVariants.{Dropped}
use Rattle.unwind_lower.specs.Settings.{Setting, node_in}
use Rattle.lowered_trees.specs.Suiting.{suits}
use Rattle.lowered_trees.specs.Running.{Runs}

-- the tree of a node is that of its parts
pub record IsTree (g : Setting) (id : TNodeId) : Type 0 where
  pub cat : Cat
  pub is : tree_at (trees_of g.unit.nodes.items) id ≡ node (node_in g id).kind (node_in g id).typ cat (node_in g id).at
      (trees_at (trees_of g.unit.nodes.items) (node_in g id).kids)

-- a body that may be lowered: its nodes are in order, it is well formed, and it suits
pub record MayBeLowered (g : Setting) (root : TNodeId) : Type 0 where
  pub ordered : IsOrdered g.unit.nodes.items
  pub within : root.0 < length g.unit.nodes.items
  pub temporaries : g.temporaries ≡ temporaries_of g.unit.nodes.items
  pub well_formed : WellFormedBody (setting_of g.program g.unit g.func) (tree_at (trees_of g.unit.nodes.items) root)
  pub suits : suits false (tree_at (trees_of g.unit.nodes.items) root) ≡ true

-- the body is a block, and may be run as one
pub record RunsWhole (g : Setting) (root : TNodeId) : Type 0 where
  pub subobjects : Bool
  pub block : (node_in g root).kind ≡ Block subobjects
  pub runs : Runs g outermost root Dropped
