-- Functions whose bodies stand in a list of nodes.
use Rattle.std.specs.Prelude.{◌≡◌, ◌<◌, List, length, Some}
use Rattle.cpp_tree.specs.declared.arena.TNode.{TNode}
use Rattle.cpp_tree.specs.declared.arena.TNodeId.{TNodeId}
use Rattle.cpp_tree.specs.declared.program.TFunc.{TFunc}

-- the body of a function, if it has one, stands in the list
pub record HasRoot (nodes : List TNode) (f : TFunc) : Type 0 where
  pub within : (root : TNodeId) → f.body ≡ Some root → root.0 < length nodes
