-- Nodes by their ids.
use Rattle.std.specs.Prelude.{ℕ, false, List, [], Option, Some, None, get_or, slice_get}
use Rattle.cpp_tree.specs.cpp_types.Typ.{Typ, typ, void, typ_of}
use Rattle.cpp_tree.specs.cpp_types.declared.classes.At.{At}
use Rattle.cpp_tree.specs.declared.kinds.TKind.{TKind}
use Rattle.cpp_tree.specs.declared.kinds.TKind.TheVariants.{Comma}
use Rattle.cpp_tree.specs.declared.arena.TNodeId.{TNodeId}
use Rattle.cpp_tree.specs.declared.arena.TNode.{TNode}
use Rattle.cpp_tree.specs.Trees.{nowhere}

-- what a node shows
pub record Node : Type 0 where
  pub kind : TKind
  pub typ : Typ
  pub at : At
  pub kids : List TNodeId

abbrev pub node_of : TNode → Node
node_of n = record { kind = n.kind; typ = typ_of n.ty; at = n.at; kids = n.kids.items }

-- a node without kids, for an id with none
abbrev pub no_node : Node
no_node = record { kind = Comma; typ = typ void false false; at = nowhere; kids = [] }

abbrev pub node_or : Option TNode → Node
node_or (Some n) = node_of n
node_or None = no_node

-- the node with an id
abbrev pub node_in : List TNode → TNodeId → Node
node_in nodes id = node_or (slice_get nodes id.0)

abbrev pub first_id : TNodeId
first_id = record { 0 = 0 }

-- the kid with an index
abbrev pub kid_in : List TNodeId → ℕ → TNodeId
kid_in kids index = get_or kids index first_id
