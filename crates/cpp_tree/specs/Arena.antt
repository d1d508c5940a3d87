-- The trees that a list of nodes shows.
use Rattle.std.specs.Prelude.{◌≡◌, ℕ, ◌<◌, ◌≤◌, nat_lt, nat_eq, Bool, true, List, [], ◌∷◌, ◌++◌, length, slice_get, get_or, fold, sum_by, count_by, Some}
use Rattle.std.specs.List.{list_all}
use Rattle.cpp_layout.specs.cpp_types.Typ.{Typ, typ_of}
use Rattle.cpp_layout.specs.cpp_types.declared.classes.At.{At}
use Rattle.cpp_layout.specs.cpp_types.declared.ranks.Cat.{Cat}
use Rattle.cpp_tree.specs.declared.kinds.TKind.{TKind}
use Rattle.cpp_tree.specs.declared.arena.TNodeId.{TNodeId}
use Rattle.cpp_tree.specs.declared.arena.TNode.{TNode}
use Rattle.cpp_tree.specs.Trees.{Tree, node, Trees, none, more, literal}

-- The trees of all nodes, a fold from the left: each node has its kids among the trees before it

abbrev pub tree_at : List Tree → TNodeId → Tree
tree_at trees id = get_or trees id.0 (literal 0)

abbrev pub trees_at : List Tree → List TNodeId → Trees
trees_at trees [] = none
trees_at trees (id ∷ ids) = more (tree_at trees id) (trees_at trees ids)

-- the tree of a node, whose kids are among these
abbrev pub tree_of : List Tree → TNode → Tree
tree_of trees n = node n.kind (typ_of n.ty) n.cat n.at (trees_at trees n.kids.items)

abbrev pub with_node : List Tree → TNode → List Tree
with_node trees n = trees ++ tree_of trees n ∷ []

unfoldable pub trees_of : List TNode → List Tree
trees_of nodes = fold with_node [] nodes

-- a tree was added in this place, be it in several steps
pub record Grows (old new : List Tree) : Type 0 where
  pub extra : List Tree
  pub appended : new ≡ old ++ extra

pub record Adds (old new : List Tree) (id : TNodeId) (tree : Tree) : Type 0 where
  pub grows : Grows old new
  pub within : id.0 < length new
  pub is : tree_at new id ≡ tree

-- Lists in which every node shows a tree of its own

-- each id is below a place
abbrev pub are_below : ℕ → List TNodeId → Bool
are_below place ids = list_all (λ (id : TNodeId). nat_lt id.0 place) ids

-- the kids of each node stand before it
pub record IsOrdered (nodes : List TNode) : Type 0 where
  pub lower : (id : ℕ) (n : TNode) → slice_get nodes id ≡ Some n → are_below id n.kids.items ≡ true

-- how often a node stands among ids, and among the kids of all nodes
abbrev pub times_in : ℕ → List TNodeId → ℕ
times_in id ids = count_by (λ (other : TNodeId). nat_eq other.0 id) ids

abbrev pub times_a_kid : ℕ → List TNode → ℕ
times_a_kid id nodes = sum_by (λ (n : TNode). times_in id n.kids.items) nodes

-- no node is a kid of two nodes, nor twice of one
pub record IsForest (nodes : List TNode) : Type 0 where
  pub once : (id : ℕ) → times_a_kid id nodes ≤ 1

-- The same as a relation, for proofs that go along a tree

-- a node stands at a place in a list, and these are its parts
pub record NodeAt (nodes : List TNode) (id : ℕ) (kind : TKind) (t : Typ) (cat : Cat) (place : At) : Type 0 where
  pub found : TNode
  pub stands : slice_get nodes id ≡ Some found
  pub kind_is : found.kind ≡ kind
  pub typ_is : typ_of found.ty ≡ t
  pub cat_is : found.cat ≡ cat
  pub at_is : found.at ≡ place

-- the nodes show the tree at the place
abbrev mutual
  pub Shows : List TNode → ℕ → Tree → Type 0
  Shows nodes id (node kind t cat place kids) = (s : NodeAt nodes id kind t cat place) × ShowsAll nodes s.found.kids.items kids

  pub ShowsAll : List TNode → List TNodeId → Trees → Type 0
  ShowsAll nodes ids none = ids ≡ []
  ShowsAll nodes ids (more tree trees) = (id : TNodeId) × (rest : List TNodeId) × (ids ≡ id ∷ rest) × Shows nodes id.0 tree × ShowsAll nodes rest trees

-- new nodes stand behind old ones
pub record Extends (old new : List TNode) : Type 0 where
  pub extra : List TNode
  pub appended : new ≡ old ++ extra
