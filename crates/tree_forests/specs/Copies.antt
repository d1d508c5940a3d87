-- Trees copied behind nodes, each node of them anew.
use Rattle.std.specs.Prelude.{◌≡◌, ℕ, ◌+◌, ◌≤◌, nat_lt, true, cond, List, [], ◌∷◌, ◌++◌, length}
use Rattle.cpp_tree.specs.declared.arena.TNode.{TNode}
use Rattle.cpp_tree.specs.declared.arena.TNodeId.{TNodeId}
use Rattle.cpp_tree.specs.Trees.{Tree, node, Trees, none, more, literal}
use Rattle.cpp_tree.specs.Arena.{IsOrdered, are_below, times_in, times_a_kid, tree_at, trees_at, trees_of, Grows, Adds, Extends}

-- how many of these nodes have this id: one or none
abbrev pub count_at : ℕ → List TNode → ℕ
count_at id nodes = cond (nat_lt id (length nodes)) 1 0

-- What was put behind nodes is a forest of its own, with these as its roots: each new node is a kid once or a root once at most, and no other node is.
-- What is in order stays in order.
pub record OwnForest (old new : List TNode) (roots : List TNodeId) : Type 0 where
  pub behind : Extends old new
  pub within : are_below (length new) roots ≡ true
  pub once : (id : ℕ) → times_a_kid id new + times_in id roots + count_at id old ≤ times_a_kid id old + count_at id new
  pub ordered : IsOrdered old → IsOrdered new

-- how many nodes a tree has
abbrev mutual
  pub count_of_nodes : Tree → ℕ
  count_of_nodes (node kind t cat at kids) = count_of_all kids + 1

  pub count_of_all : Trees → ℕ
  count_of_all none = 0
  count_of_all (more t ts) = count_of_nodes t + count_of_all ts

-- a tree was put behind nodes, which shows there: as many nodes as it has, and no more
pub record IsCopied (old new : List TNode) (id : TNodeId) (tree : Tree) : Type 0 where
  pub shown : Adds (trees_of old) (trees_of new) id tree
  pub forest : OwnForest old new (id ∷ [])
  pub size : length new ≡ length old + count_of_nodes tree

-- trees were put behind nodes
pub record AreCopied (old new : List TNode) (ids : List TNodeId) (trees : Trees) : Type 0 where
  pub grows : Grows (trees_of old) (trees_of new)
  pub shown : trees_at (trees_of new) ids ≡ trees
  pub forest : OwnForest old new ids
  pub size : length new ≡ length old + count_of_all trees

-- Steps

-- one node was put behind others
pub record IsPut (old new : List TNode) (node : TNode) (id : TNodeId) : Type 0 where
  pub items : new ≡ old ++ node ∷ []
  pub place : id.0 ≡ length old

-- the tree of a node that stands before a place, else a literal
abbrev pub tree_before : List Tree → ℕ → TNodeId → Tree
tree_before trees place id = cond (nat_lt id.0 place) (tree_at trees id) (literal 0)

abbrev pub trees_before : List Tree → ℕ → List TNodeId → Trees
trees_before trees place [] = none
trees_before trees place (id ∷ ids) = more (tree_before trees place id) (trees_before trees place ids)

abbrev pub followed_by : Trees → Trees → Trees
followed_by none us = us
followed_by (more t ts) us = more t (followed_by ts us)

-- trees were put there, where `left` are still to be put of `all`
pub record Copying (old now : List TNode) (ids : List TNodeId) (left all : Trees) : Type 0 where
  pub trees : Trees
  pub copied : AreCopied old now ids trees
  pub are : followed_by trees left ≡ all
