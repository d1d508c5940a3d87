-- The trees that places of nodes show.
use Rattle.std.specs.Prelude.{ℕ, zero, suc, Bool, true, false, cond, nat_lt, List, [], ◌∷◌, Option, None, Some, slice_get, option_and_then}
use Rattle.cpp_tree.specs.declared.arena.TNodeId.{TNodeId}
use Rattle.cpp_tree.specs.declared.arena.TNode.{TNode}
use Rattle.cpp_tree.specs.declared.program.UnitTree.{UnitTree}
use Rattle.cpp_tree.specs.declared.program.Program.{Program}
use Rattle.cpp_tree.specs.Trees.{Tree, Trees, none, more, literal, kids_of}
use Rattle.cpp_tree.specs.Arena.{tree_at}
use Rattle.src_bind.specs.Infos.{trees_in}
use Rattle.src_frames.specs.declared.trees.TreeAt.{TreeAt}
use Rattle.src_frames.specs.declared.trees.TreeAt.TheVariants.{Node, Word}
use Rattle.src_frames.specs.declared.trees.KidsAt.{KidsAt}

-- the node of a unit with this id
abbrev pub node_found : Program → ℕ → TNodeId → Option TNode
node_found p u id = option_and_then (λ (x : UnitTree). slice_get x.nodes.items id.0) (slice_get p.units.items u)

-- the tree of a place
abbrev pub tree_shown : Program → TreeAt → Tree
tree_shown p (Node unit id) = tree_at (trees_in p unit) id
tree_shown p (Word w) = literal w

-- a list of kids from one of them on
abbrev pub behind : ℕ → Trees → Trees
behind zero ts = ts
behind (suc n) none = none
behind (suc n) (more t ts) = behind n ts

abbrev pub kids_shown : Program → KidsAt → Trees
kids_shown p k = behind k.from (kids_of (tree_shown p k.of))

abbrev pub are_none : Trees → Bool
are_none none = true
are_none (more t ts) = false

abbrev pub kid_of : ℕ → Trees → Option Tree
kid_of n none = None
kid_of zero (more t ts) = Some t
kid_of (suc n) (more t ts) = kid_of n ts

abbrev pub count_of : Trees → ℕ
count_of none = 0
count_of (more t ts) = suc (count_of ts)

-- the trees of kids whose ids are below a bound; the others show the word 0
abbrev pub kids_below : List Tree → ℕ → List TNodeId → Trees
kids_below trees bound [] = none
kids_below trees bound (id ∷ ids) = more (cond (nat_lt id.0 bound) (tree_at trees id) (literal 0)) (kids_below trees bound ids)

-- a kid of a node of this unit
abbrev pub kid_tree : Program → ℕ → TNodeId → TNodeId → Tree
kid_tree p u id kid = cond (nat_lt kid.0 id.0) (tree_at (trees_in p u) kid) (literal 0)
