-- What a builder of trees shows: the trees and the bodies that are read so far.
use Rattle.std.specs.Prelude.{◌≡◌, ℕ, zero, suc, ◌+◌, ◌-◌, ◌≤◌, nat_lt, nat_le, ◌&&◌, Bool, true, false, List, [], ◌∷◌, ◌++◌, Option, Some, None, if◌then◌else◌}
use Rattle.std.specs.Prelude.{length, map, take, drop, get_or, slice_get}
use Rattle.std.specs.List.{concat, list_all}
use Rattle.cpp_ast.specs.declared.arena.At.{At}
use Rattle.cpp_ast.specs.declared.arena.Node.{Node}
use Rattle.cpp_ast.specs.declared.arena.NodeId.{NodeId}
use Rattle.cpp_ast.specs.declared.kinds.NodeKind.{NodeKind}
use Rattle.cpp_ast.specs.declared.kinds.NodeKind.TheVariants as kind
use Rattle.cpp_ast.specs.Trees.{Tree, node, Trees, none, more, Shows, ShowsAll}
use Rattle.cpp_ast.specs.Units.{times_a_kid, times_in}
use Rattle.cpp_ast.specs.Orders.{are_below}
use Rattle.cpp_syntax.specs.declared.positions.Checkpoint.{Checkpoint}
use Rattle.cpp_syntax.specs.declared.positions.OpenBody.{OpenBody}
use Rattle.cpp_syntax.specs.declared.positions.DeclaredName.{DeclaredName}
use Rattle.cpp_syntax.specs.Derivations.{Body, Read, and_then, no_read, Name}

-- The nodes that were there before, and what was read since.
pub record BuilderState : Type 0 where
  pub base : List Node
  pub read : Read

-- what was read, and behind it what was read then
abbrev pub appended : BuilderState → Read → BuilderState
appended built got = record { base = built.base; read = and_then built.read got }

abbrev pub count_trees : Trees → ℕ
count_trees none = 0
count_trees (more t ts) = count_trees ts + 1

abbrev pub is_lambda : NodeKind → Bool
is_lambda kind.Lambda = true
is_lambda _ = false

-- how many lambdas there are in a tree, and in some trees
abbrev mutual
  pub count_lambdas : Tree → ℕ
  count_lambdas (node kind at token kids) = count_lambdas_in kids + (if is_lambda kind then 1 else 0)

  pub count_lambdas_in : Trees → ℕ
  count_lambdas_in none = 0
  count_lambdas_in (more t ts) = count_lambdas t + count_lambdas_in ts

-- A mark stands behind all that was read, in which each lambda has its body.
pub record IsMark (mark : Checkpoint) (built : BuilderState) : Type 0 where
  pub trees : count_trees built.read.trees ≡ mark.trees
  pub bodies : length built.read.bodies ≡ count_lambdas_in built.read.trees

abbrev pub name_of : DeclaredName → Name
name_of name = record { first = name.first; token = name.token }

-- A value for each node of a list, made of its index, the node and the values of its kids.
abbrev pub values_at : {A : Type 0} → A → List A → List NodeId → List A
values_at other values ids = map (λ (id : NodeId). get_or values id.0 other) ids

abbrev pub values_from : {A : Type 0} → A → (ℕ → Node → List A → A) → List A → List Node → List A
values_from other make values [] = values
values_from other make values (n ∷ ns) = values_from other make (values ++ make (length values) n (values_at other values n.kids.items) ∷ []) ns

-- the trees of nodes

abbrev pub trees_of : List Tree → Trees
trees_of [] = none
trees_of (t ∷ ts) = more t (trees_of ts)

abbrev pub no_tree : Tree
no_tree = node kind.Absent (record { source = 0; offset = 0 }) None none

abbrev pub tree_made : ℕ → Node → List Tree → Tree
tree_made id n kids = node n.kind n.at n.token (trees_of kids)

abbrev pub trees_from : List Node → List NodeId → List Tree
trees_from nodes ids = values_at no_tree (values_from no_tree tree_made [] nodes) ids

abbrev pub trees_at : List Node → List NodeId → Trees
trees_at nodes ids = trees_of (trees_from nodes ids)

-- the lambdas below nodes, those in the kids of a node before the node itself

abbrev pub lambdas_made : ℕ → Node → List (List ℕ) → List ℕ
lambdas_made id n kids = concat kids ++ (if is_lambda n.kind then id ∷ [] else [])

abbrev pub lambdas_from : List Node → List NodeId → List (List ℕ)
lambdas_from nodes ids = values_at [] (values_from [] lambdas_made [] nodes) ids

abbrev pub lambdas_at : List Node → List NodeId → List ℕ
lambdas_at nodes ids = concat (lambdas_from nodes ids)

-- the bodies of lambdas as they are kept apart from trees

abbrev or_none : Option ℕ → ℕ
or_none None = 0
or_none (Some k) = k

abbrev pub token_of : Option Node → ℕ
token_of None = 0
token_of (Some n) = or_none n.token

abbrev pub body_of : List Node → OpenBody → Body
body_of nodes body = record { lambda = token_of (slice_get nodes body.lam.0); from = body.from; to = body.to }

abbrev pub lams_of : List OpenBody → List ℕ
lams_of bodies = map (λ (body : OpenBody). body.lam.0) bodies

-- what nodes, some of which were there before, ids and bodies show
abbrev pub builder_state : ℕ → List Node → List NodeId → List OpenBody → BuilderState
builder_state base nodes ids bodies = record { base = take base nodes; read = record { trees = trees_at nodes ids; bodies = map (body_of nodes) bodies } }

-- Running totals: each number is the sum of the lengths of the lists up to its index.
abbrev pub running : ℕ → List (List ℕ) → List ℕ
running sum [] = []
running sum (xs ∷ xss) = (sum + length xs) ∷ running (sum + length xs) xss

-- The nodes show trees at the ids. No node that was there before is held by an id or by a new node, and each new one is
-- held once at most. The bodies are those of the lambdas in the trees, in the order in which the lambdas end.
pub record BuiltTrees (base : ℕ) (nodes : List Node) (ids : List NodeId) (bodies : List OpenBody) : Type 0 where
  pub shows : ShowsAll nodes ids (trees_at nodes ids)
  pub apart : (id : ℕ) → times_a_kid id (drop base nodes) + times_in id ids ≤ (if nat_le base id && nat_lt id (length nodes) then 1 else 0)
  pub lambdas : lams_of bodies ≡ lambdas_at nodes ids

-- each of the nodes at the ids shows its tree
abbrev pub EachShows : List Node → List NodeId → Type 0
EachShows nodes [] = Unit {0}
EachShows nodes (id ∷ ids) = Shows nodes id.0 (get_or (values_from no_tree tree_made [] nodes) id.0 no_tree) × EachShows nodes ids

-- the lambdas of bodies stand below an index
abbrev pub are_lams_below : ℕ → List OpenBody → Bool
are_lams_below index bodies = list_all (λ lam. nat_lt lam index) (lams_of bodies)

-- What a builder keeps, with the number of bodies up to each tree.
pub record IsBuilt (base : ℕ) (nodes : List Node) (ids : List NodeId) (totals : List ℕ) (bodies : List OpenBody) : Type 0 where
  pub within : base ≤ length nodes
  pub below : are_below (length nodes) ids ≡ true
  pub lams_below : are_lams_below (length nodes) bodies ≡ true
  pub shows : EachShows nodes ids
  pub apart : (id : ℕ) → times_a_kid id (drop base nodes) + times_in id ids ≤ (if nat_le base id && nat_lt id (length nodes) then 1 else 0)
  pub lambdas : lams_of bodies ≡ lambdas_at nodes ids
  pub counted : totals ≡ running 0 (lambdas_from nodes ids)
