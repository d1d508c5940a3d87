-- Which nodes make temporaries that wait.
use Rattle.std.specs.Prelude.{Bool, false, not, ◌&&◌, ◌||◌, ℕ, nat_lt, List, [], ◌∷◌, ◌++◌, length, get_or, fold}
use Rattle.cpp_tree.specs.declared.kinds.TKind.{TKind}
use Rattle.cpp_tree.specs.declared.kinds.TKind.TheVariants.{FullExpression, Materialize}
use Rattle.cpp_tree.specs.declared.arena.TNodeId.{TNodeId}
use Rattle.cpp_tree.specs.declared.arena.TNode.{TNode}

-- one of the kids does, where so much is known of the nodes before
abbrev pub has_one : List Bool → List TNodeId → Bool
has_one known [] = false
has_one known (id ∷ ids) = get_or known id.0 false || has_one known ids

abbrev pub makes_by : TKind → ℕ → Bool → Bool
makes_by FullExpression kids below = false
makes_by (Materialize place argument) kids below = (not argument && nat_lt 1 kids) || below
makes_by kind kids below = below

-- a node makes temporaries that wait in the full-expression around it
abbrev pub makes_one : List Bool → TNode → Bool
makes_one known n = makes_by n.kind (length n.kids.items) (has_one known n.kids.items)

abbrev pub with_one : List Bool → TNode → List Bool
with_one known n = known ++ makes_one known n ∷ []

-- of each node, whether it makes temporaries that wait for the end of the full-expression around it
abbrev pub temporaries_of : List TNode → List Bool
temporaries_of nodes = fold with_one [] nodes
