-- How deep the nodes of a tree lie.
use Rattle.std.specs.Prelude.{◌≡◌, ℕ, ◌<◌, ◌≤◌, nat_lt, true, if◌then◌else◌, List, [], ◌∷◌, ◌++◌, slice_get, Option, Some, None}
use Rattle.cpp_ast.specs.declared.arena.At.{At}
use Rattle.cpp_ast.specs.declared.arena.NodeId.{NodeId}
use Rattle.cpp_ast.specs.declared.arena.Node.{Node}
use Rattle.cpp_ast.specs.declared.units.LamBody.{LamBody}
use Rattle.cpp_ast.specs.Trees.{Tree, node, Trees, none, more, kind_of, kid_depth, kids_with}
use Rattle.cpp_ast.specs.Orders.{are_below}
use Rattle.cpp_syntax.specs.View.{is_lambda}

-- what is found in one index, or else in another
abbrev pub or_else : Option At → Option At → Option At
or_else None other = other
or_else (Some at) other = Some at

-- Where the first node stands that lies deeper than a limit, of a tree whose root has this depth: a node comes before its
-- kids, and these come in their order.
abbrev mutual
  pub deep_node : ℕ → ℕ → Tree → Option At
  deep_node limit depth (node kind at token kids) = if nat_lt limit depth then Some at else deep_kid limit depth kids

  pub deep_kid : ℕ → ℕ → Trees → Option At
  deep_kid limit depth none = None
  deep_kid limit depth (more t ts) = or_else (deep_node limit (kid_depth depth (kind_of t)) t) (deep_kid limit depth ts)

-- The depths of the lambdas of a tree whose root has this depth, those in the kids of a node before the node itself.
abbrev mutual
  pub lambda_depths : ℕ → Tree → List ℕ
  lambda_depths depth (node kind at token kids) = lambda_depths_in depth kids ++ (if is_lambda kind then depth ∷ [] else [])

  pub lambda_depths_in : ℕ → Trees → List ℕ
  lambda_depths_in depth none = []
  lambda_depths_in depth (more t ts) = lambda_depths (kid_depth depth (kind_of t)) t ++ lambda_depths_in depth ts

-- A search for the first node that lies too deep finds it; where there is none, it appends the depths of the lambdas.
abbrev pub Searches : Option At → List ℕ → List ℕ → List ℕ → Option At → Type 0
Searches deep depths old new None = (None ≡ deep) × (new ≡ old ++ depths)
Searches deep depths old new (Some at) = Some at ≡ deep

-- the kids of the nodes from an index on stand before them
pub record HoldLower (first : ℕ) (nodes : List Node) : Type 0 where
  pub lower : (id : ℕ) (n : Node) → first ≤ id → slice_get nodes id ≡ Some n → are_below id n.kids.items ≡ true

-- The bodies of lambdas, by the indices of the lambdas.

-- the bodies in a table stand below an index
abbrev pub HaveNodes : ℕ → List (Option NodeId) → Type 0
HaveNodes most noted = (k : ℕ) (body : NodeId) → slice_get noted k ≡ Some (Some body) → body.0 < most

abbrev pub at_most_one : Option (Option NodeId) → List NodeId
at_most_one None = []
at_most_one (Some None) = []
at_most_one (Some (Some id)) = id ∷ []

-- a table holds for each node the body that is noted for it
pub record IsNotedIn (bodies : List LamBody) (noted : List (Option NodeId)) : Type 0 where
  pub each : (kids : List NodeId) (id : ℕ) → kids_with kids bodies id ≡ kids ++ at_most_one (slice_get noted id)
