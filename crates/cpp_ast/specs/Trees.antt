-- The syntax tree that a list of nodes shows, and how deep it is.
use Rattle.std.specs.Prelude.{◌≡◌, ℕ, ◌+◌, max, nat_eq, if◌then◌else◌, List, [], ◌∷◌, ◌++◌, slice_get, Option, Some, is_some}
use Rattle.cpp_ast.specs.declared.kinds.NodeKind.{NodeKind}
use Rattle.cpp_ast.specs.declared.arena.At.{At}
use Rattle.cpp_ast.specs.declared.arena.NodeId.{NodeId}
use Rattle.cpp_ast.specs.declared.arena.Node.{Node}
use Rattle.cpp_ast.specs.declared.units.LamBody.{LamBody}
use Rattle.cpp_ast.specs.Shapes.{FitsShape, shape_of, counts_one, has_token}

-- a syntax tree: its kind, its position, its token and its kids
mutual
  pub data Tree : Type 0 where
    node : NodeKind → At → Option ℕ → Trees → Tree

  pub data Trees : Type 0 where
    none : Trees
    more : Tree → Trees → Trees

abbrev pub kind_of : Tree → NodeKind
kind_of (node kind at token kids) = kind

-- the kids of a node, and behind them what is noted as its body
abbrev pub kids_with : List NodeId → List LamBody → ℕ → List NodeId
kids_with kids [] id = kids
kids_with kids (body ∷ bodies) id = kids_with (if nat_eq body.lam.0 id then kids ++ body.body ∷ [] else kids) bodies id

-- a node stands at an index in a list, and these are its parts
pub record NodeAt (nodes : List Node) (id : ℕ) (kind : NodeKind) (at : At) (token : Option ℕ) : Type 0 where
  pub found : Node
  pub stands : slice_get nodes id ≡ Some found
  pub kind_is : found.kind ≡ kind
  pub at_is : found.at ≡ at
  pub token_is : found.token ≡ token

-- the nodes show the tree at the id, where the body that is noted for a lambda is its last kid
abbrev mutual
  pub ShowsWith : List LamBody → List Node → ℕ → Tree → Type 0
  ShowsWith bodies nodes id (node kind at token kids) =
      (s : NodeAt nodes id kind at token) × ShowsAllWith bodies nodes (kids_with s.found.kids.items bodies id) kids

  pub ShowsAllWith : List LamBody → List Node → List NodeId → Trees → Type 0
  ShowsAllWith bodies nodes ids none = ids ≡ []
  ShowsAllWith bodies nodes ids (more tree trees) =
      (id : NodeId) × (rest : List NodeId) × (ids ≡ id ∷ rest) × ShowsWith bodies nodes id.0 tree × ShowsAllWith bodies nodes rest trees

-- the nodes show the tree at the id, where lambdas have no bodies
abbrev pub Shows : List Node → ℕ → Tree → Type 0
Shows = ShowsWith []

abbrev pub ShowsAll : List Node → List NodeId → Trees → Type 0
ShowsAll = ShowsAllWith []

-- new nodes stand behind old ones
pub record Extends (old new : List Node) : Type 0 where
  pub extra : List Node
  pub appended : new ≡ old ++ extra

-- the depth of a kid in a node of a depth
abbrev pub kid_depth : ℕ → NodeKind → ℕ
kid_depth depth kind = if counts_one kind then depth + 1 else depth

-- the greatest depth of a node of a tree whose root has this depth
abbrev mutual
  pub deepest : ℕ → Tree → ℕ
  deepest depth (node kind at token kids) = deepest_kid depth kids

  pub deepest_kid : ℕ → Trees → ℕ
  deepest_kid depth none = depth
  deepest_kid depth (more tree trees) = max (deepest (kid_depth depth (kind_of tree)) tree) (deepest_kid depth trees)

-- the depth of a unit with these declarations
abbrev pub unit_depth : Trees → ℕ
unit_depth decls = deepest_kid 1 decls

abbrev pub kinds_of : Trees → List NodeKind
kinds_of none = []
kinds_of (more tree trees) = kind_of tree ∷ kinds_of trees

-- each node of a tree has the kids of its kind, and a token where its kind has one
abbrev mutual
  pub IsShaped : Tree → Type 0
  IsShaped (node kind at token kids) = (has_token kind ≡ is_some token) × FitsShape (shape_of kind) (kinds_of kids) × AreShaped kids

  pub AreShaped : Trees → Type 0
  AreShaped none = Unit {0}
  AreShaped (more tree trees) = IsShaped tree × AreShaped trees
