-- Nodes that become the kids of a new one.
use Rattle.std.specs.Prelude.{◌≡◌, ℕ, List, [], ◌∷◌, ◌++◌, Option, None, true, MatchOption, length, take, drop}
use Rattle.cpp_ast.specs.declared.arena.At.{At}
use Rattle.cpp_ast.specs.declared.arena.Node.{Node}
use Rattle.cpp_ast.specs.declared.arena.NodeId.{NodeId}
use Rattle.cpp_ast.specs.declared.kinds.NodeKind.{NodeKind}
use Rattle.cpp_ast.specs.Trees.{Tree, Trees, none, more, Shows, ShowsAll}
use Rattle.cpp_syntax.specs.Derivations.{at_of, is_of_declarator, declared, declared_in}

-- One node stands behind the others, and the ids from an index on are its kids, in whose stead it stands.
pub record Gathered (old new : List Node) (was ids : List NodeId) (start : ℕ) (id : NodeId) (kind : NodeKind) (at : At) (token : Option ℕ) : Type 0 where
  pub added : Node
  pub nodes : new ≡ old ++ added ∷ []
  pub kind_is : added.kind ≡ kind
  pub at_is : added.at ≡ at
  pub token_is : added.token ≡ token
  pub kids : added.kids.items ≡ drop start was
  pub index : id.0 ≡ length old
  pub pending : ids ≡ take start was ++ id ∷ []

-- the position of the first of some trees, or another
abbrev pub first_at : At → Trees → At
first_at other none = other
first_at other (more t ts) = at_of t

-- the last number, or 0 where there is none
abbrev pub last_or_none : List ℕ → ℕ
last_or_none [] = 0
last_or_none (n ∷ []) = n
last_or_none (n ∷ m ∷ ns) = last_or_none (m ∷ ns)

-- Of some nodes, the first that is a name or leads to one declares what their trees declare; none does where none is.
pub record Leads (nodes : List Node) (ids : List NodeId) (found : ℕ) (trees : Trees) : Type 0 where
  pub tree : Tree
  pub shows : Shows nodes found tree
  pub leads : is_of_declarator tree ≡ true
  pub same : declared_in trees ≡ declared tree

-- It is that one, or none.
abbrev pub FirstLeads : List Node → List NodeId → Option NodeId → Type 0
FirstLeads nodes ids found = (trees : Trees) → ShowsAll nodes ids trees → MatchOption found (declared_in trees ≡ None) (λ id. Leads nodes ids id.0 trees)
