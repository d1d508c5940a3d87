-- The scopes around a place, from that at hand outward, and the objects that wait in them.
use Rattle.std.specs.Prelude.{ℕ, zero, suc, ◌≡◌, ◌*◌, Bool, true, false, cond, List, [], ◌∷◌, ◌++◌}
use Rattle.cpp_tree.specs.declared.arena.TNodeId.{TNodeId}
use Rattle.low_code.specs.declared.scopes.Owner.{Owner}
use Rattle.low_code.specs.declared.scopes.Address.{Address}
use Rattle.low_code.specs.declared.scopes.Address.TheVariants.{Frame, Word, Node as OfNode}
use Rattle.low_code.specs.declared.scopes.ScopeKind.{ScopeKind}
use Rattle.low_code.specs.declared.scopes.ScopeKind.TheVariants.{Mark, Waits, Each}
use Rattle.low_code.specs.Scopes.{same_owner}
use Rattle.symbolic_source.specs.Terms.{Term, local, plus_number}
use Rattle.symbolic_source.specs.Frames.{Spot, at_word, at_tree, Waiting, waiting}
use Rattle.symbolic_source.specs.Steps.{first_word}
use Rattle.unwind_lower.specs.Settings.{Setting, node_in}
use Rattle.unwind_lower.specs.Kids.{kids_from}
use Rattle.lowered_frames.specs.Lists.{behind, more_by}
use Rattle.lowered_frames.specs.Modes.{tree_in, trees_in}

-- ---- the scopes of an owner

abbrev pub is_mark : Owner → ScopeKind → Bool
is_mark owner (Mark other) = same_owner other owner
is_mark owner kind = false

-- the scopes up to the next mark of an owner, and those behind it
abbrev pub before_mark : Owner → List ScopeKind → List ScopeKind
before_mark owner [] = []
before_mark owner (k ∷ chain) = cond (is_mark owner k) [] (k ∷ before_mark owner chain)

abbrev pub behind_mark : Owner → List ScopeKind → List ScopeKind
behind_mark owner [] = []
behind_mark owner (k ∷ chain) = cond (is_mark owner k) chain (behind_mark owner chain)

abbrev pub scopes_behind : List ScopeKind → List ScopeKind
scopes_behind [] = []
scopes_behind (k ∷ chain) = chain

-- the scope in which an element is made, where it is that at hand
abbrev pub is_each : ScopeKind → Bool
is_each (Each node copies) = true
is_each kind = false

abbrev pub behind_each : List ScopeKind → List ScopeKind
behind_each [] = []
behind_each (k ∷ chain) = cond (is_each k) chain (k ∷ chain)

-- objects of an owner wait, and then comes its mark: objects that all are destroyed on each way out, or none of them
abbrev pub Closes : Owner → (always : Bool) → List ScopeKind → Type 0
Closes owner always [] = ⊥
Closes owner always (Mark other ∷ chain) = same_owner other owner ≡ true
Closes owner always (Waits other each address id first ∷ chain) = (same_owner other owner ≡ true) × (each ≡ always) × Closes owner always chain
Closes owner always (kind ∷ chain) = ⊥

-- ---- what waits

-- how many words lie on the stack for it
abbrev pub words_in : ScopeKind → ℕ
words_in (Waits owner always (Frame offset) id first) = 0
words_in (Waits owner always (Word offset) id first) = 1
words_in (Waits owner always (OfNode other) id first) = 0
words_in kind = 0

abbrev pub words_of_all : List ScopeKind → ℕ
words_of_all [] = 0
words_of_all (k ∷ chain) = more_by (words_in k) (words_of_all chain)

module _ (g : Setting) where
  -- where a waiting object lies; a word is the first of these terms
  abbrev pub spot_with : Address → List Term → Spot
  spot_with (Frame offset) ts = at_word (local offset)
  spot_with (Word offset) ts = at_word (plus_number (first_word ts) offset)
  spot_with (OfNode id) ts = at_tree (tree_in g id)

  abbrev pub waiting_with : ScopeKind → List Term → List Waiting
  waiting_with (Waits owner always address id first) ts =
      record { address = spot_with address ts; destroys = trees_in g (kids_from (node_in g id) first) } ∷ []
  waiting_with kind ts = []

  -- the objects of these scopes, each with a word of its own
  abbrev pub waitings : List ScopeKind → List Term → List Waiting
  waitings [] ts = []
  waitings (k ∷ chain) ts = waiting_with k ts ++ waitings chain (behind (words_in k) ts)

  -- the parts of one object, with its word
  abbrev pub part_waitings : List ScopeKind → Term → List Waiting
  part_waitings [] t = []
  part_waitings (k ∷ chain) t = waiting_with k (t ∷ []) ++ part_waitings chain t

  -- the first elements of an array, the last of them first
  abbrev pub element_waitings : TNodeId → (stride : ℕ) → Term → (built : ℕ) → List Waiting
  element_waitings id stride t zero = []
  element_waitings id stride t (suc n) =
      waiting (at_word (plus_number t (n * stride))) (trees_in g (kids_from (node_in g id) 1)) (element_waitings id stride t n)
