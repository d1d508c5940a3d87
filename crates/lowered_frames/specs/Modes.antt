-- Where the value lies that is given, and how a node that is run takes words and leaves its value.
use Rattle.std.specs.Prelude.{ℕ, ◌≡◌, Bool, true, false, List, [], ◌∷◌}
use Rattle.cpp_tree.specs.Trees.{Tree, Trees}
use Rattle.cpp_tree.specs.Arena.{trees_of, tree_at, trees_at}
use Rattle.cpp_tree.specs.declared.arena.TNodeId.{TNodeId}
use Rattle.cpp_tree.specs.declared.kinds.TKind.TheVariants.{Block as BlockNode}
use Rattle.low_code.specs.Nodes.{Node}
use Rattle.low_code.specs.Types.{is_void}
use Rattle.symbolic_source.specs.Terms.{Term}
use Rattle.symbolic_source.specs.Frames.{value, into}
use Rattle.symbolic_source.specs.Frames as symbolic
use Rattle.symbolic_source.specs.Steps.{first_word, second_word}
use Rattle.unwind_lower.specs.declared.items.Way.{Way}
use Rattle.unwind_lower.specs.declared.items.Way.TheVariants.{Value, Dropped, Into, Copying}
use Rattle.unwind_lower.specs.declared.items.Item.{Item}
use Rattle.unwind_lower.specs.declared.items.Item.TheVariants.{Run}
use Rattle.unwind_lower.specs.Settings.{Setting}
use Rattle.lowered_frames.specs.Lists.{others}

-- ---- trees

-- the tree of a node
unfoldable pub tree_in : Setting → TNodeId → Tree
tree_in g id = tree_at (trees_of g.unit.nodes.items) id

unfoldable pub trees_in : Setting → List TNodeId → Trees
trees_in g ids = trees_at (trees_of g.unit.nodes.items) ids

-- ---- the value

pub data Mode : Type 0 where
  top : Mode  -- on top, once
  doubled : Mode  -- on top, twice
  tripled : Mode
  second : Mode  -- below another word
  gone : Mode  -- nowhere
  nought : Mode  -- nowhere, and it is 0

-- the operands with the value
abbrev pub topped : Mode → Term → List Term → List Term
topped top v ws = v ∷ ws
topped doubled v ws = v ∷ v ∷ ws
topped tripled v ws = v ∷ v ∷ v ∷ ws
topped second v ws = first_word ws ∷ v ∷ others ws
topped gone v ws = ws
topped nought v ws = ws

-- nothing of the value lies on the stack
abbrev pub IsBare : Mode → Type 0
IsBare gone = Unit {0}
IsBare nought = Unit {0}
IsBare m = ⊥

-- ---- ways

-- how a node that is run leaves its value
pub data After (n : Node) : Way → Mode → Type 0 where
  valued : is_void n.typ ≡ false → After n Value top
  void : is_void n.typ ≡ true → After n Value gone
  dropped : After n Dropped gone
  block : (subobjects : Bool) → n.kind ≡ BlockNode subobjects → After n Dropped nought
  built : After n Into gone
  copied : After n Copying gone

-- the way with its terms: what is built, and what is copied
abbrev pub way_with : Way → List Term → symbolic.Way
way_with Value ts = value
way_with Dropped ts = value
way_with Into ts = into (first_word ts) (second_word ts)
way_with Copying ts = into (first_word ts) (second_word ts)

abbrev pub way_count : Way → ℕ
way_count Value = 0
way_count Dropped = 0
way_count Into = 2
way_count Copying = 2

-- those that lie on top; what is not copied lies nowhere
abbrev pub way_words : Way → List Term → List Term
way_words Value ts = []
way_words Dropped ts = []
way_words Into ts = first_word ts ∷ []
way_words Copying ts = second_word ts ∷ first_word ts ∷ []

-- the address of a class result, which is the first word of a call
abbrev pub result_with : Way → List Term → List Term
result_with Value ts = []
result_with Dropped ts = []
result_with Into ts = first_word ts ∷ []
result_with Copying ts = []

abbrev pub result_count : Way → ℕ
result_count Value = 0
result_count Dropped = 0
result_count Into = 1
result_count Copying = 0

-- nodes that are run one behind the other
abbrev pub all_run : Way → List TNodeId → List Item → List Item
all_run way [] items = items
all_run way (id ∷ ids) items = Run id way ∷ all_run way ids items
