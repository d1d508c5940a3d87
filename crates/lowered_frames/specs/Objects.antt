-- What is left to write of objects: what makes them, part by part, and what destroys them.
use Rattle.std.specs.Prelude.{ℕ, suc, ◌≡◌, ◌≤◌, ◌+◌, ◌-◌, ◌*◌, true, false, List, [], ◌∷◌}
use Rattle.cpp_tree.specs.Trees.{none}
use Rattle.cpp_tree.specs.cpp_types.declared.classes.At.{At}
use Rattle.cpp_tree.specs.declared.arena.TNodeId.{TNodeId}
use Rattle.cpp_tree.specs.declared.kinds.TKind.TheVariants.{Local, Materialize, Piece, Elements, Destroy as DestroyRow}
use Rattle.tx_code.specs.declared.instr.Instr.TheVariants.{Dup, FrameAddr}
use Rattle.low_code.specs.declared.scopes.Owner.TheVariants.{Parts as OfParts}
use Rattle.low_code.specs.declared.scopes.ScopeKind.{ScopeKind}
use Rattle.low_code.specs.Nodes.{kid_in}
use Rattle.src_mean.specs.Frames.{of_block, of_call, of_pieces}
use Rattle.symbolic_source.specs.Terms.{Term, number, local, plus_number}
use Rattle.symbolic_source.specs.Frames.{at_word, into, Frame, Run, Gives, Keeps, Scope, Waits, InitAt, Due, Destroys, Parts, Each}
use Rattle.symbolic_source.specs.Steps.{first_word, second_word}
use Rattle.unwind_lower.specs.declared.items.Way.{Way}
use Rattle.unwind_lower.specs.declared.items.Way.TheVariants.{Value, Dropped, Into, Copying}
use Rattle.unwind_lower.specs.declared.items.Item.{Item}
use Rattle.unwind_lower.specs.declared.items.Item.TheVariants.{Run as RunIt, Put, Made, PartMade, VariableMade, MemberMade, CloseParts, ElementMade, Destroy}
use Rattle.unwind_lower.specs.Settings.{Setting, node_in, place_in}
use Rattle.unwind_lower.specs.Kids.{kids_from}
use Rattle.lowered_frames.specs.Modes.{Mode, top, doubled, gone, way_words, all_run, tree_in, trees_in}
use Rattle.lowered_frames.specs.Chains.{before_mark, behind_mark, behind_each, part_waitings, element_waitings}

-- a node is run into an object, or as a copy into it
abbrev pub Builds : Way → Type 0
Builds Into = Unit {0}
Builds Copying = Unit {0}
Builds way = ⊥

-- parts of an object that are still to be made
abbrev pub part_items : Way → List TNodeId → At → List Item → List Item
part_items way ids at items = all_run way ids (CloseParts way at ∷ items)

-- what lies on the stack where an element is to be made, and where it is being made; so many are left, that one included, and in a copy the addresses
-- are those of the next one then
abbrev pub round_words : Way → (left offset : ℕ) → List Term → List Term
round_words Into left offset ts = number left ∷ plus_number (first_word ts) offset ∷ []
round_words Copying left offset ts = number left ∷ plus_number (second_word ts) offset ∷ plus_number (first_word ts) offset ∷ []
round_words Value left offset ts = []
round_words Dropped left offset ts = []

abbrev pub making_words : Way → (left offset stride : ℕ) → List Term → List Term
making_words Into left offset stride ts = round_words Into left offset ts
making_words Copying left offset stride ts = round_words Copying (left - 1) (offset + stride) ts
making_words Value left offset stride ts = []
making_words Dropped left offset stride ts = []

-- the address stays below where more rows of destructions come
abbrev pub kept_for : List TNodeId → Term → List Term
kept_for [] t = []
kept_for (id ∷ ids) t = t ∷ []

pub data Making (g : Setting) : Mode → List Item → Mode → List Item → Type 0 where
  -- a temporary or an argument object, and its address
  temporary_made : {items : List Item} (id : TNodeId) (place : ℕ) (at : At) → (node_in g id).kind ≡ Materialize place false
      → Making g gone (Made id ∷ Put (FrameAddr (place_in g place)) at ∷ items) top items
  argument_made : {items : List Item} (id : TNodeId) (place : ℕ) (at : At) → (node_in g id).kind ≡ Materialize place true
      → Making g gone (Made id ∷ Put (FrameAddr (place_in g place)) at ∷ items) top items
  -- an initialisation: the address lies on top, and then the node is run
  init_plain : {items : List Item} (id : TNodeId) → kids_from (node_in g id) 2 ≡ []
      → Making g top (RunIt (kid_in (node_in g id).kids 1) Into ∷ items) gone items
  plain_made : {items : List Item} → Making g gone items gone items
  init_variable : {items : List Item} (id : TNodeId) (place : ℕ) → (node_in g (kid_in (node_in g id).kids 0)).kind ≡ Local place
      → Making g gone (RunIt (kid_in (node_in g id).kids 1) Into ∷ VariableMade id ∷ items) gone items
  variable_made : {items : List Item} (id : TNodeId) (place : ℕ) → (node_in g (kid_in (node_in g id).kids 0)).kind ≡ Local place
      → Making g gone (VariableMade id ∷ items) gone items
  init_member : {items : List Item} (id : TNodeId) (at : At)
      → Making g top (Put Dup at ∷ RunIt (kid_in (node_in g id).kids 1) Into ∷ MemberMade id ∷ items) gone items
  init_doubled : {items : List Item} (id : TNodeId) → Making g doubled (RunIt (kid_in (node_in g id).kids 1) Into ∷ MemberMade id ∷ items) gone items
  member_made : {items : List Item} (id : TNodeId) → Making g gone (MemberMade id ∷ items) gone items
  -- parts: their whole's address, and that of what is copied, stay on top
  parts : {items : List Item} (way : Way) (ids : List TNodeId) (at : At) → Builds way → Making g gone (part_items way ids at items) gone items
  part : {items : List Item} (id : TNodeId) (way : Way) (ids : List TNodeId) (at : At) → Builds way
      → Making g gone (RunIt id way ∷ part_items way ids at items) gone items
  part_made : {items : List Item} (id : TNodeId) (offset : ℕ) (way : Way) (ids : List TNodeId) (at : At) → Builds way → (node_in g id).kind ≡ Piece offset
      → Making g gone (PartMade id way ∷ part_items way ids at items) gone items
  -- so many elements are built; another one is made then
  each : {items : List Item} (id : TNodeId) (count stride built : ℕ) (way : Way) (first scope : ℕ) → Builds way → (node_in g id).kind ≡ Elements count stride
      → built ≤ count → Making g gone (ElementMade id way first scope ∷ items) gone items
  element : {items : List Item} (id : TNodeId) (count stride built : ℕ) (way : Way) (first scope : ℕ) → Builds way → (node_in g id).kind ≡ Elements count stride
      → built + 1 ≤ count → Making g gone (ElementMade id way first scope ∷ items) gone items
  -- destructions at the address on top: rows of them, and in a row so many objects that are left
  due : {items : List Item} (id : TNodeId) (first : ℕ) → Making g top (Destroy id first ∷ items) gone items
  destroying : {items : List Item} (id : TNodeId) (first : ℕ) (row : TNodeId) (func offset count stride left : ℕ) → (ids : List TNodeId)
      → kids_from (node_in g id) first ≡ row ∷ ids → (node_in g row).kind ≡ DestroyRow func offset count stride
      → Making g gone (Destroy id first ∷ items) gone items

module _ (g : Setting) (number_of : ℕ → ℕ) where
  abbrev pub making_frames : {m n : Mode} {from to : List Item} → Making g m from n to → List ScopeKind → List Term → List Frame
  making_frames (temporary_made id place at is) chain ts = Keeps (at_word (local (place_in g place))) (trees_in g (kids_from (node_in g id) 1)) ∷ Gives (local (place_in g place)) ∷ []
  making_frames (argument_made id place at is) chain ts =
      Waits of_call (at_word (local (place_in g place))) (trees_in g (kids_from (node_in g id) 1)) ∷ Gives (local (place_in g place)) ∷ []
  making_frames (init_plain id e) chain ts = InitAt (tree_in g (kid_in (node_in g id).kids 1)) none ∷ []
  making_frames plain_made chain ts = Waits of_block (at_word (first_word ts)) none ∷ []
  making_frames (init_variable id place is) chain ts =
      Gives (local (place_in g place)) ∷ InitAt (tree_in g (kid_in (node_in g id).kids 1)) (trees_in g (kids_from (node_in g id) 2)) ∷ []
  making_frames (variable_made id place is) chain ts = Waits of_block (at_word (local (place_in g place))) (trees_in g (kids_from (node_in g id) 2)) ∷ []
  making_frames (init_member id at) chain ts = InitAt (tree_in g (kid_in (node_in g id).kids 1)) (trees_in g (kids_from (node_in g id) 2)) ∷ []
  making_frames (init_doubled id) chain ts = InitAt (tree_in g (kid_in (node_in g id).kids 1)) (trees_in g (kids_from (node_in g id) 2)) ∷ []
  making_frames (member_made id) chain ts = Waits of_block (at_word (first_word ts)) (trees_in g (kids_from (node_in g id) 2)) ∷ []
  making_frames (parts way ids at b) chain ts = Parts (trees_in g ids) (first_word ts) (second_word ts)
      ∷ Scope of_pieces false (part_waitings g (before_mark OfParts chain) (first_word ts)) ∷ []
  making_frames (part id way ids at b) chain ts = Run (into (first_word ts) (second_word ts)) (tree_in g id)
      ∷ Parts (trees_in g ids) (first_word ts) (second_word ts)
      ∷ Scope of_pieces false (part_waitings g (before_mark OfParts chain) (first_word ts)) ∷ []
  making_frames (part_made id offset way ids at b is) chain ts =
      Waits of_pieces (at_word (plus_number (first_word ts) offset)) (trees_in g (kids_from (node_in g id) 1))
      ∷ Parts (trees_in g ids) (first_word ts) (second_word ts)
      ∷ Scope of_pieces false (part_waitings g (before_mark OfParts chain) (first_word ts)) ∷ []
  making_frames (each id count stride built way first scope b is e) chain ts =
      Each (tree_in g (kid_in (node_in g id).kids 0)) (trees_in g (kids_from (node_in g id) 1)) stride (number (count - built))
      (plus_number (first_word ts) (built * stride)) (plus_number (second_word ts) (built * stride))
      ∷ Scope of_pieces false (element_waitings g id stride (first_word ts) built) ∷ []
  making_frames (element id count stride built way first scope b is e) chain ts =
      Waits of_pieces (at_word (plus_number (first_word ts) (built * stride))) (trees_in g (kids_from (node_in g id) 1))
      ∷ Each (tree_in g (kid_in (node_in g id).kids 0)) (trees_in g (kids_from (node_in g id) 1)) stride (number (count - suc built))
      (plus_number (first_word ts) (suc built * stride)) (plus_number (second_word ts) (suc built * stride))
      ∷ Scope of_pieces false (element_waitings g id stride (first_word ts) built) ∷ []
  making_frames (due id first) chain ts = Due (trees_in g (kids_from (node_in g id) first)) ∷ []
  making_frames (destroying id first row func offset count stride left ids rows is) chain ts =
      Destroys (number_of func) (plus_number (first_word ts) offset) stride (number left) ∷ Gives (first_word ts) ∷ Due (trees_in g ids) ∷ []

module _ (g : Setting) where
  abbrev pub making_words_of : {m n : Mode} {from to : List Item} → Making g m from n to → List Term → List Term
  making_words_of (temporary_made id place at is) ts = []
  making_words_of (argument_made id place at is) ts = []
  making_words_of (init_plain id e) ts = []
  making_words_of plain_made ts = []
  making_words_of (init_variable id place is) ts = local (place_in g place) ∷ []
  making_words_of (variable_made id place is) ts = []
  making_words_of (init_member id at) ts = []
  making_words_of (init_doubled id) ts = []
  making_words_of (member_made id) ts = first_word ts ∷ []
  making_words_of (parts way ids at b) ts = way_words way ts
  making_words_of (part id way ids at b) ts = way_words way ts
  making_words_of (part_made id offset way ids at b is) ts = way_words way ts
  making_words_of (each id count stride built way first scope b is e) ts = round_words way (count - built) (built * stride) ts
  making_words_of (element id count stride built way first scope b is e) ts = making_words way (count - built) (built * stride) stride ts
  making_words_of (due id first) ts = []
  making_words_of (destroying id first row func offset count stride left ids rows is) ts =
      number left ∷ plus_number (first_word ts) offset ∷ kept_for ids (first_word ts)

  abbrev pub making_count : {m n : Mode} {from to : List Item} → Making g m from n to → ℕ
  making_count (temporary_made id place at is) = 0
  making_count (argument_made id place at is) = 0
  making_count (init_plain id e) = 0
  making_count plain_made = 1
  making_count (init_variable id place is) = 0
  making_count (variable_made id place is) = 0
  making_count (init_member id at) = 0
  making_count (init_doubled id) = 0
  making_count (member_made id) = 1
  making_count (parts way ids at b) = 2
  making_count (part id way ids at b) = 2
  making_count (part_made id offset way ids at b is) = 2
  making_count (each id count stride built way first scope b is e) = 2
  making_count (element id count stride built way first scope b is e) = 2
  making_count (due id first) = 0
  making_count (destroying id first row func offset count stride left ids rows is) = 1

  -- the scopes around what comes behind
  abbrev pub making_scopes : {m n : Mode} {from to : List Item} → Making g m from n to → List ScopeKind → List ScopeKind
  making_scopes (parts way ids at b) chain = behind_mark OfParts chain
  making_scopes (part id way ids at b) chain = behind_mark OfParts chain
  making_scopes (part_made id offset way ids at b is) chain = behind_mark OfParts chain
  making_scopes (each id count stride built way first scope b is e) chain = behind_each chain
  making_scopes (element id count stride built way first scope b is e) chain = behind_each chain
  making_scopes h chain = chain
