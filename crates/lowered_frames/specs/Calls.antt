-- What is left to write of calls.
use Rattle.std.specs.Prelude.{ℕ, suc, ◌≡◌, List, [], ◌∷◌, ◌++◌}
use Rattle.cpp_tree.specs.cpp_types.Typ.{Signature}
use Rattle.cpp_tree.specs.cpp_types.declared.classes.At.{At}
use Rattle.cpp_tree.specs.declared.arena.TNodeId.{TNodeId}
use Rattle.cpp_tree.specs.declared.kinds.Builtin.{Builtin}
use Rattle.cpp_tree.specs.declared.kinds.TKind.TheVariants.{VirtualCall}
use Rattle.tx_code.specs.declared.instr.Instr.TheVariants.{Swap}
use Rattle.low_code.specs.declared.scopes.Owner.TheVariants.{Call as OfCall}
use Rattle.low_code.specs.declared.scopes.ScopeKind.{ScopeKind}
use Rattle.symbolic_source.specs.Terms.{Term, slot_function}
use Rattle.symbolic_source.specs.Frames.{value, Callee, known, virtual, pointer, builtin, Frame, Run, Words, Object, Slot, Pointer}
use Rattle.symbolic_source.specs.Steps.{first_word}
use Rattle.unwind_lower.specs.declared.items.Way.{Way}
use Rattle.unwind_lower.specs.declared.items.Way.TheVariants.{Value, Into}
use Rattle.unwind_lower.specs.declared.items.Item.{Item}
use Rattle.unwind_lower.specs.declared.items.Item.TheVariants.{Put, Slot as SlotIt, Invoke, Close}
use Rattle.unwind_lower.specs.Settings.{Setting, node_in}
use Rattle.lowered_frames.specs.Lists.{others, behind, firsts, turned, more_by}
use Rattle.lowered_frames.specs.Modes.{Mode, top, second, gone, way_with, way_words, way_count, result_with, result_count, all_run, tree_in, trees_in}
use Rattle.lowered_frames.specs.Chains.{scopes_behind}

-- what is called
pub data Called : Type 0 where
  by_name : (func : ℕ) → Called
  by_slot : (class slot : ℕ) → Called  -- of the class at an address, which is a term
  by_pointer : Signature → Called  -- the address is a term
  built_in : Builtin → Called

abbrev pub called_count : Called → ℕ
called_count (by_name func) = 0
called_count (by_slot class slot) = 1
called_count (by_pointer sig) = 1
called_count (built_in which) = 0

abbrev pub called_with : (number : ℕ → ℕ) → Called → List Term → Callee
called_with number (by_name func) ts = known (number func)
called_with number (by_slot class slot) ts = virtual class slot (first_word ts)
called_with number (by_pointer sig) ts = pointer (first_word ts) sig
called_with number (built_in which) ts = builtin which

-- the word that lies below those of the call
abbrev pub called_words : Called → List Term → List Term
called_words (by_name func) ts = []
called_words (by_slot class slot) ts = slot_function class slot (first_word ts) ∷ []
called_words (by_pointer sig) ts = first_word ts ∷ []
called_words (built_in which) ts = []

-- the words of a call and the call, in the scope of its argument objects
abbrev pub call_items : List TNodeId → TNodeId → Way → At → List Item → List Item
call_items ids id way at items = all_run Value ids (Invoke id way ∷ Close OfCall at ∷ items)

pub data Calling (g : Setting) : Mode → List Item → Mode → List Item → Type 0 where
  -- so many words lie below that on top, and these nodes give those behind it
  words : {m : Mode} {items : List Item} (c : Called) (n : ℕ) (ids : List TNodeId) (id : TNodeId) (way : Way)
      → Calling g top (all_run Value ids (Invoke id way ∷ items)) m items
  -- a call without words: the scope of its arguments is entered here, and in the source with the call
  bare : {m : Mode} {items : List Item} (id : TNodeId) (way : Way) (at : At) → Calling g gone (Invoke id way ∷ Close OfCall at ∷ items) m items
  bare_built_in : {m : Mode} {items : List Item} (id : TNodeId) (way : Way) → Calling g gone (Invoke id way ∷ items) m items
  -- the object of a virtual call lies on top; then the address of its class lies on it
  object : {m : Mode} {items : List Item} (id : TNodeId) (way : Way) (ids : List TNodeId) (at : At) (func class slot offset : ℕ)
      → (node_in g id).kind ≡ VirtualCall func class slot offset → Calling g top (SlotIt id way ∷ call_items ids id way at items) m items
  found : {m : Mode} {items : List Item} (id : TNodeId) (way : Way) (ids : List TNodeId) (at : At) (func class slot offset : ℕ)
      → (node_in g id).kind ≡ VirtualCall func class slot offset → Calling g top (SlotIt id way ∷ call_items ids id way at items) m items
  -- a pointer lies on top; it goes below the address of a class result
  pointer_on_top : {m : Mode} {items : List Item} (sig : Signature) (ids : List TNodeId) (id : TNodeId) (way : Way) (at : At)
      → Calling g top (call_items ids id way at items) m items
  pointer_and_result : {m : Mode} {items : List Item} (sig : Signature) (ids : List TNodeId) (id : TNodeId) (place at : At)
      → Calling g top (Put Swap place ∷ call_items ids id Into at items) m items
  pointer_below : {m : Mode} {items : List Item} (sig : Signature) (ids : List TNodeId) (id : TNodeId) (at : At)
      → Calling g second (call_items ids id Into at items) m items

module _ (g : Setting) (number : ℕ → ℕ) where
  abbrev pub call_frames : {m n : Mode} {from to : List Item} → Calling g m from n to → List Term → List Frame
  call_frames (words c n ids id way) ts = Words (called_with number c (behind n ts)) (turned n ts) (trees_in g ids) ∷ []
  call_frames (bare id way at) ts = Run (way_with way ts) (tree_in g id) ∷ []
  call_frames (bare_built_in id way) ts = Run value (tree_in g id) ∷ []
  call_frames (object id way ids at func class slot offset is) ts = Object (result_with way ts) class slot offset (trees_in g ids) ∷ []
  call_frames (found id way ids at func class slot offset is) ts = Slot (result_with way (others ts) ++ first_word ts ∷ []) class slot (trees_in g ids) ∷ []
  call_frames (pointer_on_top sig ids id way at) ts = Pointer [] sig (trees_in g ids) ∷ []
  call_frames (pointer_and_result sig ids id place at) ts = Pointer (first_word ts ∷ []) sig (trees_in g ids) ∷ []
  call_frames (pointer_below sig ids id at) ts = Pointer (first_word ts ∷ []) sig (trees_in g ids) ∷ []

module _ (g : Setting) where
  abbrev pub call_words : {m n : Mode} {from to : List Item} → Calling g m from n to → List Term → List Term
  call_words (words c n ids id way) ts = firsts n ts ++ called_words c (behind n ts)
  call_words (bare id way at) ts = way_words way ts
  call_words (bare_built_in id way) ts = []
  call_words (object id way ids at func class slot offset is) ts = result_with way ts
  call_words (found id way ids at func class slot offset is) ts = first_word ts ∷ result_with way (others ts)
  call_words (pointer_on_top sig ids id way at) ts = []
  call_words (pointer_and_result sig ids id place at) ts = first_word ts ∷ []
  call_words (pointer_below sig ids id at) ts = first_word ts ∷ []

  abbrev pub call_count : {m n : Mode} {from to : List Item} → Calling g m from n to → ℕ
  call_count (words c n ids id way) = more_by n (called_count c)
  call_count (bare id way at) = way_count way
  call_count (bare_built_in id way) = 0
  call_count (object id way ids at func class slot offset is) = result_count way
  call_count (found id way ids at func class slot offset is) = suc (result_count way)
  call_count (pointer_on_top sig ids id way at) = 0
  call_count (pointer_and_result sig ids id place at) = 1
  call_count (pointer_below sig ids id at) = 1

  -- the scopes around what comes behind
  abbrev pub call_scopes : {m n : Mode} {from to : List Item} → Calling g m from n to → List ScopeKind → List ScopeKind
  call_scopes (words c n ids id way) chain = chain
  call_scopes (bare id way at) chain = scopes_behind chain
  call_scopes (bare_built_in id way) chain = chain
  call_scopes (object id way ids at func class slot offset is) chain = scopes_behind chain
  call_scopes (found id way ids at func class slot offset is) chain = scopes_behind chain
  call_scopes (pointer_on_top sig ids id way at) chain = scopes_behind chain
  call_scopes (pointer_and_result sig ids id place at) chain = scopes_behind chain
  call_scopes (pointer_below sig ids id at) chain = scopes_behind chain
