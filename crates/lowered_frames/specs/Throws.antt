-- What is left to write where an exception is made, caught, or on its way out.
use Rattle.std.specs.Prelude.{ℕ, suc, ◌≡◌, ◌*◌, Bool, true, false, List, [], ◌∷◌, length}
use Rattle.cpp_tree.specs.tx_ints.declared.kinds.IntKind.{IntKind}
use Rattle.cpp_tree.specs.cpp_types.Typ.{Typ}
use Rattle.cpp_tree.specs.cpp_types.declared.classes.At.{At}
use Rattle.cpp_tree.specs.cpp_layout.Layout.{kind_size}
use Rattle.cpp_tree.specs.Trees.{typ_in}
use Rattle.cpp_tree.specs.declared.arena.TNodeId.{TNodeId}
use Rattle.cpp_tree.specs.declared.kinds.TKind.{TKind}
use Rattle.cpp_tree.specs.declared.kinds.TKind.TheVariants.{Field}
use Rattle.low_code.specs.declared.scopes.Owner.{Owner}
use Rattle.low_code.specs.declared.scopes.Owner.TheVariants.{Parts as OfParts}
use Rattle.low_code.specs.declared.scopes.ScopeKind.{ScopeKind}
use Rattle.low_code.specs.Nodes.{kid_in}
use Rattle.src_mean.specs.Exceptions.{thrown_typ, is_object_typ}
use Rattle.symbolic_source.specs.Terms.{Term, Exception, Puts, untouched, put, number, local, plus_number}
use Rattle.symbolic_source.specs.Frames.{value, throws, Frame, Then, Leaves, Cleans, Throws, Fills, Filled, Tries, Takes, Handling}
use Rattle.symbolic_source.specs.Steps.{first_word}
use Rattle.unwind_lower.specs.declared.items.Way.TheVariants.{Dropped}
use Rattle.unwind_lower.specs.declared.items.Item.{Item}
use Rattle.unwind_lower.specs.declared.items.Item.TheVariants.{Run, Thrown, TryDone, Handle, HandlerDone, Pads, Resume}
use Rattle.unwind_lower.specs.Settings.{Setting, node_in}
use Rattle.unwind_lower.specs.Kids.{kids_from}
use Rattle.lowered_frames.specs.Lists.{others, firsts, first_exception}
use Rattle.lowered_frames.specs.Modes.{Mode, top, gone, tree_in, trees_in}
use Rattle.lowered_frames.specs.Chains.{before_mark, behind_mark, scopes_behind, waitings, words_of_all, part_waitings, element_waitings}

-- the type of what a node throws
abbrev pub thrown_in : Setting → TNodeId → Typ
thrown_in g id = thrown_typ (typ_in (tree_in g (kid_in (node_in g id).kids 0)))

-- scalars that were put, the last one first
abbrev pub put_as : TKind → Term → Puts → Puts
put_as (Field offset kind) w puts = put offset (kind_size kind) w puts
put_as kind w puts = puts

abbrev pub puts_with : Setting → List TNodeId → List Term → Puts
puts_with g [] ts = untouched
puts_with g (id ∷ ids) ts = put_as (node_in g id).kind (first_word ts) (puts_with g ids (others ts))

pub data Throwing (g : Setting) : Mode → List Item → Mode → List Item → Type 0 where
  -- what is thrown lies on top
  throwing : {m : Mode} {items : List Item} (id : TNodeId) → Throwing g top (Thrown id ∷ items) m items
  -- some scalars of an object have been put into the exception; then the next one is read
  fills : {m : Mode} {items : List Item} (id : TNodeId) (done ids : List TNodeId) → is_object_typ (thrown_in g id) ≡ true
      → Throwing g gone (Thrown id ∷ items) m items
  filled : {m : Mode} {items : List Item} (id field : TNodeId) (done ids : List TNodeId) (offset : ℕ) (kind : IntKind)
      → is_object_typ (thrown_in g id) ≡ true → (node_in g field).kind ≡ Field offset kind → Throwing g top (Thrown id ∷ items) m items
  -- a scalar is thrown, and it lies on top or has been put
  fills_scalar : {m : Mode} {items : List Item} (id : TNodeId) → is_object_typ (thrown_in g id) ≡ false → Throwing g gone (Thrown id ∷ items) m items
  scalar_filled : {m : Mode} {items : List Item} (id field : TNodeId) (ids : List TNodeId) → is_object_typ (thrown_in g id) ≡ false
      → Throwing g gone (Thrown id ∷ items) m items
  -- handlers
  try_done : {items : List Item} (id : TNodeId) (scope : ℕ) → Throwing g gone (TryDone id scope ∷ items) gone items
  handle : {items : List Item} (id : TNodeId) (scope : ℕ) (live : Bool) → Throwing g gone (Handle id scope live ∷ items) gone items
  -- scalars of the exception are still to be stored in the object at this offset; then the handler's body is run
  takes : {items : List Item} (offset : ℕ) (ids : List TNodeId) (body : TNodeId) (handler scope : ℕ) (at : At)
      → Throwing g gone (Run body Dropped ∷ HandlerDone handler scope at ∷ items) gone (HandlerDone handler scope at ∷ items)
  handler_done : {items : List Item} (handler scope : ℕ) (at : At) → Throwing g gone (HandlerDone handler scope at ∷ items) gone items
  -- an exception leaves what these items stand in; before, the objects of an owner are destroyed, or the parts or elements of an object that were built
  flies : {m : Mode} {items : List Item} (at : At) (next : ℕ) → Throwing g gone (Resume at ∷ Pads next ∷ []) m items
  flies_cleaning : {m : Mode} {items : List Item} (owner : Owner) (at : At) (next : ℕ) → Throwing g gone (Resume at ∷ Pads next ∷ []) m items
  flies_parts : {m : Mode} {items : List Item} (at : At) (next : ℕ) → Throwing g gone (Resume at ∷ Pads next ∷ []) m items
  flies_elements : {m : Mode} {items : List Item} (id : TNodeId) (stride built : ℕ) (at : At) (next : ℕ)
      → Throwing g gone (Resume at ∷ Pads next ∷ []) m items

module _ (g : Setting) where
  abbrev pub throwing_frames : {m n : Mode} {from to : List Item} → Throwing g m from n to → List ScopeKind → List Exception → List Term → List Frame
  throwing_frames (throwing id) chain es ts = Throws (thrown_in g id) (trees_in g (kids_from (node_in g id) 1)) ∷ []
  throwing_frames (fills id done ids o) chain es ts = Fills (thrown_in g id) (first_word ts) (trees_in g ids) (puts_with g done (others ts)) ∷ []
  throwing_frames (filled id field done ids offset kind o is) chain es ts =
      Filled (thrown_in g id) (first_word ts) offset kind (trees_in g ids) (puts_with g done (others ts)) ∷ []
  throwing_frames (fills_scalar id o) chain es ts = Fills (thrown_in g id) (first_word ts) (trees_in g (kids_from (node_in g id) 1)) untouched ∷ []
  throwing_frames (scalar_filled id field ids o) chain es ts =
      Fills (thrown_in g id) (first_word ts) (trees_in g ids) (put_as (node_in g field).kind (first_word ts) untouched) ∷ []
  throwing_frames (try_done id scope) chain es ts = Tries (trees_in g (kids_from (node_in g id) 1)) ∷ []
  throwing_frames (handle id scope live) chain es ts = []
  throwing_frames (takes offset ids body handler scope at) chain es ts = Takes (first_exception es) (local offset) (trees_in g ids) ∷ Then value (tree_in g body) ∷ []
  throwing_frames (handler_done handler scope at) chain es ts = Handling (first_exception es) ∷ []
  throwing_frames (flies at next) chain es ts = Leaves (throws (first_exception es)) ∷ []
  throwing_frames (flies_cleaning owner at next) chain es ts = Cleans (waitings g (before_mark owner chain) ts) ∷ Leaves (throws (first_exception es)) ∷ []
  throwing_frames (flies_parts at next) chain es ts = Cleans (part_waitings g (before_mark OfParts chain) (first_word ts)) ∷ Leaves (throws (first_exception es)) ∷ []
  throwing_frames (flies_elements id stride built at next) chain es ts =
      Cleans (element_waitings g id stride (first_word ts) built) ∷ Leaves (throws (first_exception es)) ∷ []

  abbrev pub throwing_words : {m n : Mode} {from to : List Item} → Throwing g m from n to → List ScopeKind → List Term → List Term
  throwing_words (throwing id) chain ts = []
  throwing_words (fills id done ids o) chain ts = first_word ts ∷ []
  throwing_words (filled id field done ids offset kind o is) chain ts = first_word ts ∷ []
  throwing_words (fills_scalar id o) chain ts = first_word ts ∷ []
  throwing_words (scalar_filled id field ids o) chain ts = []
  throwing_words (try_done id scope) chain ts = []
  throwing_words (handle id scope live) chain ts = []
  throwing_words (takes offset ids body handler scope at) chain ts = []
  throwing_words (handler_done handler scope at) chain ts = []
  throwing_words (flies at next) chain ts = []
  throwing_words (flies_cleaning owner at next) chain ts = firsts (words_of_all (before_mark owner chain)) ts
  throwing_words (flies_parts at next) chain ts = first_word ts ∷ []
  throwing_words (flies_elements id stride built at next) chain ts = number built ∷ plus_number (first_word ts) (built * stride) ∷ []

  abbrev pub throwing_count : {m n : Mode} {from to : List Item} → Throwing g m from n to → List ScopeKind → ℕ
  throwing_count (throwing id) chain = 0
  throwing_count (fills id done ids o) chain = suc (length done)
  throwing_count (filled id field done ids offset kind o is) chain = suc (length done)
  throwing_count (fills_scalar id o) chain = 1
  throwing_count (scalar_filled id field ids o) chain = 1
  throwing_count (try_done id scope) chain = 0
  throwing_count (handle id scope live) chain = 0
  throwing_count (takes offset ids body handler scope at) chain = 0
  throwing_count (handler_done handler scope at) chain = 0
  throwing_count (flies at next) chain = 0
  throwing_count (flies_cleaning owner at next) chain = words_of_all (before_mark owner chain)
  throwing_count (flies_parts at next) chain = 1
  throwing_count (flies_elements id stride built at next) chain = 1

  -- how many exceptions it takes off
  abbrev pub throwing_exceptions : {m n : Mode} {from to : List Item} → Throwing g m from n to → ℕ
  throwing_exceptions (handler_done handler scope at) = 1
  throwing_exceptions (flies at next) = 1
  throwing_exceptions (flies_cleaning owner at next) = 1
  throwing_exceptions (flies_parts at next) = 1
  throwing_exceptions (flies_elements id stride built at next) = 1
  throwing_exceptions h = 0

  -- that of an entered handler
  abbrev pub throwing_handled : {m n : Mode} {from to : List Item} → Throwing g m from n to → List Exception → List Exception
  throwing_handled (handler_done handler scope at) es = first_exception es ∷ []
  throwing_handled h es = []

  -- the scopes around what comes behind
  abbrev pub throwing_scopes : {m n : Mode} {from to : List Item} → Throwing g m from n to → List ScopeKind → List ScopeKind
  throwing_scopes (try_done id scope) chain = scopes_behind chain
  throwing_scopes (handler_done handler scope at) chain = scopes_behind chain
  throwing_scopes (flies_cleaning owner at next) chain = behind_mark owner chain
  throwing_scopes (flies_parts at next) chain = behind_mark OfParts chain
  throwing_scopes h chain = chain
