-- What is left to write of expressions without objects: patterns of items in front of others, each a frame of the source or none.
use Rattle.std.specs.Prelude.{ℕ, ◌≡◌, Bool, true, false, cond, List, [], ◌∷◌, Option}
use Rattle.cpp_tree.specs.tx_ints.declared.kinds.IntKind.{IntKind}
use Rattle.cpp_tree.specs.tx_ints.declared.kinds.BinOp.{BinOp}
use Rattle.cpp_tree.specs.cpp_types.declared.classes.At.{At}
use Rattle.cpp_tree.specs.declared.arena.TNodeId.{TNodeId}
use Rattle.tx_code.specs.declared.instr.Instr.TheVariants.{Push, Dup, Pop, Swap, Over, FrameAddr, Bin, Conv}
use Rattle.low_code.specs.declared.numbers.TheConstants.{ADDRESS}
use Rattle.low_code.specs.declared.writer.Jump.{Jump}
use Rattle.low_code.specs.Nodes.{kid_in}
use Rattle.low_code.specs.Numbers.{kind_number, operator_number, load, store, store_converted}
use Rattle.low_code.specs.Types.{is_void}
use Rattle.src_mean.specs.Frames.{Change}
use Rattle.symbolic_source.specs.Terms.{Term, number, local}
use Rattle.symbolic_source.specs.Frames.{Frame, Run, Then, Gives, Loads, StoreTo, Converts, Right, Apply, Choose, AssignTo, UpdateAt, UpdateOld, UpdateBy}
use Rattle.symbolic_source.specs.Frames.{CopyTo, CopyBy, From}
use Rattle.symbolic_source.specs.Steps.{first_word, second_word}
use Rattle.unwind_lower.specs.declared.items.Other.{Other as OtherPart}
use Rattle.unwind_lower.specs.declared.items.Way.{Way}
use Rattle.unwind_lower.specs.declared.items.Way.TheVariants.{Value, Copying}
use Rattle.unwind_lower.specs.declared.items.Item.{Item}
use Rattle.unwind_lower.specs.declared.items.Item.TheVariants.{Run as RunIt, Put, Branch, Other, Bind}
use Rattle.unwind_lower.specs.Settings.{Setting, node_in}
use Rattle.lowered_frames.specs.Modes.{Mode, top, doubled, tripled, second, gone, After, way_with, way_words, way_count, tree_in}

-- the right operand of an update, its operator and its store
abbrev pub update_by_node : Change → TNodeId → At → List Item → List Item
update_by_node c id at items = RunIt id Value ∷ Put (Bin (operator_number c.op) (kind_number c.operation)) at
    ∷ Put (store_converted c.stored c.volatile) at ∷ items

-- items and others behind them, with where the value lies before each
pub data Expression (g : Setting) : Mode → List Item → Mode → List Item → Type 0 where
  run : {m : Mode} {items : List Item} (id : TNodeId) (way : Way) → After (node_in g id) way m → Expression g gone (RunIt id way ∷ items) m items
  -- the second kid of a comma
  next : {m : Mode} {items : List Item} (id : TNodeId) (way : Way) → After (node_in g id) way m → Expression g gone (RunIt id way ∷ items) m items
  drop : {items : List Item} (at : At) → Expression g top (Put Pop at ∷ items) gone items
  -- a word that lies on top is the value
  gives : {items : List Item} → Expression g gone items top items
  gives_local : {items : List Item} (offset : ℕ) (at : At) → Expression g gone (Put (FrameAddr offset) at ∷ items) top items
  gives_number : {items : List Item} (n : ℕ) (at : At) → Expression g gone (Put (Push n) at ∷ items) top items
  loads : {items : List Item} (kind : IntKind) (volatile : Bool) (at : At) → Expression g top (Put (load kind volatile) at ∷ items) top items
  converts : {items : List Item} (to : IntKind) (at : At) → Expression g top (Put (Conv ADDRESS (kind_number to)) at ∷ items) top items
  right : {items : List Item} (op : BinOp) (kind : IntKind) (id : TNodeId) (at : At) → is_void (node_in g id).typ ≡ false
      → Expression g top (RunIt id Value ∷ Put (Bin (operator_number op) (kind_number kind)) at ∷ items) top items
  apply : {items : List Item} (op : BinOp) (kind : IntKind) (at : At) → Expression g top (Put (Bin (operator_number op) (kind_number kind)) at ∷ items) top items
  -- stores: of a scalar that is built; in an assignment, where the address lies below the word, and once more as the value
  stored : {items : List Item} (kind : IntKind) (volatile : Bool) (at : At) → Expression g top (Put (store kind volatile) at ∷ items) gone items
  assign_to : {items : List Item} (kind : IntKind) (volatile : Bool) (id : TNodeId) (at : At) → is_void (node_in g id).typ ≡ false
      → Expression g top (Put Dup at ∷ RunIt id Value ∷ Put (store kind volatile) at ∷ items) top items
  assigned : {items : List Item} (kind : IntKind) (volatile : Bool) (at : At) → Expression g top (Put (store kind volatile) at ∷ items) top items
  -- updates: the address is there once, twice, three times; then the old value lies on two of them
  update_new : {items : List Item} (c : Change) (id : TNodeId) (at : At) → c.old ≡ false → is_void (node_in g id).typ ≡ false
      → Expression g top (Put Dup at ∷ Put Dup at ∷ Put (load c.stored c.volatile) at ∷ update_by_node c id at items) top items
  update_doubled : {items : List Item} (c : Change) (id : TNodeId) (at : At) → c.old ≡ false → is_void (node_in g id).typ ≡ false
      → Expression g doubled (Put Dup at ∷ Put (load c.stored c.volatile) at ∷ update_by_node c id at items) top items
  update_tripled : {items : List Item} (c : Change) (id : TNodeId) (at : At) → c.old ≡ false → is_void (node_in g id).typ ≡ false
      → Expression g tripled (Put (load c.stored c.volatile) at ∷ update_by_node c id at items) top items
  update_read : {items : List Item} (c : Change) (id : TNodeId) (at : At) → c.old ≡ false → is_void (node_in g id).typ ≡ false
      → Expression g top (update_by_node c id at items) top items
  -- the same where the old value is the whole's: it comes below the address and once more above it
  update_old : {items : List Item} (c : Change) (id : TNodeId) (at : At) → c.old ≡ true → is_void (node_in g id).typ ≡ false
      → Expression g top (Put Dup at ∷ Put (load c.stored c.volatile) at ∷ Put Swap at ∷ Put Over at ∷ update_by_node c id at items) top items
  update_again : {items : List Item} (c : Change) (id : TNodeId) (at : At) → c.old ≡ true → is_void (node_in g id).typ ≡ false
      → Expression g doubled (Put (load c.stored c.volatile) at ∷ Put Swap at ∷ Put Over at ∷ update_by_node c id at items) top items
  update_swap : {items : List Item} (c : Change) (id : TNodeId) (at : At) → c.old ≡ true → is_void (node_in g id).typ ≡ false
      → Expression g top (Put Swap at ∷ Put Over at ∷ update_by_node c id at items) top items
  update_over : {items : List Item} (c : Change) (id : TNodeId) (at : At) → c.old ≡ true → is_void (node_in g id).typ ≡ false
      → Expression g second (Put Over at ∷ update_by_node c id at items) top items
  -- the operator, and the store of what it gives
  update_by : {items : List Item} (c : Change) (at : At)
      → Expression g top (Put (Bin (operator_number c.op) (kind_number c.operation)) at ∷ Put (store_converted c.stored c.volatile) at ∷ items) top items
  update_store : {items : List Item} (kind : IntKind) (volatile : Bool) (at : At) → Expression g top (Put (store_converted kind volatile) at ∷ items) top items
  -- copy assignments: the target stays below the addresses of both
  copy_to : {items : List Item} (source init : TNodeId) (at : At) → is_void (node_in g source).typ ≡ false
      → Expression g top (RunIt source Value ∷ Put Over at ∷ Put Swap at ∷ RunIt init Copying ∷ items) top items
  copy_by : {items : List Item} (init : TNodeId) (at : At) → Expression g top (Put Over at ∷ Put Swap at ∷ RunIt init Copying ∷ items) top items
  copy_swap : {items : List Item} (init : TNodeId) (at : At) → Expression g second (Put Swap at ∷ RunIt init Copying ∷ items) top items
  -- a copy into the object whose address lies below
  from : {items : List Item} (init : TNodeId) → Expression g top (RunIt init Copying ∷ items) gone items
  branch : {m : Mode} {items : List Item} (id : TNodeId) (way : Way) → After (node_in g (kid_in (node_in g id).kids 1)) way m
      → After (node_in g (kid_in (node_in g id).kids 2)) way m → Expression g top (Branch id way ∷ items) m items
  other : {m : Mode} {items : List Item} (o : OtherPart) → After (node_in g o.id) o.way m → Expression g m (Other o ∷ items) m items
  bind : {m : Mode} {items : List Item} (jump : Option Jump) → Expression g m (Bind jump ∷ items) m items

module _ (g : Setting) where
  abbrev pub expression_frames : {m n : Mode} {from to : List Item} → Expression g m from n to → List Term → List Frame
  expression_frames (run id way a) ts = Run (way_with way ts) (tree_in g id) ∷ []
  expression_frames (next id way a) ts = Then (way_with way ts) (tree_in g id) ∷ []
  expression_frames (drop at) ts = []
  expression_frames gives ts = Gives (first_word ts) ∷ []
  expression_frames (gives_local offset at) ts = Gives (local offset) ∷ []
  expression_frames (gives_number n at) ts = Gives (number n) ∷ []
  expression_frames (loads kind volatile at) ts = Loads kind volatile ∷ []
  expression_frames (converts to at) ts = Converts to ∷ []
  expression_frames (right op kind id at e) ts = Right op kind (tree_in g id) ∷ []
  expression_frames (apply op kind at) ts = Apply op kind (first_word ts) ∷ []
  expression_frames (stored kind volatile at) ts = StoreTo (first_word ts) kind volatile (number 0) ∷ []
  expression_frames (assign_to kind volatile id at e) ts = AssignTo kind volatile (tree_in g id) ∷ []
  expression_frames (assigned kind volatile at) ts = StoreTo (first_word ts) kind volatile (first_word ts) ∷ []
  expression_frames (update_new c id at o e) ts = UpdateAt c (tree_in g id) ∷ []
  expression_frames (update_doubled c id at o e) ts = UpdateAt c (tree_in g id) ∷ []
  expression_frames (update_tripled c id at o e) ts = UpdateAt c (tree_in g id) ∷ []
  expression_frames (update_read c id at o e) ts = UpdateOld c (first_word ts) (tree_in g id) ∷ []
  expression_frames (update_old c id at o e) ts = UpdateAt c (tree_in g id) ∷ []
  expression_frames (update_again c id at o e) ts = UpdateAt c (tree_in g id) ∷ []
  expression_frames (update_swap c id at o e) ts = UpdateOld c (first_word ts) (tree_in g id) ∷ []
  expression_frames (update_over c id at o e) ts = UpdateOld c (first_word ts) (tree_in g id) ∷ []
  expression_frames (update_by c at) ts = UpdateBy c (second_word ts) (first_word ts) ∷ []
  expression_frames (update_store kind volatile at) ts = Converts kind ∷ StoreTo (first_word ts) kind volatile (second_word ts) ∷ []
  expression_frames (copy_to source init at e) ts = CopyTo (tree_in g source) (tree_in g init) ∷ []
  expression_frames (copy_by init at) ts = CopyBy (first_word ts) (tree_in g init) ∷ []
  expression_frames (copy_swap init at) ts = CopyBy (first_word ts) (tree_in g init) ∷ []
  expression_frames (from init) ts = From (first_word ts) (tree_in g init) ∷ []
  expression_frames (branch id way a b) ts = Choose (way_with way ts) (tree_in g (kid_in (node_in g id).kids 1)) (tree_in g (kid_in (node_in g id).kids 2)) ∷ []
  expression_frames (other o a) ts = []
  expression_frames (bind jump) ts = []

  -- the operands below the value, down to those of what comes behind
  abbrev pub expression_words : {m n : Mode} {from to : List Item} → Expression g m from n to → List Term → List Term
  expression_words (run id way a) ts = way_words way ts
  expression_words (next id way a) ts = way_words way ts
  expression_words (drop at) ts = []
  expression_words gives ts = first_word ts ∷ []
  expression_words (gives_local offset at) ts = []
  expression_words (gives_number n at) ts = []
  expression_words (loads kind volatile at) ts = []
  expression_words (converts to at) ts = []
  expression_words (right op kind id at e) ts = []
  expression_words (apply op kind at) ts = first_word ts ∷ []
  expression_words (stored kind volatile at) ts = first_word ts ∷ []
  expression_words (assign_to kind volatile id at e) ts = []
  expression_words (assigned kind volatile at) ts = first_word ts ∷ first_word ts ∷ []
  expression_words (update_new c id at o e) ts = []
  expression_words (update_doubled c id at o e) ts = []
  expression_words (update_tripled c id at o e) ts = []
  expression_words (update_read c id at o e) ts = first_word ts ∷ first_word ts ∷ []
  expression_words (update_old c id at o e) ts = []
  expression_words (update_again c id at o e) ts = []
  expression_words (update_swap c id at o e) ts = first_word ts ∷ []
  expression_words (update_over c id at o e) ts = first_word ts ∷ []
  expression_words (update_by c at) ts = first_word ts ∷ second_word ts ∷ cond c.old (first_word ts) (second_word ts) ∷ []
  expression_words (update_store kind volatile at) ts = first_word ts ∷ second_word ts ∷ []
  expression_words (copy_to source init at e) ts = []
  expression_words (copy_by init at) ts = first_word ts ∷ []
  expression_words (copy_swap init at) ts = first_word ts ∷ first_word ts ∷ []
  expression_words (from init) ts = first_word ts ∷ []
  expression_words (branch id way a b) ts = way_words way ts
  expression_words (other o a) ts = []
  expression_words (bind jump) ts = []

  -- how many terms it speaks of
  abbrev pub expression_count : {m n : Mode} {from to : List Item} → Expression g m from n to → ℕ
  expression_count (run id way a) = way_count way
  expression_count (next id way a) = way_count way
  expression_count (drop at) = 0
  expression_count gives = 1
  expression_count (gives_local offset at) = 0
  expression_count (gives_number n at) = 0
  expression_count (loads kind volatile at) = 0
  expression_count (converts to at) = 0
  expression_count (right op kind id at e) = 0
  expression_count (apply op kind at) = 1
  expression_count (stored kind volatile at) = 1
  expression_count (assign_to kind volatile id at e) = 0
  expression_count (assigned kind volatile at) = 1
  expression_count (update_new c id at o e) = 0
  expression_count (update_doubled c id at o e) = 0
  expression_count (update_tripled c id at o e) = 0
  expression_count (update_read c id at o e) = 1
  expression_count (update_old c id at o e) = 0
  expression_count (update_again c id at o e) = 0
  expression_count (update_swap c id at o e) = 1
  expression_count (update_over c id at o e) = 1
  expression_count (update_by c at) = 2
  expression_count (update_store kind volatile at) = 2
  expression_count (copy_to source init at e) = 0
  expression_count (copy_by init at) = 1
  expression_count (copy_swap init at) = 1
  expression_count (from init) = 1
  expression_count (branch id way a b) = way_count way
  expression_count (other o a) = 0
  expression_count (bind jump) = 0
