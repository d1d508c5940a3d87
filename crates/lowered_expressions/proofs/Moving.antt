-- What an expression writes fits whatever the terms are: the instruction of each head, given the note of what is left behind it.
use Rattle.std.proofs.Common.{ℕ, ◌≡◌, ◌+◌, ◌≤◌, Bool, true, false, List, Option, Some, arith}
use Rattle.std.specs.Prelude.{nat_lt, slice_get, unwrap_or, ◌^◌}
use Rattle.tx_ints.specs.declared.kinds.IntKind.{IntKind}
use Rattle.tx_ints.specs.declared.kinds.BinOp.{BinOp}
use Rattle.tx_code.specs.declared.instr.Instr.{Instr}
use Rattle.tx_code.specs.declared.instr.Instr.TheVariants.{Push, Dup, Pop, Swap, Over, FrameAddr, GlobalAddr, FuncAddr, ClassAddr, Bin, Conv, Jump, JumpZero}
use Rattle.cpp_tree.specs.cpp_types.Typ.{Typ}
use Rattle.cpp_tree.specs.cpp_types.declared.classes.At.{At}
use Rattle.cpp_tree.specs.cpp_types.declared.ranks.Cat.{Cat}
use Rattle.cpp_tree.specs.declared.arena.TNodeId.{TNodeId}
use Rattle.cpp_tree.specs.declared.kinds.TKind.TheVariants.{Literal, Local, Global, Function, ClassTable}
use Rattle.cpp_tree.specs.Trees.{Trees, node}
use Rattle.low_code.specs.declared.numbers.TheConstants.{ADDRESS}
use Rattle.low_code.specs.declared.scopes.ScopeKind.{ScopeKind}
use Rattle.low_code.specs.declared.writer.Jump.{Jump as Jumped}
use Rattle.low_code.specs.Nodes.{kid_in}
use Rattle.low_code.specs.Numbers.{kind_number, operator_number, load, store, store_converted}
use Rattle.low_code.specs.Types.{is_void}
use Rattle.src_mean.specs.Frames.{Change}
use Rattle.src_mean.specs.Linked.{Program}
use Rattle.symbolic_source.specs.Outcomes.{Outcome}
use Rattle.body_check.specs.Notes.{Bounds}
use Rattle.body_check.specs.Calls.{Book}
use Rattle.body_check.specs.Linked.{Held}
use Rattle.unwind_lower.specs.declared.items.Item.{Item}
use Rattle.unwind_lower.specs.declared.items.Other.{Other as OtherPart}
use Rattle.unwind_lower.specs.declared.items.Way.{Way}
use Rattle.unwind_lower.specs.declared.items.Way.TheVariants.{Value, Copying}
use Rattle.unwind_lower.specs.Settings.{Setting, node_in, place_in}
use Rattle.lowered_frames.specs.Modes.{Mode, top, gone, After, valued, copied, tree_in}
use Rattle.lowered_frames.specs.Expressions.{run, drop, gives, gives_local, gives_number, loads, converts, apply, stored, assign_to, assigned, update_new, update_doubled}
use Rattle.lowered_frames.specs.Expressions.{update_tripled, update_read, update_old, update_again, update_swap, update_over, update_by, update_store, copy_by, copy_swap}
use Rattle.lowered_frames.specs.Expressions.{branch, other, bind}
use Rattle.lowered_frames.specs.Left.{Left, other_again, behind_end}
use Rattle.lowered_notes.specs.Canonical.{IsForeseen}
use Rattle.lowered_steps.specs.Ahead.{Ahead, AlwaysRereads, Moves}
use Rattle.lowered_steps.proofs.Moving.{at_once, half_is_short, half_and_one_is_short}
use Rattle.lowered_expressions.specs.Heads.{led}
use Rattle.lowered_expressions.proofs.Quiet.{drop_fits, local_gives, number_gives, conversion_fits, operator_fits, first_copy_fits, second_copy_fits, one_copy_fits}
use Rattle.lowered_expressions.proofs.Quiet.{old_below_fits, update_operator_fits, target_over_fits, address_copy_fits, old_over_fits, target_below_fits}
use Rattle.lowered_expressions.proofs.Events.{loads_fit, old_value_fits, own_old_value_fits, stored_fits, assigned_fits, update_store_fits}
use Rattle.lowered_expressions.proofs.Leaves.{literal_fits, local_fits, global_fits, function_fits, class_fits}
use Rattle.lowered_expressions.proofs.Jumps.{branch_fits, read_branch_fits, over_fits, over_again_fits}

-- a step is some steps
one_more : (n : ℕ) → 1 ≤ n + 1
one_more n = omega arith

module _ (p : Program) (b : Bounds) (book : Book) (h : Held) (g : Setting) (chain : List ScopeKind) (rank index after : ℕ) where
  -- the note of what is left behind is there
  abbrev Next : {m : Mode} {items : List Item} → Left g m items → Type 0
  Next d = Ahead p b book h g d chain (index + 1) after

  -- the source goes on from here, and the instruction fits
  abbrev Foreseen : {m : Mode} {items : List Item} → Left g m items → Type 0
  Foreseen d = IsForeseen p h.func g d chain

  abbrev Writes : {m : Mode} {items : List Item} → Left g m items → Instr → Type 0
  Writes d instr = Moves p b book h g d chain 0 rank index instr

  -- ---- the source stands still: the rank falls

  module _ (falls : after + 1 ≤ rank) where
    pub drop_moves : {items : List Item} (d : Left g gone items) (at : At) → Foreseen (led (drop at) d) → Next d → Writes (led (drop at) d) Pop
    drop_moves d at going a = at_once p b book h g (led (drop at) d) chain rank index Pop going
        (λ v es ts known f told all_told lead within. drop_fits p b book h g chain v es ts known lead rank index after (half_is_short b lead within) falls d at f a)

    pub local_moves : {items : List Item} (d : Left g top items) (offset : ℕ) (at : At) → Foreseen (led (gives_local offset at) d) → Next d → Writes (led (gives_local offset at) d) (FrameAddr offset)
    local_moves d offset at going a = at_once p b book h g (led (gives_local offset at) d) chain rank index (FrameAddr offset) going
        (λ v es ts known f told all_told lead within. local_gives p b book h g chain v es ts known lead rank index after (half_is_short b lead within) falls d offset at f a)

    pub number_moves : {items : List Item} (d : Left g top items) (n : ℕ) (at : At) → nat_lt n (2 ^ 64) ≡ true → Foreseen (led (gives_number n at) d) → Next d → Writes (led (gives_number n at) d) (Push n)
    number_moves d n at small going a = at_once p b book h g (led (gives_number n at) d) chain rank index (Push n) going
        (λ v es ts known f told all_told lead within. number_gives p b book h g chain v es ts known lead rank index after (half_is_short b lead within) falls d n at small f a)

    pub conversion_moves : {items : List Item} (d : Left g top items) (to : IntKind) (at : At) → Foreseen (led (converts to at) d) → Next d → Writes (led (converts to at) d) (Conv ADDRESS (kind_number to))
    conversion_moves d to at going a = at_once p b book h g (led (converts to at) d) chain rank index (Conv ADDRESS (kind_number to)) going
        (λ v es ts known f told all_told lead within. conversion_fits p b book h g chain v es ts known lead rank index after (half_is_short b lead within) falls d to at f a)

    pub operator_moves : {items : List Item} (d : Left g top items) (op : BinOp) (kind : IntKind) (at : At) → Foreseen (led (apply op kind at) d) → Next d → Writes (led (apply op kind at) d) (Bin (operator_number op) (kind_number kind))
    operator_moves d op kind at going a = at_once p b book h g (led (apply op kind at) d) chain rank index (Bin (operator_number op) (kind_number kind)) going
        (λ v es ts known f told all_told lead within. operator_fits p b book h g chain v es ts known lead rank index after (half_is_short b lead within) falls d op kind at told all_told f a)

    pub update_operator_moves : {items : List Item} (d : Left g top items) (c : Change) (at : At) → Foreseen (led (update_by c at) d) → Next (led (update_store c.stored c.volatile at) d) → Writes (led (update_by c at) d) (Bin (operator_number c.op) (kind_number c.operation))
    update_operator_moves d c at going a = at_once p b book h g (led (update_by c at) d) chain rank index (Bin (operator_number c.op) (kind_number c.operation)) going
        (λ v es ts known f told all_told lead within. update_operator_fits p b book h g chain v es ts known lead rank index after (half_is_short b lead within) falls d c at told all_told f a)

    pub target_over_moves : {items : List Item} (d : Left g top items) (init : TNodeId) (at : At) → Foreseen (led (copy_by init at) d) → Next (led (copy_swap init at) d) → Writes (led (copy_by init at) d) Over
    target_over_moves d init at going a = at_once p b book h g (led (copy_by init at) d) chain rank index Over going
        (λ v es ts known f told all_told lead within. target_over_fits p b book h g chain v es ts known lead rank index after (half_is_short b lead within) falls d init at f a)

    module _ {items : List Item} (d : Left g top items) (c : Change) (id : TNodeId) (at : At) (e : is_void (node_in g id).typ ≡ false) where
      pub first_copy_moves : (o : c.old ≡ false) → Foreseen (led (update_new c id at o e) d) → Next (led (update_doubled c id at o e) d) → Writes (led (update_new c id at o e) d) Dup
      first_copy_moves o going a = at_once p b book h g (led (update_new c id at o e) d) chain rank index Dup going
          (λ v es ts known f told all_told lead within. first_copy_fits p b book h g chain v es ts known lead rank index after (half_is_short b lead within) falls d c id at e o f a)

      pub second_copy_moves : (o : c.old ≡ false) → Foreseen (led (update_doubled c id at o e) d) → Next (led (update_tripled c id at o e) d) → Writes (led (update_doubled c id at o e) d) Dup
      second_copy_moves o going a = at_once p b book h g (led (update_doubled c id at o e) d) chain rank index Dup going
          (λ v es ts known f told all_told lead within. second_copy_fits p b book h g chain v es ts known lead rank index after (half_is_short b lead within) falls d c id at e o f a)

      pub one_copy_moves : (o : c.old ≡ true) → Foreseen (led (update_old c id at o e) d) → Next (led (update_again c id at o e) d) → Writes (led (update_old c id at o e) d) Dup
      one_copy_moves o going a = at_once p b book h g (led (update_old c id at o e) d) chain rank index Dup going
          (λ v es ts known f told all_told lead within. one_copy_fits p b book h g chain v es ts known lead rank index after (half_is_short b lead within) falls d c id at e o f a)

      pub old_below_moves : (o : c.old ≡ true) → Foreseen (led (update_swap c id at o e) d) → Next (led (update_over c id at o e) d) → Writes (led (update_swap c id at o e) d) Swap
      old_below_moves o going a = at_once p b book h g (led (update_swap c id at o e) d) chain rank index Swap going
          (λ v es ts known f told all_told lead within. old_below_fits p b book h g chain v es ts known lead rank index after (half_is_short b lead within) falls d c id at e o f a)

    -- leaves
    module _ {items : List Item} (d : Left g top items) (id : TNodeId) (x : After (node_in g id) Value top) (t : Typ) (cat : Cat) (place : At) (kids : Trees)
        (going : Foreseen (led (run id Value x) d)) (a : Next d) where
      pub literal_moves : (w : ℕ) → tree_in g id ≡ node (Literal w) t cat place kids → nat_lt w (2 ^ 64) ≡ true → Writes (led (run id Value x) d) (Push w)
      literal_moves w is small = at_once p b book h g (led (run id Value x) d) chain rank index (Push w) going
          (λ v es ts known f told all_told lead within. literal_fits p b book h g chain d id x t cat place kids v es ts known lead rank index after (half_is_short b lead within) falls f a w is small)

      pub variable_moves : (n : ℕ) → tree_in g id ≡ node (Local n) t cat place kids → unwrap_or (slice_get h.func.places n) 0 ≡ place_in g n → Writes (led (run id Value x) d) (FrameAddr (place_in g n))
      variable_moves n is same = at_once p b book h g (led (run id Value x) d) chain rank index (FrameAddr (place_in g n)) going
          (λ v es ts known f told all_told lead within. local_fits p b book h g chain d id x t cat place kids v es ts known lead rank index after (half_is_short b lead within) falls f a n is same)

      pub global_moves : (n name : ℕ) → tree_in g id ≡ node (Global n) t cat place kids → h.table.global_of name ≡ Some n → Writes (led (run id Value x) d) (GlobalAddr name)
      global_moves n name is named = at_once p b book h g (led (run id Value x) d) chain rank index (GlobalAddr name) going
          (λ v es ts known f told all_told lead within. global_fits p b book h g chain d id x t cat place kids v es ts known lead rank index after (half_is_short b lead within) falls f a n name is named)

      pub function_moves : (n name : ℕ) → tree_in g id ≡ node (Function n) t cat place kids → h.table.function_of name ≡ Some n → Writes (led (run id Value x) d) (FuncAddr name)
      function_moves n name is named = at_once p b book h g (led (run id Value x) d) chain rank index (FuncAddr name) going
          (λ v es ts known f told all_told lead within. function_fits p b book h g chain d id x t cat place kids v es ts known lead rank index after (half_is_short b lead within) falls f a n name is named)

      pub class_moves : (n name : ℕ) → tree_in g id ≡ node (ClassTable n) t cat place kids → h.table.class_of name ≡ Some n → Writes (led (run id Value x) d) (ClassAddr name)
      class_moves n name is named = at_once p b book h g (led (run id Value x) d) chain rank index (ClassAddr name) going
          (λ v es ts known f told all_told lead within. class_fits p b book h g chain d id x t cat place kids v es ts known lead rank index after (half_is_short b lead within) falls f a n name is named)

  -- ---- the source takes a step

  pub address_copy_moves : {items : List Item} (d : Left g top items) (kind : IntKind) (volatile : Bool) (id : TNodeId) (at : At) (e : is_void (node_in g id).typ ≡ false) → Foreseen (led (assign_to kind volatile id at e) d) → Next (led (run id Value (valued e)) (led (assigned kind volatile at) d)) → Writes (led (assign_to kind volatile id at e) d) Dup
  address_copy_moves d kind volatile id at e going a = at_once p b book h g (led (assign_to kind volatile id at e) d) chain rank index Dup going
      (λ v es ts known f told all_told lead within. address_copy_fits p b book h g chain v es ts known lead rank index after (half_and_one_is_short b lead within) (one_more lead) d kind volatile id at e f a)

  pub old_over_moves : {items : List Item} (d : Left g top items) (c : Change) (id : TNodeId) (at : At) (o : c.old ≡ true) (e : is_void (node_in g id).typ ≡ false) → Foreseen (led (update_over c id at o e) d) → Next (led (run id Value (valued e)) (led (update_by c at) d)) → Writes (led (update_over c id at o e) d) Over
  old_over_moves d c id at o e going a = at_once p b book h g (led (update_over c id at o e) d) chain rank index Over going
      (λ v es ts known f told all_told lead within. old_over_fits p b book h g chain v es ts known lead rank index after (half_and_one_is_short b lead within) (one_more lead) d c id at o e f a)

  pub target_below_moves : {items : List Item} (d : Left g top items) (init : TNodeId) (at : At) → Foreseen (led (copy_swap init at) d) → Next (led (run init Copying copied) (led gives d)) → Writes (led (copy_swap init at) d) Swap
  target_below_moves d init at going a = at_once p b book h g (led (copy_swap init at) d) chain rank index Swap going
      (λ v es ts known f told all_told lead within. target_below_fits p b book h g chain v es ts known lead rank index after (half_and_one_is_short b lead within) (one_more lead) d init at f a)

  -- ---- events

  pub load_moves : {items : List Item} (d : Left g top items) (kind : IntKind) (volatile : Bool) (at : At) → Foreseen (led (loads kind volatile at) d) → Next d → Writes (led (loads kind volatile at) d) (load kind volatile)
  load_moves d kind volatile at going a = at_once p b book h g (led (loads kind volatile at) d) chain rank index (load kind volatile) going
      (λ v es ts known f told all_told lead within. loads_fit p b book h g chain v es ts known lead rank index after d kind volatile at told f a)

  pub old_value_moves : {items : List Item} (d : Left g top items) (c : Change) (id : TNodeId) (at : At) (e : is_void (node_in g id).typ ≡ false) (o : c.old ≡ false) → Foreseen (led (update_tripled c id at o e) d) → Next (led (update_read c id at o e) d) → Writes (led (update_tripled c id at o e) d) (load c.stored c.volatile)
  old_value_moves d c id at e o going a = at_once p b book h g (led (update_tripled c id at o e) d) chain rank index (load c.stored c.volatile) going
      (λ v es ts known f told all_told lead within. old_value_fits p b book h g chain v es ts known lead rank index after d c id at e told o f a)

  pub own_old_value_moves : {items : List Item} (d : Left g top items) (c : Change) (id : TNodeId) (at : At) (e : is_void (node_in g id).typ ≡ false) (o : c.old ≡ true) → Foreseen (led (update_again c id at o e) d) → Next (led (update_swap c id at o e) d) → Writes (led (update_again c id at o e) d) (load c.stored c.volatile)
  own_old_value_moves d c id at e o going a = at_once p b book h g (led (update_again c id at o e) d) chain rank index (load c.stored c.volatile) going
      (λ v es ts known f told all_told lead within. own_old_value_fits p b book h g chain v es ts known lead rank index after d c id at e told o f a)

  pub stored_moves : {items : List Item} (d : Left g gone items) (kind : IntKind) (volatile : Bool) (at : At) → Foreseen (led (stored kind volatile at) d) → Next d → Writes (led (stored kind volatile at) d) (store kind volatile)
  stored_moves d kind volatile at going a = at_once p b book h g (led (stored kind volatile at) d) chain rank index (store kind volatile) going
      (λ v es ts known f told all_told lead within. stored_fits p b book h g chain v es ts known lead rank index after d kind volatile at told all_told f a)

  pub assigned_moves : {items : List Item} (d : Left g top items) (kind : IntKind) (volatile : Bool) (at : At) → Foreseen (led (assigned kind volatile at) d) → Next d → Writes (led (assigned kind volatile at) d) (store kind volatile)
  assigned_moves d kind volatile at going a = at_once p b book h g (led (assigned kind volatile at) d) chain rank index (store kind volatile) going
      (λ v es ts known f told all_told lead within. assigned_fits p b book h g chain v es ts known lead rank index after d kind volatile at told all_told f a)

  pub update_store_moves : {items : List Item} (d : Left g top items) (kind : IntKind) (volatile : Bool) (at : At) → Foreseen (led (update_store kind volatile at) d) → Next d → Writes (led (update_store kind volatile at) d) (store_converted kind volatile)
  update_store_moves d kind volatile at going a = at_once p b book h g (led (update_store kind volatile at) d) chain rank index (store_converted kind volatile) going
      (λ v es ts known f told all_told lead within. update_store_fits p b book h g chain v es ts known lead rank index after d kind volatile at told all_told f a)

-- ---- jumps

module _ (p : Program) (b : Bounds) (book : Book) (h : Held) (g : Setting) (chain : List ScopeKind) (rank index target : ℕ) where
  -- to the second branch, where the word is 0
  module _ {m : Mode} {items : List Item} (d : Left g m items) (id : TNodeId) (way : Way) (x : After (node_in g (kid_in (node_in g id).kids 1)) way m)
      (y : After (node_in g (kid_in (node_in g id).kids 2)) way m) where
    pub branch_moves : (first second : ℕ) → IsForeseen p h.func g (led (branch id way x y) d) chain
        → Ahead p b book h g (led (run (kid_in (node_in g id).kids 2) way y) d) chain target second
        → Ahead p b book h g (led (run (kid_in (node_in g id).kids 1) way x) d) chain (index + 1) first
        → Moves p b book h g (led (branch id way x y) d) chain 0 rank index (JumpZero target)
    branch_moves first second going there here = at_once p b book h g (led (branch id way x y) d) chain rank index (JumpZero target) going
        (λ v es ts known f told all_told lead within. branch_fits p b book h g chain es ts known lead rank index target d id way x y v told first second f there here
        (half_and_one_is_short b lead within) (one_more lead))

    -- the same where the branches are read as what stands at the target and behind the jump
    pub read_branch_moves : {k l : Mode} {firsts seconds : List Item} (e : Left g k firsts) (outer : List ScopeKind) (o : Left g l seconds) (around : List ScopeKind)
        (first second : ℕ) → IsForeseen p h.func g (led (branch id way x y) d) chain
        → AlwaysRereads p b book h g (led (run (kid_in (node_in g id).kids 1) way x) d) chain e outer (λ (z : Outcome). z)
        → AlwaysRereads p b book h g (led (run (kid_in (node_in g id).kids 2) way y) d) chain o around (λ (z : Outcome). z)
        → Ahead p b book h g o around target second → Ahead p b book h g e outer (index + 1) first
        → Moves p b book h g (led (branch id way x y) d) chain 0 rank index (JumpZero target)
    read_branch_moves e outer o around first second going reads_first reads_second there here =
        at_once p b book h g (led (branch id way x y) d) chain rank index (JumpZero target) going
        (λ v es ts known f told all_told lead within. read_branch_fits p b book h g chain es ts known lead rank index target d id way x y v told e outer o around
        first second f reads_first reads_second there here (half_and_one_is_short b lead within) (one_more lead))

  -- over the second branch
  pub over_moves : {m : Mode} {items : List Item} (d : Left g m items) (o : OtherPart) (x : After (node_in g o.id) o.way m) (after : ℕ) → after + 1 ≤ rank
      → IsForeseen p h.func g (led (other o x) d) chain → Ahead p b book h g d chain target after
      → Moves p b book h g (led (other o x) d) chain 0 rank index (Jump target)
  over_moves d o x after falls going a = at_once p b book h g (led (other o x) d) chain rank index (Jump target) going
      (λ v es ts known f told all_told lead within. over_fits p b book h g chain es ts known lead rank index target d o v after (half_is_short b lead within) falls x f a)

  pub over_again_moves : {m n : Mode} {items : List Item} (o : OtherPart) (x : After (node_in g o.id) o.way n) (e : Left g n items) (d : Left g m (behind_end items))
      (after : ℕ) → after + 1 ≤ rank → IsForeseen p h.func g (other_again o x e d) chain → Ahead p b book h g d chain target after
      → Moves p b book h g (other_again o x e d) chain 0 rank index (Jump target)
  over_again_moves o x e d after falls going a = at_once p b book h g (other_again o x e d) chain rank index (Jump target) going
      (λ v es ts known f told all_told lead within. over_again_fits p b book h g chain es ts known lead rank index target o x e d v after
      (half_is_short b lead within) falls f a)

  -- ---- a branch in front of where its end is bound, or of the jump over the other one, has the same note

  module _ {m : Mode} {items : List Item} (d : Left g m items) (id : TNodeId) (way : Way) (x : After (node_in g id) way m) (after : ℕ) where
    pub bound_ahead : (jump : Option Jumped) → Ahead p b book h g (led (run id way x) (led (bind jump) d)) chain target after
        → Ahead p b book h g (led (run id way x) d) chain target after
    bound_ahead jump a = record { there = record { at = a.there.at; lead = a.there.lead; is = a.there.is; low = a.there.low }; going = a.going }

    pub other_ahead : (o : OtherPart) (y : After (node_in g o.id) o.way m) → Ahead p b book h g (led (run id way x) (led (other o y) d)) chain target after
        → Ahead p b book h g (led (run id way x) d) chain target after
    other_ahead o y a = record { there = record { at = a.there.at; lead = a.there.lead; is = a.there.is; low = a.there.low }; going = a.going }
