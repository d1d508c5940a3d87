-- What the items of objects write: scopes, items, and instructions one behind the other.
use Rattle.std.proofs.Common.{ℕ, ◌≡◌, refl, ap, ap₂, sym, ◌∙◌, Bool, true, false, cond, not, ◌&&◌, List, [], ◌∷◌, ◌++◌, append_assoc}
use Rattle.std.specs.Prelude.{length, nat_eq, nat_lt}
use Rattle.cpp_tree.specs.cpp_types.declared.classes.At.{At}
use Rattle.cpp_tree.specs.declared.arena.TNodeId.{TNodeId}
use Rattle.cpp_tree.specs.declared.kinds.TKind.{TKind}
use Rattle.cpp_tree.specs.declared.kinds.TKind.TheVariants.{Local, Materialize, Piece}
use Rattle.tx_code.specs.declared.instr.Instr.{Instr}
use Rattle.tx_code.specs.declared.instr.Instr.TheVariants.{Push, Dup, Over, Swap, Bin}
use Rattle.low_code.specs.declared.numbers.TheConstants.{ADDRESS}
use Rattle.low_code.specs.declared.scopes.Owner.TheVariants.{Block as OfBlock, Call as OfCall, Full as OfFull}
use Rattle.low_code.specs.declared.scopes.Address.TheVariants.{Word}
use Rattle.low_code.specs.declared.scopes.ScopeKind.TheVariants.{Waits}
use Rattle.low_code.specs.declared.writer.LowInstr.{LowInstr}
use Rattle.low_code.specs.Effects.{ends}
use Rattle.low_code.specs.Nodes.{kid_in}
use Rattle.low_code.specs.Numbers.{address_sum, address_difference}
use Rattle.low_code.specs.Writer.{innermost}
use Rattle.unwind_lower.specs.declared.items.Way.{Way}
use Rattle.unwind_lower.specs.declared.items.Way.TheVariants.{Value, Dropped, Into, Copying}
use Rattle.unwind_lower.specs.declared.items.Item.TheVariants.{Run, Made, PartMade, VariableMade, MemberMade}
use Rattle.unwind_lower.specs.Settings.{Setting, node_in, place_in}
use Rattle.unwind_lower.specs.States.{State, later, put, put_offset, put_less, put_sum, entered, entered_at, with_temporary, is_live, depth_of}
use Rattle.unwind_lower.specs.Kids.{run_kid}
use Rattle.unwind_lower.specs.Objects.{made, waits_in_full, frame_object, variable_made, variable_waits, member_made, keep_address}
use Rattle.unwind_lower.specs.Parts.{put_part, part_made, part_waits, piece, next_element}
use Rattle.unwind_lower.specs.Steps.{written, run, run_kind, drop_value}
use Rattle.lowered_objects.specs.Passing.{put_all, lows, all_go_on, offset_instrs, part_instrs, next_instrs, keep_instrs, last_instrs}
use Rattle.lowered_objects.proofs.Lists.{first_of_both, second_of_both}

-- ---- rows of instructions

pub put_joined : (is js : List Instr) (at : At) (s : State) → put_all (is ++ js) at s ≡ put_all js at (put_all is at s)
put_joined [] js at s = refl
put_joined (a ∷ is) js at s = put_joined is js at (put a at s)

offset_by : (z : Bool) (offset : ℕ) (at : At) (s : State) → record s { body = cond z s.body (put address_sum at (put (Push offset) at s)).body }
    ≡ put_all (cond z [] (Push offset ∷ address_sum ∷ [])) at s
unfolding put
offset_by true offset at s = refl
offset_by false offset at s = refl

pub offset_put : (offset : ℕ) (at : At) (s : State) → put_offset offset at s ≡ put_all (offset_instrs offset) at s
unfolding put put_offset
offset_put offset at s = offset_by (nat_eq offset 0) offset at s

pub less_put : (number : ℕ) (at : At) (s : State) → put_less number at s ≡ put_all (Push number ∷ address_difference ∷ []) at s
unfolding put put_less
less_put number at s = refl

-- the addresses of a part
pub part_put : (offset : ℕ) (at : At) (way : Way) (s : State) → put_part offset at way s ≡ put_all (part_instrs way offset) at s
unfolding put_part
part_put offset at Into s = offset_put offset at (put Dup at s)
part_put offset at Copying s = offset_put offset at (put Over at (put_offset offset at (put Over at s)))
    ∙ ap (λ (z : State). put_all (offset_instrs offset) at (put Over at z)) (offset_put offset at (put Over at s))
    ∙ sym (put_joined (offset_instrs offset) (Over ∷ offset_instrs offset) at (put Over at s))
part_put offset at Value s = refl
part_put offset at Dropped s = refl

-- the next element, and how many are left
pub next_put : (stride : ℕ) (at : At) (s : State) → put Dup at (next_element stride Into at s) ≡ put_all (next_instrs stride) at s
unfolding next_element
next_put stride at s = ap (λ (z : State). put Dup at z) (less_put 1 at (put Swap at (put_offset stride at (put Swap at s))))
    ∙ ap (λ (z : State). put_all (Swap ∷ Push 1 ∷ address_difference ∷ Dup ∷ []) at z) (offset_put stride at (put Swap at s))
    ∙ sym (put_joined (offset_instrs stride) (Swap ∷ Push 1 ∷ address_difference ∷ Dup ∷ []) at (put Swap at s))

pub keep_put : (ids : List TNodeId) (at : At) (s : State) → keep_address ids at s ≡ put_all (keep_instrs ids) at s
unfolding keep_address
keep_put [] at s = refl
keep_put (id ∷ ids) at s = refl

-- the address of the last object that is left
pub last_put : (stride : ℕ) (at : At) (s : State)
    → put_sum at (put (Bin 2 ADDRESS) at (put (Push stride) at (put Over at (put Over at (put_less 1 at s))))) ≡ put_all (last_instrs stride) at s
unfolding put put_sum put_less
last_put stride at s = refl

-- where they can be reached they stand behind the code, in the scope at hand
module _ (at : At) where
  put_there : (instr : Instr) (s : State) → is_live s ≡ true
      → (put instr at s).body.code ≡ s.body.code ++ record { instr = instr; at = at; scope = (innermost s.body).rows } ∷ []
  unfolding put is_live
  put_there instr s live = ap (λ (z : Bool). cond z (s.body.code ++ record { instr = instr; at = at; scope = (innermost s.body).rows } ∷ []) s.body.code) live

  live_then : (instr : Instr) (s : State) → is_live s ≡ true → not (ends instr) ≡ true → is_live (put instr at s) ≡ true
  unfolding put is_live
  live_then instr s live goes = ap₂ (λ (y z : Bool). y && z) goes live

  same_scope : (instr : Instr) (s : State) → (innermost (put instr at s).body).rows ≡ (innermost s.body).rows
  unfolding put
  same_scope instr s = refl

  pub all_there : (instrs : List Instr) (s : State) → is_live s ≡ true → all_go_on instrs ≡ true
      → (put_all instrs at s).body.code ≡ s.body.code ++ lows instrs at (innermost s.body).rows
  all_there [] s live go = sym (nothing_behind s.body.code)
    where
      nothing_behind : (ls : List LowInstr) → ls ++ [] ≡ ls
      nothing_behind [] = refl
      nothing_behind (l ∷ ls) = ap (λ (z : List LowInstr). l ∷ z) (nothing_behind ls)
  all_there (a ∷ instrs) s live go = all_there instrs (put a at s) (live_then a s live (first_of_both (not (ends a)) (all_go_on instrs) go))
      (second_of_both (not (ends a)) (all_go_on instrs) go)
      ∙ ap₂ (λ (y : List LowInstr) (z : ℕ). y ++ lows instrs at z) (put_there a s live) (same_scope a s)
      ∙ append_assoc s.body.code (record { instr = a; at = at; scope = (innermost s.body).rows } ∷ []) (lows instrs at (innermost s.body).rows)

  pub all_live : (instrs : List Instr) (s : State) → is_live s ≡ true → all_go_on instrs ≡ true → is_live (put_all instrs at s) ≡ true
  all_live [] s live go = live
  all_live (a ∷ instrs) s live go = all_live instrs (put a at s) (live_then a s live (first_of_both (not (ends a)) (all_go_on instrs) go))
      (second_of_both (not (ends a)) (all_go_on instrs) go)

  same_work : (instr : Instr) (s : State) → (put instr at s).work ≡ s.work
  unfolding put
  same_work instr s = refl

  pub all_work : (instrs : List Instr) (s : State) → (put_all instrs at s).work ≡ s.work
  all_work [] s = refl
  all_work (a ∷ instrs) s = all_work instrs (put a at s) ∙ same_work a s

-- ---- items that write no instruction: objects come to wait

module _ (g : Setting) (id : TNodeId) (s : State) where
  pub temporary_written : (place : ℕ) → (node_in g id).kind ≡ Materialize place false → nat_lt (length (node_in g id).kids) 2 ≡ false
      → written g (Made id) s ≡ with_temporary (frame_object OfFull (place_in g place) id 1) (node_in g id).at s
  unfolding written made waits_in_full
  temporary_written place kind some = ap (λ (z : TKind). made g z id (node_in g id) s) kind
      ∙ ap (λ (z : Bool). cond z s (waits_in_full false (place_in g place) id (node_in g id).at s)) some

  pub argument_written : (place : ℕ) → (node_in g id).kind ≡ Materialize place true → nat_lt (length (node_in g id).kids) 2 ≡ false
      → written g (Made id) s ≡ entered (frame_object OfCall (place_in g place) id 1) (node_in g id).at s
  unfolding written made waits_in_full
  argument_written place kind some = ap (λ (z : TKind). made g z id (node_in g id) s) kind
      ∙ ap (λ (z : Bool). cond z s (waits_in_full true (place_in g place) id (node_in g id).at s)) some

  pub simple_written : (place : ℕ) (argument : Bool) → (node_in g id).kind ≡ Materialize place argument → nat_lt (length (node_in g id).kids) 2 ≡ true
      → written g (Made id) s ≡ s
  unfolding written made
  simple_written place argument kind some = ap (λ (z : TKind). made g z id (node_in g id) s) kind
      ∙ ap (λ (z : Bool). cond z s (waits_in_full argument (place_in g place) id (node_in g id).at s)) some

  pub variable_written : (place : ℕ) → (node_in g (kid_in (node_in g id).kids 0)).kind ≡ Local place
      → written g (VariableMade id) s ≡ entered (frame_object OfBlock (place_in g place) id 2) (node_in g id).at s
  unfolding written variable_made variable_waits
  variable_written place kind = ap (λ (z : TKind). variable_waits g z id (node_in g id).at s) kind

  pub member_written : written g (MemberMade id) s ≡ entered_at (Waits OfBlock false (Word 0) id 2) (depth_of s) (node_in g id).at s
  unfolding written member_made
  member_written = refl

  pub part_written : (offset : ℕ) (way : Way) → (node_in g id).kind ≡ Piece offset → nat_lt (length (node_in g id).kids) 2 ≡ false
      → written g (PartMade id way) s ≡ part_waits offset id (node_in g id).at way s
  unfolding written part_made
  part_written offset way kind some = ap (λ (z : TKind). part_made z id (node_in g id) way s) kind
      ∙ ap (λ (z : Bool). cond z s (part_waits offset id (node_in g id).at way s)) some

  -- a part: its addresses come on top, and then it is made
  pub piece_written : (offset : ℕ) → (node_in g id).kind ≡ Piece offset
      → written g (Run id Into) s ≡ put_all (part_instrs Into offset) (node_in g id).at (run_kid (node_in g id) 0 Into (later (PartMade id Into) s))
  unfolding written run run_kind drop_value piece
  piece_written offset kind = ap (λ (z : TKind). run_kind g z id (node_in g id) Into s) kind
      ∙ part_put offset (node_in g id).at Into (run_kid (node_in g id) 0 Into (later (PartMade id Into) s))

  pub copied_piece_written : (offset : ℕ) → (node_in g id).kind ≡ Piece offset
      → written g (Run id Copying) s ≡ put_all (part_instrs Copying offset) (node_in g id).at (run_kid (node_in g id) 0 Copying (later (PartMade id Copying) s))
  unfolding written run run_kind drop_value piece
  copied_piece_written offset kind = ap (λ (z : TKind). run_kind g z id (node_in g id) Copying s) kind
      ∙ part_put offset (node_in g id).at Copying (run_kid (node_in g id) 0 Copying (later (PartMade id Copying) s))
