-- Objects that are built part by part.
use Rattle.std.proofs.Common.{false, length, nat_lt, refl, ℕ, ◌-◌, Bool}
use Rattle.cpp_tree.specs.cpp_types.declared.classes.At.{At}
use Rattle.cpp_tree.specs.declared.arena.TNodeId.{TNodeId}
use Rattle.cpp_tree.specs.declared.kinds.TKind.TheVariants.{Elements, Piece}
use Rattle.cpp_tree.specs.declared.kinds.TKind.{TKind}
use Rattle.tx_code.specs.declared.instr.Instr.TheVariants.{Dup, Over, Pop, Push, Swap}
use Rattle.low_code.specs.Nodes.{Node}
use Rattle.low_code.specs.declared.scopes.Address.TheVariants.{Word}
use Rattle.low_code.specs.declared.scopes.Owner.TheVariants.{Parts}
use Rattle.low_code.specs.declared.scopes.Owner.{Owner}
use Rattle.low_code.specs.declared.scopes.ScopeKind.TheVariants.{Each, Mark, Waits}
use Rattle.low_code.specs.declared.scopes.ScopeKind.{ScopeKind}
use Rattle.unwind_lower.specs.Parts as parts
use Rattle.unwind_lower.specs.Parts.{elements_scope, is_copy, is_simple, sources_of, words_above}
use Rattle.unwind_lower.specs.States as states
use Rattle.unwind_lower.specs.States.{State, depth_of, here, scope_at, scope_of}
use Rattle.unwind_lower.specs.declared.items.Item.TheVariants.{CloseParts, ElementMade, PartMade}
use Rattle.unwind_lower.specs.declared.items.Way.TheVariants.{Copying, Dropped, Into, Value}
use Rattle.unwind_lower.specs.declared.items.Way.{Way}
use Rattle.lowered_apart.specs.Still.{Nodes}
use Rattle.lowered_apart.specs.Waiting.{AllRun, Waiting}
use Rattle.lowered_apart.proofs.Basic.{either, entered, entered_at, left, left_scope, more, put, put_less, put_offset, repeated}
use Rattle.lowered_apart.proofs.Kids.{run_kid, run_kids}
use Rattle.lowered_apart.proofs.Calls.{grab, let_go, put_grabbed}

module _ {z : Nodes} where
  pub pieces : (n : Node) (way : Way) {free : Bool} {s : State} → AllRun z free n.kids → Waiting z free s → Waiting z free (parts.pieces n way s)
  unfolding parts.pieces
  pieces n way k m = run_kids n 0 way k (more (CloseParts way n.at) tt refl (entered (Mark Parts) n.at tt m))

  pub put_part : (offset : ℕ) (at : At) (way : Way) {free : Bool} {s : State} → Waiting z free s → Waiting z free (parts.put_part offset at way s)
  unfolding parts.put_part
  put_part offset at Into m = put_offset offset at (put Dup at m)
  put_part offset at Copying m = put_offset offset at (put Over at (put_offset offset at (put Over at m)))
  put_part offset at Value m = m
  put_part offset at Dropped m = m

  pub piece : (id : TNodeId) (n : Node) (offset : ℕ) (way : Way) {free : Bool} {s : State} → AllRun z free n.kids → Waiting z free s → Waiting z free (parts.piece id n offset way s)
  unfolding parts.piece
  piece id n offset way k m = put_part offset n.at way (run_kid n 0 way k (more (PartMade id way) tt refl m))

  pub part_waits : (offset : ℕ) (id : TNodeId) (at : At) (way : Way) {free : Bool} {s : State} → Waiting z free s → Waiting z free (parts.part_waits offset id at way s)
  unfolding parts.part_waits
  part_waits offset id at way {s} m = entered_at (Waits Parts false (Word offset) id 1) (depth_of s - sources_of way) at tt m

  pub part_made : (kind : TKind) (id : TNodeId) (n : Node) (way : Way) {free : Bool} {s : State} → Waiting z free s → Waiting z free (parts.part_made kind id n way s)
  unfolding parts.part_made
  part_made (Piece offset) id n way m = either (nat_lt (length n.kids) 2) m (part_waits offset id n.at way m)
  part_made kind id n way m = m

  pub drop_source : (way : Way) (at : At) {free : Bool} {s : State} → Waiting z free s → Waiting z free (parts.drop_source way at s)
  unfolding parts.drop_source
  drop_source Copying at m = put Pop at m
  drop_source Value at m = m
  drop_source Dropped at m = m
  drop_source Into at m = m

  pub close_mark_of_parts : (owner : Owner) (way : Way) (at : At) {free : Bool} {s : State} → Waiting z free s
      → Waiting z free (parts.close_mark_of_parts owner way at s)
  unfolding parts.close_mark_of_parts
  close_mark_of_parts Parts way at m = drop_source way at (put Pop at (left m))
  close_mark_of_parts owner way at m = m

  pub close_part : (kind : ScopeKind) (way : Way) (at : At) {free : Bool} {s : State} → Waiting z free s → Waiting z free (parts.close_part kind way at s)
  unfolding parts.close_part
  close_part (Mark owner) way at m = close_mark_of_parts owner way at m
  close_part (Waits owner always address id first) way at m = more (CloseParts way at) tt refl (left m)
  close_part kind way at m = m

  pub close_parts : (way : Way) (at : At) {free : Bool} {s : State} → Waiting z free s → Waiting z free (parts.close_parts way at s)
  unfolding parts.close_parts
  close_parts way at {s} m = close_part (scope_at (scope_of s) s).kind way at m

  pub enter_elements : (id : TNodeId) (n : Node) (way : Way) {free : Bool} {s : State} → Waiting z free s → Waiting z free (parts.enter_elements id n way s)
  unfolding parts.enter_elements
  enter_elements id n way {s} m = either (is_simple n) m (entered_at (Each id (is_copy way)) (depth_of s - words_above (is_copy way)) n.at tt m)

  pub next_pair : (stride : ℕ) (at : At) {free : Bool} {s : State} → Waiting z free s → Waiting z free (parts.next_pair stride at s)
  unfolding parts.next_pair
  next_pair stride at m = let_go at (put_grabbed 1 at (put_grabbed 0 at (put_less 1 at (put_grabbed 2 at (put_offset stride at (put_grabbed 1 at
      (put_offset stride at (put_grabbed 0 at (grab at m)))))))))

  pub start_element : (stride : ℕ) (way : Way) (at : At) {free : Bool} {s : State} → Waiting z free s → Waiting z free (parts.start_element stride way at s)
  unfolding parts.start_element
  start_element stride Copying at m = next_pair stride at m
  start_element stride Into at m = m
  start_element stride Value at m = m
  start_element stride Dropped at m = m

  pub put_element : (way : Way) (at : At) {free : Bool} {s : State} → Waiting z free s → Waiting z free (parts.put_element way at s)
  unfolding parts.put_element
  put_element Into at m = put Over at m
  put_element Value at m = m
  put_element Dropped at m = m
  put_element Copying at m = m

  pub start_elements : (stride : ℕ) (way : Way) (at : At) (count : ℕ) {free : Bool} {s : State} → Waiting z free s
      → Waiting z free (parts.start_elements stride way at count s)
  unfolding parts.start_elements
  start_elements stride way at count m = start_element stride way at (put (Push count) at m)

  pub make_element : (id : TNodeId) (n : Node) (way : Way) (top : ℕ) {free : Bool} {s : State} → AllRun z free n.kids → Waiting z free s → Waiting z free (parts.make_element id n way top s)
  unfolding parts.make_element
  make_element id n way top {s} k m = put_element way n.at (run_kid n 0 way k (more (ElementMade id way top (elements_scope n s)) tt refl (enter_elements id n way m)))

  pub elements : (id : TNodeId) (n : Node) (count : ℕ) (stride : ℕ) (way : Way) {free : Bool} {s : State} → AllRun z free n.kids → Waiting z free s
      → Waiting z free (parts.elements id n count stride way s)
  unfolding parts.elements
  elements id n count stride way {s} k m = make_element id n way (here (states.put (Push count) n.at s)) k (start_elements stride way n.at count m)

  pub next_element : (stride : ℕ) (way : Way) (at : At) {free : Bool} {s : State} → Waiting z free s → Waiting z free (parts.next_element stride way at s)
  unfolding parts.next_element
  next_element stride Into at m = put_less 1 at (put Swap at (put_offset stride at (put Swap at m)))
  next_element stride Value at m = m
  next_element stride Dropped at m = m
  next_element stride Copying at m = m

  pub leave_element : (n : Node) (scope : ℕ) {free : Bool} {s : State} → Waiting z free s → Waiting z free (parts.leave_element n scope s)
  unfolding parts.leave_element
  leave_element n scope m = either (nat_lt 1 (length n.kids)) (left_scope scope m) m

  pub go_round : (stride : ℕ) (way : Way) (top : ℕ) (at : At) {free : Bool} {s : State} → Waiting z free s → Waiting z free (parts.go_round stride way top at s)
  unfolding parts.go_round
  go_round stride way top at m = drop_source way at (put Pop at (put Pop at (repeated top at (next_element stride way at m))))

  pub element_made : (kind : TKind) (n : Node) (way : Way) (top : ℕ) (scope : ℕ) {free : Bool} {s : State} → Waiting z free s
      → Waiting z free (parts.element_made kind n way top scope s)
  unfolding parts.element_made
  element_made (Elements count stride) n way top scope m = go_round stride way top n.at (leave_element n scope m)
  element_made kind n way top scope m = m
