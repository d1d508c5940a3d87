-- Statements.
use Rattle.std.proofs.Common.{Bool, List, None, Option, [], drop, false, length, refl, subst, sym, true, ℕ, ◌<◌, ◌∷◌, ◌≡◌, ◌≤◌}
use Rattle.cpp_tree.specs.cpp_types.declared.classes.At.{At}
use Rattle.cpp_tree.specs.declared.arena.TNodeId.{TNodeId}
use Rattle.cpp_tree.specs.declared.kinds.TKind.TheVariants.{Case}
use Rattle.cpp_tree.specs.declared.kinds.TKind.{TKind}
use Rattle.cpp_tree.specs.tx_events.declared.BlockKind.{BlockKind}
use Rattle.tx_code.specs.declared.instr.Instr.TheVariants.{Begin, BeginSync, Bin, Dup, End, EndSync, Jump as JumpTo, Pop, Push}
use Rattle.tx_code.specs.declared.instr.Instr.{Instr}
use Rattle.low_code.specs.Nodes.{Node}
use Rattle.low_code.specs.Numbers.{block_number}
use Rattle.low_code.specs.declared.numbers.TheConstants.{ADDRESS, SYNC_EDGE}
use Rattle.low_code.specs.declared.scopes.Owner.TheVariants.{Block as OfBlock}
use Rattle.low_code.specs.declared.scopes.Scope.{Scope}
use Rattle.low_code.specs.declared.scopes.ScopeKind.TheVariants.{Block, Loop, Mark, Switch}
use Rattle.low_code.specs.declared.writer.Jump.{Jump}
use Rattle.low_code.specs.declared.writer.Sort.TheVariants.{Again, Past as PastIt}
use Rattle.unwind_lower.specs.Blocks as blocks
use Rattle.unwind_lower.specs.Blocks.{case_jump, edge_number, first_label, has_default, jump_over_from, label_jump, label_of, labelled, labels_of, other_labels}
use Rattle.unwind_lower.specs.Kids.{kids_from}
use Rattle.unwind_lower.specs.Settings.{Setting, node_in}
use Rattle.unwind_lower.specs.States as states
use Rattle.unwind_lower.specs.States.{State, here, is_live, jump_from, scope_at, scope_count, scope_of, zero_jump_from}
use Rattle.unwind_lower.specs.declared.items.Item.TheVariants.{Bind, BlockDone, BodyDone, Close, Leave, Past, Run, Select, StepDone, TestDone}
use Rattle.unwind_lower.specs.declared.items.Leaving.TheVariants.{Return}
use Rattle.unwind_lower.specs.declared.items.Leaving.{Leaving}
use Rattle.unwind_lower.specs.declared.items.Turn.{Turn}
use Rattle.unwind_lower.specs.declared.items.Way.TheVariants.{Dropped, Value}
use Rattle.lowered_states.specs.Claims.{Claim, coming, with_jump}
use Rattle.lowered_states.specs.Runs.{defaults}
use Rattle.lowered_states.specs.Sound.{scope_from}
use Rattle.lowered_states.proofs.Basic.{at_scope, bound, bound_all, entered, jumped, jumped_if_zero, left_scope, made_live, more, no_zero_jump, parent_within, places, put, rests, within}
use Rattle.lowered_states.proofs.Kids.{run_kid, run_kids}
use Rattle.lowered_states.proofs.Labels.{bound_by, bound_last, enough_labels, jump_first, jumps_turned, label_first, one_fewer, turned, unless_default, with_jumps}
use Rattle.lowered_states.proofs.Moves.{Moves, Start, fewer}
use Rattle.lowered_states.proofs.Single.{all_bound as bound_like}

module _ {z : Start} where
  pub block : (n : Node) {cs : List Claim} {s : State} → Moves z cs s → Moves z cs (blocks.block n s)
  unfolding blocks.block
  block n m = run_kids n 0 Dropped (more (Close OfBlock n.at) tt (entered (Mark OfBlock) n.at refl m))

  pub start_block : (n : Node) (edge : ℕ) (end : Instr) {cs : List Claim} {s : State} → Moves z cs s → Moves z cs (blocks.start_block n edge end s)
  unfolding blocks.start_block
  start_block n edge end {s} m = run_kid n 0 Dropped (more (BlockDone (scope_count s) end n.at) tt (entered (Block edge) n.at refl m))

  pub start_atomic : (n : Node) (kind : BlockKind) {cs : List Claim} {s : State} → Moves z cs s → Moves z cs (blocks.start_atomic n kind s)
  unfolding blocks.start_atomic
  start_atomic n kind m = start_block n (edge_number kind) End (put (Begin (block_number kind)) n.at m)

  pub start_synchronized : (n : Node) {cs : List Claim} {s : State} → Moves z cs s → Moves z cs (blocks.start_synchronized n s)
  unfolding blocks.start_synchronized
  start_synchronized n m = start_block n SYNC_EDGE EndSync (put BeginSync n.at m)

  pub block_done : (scope : ℕ) (end : Instr) (at : At) {cs : List Claim} {s : State} → Moves z cs s → Moves z cs (blocks.block_done scope end at s)
  unfolding blocks.block_done
  block_done scope end at m = left_scope scope (put end at m)

  pub leave_by : (leaving : Leaving) (at : At) {cs : List Claim} {s : State} → Moves z cs s → Moves z cs (blocks.leave_by leaving at s)
  unfolding blocks.leave_by states.scope_of
  leave_by leaving at {s = s} m = more (Leave leaving s.body.scope at) (within m) m

  pub start_return : (n : Node) {cs : List Claim} {s : State} → Moves z cs s → Moves z cs (blocks.start_return n s)
  unfolding blocks.start_return
  start_return n m = run_kids n 0 Value (leave_by Return n.at m)

  jump_over : (at : At) (b : Bool) {cs : List Claim} {s : State} → Moves z cs s → Moves z (with_jump (jump_over_from b s) cs) (blocks.jump_over at b s)
  unfolding blocks.jump_over jump_over_from
  jump_over at true {s = s} m = made_live (is_live s) (rests m) (jumped at m)
  jump_over at false m = m

  start_body : (id : TNodeId) (n : Node) (first : Option Jump) {cs : List Claim} {s : State} → Moves z (with_jump first cs) s
      → Moves z cs (blocks.start_body id n first s)
  unfolding blocks.start_body states.scope_count
  start_body id n first {cs} {s} m = run_kid n 1 Dropped (more (BodyDone (record { id = id; scope = length s.body.scopes; top = here s; first = first })) tt
      (fewer (turned (coming (length s.body.scopes) Again) (coming (length s.body.scopes) PastIt) (with_jump first cs)) (places Loop n.at refl m)))

  pub start_loop : (id : TNodeId) (n : Node) (b : Bool) {cs : List Claim} {s : State} → Moves z cs s → Moves z cs (blocks.start_loop id n b s)
  unfolding blocks.start_loop
  start_loop id n b {s = s} m = start_body id n (jump_over_from b s) (jump_over n.at b m)

  pub body_done : (n : Node) (turn : Turn) → (z.asleep → ⊥) → {cs : List Claim} {s : State}
      → Moves z (coming turn.scope Again ∷ coming turn.scope PastIt ∷ with_jump turn.first cs) s → Moves z cs (blocks.body_done n turn s)
  unfolding blocks.body_done
  body_done n turn q m = run_kid n 2 Dropped (more (StepDone turn) tt (bound_all turn.scope Again q (left_scope turn.scope m)))

  pub step_done : (n : Node) (turn : Turn) → (z.asleep → turn.first ≡ None) → {cs : List Claim} {s : State}
      → Moves z (coming turn.scope PastIt ∷ with_jump turn.first cs) s → Moves z cs (blocks.step_done n turn s)
  unfolding blocks.step_done
  step_done n turn q {cs} m = run_kid n 0 Value (more (TestDone turn) tt (bound turn.first q
      (fewer (jump_first turn.first (coming turn.scope PastIt) cs) m)))

  pub test_done : (turn : Turn) (at : At) → (z.asleep → ⊥) → {cs : List Claim} {s : State} → Moves z (coming turn.scope PastIt ∷ cs) s
      → Moves z cs (blocks.test_done turn at s)
  unfolding blocks.test_done
  test_done turn at q {s = s} m = bound_all turn.scope PastIt q
      (bound (zero_jump_from s) (no_zero_jump m) (put (JumpTo turn.top) at (jumped_if_zero at m)))

  pub start_switch : (id : TNodeId) (n : Node) {cs : List Claim} {s : State} → Moves z cs s → Moves z cs (blocks.start_switch id n s)
  unfolding blocks.start_switch
  start_switch id n m = run_kid n 0 Value (more (Select id) tt m)

  pub compared : (word : ℕ) (at : At) {cs : List Claim} {s : State} → Moves z cs s → Moves z cs (blocks.compared word at s)
  unfolding blocks.compared
  compared word at m = put (Bin 14 ADDRESS) at (put (Push word) at (put Dup at m))

  matched : (word : ℕ) (at : At) {cs : List Claim} {s : State} → Moves z cs s
      → Moves z (with_jump (zero_jump_from (blocks.compared word at s)) cs) (blocks.matched word at s)
  unfolding blocks.matched
  matched word at m = put Pop at (jumped_if_zero at (compared word at m))

  select_case : (word : ℕ) (at : At) {cs : List Claim} {s : State} → Moves z cs s → Moves z (with_jump (case_jump word at s) cs) (blocks.select_case word at s)
  unfolding blocks.select_case case_jump
  select_case word at {cs} {s} m = bound (zero_jump_from (blocks.compared word at s)) (no_zero_jump (compared word at m))
      (fewer (jumps_turned (zero_jump_from (blocks.compared word at s)) (jump_from (blocks.matched word at s)) cs) (jumped at (matched word at m)))

  select_label : (kind : TKind) (at : At) {cs : List Claim} {s : State} → Moves z cs s
      → Moves z (with_jump (label_jump kind at s) cs) (blocks.select_label kind at s)
  unfolding blocks.select_label label_jump
  select_label (Case word) at m = select_case word at m
  select_label kind at m = m

  select_labels : (g : Setting) (ids : List TNodeId) {cs : List Claim} {s : State} → Moves z cs s
      → Moves z (with_jumps (labels_of g ids s) cs) (blocks.select_labels g ids s)
  unfolding blocks.select_labels labels_of
  select_labels g [] m = m
  select_labels g (id ∷ ids) {cs} {s} m =
      let label = label_jump (node_in g id).kind (node_in g id).at s in
      let others = labels_of g ids (blocks.select_label (node_in g id).kind (node_in g id).at s) in
      fewer (label_first label others cs) (select_labels g ids (select_label (node_in g id).kind (node_in g id).at m))

  bind_none : (otherwise : Option Jump) (b : Bool) {cs : List Claim} {s : State} → Moves z (unless_default b otherwise cs) s
      → Moves z cs (blocks.bind_none otherwise b s)
  unfolding blocks.bind_none
  bind_none otherwise true m = m
  bind_none otherwise false m = more (Bind otherwise) tt m

  run_item : (g : Setting) (otherwise : Option Jump) (id : TNodeId) (label : Option Jump) {cs : List Claim} {s : State}
      → Moves z (with_jump (label_of (node_in g id).kind label otherwise) cs) s → Moves z cs (blocks.run_item g otherwise id label s)
  unfolding blocks.run_item
  run_item g otherwise id label m = more (Bind (label_of (node_in g id).kind label otherwise)) tt (more (Run id Dropped) tt m)

  run_items : (g : Setting) (otherwise : Option Jump) (ids : List TNodeId) (labels : List (Option Jump)) {cs : List Claim} {s : State}
      → Moves z (bound_by g otherwise ids labels cs) s → Moves z cs (blocks.run_items g otherwise ids labels s)
  unfolding blocks.run_items blocks.run_item blocks.labelled states.later
  run_items g otherwise [] labels m = m
  run_items g otherwise (id ∷ ids) labels {cs} m = run_item g otherwise id (first_label labels) (run_items g otherwise ids (other_labels labels)
      (fewer (bound_last g otherwise ids (other_labels labels) (label_of (node_in g id).kind (first_label labels) otherwise) cs) m))

  compare_labels : (g : Setting) (n : Node) {cs : List Claim} {s : State} → Moves z cs s
      → Moves z (with_jumps (labels_of g n.kids s) cs) (blocks.compare_labels g n s)
  unfolding blocks.compare_labels
  compare_labels g n m = put Pop n.at (select_labels g n.kids m)

  later_items : (g : Setting) (n : Node) (scope : ℕ) (labels : List (Option Jump)) → defaults g (kids_from n 1) ≤ 1 → {cs : List Claim} {s : State}
      → Moves z (with_jumps labels (coming scope PastIt ∷ cs)) s → Moves z cs (blocks.later_items g n scope labels s)
  unfolding blocks.later_items
  later_items g n scope labels one {cs} {s} m = run_items g (jump_from s) (kids_from n 1) (drop 1 labels) (more (Close OfBlock n.at) tt
      (bind_none (jump_from s) (has_default g n.kids) (more (Past scope) tt
      (fewer (enough_labels g n (coming scope PastIt) (jump_from s) labels cs one) (jumped n.at m)))))

  pub enter_switch : (at : At) {cs : List Claim} {s : State} → Moves z cs s → Moves z cs (blocks.enter_switch at s)
  unfolding blocks.enter_switch
  enter_switch at m = entered (Mark OfBlock) at refl (entered Switch at refl m)

  pub select : (g : Setting) (n : Node) → defaults g (kids_from n 1) ≤ 1 → {cs : List Claim} {s : State} → Moves z cs s → Moves z cs (blocks.select g n s)
  unfolding blocks.select blocks.enter_switch states.scope_count
  select g n one {cs} {s} m = later_items g n (length s.body.scopes) (labels_of g n.kids (blocks.enter_switch n.at s)) one
      (compare_labels g n (entered (Mark OfBlock) n.at refl
      (fewer (one_fewer (coming (length s.body.scopes) PastIt) (coming (length s.body.scopes) Again) cs) (places Switch n.at refl m))))

  pub past : (scope : ℕ) → (z.asleep → ⊥) → {cs : List Claim} {s : State} → Moves z (coming scope PastIt ∷ cs) s → Moves z cs (blocks.past scope s)
  unfolding blocks.past states.scope_at states.bound_all
  past scope q {s = s} m = at_scope (scope_from s.body.scopes scope).parent
      (subst (λ (ss : List Scope). (scope_from s.body.scopes scope).parent < length ss) (sym (bound_like scope PastIt s.body).scopes) (parent_within m scope))
      (bound_all scope PastIt q m)
