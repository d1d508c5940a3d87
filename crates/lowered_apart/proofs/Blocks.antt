-- Statements.
use Rattle.std.proofs.Common.{Bool, List, Option, [], drop, false, refl, true, ℕ, ◌∷◌, ◌≤◌, suc}
use Rattle.cpp_tree.specs.cpp_types.declared.classes.At.{At}
use Rattle.cpp_tree.specs.declared.arena.TNodeId.{TNodeId}
use Rattle.cpp_tree.specs.declared.kinds.TKind.TheVariants.{Case}
use Rattle.cpp_tree.specs.declared.kinds.TKind.{TKind}
use Rattle.cpp_tree.specs.tx_events.declared.BlockKind.{BlockKind}
use Rattle.tx_code.specs.declared.instr.Instr.TheVariants.{Begin, BeginSync, Bin, Dup, End, EndSync, Jump as JumpTo, Pop, Push}
use Rattle.tx_code.specs.declared.instr.Instr.{Instr}
use Rattle.low_code.specs.Nodes.{Node}
use Rattle.low_code.specs.Numbers.{block_number}
use Rattle.low_code.specs.declared.numbers.TheConstants.{ADDRESS, SYNC_EDGE}
use Rattle.low_code.specs.declared.scopes.Owner.TheVariants.{Block as OfBlock}
use Rattle.low_code.specs.declared.scopes.ScopeKind.TheVariants.{Block, Loop, Mark, Switch}
use Rattle.low_code.specs.declared.writer.Jump.{Jump}
use Rattle.low_code.specs.declared.writer.Sort.TheVariants.{Again, Past as PastIt}
use Rattle.unwind_lower.specs.Blocks as blocks
use Rattle.unwind_lower.specs.Blocks.{case_jump, edge_number, first_label, has_default, jump_over_from, label_jump, label_of, labelled, labels_of, other_labels}
use Rattle.unwind_lower.specs.Kids.{kids_from}
use Rattle.unwind_lower.specs.Settings.{Setting, node_in}
use Rattle.unwind_lower.specs.States as states
use Rattle.unwind_lower.specs.States.{State, here, is_live, jump_from, scope_at, scope_count, scope_of, zero_jump_from}
use Rattle.unwind_lower.specs.declared.items.Item.TheVariants.{Bind, BlockDone, BodyDone, Close, Leave, Past, Select, StepDone, TestDone}
use Rattle.unwind_lower.specs.declared.items.Leaving.TheVariants.{Return}
use Rattle.unwind_lower.specs.declared.items.Leaving.{Leaving}
use Rattle.unwind_lower.specs.declared.items.Turn.{Turn}
use Rattle.unwind_lower.specs.declared.items.Way.TheVariants.{Dropped, Value}
use Rattle.lowered_apart.specs.Still.{Nodes}
use Rattle.lowered_states.specs.Runs.{defaults}
use Rattle.lowered_apart.specs.Waiting.{MayRun, AllRun, Below, Waiting}
use Rattle.lowered_apart.proofs.Lists.{drops}
use Rattle.lowered_apart.proofs.Basic.{at_scope, bound, bound_all, entered, hold, jumped, jumped_if_zero, left_scope, made_live, more, put, run_next}
use Rattle.lowered_apart.proofs.Kids.{run_kid, run_kids}

module _ {z : Nodes} where
  pub block : (n : Node) {free : Bool} {s : State} → AllRun z free n.kids → Waiting z free s → Waiting z free (blocks.block n s)
  unfolding blocks.block
  block n k m = run_kids n 0 Dropped k (more (Close OfBlock n.at) tt refl (entered (Mark OfBlock) n.at tt m))

  pub start_block : (n : Node) (edge : ℕ) (end : Instr) {free : Bool} {s : State} → AllRun z free n.kids → Waiting z free s → Waiting z free (blocks.start_block n edge end s)
  unfolding blocks.start_block
  start_block n edge end {s} k m = run_kid n 0 Dropped k (more (BlockDone (scope_count s) end n.at) tt refl (entered (Block edge) n.at tt m))

  pub start_atomic : (n : Node) (kind : BlockKind) {free : Bool} {s : State} → AllRun z free n.kids → Waiting z free s → Waiting z free (blocks.start_atomic n kind s)
  unfolding blocks.start_atomic
  start_atomic n kind k m = start_block n (edge_number kind) End k (put (Begin (block_number kind)) n.at m)

  pub start_synchronized : (n : Node) {free : Bool} {s : State} → AllRun z free n.kids → Waiting z free s → Waiting z free (blocks.start_synchronized n s)
  unfolding blocks.start_synchronized
  start_synchronized n k m = start_block n SYNC_EDGE EndSync k (put BeginSync n.at m)

  pub block_done : (scope : ℕ) (end : Instr) (at : At) {free : Bool} {s : State} → Waiting z free s → Waiting z free (blocks.block_done scope end at s)
  unfolding blocks.block_done
  block_done scope end at m = left_scope scope (put end at m)

  pub leave_by : (leaving : Leaving) (at : At) {free : Bool} {s : State} → Waiting z free s → Waiting z free (blocks.leave_by leaving at s)
  unfolding blocks.leave_by states.scope_of
  leave_by leaving at {s = s} m = more (Leave leaving s.body.scope at) tt refl m

  pub start_return : (n : Node) {free : Bool} {s : State} → AllRun z free n.kids → Waiting z free s → Waiting z free (blocks.start_return n s)
  unfolding blocks.start_return
  start_return n k m = run_kids n 0 Value k (leave_by Return n.at m)

  jump_over : (at : At) (b : Bool) {free : Bool} {s : State} → Waiting z free s → Waiting z free (blocks.jump_over at b s)
  unfolding blocks.jump_over
  jump_over at true {s = s} m = made_live (is_live s) (jumped at m)
  jump_over at false m = m

  start_body : (id : TNodeId) (first : Option Jump) {s : State} → Below z false id → Waiting z false s
      → Waiting z false (blocks.start_body id (node_in z.setting id) first s)
  unfolding blocks.start_body
  start_body id first {s} k m = run_kid (node_in z.setting id) 1 Dropped k
      (hold (BodyDone (record { id = id; scope = scope_count s; top = here s; first = first })) k (entered Loop (node_in z.setting id).at tt m))

  pub start_loop : (id : TNodeId) (b : Bool) {s : State} → Below z false id → Waiting z false s
      → Waiting z false (blocks.start_loop id (node_in z.setting id) b s)
  unfolding blocks.start_loop
  start_loop id b {s} k m = start_body id (jump_over_from b s) k (jump_over (node_in z.setting id).at b m)

  pub body_done : (turn : Turn) {s : State} → Below z false turn.id → Waiting z false s
      → Waiting z false (blocks.body_done (node_in z.setting turn.id) turn s)
  unfolding blocks.body_done
  body_done turn k m = run_kid (node_in z.setting turn.id) 2 Dropped k (hold (StepDone turn) k (bound_all turn.scope Again (left_scope turn.scope m)))

  pub step_done : (turn : Turn) {s : State} → Below z false turn.id → Waiting z false s
      → Waiting z false (blocks.step_done (node_in z.setting turn.id) turn s)
  unfolding blocks.step_done
  step_done turn k m = run_kid (node_in z.setting turn.id) 0 Value k (hold (TestDone turn) tt (bound turn.first m))

  pub test_done : (turn : Turn) (at : At) {free : Bool} {s : State} → Waiting z free s → Waiting z free (blocks.test_done turn at s)
  unfolding blocks.test_done
  test_done turn at {s = s} m = bound_all turn.scope PastIt (bound (zero_jump_from s) (put (JumpTo turn.top) at (jumped_if_zero at m)))

  pub start_switch : (id : TNodeId) {s : State} → Below z false id → defaults z.setting (kids_from (node_in z.setting id) 1) ≤ 1 → Waiting z false s
      → Waiting z false (blocks.start_switch id (node_in z.setting id) s)
  unfolding blocks.start_switch
  start_switch id k l m = run_kid (node_in z.setting id) 0 Value k (hold (Select id) (k, l) m)

  compared : (word : ℕ) (at : At) {free : Bool} {s : State} → Waiting z free s → Waiting z free (blocks.compared word at s)
  unfolding blocks.compared
  compared word at m = put (Bin 14 ADDRESS) at (put (Push word) at (put Dup at m))

  matched : (word : ℕ) (at : At) {free : Bool} {s : State} → Waiting z free s → Waiting z free (blocks.matched word at s)
  unfolding blocks.matched
  matched word at m = put Pop at (jumped_if_zero at (compared word at m))

  select_case : (word : ℕ) (at : At) {free : Bool} {s : State} → Waiting z free s → Waiting z free (blocks.select_case word at s)
  unfolding blocks.select_case
  select_case word at {s = s} m = bound (zero_jump_from (blocks.compared word at s)) (jumped at (matched word at m))

  select_label : (kind : TKind) (at : At) {free : Bool} {s : State} → Waiting z free s → Waiting z free (blocks.select_label kind at s)
  unfolding blocks.select_label
  select_label (Case word) at m = select_case word at m
  select_label kind at m = m

  select_labels : (g : Setting) (ids : List TNodeId) {free : Bool} {s : State} → Waiting z free s → Waiting z free (blocks.select_labels g ids s)
  unfolding blocks.select_labels
  select_labels g [] m = m
  select_labels g (id ∷ ids) m = select_labels g ids (select_label (node_in g id).kind (node_in g id).at m)

  bind_none : (otherwise : Option Jump) (b : Bool) {s : State} → Waiting z false s → Waiting z false (blocks.bind_none otherwise b s)
  unfolding blocks.bind_none
  bind_none otherwise true m = m
  bind_none otherwise false m = hold (Bind otherwise) tt m

  run_item : (g : Setting) (otherwise : Option Jump) (id : TNodeId) (label : Option Jump) {s : State} → MayRun z false id → Waiting z false s
      → Waiting z false (blocks.run_item g otherwise id label s)
  unfolding blocks.run_item
  run_item g otherwise id label k m = hold (Bind (label_of (node_in g id).kind label otherwise)) tt (run_next id Dropped k m)

  run_items : (g : Setting) (otherwise : Option Jump) (ids : List TNodeId) (labels : List (Option Jump)) {s : State} → AllRun z false ids → Waiting z false s
      → Waiting z false (blocks.run_items g otherwise ids labels s)
  unfolding blocks.run_items blocks.run_item blocks.labelled states.later
  run_items g otherwise [] labels k m = m
  run_items g otherwise (id ∷ ids) labels k m = run_item g otherwise id (first_label labels) (k 0)
      (run_items g otherwise ids (other_labels labels) (λ index. k (suc index)) m)

  compare_labels : (g : Setting) (n : Node) {free : Bool} {s : State} → Waiting z free s → Waiting z free (blocks.compare_labels g n s)
  unfolding blocks.compare_labels
  compare_labels g n m = put Pop n.at (select_labels g n.kids m)

  later_items : (g : Setting) (n : Node) (scope : ℕ) (labels : List (Option Jump)) {s : State} → AllRun z false n.kids → Waiting z false s
      → Waiting z false (blocks.later_items g n scope labels s)
  unfolding blocks.later_items
  later_items g n scope labels {s} k m = run_items g (jump_from s) (kids_from n 1) (drop 1 labels) (drops z 1 n.kids k) (more (Close OfBlock n.at) tt refl
      (bind_none (jump_from s) (has_default g n.kids) (hold (Past scope) tt (jumped n.at m))))

  enter_switch : (at : At) {free : Bool} {s : State} → Waiting z free s → Waiting z free (blocks.enter_switch at s)
  unfolding blocks.enter_switch
  enter_switch at m = entered (Mark OfBlock) at tt (entered Switch at tt m)

  pub select : (n : Node) {s : State} → AllRun z false n.kids → Waiting z false s → Waiting z false (blocks.select z.setting n s)
  unfolding blocks.select
  select n {s} k m = later_items z.setting n (scope_count s) (labels_of z.setting n.kids (blocks.enter_switch n.at s)) k
      (compare_labels z.setting n (enter_switch n.at m))

  pub past : (scope : ℕ) {free : Bool} {s : State} → Waiting z free s → Waiting z free (blocks.past scope s)
  unfolding blocks.past
  past scope {s = s} m = at_scope (scope_at scope s).parent (bound_all scope PastIt m)
