-- Statements.
use Rattle.std.specs.Prelude.{Bool, true, false, ℕ, cond, List, [], ◌∷◌, drop, Option, None, slice_get, unwrap_or}
use Rattle.std.specs.List.{list_any}
use Rattle.cpp_tree.specs.cpp_types.declared.classes.At.{At}
use Rattle.cpp_tree.specs.tx_events.declared.BlockKind.{BlockKind}
use Rattle.cpp_tree.specs.tx_events.declared.BlockKind.TheVariants.{NoExcept, Commit, Cancel}
use Rattle.cpp_tree.specs.declared.arena.TNodeId.{TNodeId}
use Rattle.cpp_tree.specs.declared.kinds.TKind.{TKind}
use Rattle.cpp_tree.specs.declared.kinds.TKind.TheVariants.{Case, Default}
use Rattle.tx_code.specs.declared.instr.Instr.{Instr}
use Rattle.tx_code.specs.declared.instr.Instr.TheVariants.{Push, Dup, Pop, Bin, Jump as JumpTo, Begin, End, BeginSync, EndSync}
use Rattle.low_code.specs.declared.numbers.TheConstants.{ADDRESS, SYNC_EDGE}
use Rattle.low_code.specs.declared.scopes.Owner.TheVariants.{Block as OfBlock}
use Rattle.low_code.specs.declared.scopes.ScopeKind.TheVariants.{Mark, Block, Loop, Switch}
use Rattle.low_code.specs.declared.writer.Jump.{Jump}
use Rattle.low_code.specs.declared.writer.Sort.TheVariants.{Past as PastIt, Again}
use Rattle.low_code.specs.Nodes.{Node}
use Rattle.low_code.specs.Numbers.{block_number}
use Rattle.unwind_lower.specs.declared.items.Leaving.{Leaving}
use Rattle.unwind_lower.specs.declared.items.Leaving.TheVariants.{Return}
use Rattle.unwind_lower.specs.declared.items.Turn.{Turn}
use Rattle.unwind_lower.specs.declared.items.Way.TheVariants.{Value, Dropped}
use Rattle.unwind_lower.specs.declared.items.Item.{Item}
use Rattle.unwind_lower.specs.declared.items.Item.TheVariants.{Run, Bind, Close, BodyDone, StepDone, TestDone, Select, Past, BlockDone, Leave}
use Rattle.unwind_lower.specs.States.{State, later, put, jumped, jump_from, jumped_if_zero, zero_jump_from, bound, bound_all, entered, left_scope}
use Rattle.unwind_lower.specs.States.{at_scope, made_live, here, scope_of, is_live, scope_at, scope_count}
use Rattle.unwind_lower.specs.Settings.{Setting, node_in}
use Rattle.unwind_lower.specs.Kids.{run_kid, run_kids, kids_from}

-- ---- blocks

unfoldable pub block : Node → State → State
block n s = run_kids n 0 Dropped (later (Close OfBlock n.at) (entered (Mark OfBlock) n.at s))

-- the number of the edge of an atomic block
abbrev pub edge_number : BlockKind → ℕ
edge_number NoExcept = 3
edge_number Commit = 4
edge_number Cancel = 5

-- the body of a block with this edge, which ends with that instruction
unfoldable pub start_block : Node → ℕ → Instr → State → State
start_block n edge end s = run_kid n 0 Dropped (later (BlockDone (scope_count s) end n.at) (entered (Block edge) n.at s))

unfoldable pub start_atomic : Node → BlockKind → State → State
start_atomic n kind s = start_block n (edge_number kind) End (put (Begin (block_number kind)) n.at s)

unfoldable pub start_synchronized : Node → State → State
start_synchronized n s = start_block n SYNC_EDGE EndSync (put BeginSync n.at s)

unfoldable pub block_done : ℕ → Instr → At → State → State
block_done scope end at s = left_scope scope (put end at s)

-- ---- jumps

-- the scopes at hand are left on this way
unfoldable pub leave_by : Leaving → At → State → State
leave_by leaving at s = later (Leave leaving (scope_of s) at) s

unfoldable pub start_return : Node → State → State
start_return n s = run_kids n 0 Value (leave_by Return n.at s)

-- ---- loops

-- the jump to the test of a loop, if it comes first; the body behind it can be reached from there
unfoldable pub jump_over : At → Bool → State → State
jump_over at true s = made_live (is_live s) (jumped at s)
jump_over at false s = s

unfoldable pub jump_over_from : Bool → State → Option Jump
jump_over_from true s = jump_from s
jump_over_from false s = None

-- the body of a loop, over which a jump leads
unfoldable pub start_body : TNodeId → Node → Option Jump → State → State
start_body id n first s = run_kid n 1 Dropped (later (BodyDone (record { id = id; scope = scope_count s; top = here s; first = first })) (entered Loop n.at s))

unfoldable pub start_loop : TNodeId → Node → Bool → State → State
start_loop id n test_first s = start_body id n (jump_over_from test_first s) (jump_over n.at test_first s)

unfoldable pub body_done : Node → Turn → State → State
body_done n turn s = run_kid n 2 Dropped (later (StepDone turn) (bound_all turn.scope Again (left_scope turn.scope s)))

unfoldable pub step_done : Node → Turn → State → State
step_done n turn s = run_kid n 0 Value (later (TestDone turn) (bound turn.first s))

unfoldable pub test_done : Turn → At → State → State
test_done turn at s = bound_all turn.scope PastIt (bound (zero_jump_from s) (put (JumpTo turn.top) at (jumped_if_zero at s)))

-- ---- `switch`

unfoldable pub start_switch : TNodeId → Node → State → State
start_switch id n s = run_kid n 0 Value (later (Select id) s)

-- the word on top beside that of a label, and whether they are one
unfoldable pub compared : ℕ → At → State → State
compared word at s = put (Bin 14 ADDRESS) at (put (Push word) at (put Dup at s))

-- where the words are one, the one on top is taken
unfoldable pub matched : ℕ → At → State → State
matched word at s = put Pop at (jumped_if_zero at (compared word at s))

-- then a jump is made to what the label stands at
unfoldable pub select_case : ℕ → At → State → State
select_case word at s = bound (zero_jump_from (compared word at s)) (jumped at (matched word at s))

unfoldable pub case_jump : ℕ → At → State → Option Jump
case_jump word at s = jump_from (matched word at s)

-- the same for what may be a label
unfoldable pub select_label : TKind → At → State → State
select_label (Case word) at s = select_case word at s
select_label kind at s = s

unfoldable pub label_jump : TKind → At → State → Option Jump
label_jump (Case word) at s = case_jump word at s
label_jump kind at s = None

-- the items of a `switch`, and the jumps to them
unfoldable pub select_labels : Setting → List TNodeId → State → State
select_labels g [] s = s
select_labels g (id ∷ ids) s = select_labels g ids (select_label (node_in g id).kind (node_in g id).at s)

unfoldable pub labels_of : Setting → List TNodeId → State → List (Option Jump)
labels_of g [] s = []
labels_of g (id ∷ ids) s = label_jump (node_in g id).kind (node_in g id).at s ∷ labels_of g ids (select_label (node_in g id).kind (node_in g id).at s)

abbrev pub is_default : TKind → Bool
is_default Default = true
is_default kind = false

unfoldable pub has_default : Setting → List TNodeId → Bool
has_default g ids = list_any (λ (id : TNodeId). is_default (node_in g id).kind) ids

-- the jump that is made where no label has the value leads behind the `switch`, if it has no `default`
unfoldable pub bind_none : Option Jump → Bool → State → State
bind_none otherwise true s = s
bind_none otherwise false s = later (Bind otherwise) s

-- the jump to an item, which has this label
abbrev pub label_of : TKind → Option Jump → Option Jump → Option Jump
label_of kind label otherwise = cond (is_default kind) otherwise label

abbrev pub label_at : List (Option Jump) → ℕ → Option Jump
label_at labels index = unwrap_or (slice_get labels index) None

abbrev pub first_label : List (Option Jump) → Option Jump
first_label [] = None
first_label (label ∷ labels) = label

abbrev pub other_labels : List (Option Jump) → List (Option Jump)
other_labels [] = []
other_labels (label ∷ labels) = labels

-- an item with the jump to it
unfoldable pub run_item : Setting → Option Jump → TNodeId → Option Jump → State → State
run_item g otherwise id label s = later (Bind (label_of (node_in g id).kind label otherwise)) (later (Run id Dropped) s)

-- the items with the jumps to them, the first one first, and then others
unfoldable pub labelled : Setting → Option Jump → List TNodeId → List (Option Jump) → List Item → List Item
labelled g otherwise [] labels items = items
labelled g otherwise (id ∷ ids) labels items =
    Bind (label_of (node_in g id).kind (first_label labels) otherwise) ∷ Run id Dropped ∷ labelled g otherwise ids (other_labels labels) items

unfoldable pub run_items : Setting → Option Jump → List TNodeId → List (Option Jump) → State → State
run_items g otherwise ids labels s = record s { work = labelled g otherwise ids labels s.work }

-- the labels are compared with the value on top
unfoldable pub compare_labels : Setting → Node → State → State
compare_labels g n s = put Pop n.at (select_labels g n.kids s)

-- the items of a `switch` with this scope, to which these jumps lead
unfoldable pub later_items : Setting → Node → ℕ → List (Option Jump) → State → State
later_items g n scope labels s = run_items g (jump_from s) (kids_from n 1) (drop 1 labels) (later (Close OfBlock n.at)
    (bind_none (jump_from s) (has_default g n.kids) (later (Past scope) (jumped n.at s))))

-- the scopes of a `switch`
unfoldable pub enter_switch : At → State → State
enter_switch at s = entered (Mark OfBlock) at (entered Switch at s)

unfoldable pub select : Setting → Node → State → State
select g n s = later_items g n (scope_count s) (labels_of g n.kids (enter_switch n.at s)) (compare_labels g n (enter_switch n.at s))

unfoldable pub past : ℕ → State → State
past scope s = at_scope (scope_at scope s).parent (bound_all scope PastIt s)
