-- What is written for each item, and for all of them.
use Rattle.std.specs.Prelude.{◌≡◌, [], cond}
use Rattle.cpp_tree.specs.declared.arena.TNodeId.{TNodeId}
use Rattle.cpp_tree.specs.declared.kinds.TKind.{TKind}
use Rattle.cpp_tree.specs.declared.kinds.TKind.TheVariants.{Literal, Local, Global, Function, ClassTable, Load, Convert, Retype, Binary, Conditional, Comma, Assign, Update}
use Rattle.cpp_tree.specs.declared.kinds.TKind.TheVariants.{CopyAssign, Materialize, FullExpression, Call, VirtualCall, PointerCall, Builtin, Throw, Rethrow}
use Rattle.cpp_tree.specs.declared.kinds.TKind.TheVariants.{Store, CopyScalar, Construct, CopyConstruct, CopyFrom, Pieces, Piece, Elements}
use Rattle.cpp_tree.specs.declared.kinds.TKind.TheVariants.{Block, Init, Defer, Loop, Switch, Case, Default, Break, Continue, Return, Try, Handler, Atomic, Synchronized}
use Rattle.cpp_tree.specs.declared.kinds.TKind.TheVariants.{Destroy as DestroyRow, Field}
use Rattle.tx_code.specs.declared.instr.Instr.TheVariants.{Push, Pop, Rethrow as RethrowIt, Resume as ResumeIt}
use Rattle.low_code.specs.Nodes.{Node}
use Rattle.low_code.specs.Numbers.{load, store}
use Rattle.low_code.specs.Types.{is_void}
use Rattle.unwind_lower.specs.declared.items.Leaving.TheVariants.{Break as Breaking, Continue as Continuing}
use Rattle.unwind_lower.specs.declared.items.Way.{Way}
use Rattle.unwind_lower.specs.declared.items.Way.TheVariants.{Value, Dropped, Into, Copying}
use Rattle.unwind_lower.specs.declared.items.Item.{Item}
use Rattle.unwind_lower.specs.declared.items.Item.TheVariants.{Run, Put, Branch, Other, OtherAgain, Bind, Slot, Invoke, Thrown, Made, PartMade, VariableMade, MemberMade}
use Rattle.unwind_lower.specs.declared.items.Item.TheVariants.{Close, CloseParts, ElementMade, Destroy, BodyDone, StepDone, TestDone, Select, Past, TryDone, Handle}
use Rattle.unwind_lower.specs.declared.items.Item.TheVariants.{HandlerDone, BlockDone, Leave, BodyEnds, Pads, Resume}
use Rattle.unwind_lower.specs.States.{State, later, put, bound}
use Rattle.unwind_lower.specs.Settings.{Setting, node_in}
use Rattle.unwind_lower.specs.Kids.{run_kid}
use Rattle.unwind_lower.specs.Expressions.{way_of, local, global, function, class_table, operate, convert, binary, assign, update, conditional, comma, full, copy_assign, materialize}
use Rattle.unwind_lower.specs.Calls.{call_with, virtual_call, pointer_call, builtin_call, slot, invoke}
use Rattle.unwind_lower.specs.Conditions.{other, other_again, branch}
use Rattle.unwind_lower.specs.Objects.{store_value, copy_scalar, construct, copy_construct, copy_from, made, init, variable_made, member_made, defer, destroy}
use Rattle.unwind_lower.specs.Parts.{pieces, piece, part_made, close_parts, elements, element_made}
use Rattle.unwind_lower.specs.Exceptions.{start_throw, thrown, start_try, try_done, handle, handler_done}
use Rattle.unwind_lower.specs.Blocks.{block, leave_by, start_return, start_atomic, start_synchronized, block_done, start_loop, body_done, step_done, test_done}
use Rattle.unwind_lower.specs.Blocks.{start_switch, select, past}
use Rattle.unwind_lower.specs.Leaving.{close, leave, body_ends}
use Rattle.unwind_lower.specs.Pads.{pads}

-- ---- a node

-- the value of a node that is run for what it does is dropped
unfoldable pub drop_value : Node → Way → State → State
drop_value n Dropped s = cond (is_void n.typ) s (later (Put Pop n.at) s)
drop_value n Value s = s
drop_value n Into s = s
drop_value n Copying s = s

-- it is run for its value
abbrev pub for_value : Way → Way
for_value Dropped = Value
for_value Value = Value
for_value Into = Into
for_value Copying = Copying

-- a node of a kind
unfoldable pub run_kind : Setting → TKind → TNodeId → Node → Way → State → State
run_kind g (Literal word) id n way s = put (Push word) n.at s
run_kind g (Local place) id n way s = local g place n.at s
run_kind g (Global place) id n way s = global g place n.at s
run_kind g (Function func) id n way s = function g func n.at s
run_kind g (ClassTable class) id n way s = class_table g class n.at s
run_kind g (Load kind volatile) id n way s = operate n (load kind volatile) s
run_kind g (Convert to) id n way s = convert n to s
run_kind g Retype id n way s = run_kid n 0 (way_of n) s
run_kind g (Binary op kind) id n way s = binary n op kind s
run_kind g Conditional id n way s = conditional id n way s
run_kind g Comma id n way s = comma n way s
run_kind g (Assign kind volatile) id n way s = assign n (store kind volatile) s
run_kind g (Update op stored operation volatile old) id n way s = update n op stored operation volatile old s
run_kind g CopyAssign id n way s = copy_assign n s
run_kind g (Materialize place argument) id n way s = materialize g id n place s
run_kind g FullExpression id n way s = full n way s
run_kind g (Call func) id n way s = call_with id n 0 way s
run_kind g (VirtualCall func class place pointer) id n way s = virtual_call id n way s
run_kind g PointerCall id n way s = pointer_call id n way s
run_kind g (Builtin which) id n way s = builtin_call id n way s
run_kind g Throw id n way s = start_throw id n s
run_kind g Rethrow id n way s = put RethrowIt n.at s
run_kind g (Store kind volatile) id n way s = store_value n (store kind volatile) way s
run_kind g (CopyScalar kind volatile) id n way s = copy_scalar kind volatile n.at s
run_kind g (Construct func) id n way s = construct id n way s
run_kind g (CopyConstruct func) id n way s = copy_construct g func n.at s
run_kind g CopyFrom id n way s = copy_from n way s
run_kind g Pieces id n way s = pieces n way s
run_kind g (Piece offset) id n way s = piece id n offset way s
run_kind g (Elements count stride) id n way s = elements id n count stride way s
run_kind g (Block subobjects) id n way s = block n s
run_kind g Init id n way s = init g id n s
run_kind g Defer id n way s = defer id n s
run_kind g (Loop test_first) id n way s = start_loop id n test_first s
run_kind g Switch id n way s = start_switch id n s
run_kind g (Case word) id n way s = s
run_kind g Default id n way s = s
run_kind g Break id n way s = leave_by Breaking n.at s
run_kind g Continue id n way s = leave_by Continuing n.at s
run_kind g Return id n way s = start_return n s
run_kind g Try id n way s = start_try id n s
run_kind g (Handler place) id n way s = s
run_kind g (Atomic kind) id n way s = start_atomic n kind s
run_kind g Synchronized id n way s = start_synchronized n s
run_kind g (DestroyRow func offset count stride) id n way s = s
run_kind g (Field offset kind) id n way s = s

unfoldable pub run : Setting → TNodeId → Way → State → State
run g id way s = run_kind g (node_in g id).kind id (node_in g id) (for_value way) (drop_value (node_in g id) way s)

-- ---- an item

unfoldable pub written : Setting → Item → State → State
written g (Run id way) s = run g id way s
written g (Put instr at) s = put instr at s
written g (Branch id way) s = branch g (node_in g id) way s
written g (Other o) s = other o s
written g (OtherAgain o) s = other_again o s
written g (Bind jump) s = bound jump s
written g (Slot id way) s = slot g (node_in g id).kind (node_in g id).at way s
written g (Invoke id way) s = invoke g (node_in g id).kind (node_in g id) way s
written g (Thrown id) s = thrown g (node_in g id) s
written g (Made id) s = made g (node_in g id).kind id (node_in g id) s
written g (PartMade id way) s = part_made (node_in g id).kind id (node_in g id) way s
written g (VariableMade id) s = variable_made g id (node_in g id) s
written g (MemberMade id) s = member_made id (node_in g id).at s
written g (Close owner at) s = close owner at s
written g (CloseParts way at) s = close_parts way at s
written g (ElementMade id way top scope) s = element_made (node_in g id).kind (node_in g id) way top scope s
written g (Destroy id first) s = destroy g (node_in g id) first s
written g (BodyDone turn) s = body_done (node_in g turn.id) turn s
written g (StepDone turn) s = step_done (node_in g turn.id) turn s
written g (TestDone turn) s = test_done turn (node_in g turn.id).at s
written g (Select id) s = select g (node_in g id) s
written g (Past scope) s = past scope s
written g (TryDone id scope) s = try_done scope (node_in g id).at s
written g (Handle id scope live) s = handle g (node_in g id).kind (node_in g id) scope live s
written g (HandlerDone handler scope at) s = handler_done handler scope at s
written g (BlockDone scope end at) s = block_done scope end at s
written g (Leave leaving origin at) s = leave g leaving origin at s
written g (BodyEnds at) s = body_ends g at s
written g (Pads scope) s = pads g scope s
written g (Resume at) s = put ResumeIt at s

-- ---- all items

-- the state comes about, item by item
pub data Reaches (g : Setting) (from : State) : State → Type 0 where
  here : Reaches g from from
  behind : (item : Item) (s : State) → Reaches g from (later item s) → Reaches g from (written g item s)

-- and nothing is to be written any more
pub record Writes (g : Setting) (from to : State) : Type 0 where
  pub reaches : Reaches g from to
  pub done : to.work ≡ []
