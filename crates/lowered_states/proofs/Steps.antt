-- Each item.
use Rattle.std.proofs.Common.{List, length, lt_of_lt_of_le}
use Rattle.cpp_tree.specs.declared.arena.TNodeId.{TNodeId}
use Rattle.cpp_tree.specs.declared.kinds.TKind.TheVariants.{Assign, Atomic, Binary, Block, Break, Builtin, Call, Case, ClassTable, Comma, Conditional, Construct, Continue, Convert, CopyAssign, CopyConstruct, CopyFrom, CopyScalar, Default, Defer, Destroy as DestroyRow, Elements, Field, FullExpression, Function, Global, Handler, Init, Literal, Load, Local, Loop, Materialize, Piece, Pieces, PointerCall, Rethrow, Return, Retype, Store, Switch, Synchronized, Throw, Try, Update, VirtualCall}
use Rattle.cpp_tree.specs.declared.kinds.TKind.{TKind}
use Rattle.tx_code.specs.declared.instr.Instr.TheVariants.{Pop, Push, Resume as ResumeIt, Rethrow as RethrowIt}
use Rattle.low_code.specs.Nodes.{Node}
use Rattle.low_code.specs.Numbers.{load, store}
use Rattle.low_code.specs.Types.{is_void}
use Rattle.unwind_lower.specs.Expressions.{way_of}
use Rattle.unwind_lower.specs.Settings.{Setting, node_in}
use Rattle.unwind_lower.specs.States.{State}
use Rattle.unwind_lower.specs.Steps as steps
use Rattle.unwind_lower.specs.Steps.{for_value}
use Rattle.unwind_lower.specs.declared.items.Item.TheVariants.{Bind, BlockDone, BodyDone, BodyEnds, Branch, Close, CloseParts, Destroy, ElementMade, Handle, HandlerDone, Invoke, Leave, Made, MemberMade, Other, OtherAgain, Pads, PartMade, Past, Put, Resume, Run, Select, Slot, StepDone, TestDone, Thrown, TryDone, VariableMade}
use Rattle.unwind_lower.specs.declared.items.Item.{Item}
use Rattle.unwind_lower.specs.declared.items.Leaving.TheVariants.{Break as Breaking, Continue as Continuing}
use Rattle.unwind_lower.specs.declared.items.Way.TheVariants.{Copying, Dropped, Into, Value}
use Rattle.unwind_lower.specs.declared.items.Way.{Way}
use Rattle.lowered_states.specs.Claims.{Claim, with_claims}
use Rattle.lowered_states.specs.Runs.{IsApart, Sleeps}
use Rattle.lowered_states.specs.Sound.{Knows}
use Rattle.lowered_states.proofs.Basic.{bound, either, more, put}
use Rattle.lowered_states.proofs.Blocks.{block, block_done, body_done, leave_by, past, select, start_atomic, start_loop, start_return, start_switch, start_synchronized, step_done, test_done}
use Rattle.lowered_states.proofs.Calls.{builtin_call, call_with, invoke, pointer_call, slot, virtual_call}
use Rattle.lowered_states.proofs.Conditions.{branch, other, other_again}
use Rattle.lowered_states.proofs.Exceptions.{handle, handler_done, start_throw, start_try, thrown, try_done}
use Rattle.lowered_states.proofs.Expressions.{assign, binary, class_table, comma, conditional, convert, copy_assign, full, function, global, local, materialize, operate, update}
use Rattle.lowered_states.proofs.Kids.{run_kid}
use Rattle.lowered_states.proofs.Leaving.{body_ends, close, leave}
use Rattle.lowered_states.proofs.Moves.{Moves, Start}
use Rattle.lowered_states.proofs.Objects.{construct, copy_construct, copy_from, copy_scalar, defer, destroy, init, made, member_made, store_value, variable_made}
use Rattle.lowered_states.proofs.Pads.{pads}
use Rattle.lowered_states.proofs.Parts.{close_parts, element_made, elements, part_made, piece, pieces}
use Rattle.lowered_states.proofs.Whole.{grown}

module _ {z : Start} where
  pub drop_value : (n : Node) (way : Way) {cs : List Claim} {s : State} → Moves z cs s → Moves z cs (steps.drop_value n way s)
  unfolding steps.drop_value
  drop_value n Dropped m = either (is_void n.typ) m (more (Put Pop n.at) tt m)
  drop_value n Value m = m
  drop_value n Into m = m
  drop_value n Copying m = m

  pub run_kind : (g : Setting) (kind : TKind) (id : TNodeId) (n : Node) (way : Way) {cs : List Claim} {s : State} → Moves z cs s
      → Moves z cs (steps.run_kind g kind id n way s)
  unfolding steps.run_kind
  run_kind g (Literal word) id n way m = put (Push word) n.at m
  run_kind g (Local place) id n way m = local g place n.at m
  run_kind g (Global place) id n way m = global g place n.at m
  run_kind g (Function func) id n way m = function g func n.at m
  run_kind g (ClassTable class) id n way m = class_table g class n.at m
  run_kind g (Load kind volatile) id n way m = operate n (load kind volatile) m
  run_kind g (Convert to) id n way m = convert n to m
  run_kind g Retype id n way m = run_kid n 0 (way_of n) m
  run_kind g (Binary op kind) id n way m = binary n op kind m
  run_kind g Conditional id n way m = conditional id n way m
  run_kind g Comma id n way m = comma n way m
  run_kind g (Assign kind volatile) id n way m = assign n (store kind volatile) m
  run_kind g (Update op stored operation volatile old) id n way m = update n op stored operation volatile old m
  run_kind g CopyAssign id n way m = copy_assign n m
  run_kind g (Materialize place argument) id n way m = materialize g id n place m
  run_kind g FullExpression id n way m = full n way m
  run_kind g (Call func) id n way m = call_with id n 0 way m
  run_kind g (VirtualCall func class place pointer) id n way m = virtual_call id n way m
  run_kind g PointerCall id n way m = pointer_call id n way m
  run_kind g (Builtin which) id n way m = builtin_call id n way m
  run_kind g Throw id n way m = start_throw id n m
  run_kind g Rethrow id n way m = put RethrowIt n.at m
  run_kind g (Store kind volatile) id n way m = store_value n (store kind volatile) way m
  run_kind g (CopyScalar kind volatile) id n way m = copy_scalar kind volatile n.at m
  run_kind g (Construct func) id n way m = construct id n way m
  run_kind g (CopyConstruct func) id n way m = copy_construct g func n.at m
  run_kind g CopyFrom id n way m = copy_from n way m
  run_kind g Pieces id n way m = pieces n way m
  run_kind g (Piece offset) id n way m = piece id n offset way m
  run_kind g (Elements count stride) id n way m = elements id n count stride way m
  run_kind g (Block subobjects) id n way m = block n m
  run_kind g Init id n way m = init g id n m
  run_kind g Defer id n way m = defer id n m
  run_kind g (Loop test_first) id n way m = start_loop id n test_first m
  run_kind g Switch id n way m = start_switch id n m
  run_kind g (Case word) id n way m = m
  run_kind g Default id n way m = m
  run_kind g Break id n way m = leave_by Breaking n.at m
  run_kind g Continue id n way m = leave_by Continuing n.at m
  run_kind g Return id n way m = start_return n m
  run_kind g Try id n way m = start_try id n m
  run_kind g (Handler place) id n way m = m
  run_kind g (Atomic kind) id n way m = start_atomic n kind m
  run_kind g Synchronized id n way m = start_synchronized n m
  run_kind g (DestroyRow func offset count stride) id n way m = m
  run_kind g (Field offset kind) id n way m = m

  pub run : (g : Setting) (id : TNodeId) (way : Way) {cs : List Claim} {s : State} → Moves z cs s → Moves z cs (steps.run g id way s)
  unfolding steps.run
  run g id way m = run_kind g (node_in g id).kind id (node_in g id) (for_value way) (drop_value (node_in g id) way m)

  -- each item, where its claims are at hand
  pub written : (g : Setting) (item : Item) → Knows (length z.from.body.scopes) item → (z.asleep → Sleeps item) → {cs : List Claim} {s : State}
      → IsApart g item s → Moves z (with_claims item cs) s → Moves z cs (steps.written g item s)
  unfolding steps.written
  written g (Run id way) k q a m = run g id way m
  written g (Put instr at) k q a m = put instr at m
  written g (Branch id way) k q a m = branch g (node_in g id) way a m
  written g (Other o) k q a m = other o q (lt_of_lt_of_le k (grown m)) m
  written g (OtherAgain o) k q a m = other_again o q (lt_of_lt_of_le k (grown m)) m
  written g (Bind jump) k q a m = bound jump q m
  written g (Slot id way) k q a m = slot g (node_in g id).kind (node_in g id).at way m
  written g (Invoke id way) k q a m = invoke g (node_in g id).kind (node_in g id) way m
  written g (Thrown id) k q a m = thrown g (node_in g id) m
  written g (Made id) k q a m = made g (node_in g id).kind id (node_in g id) m
  written g (PartMade id way) k q a m = part_made (node_in g id).kind id (node_in g id) way m
  written g (VariableMade id) k q a m = variable_made g id (node_in g id) m
  written g (MemberMade id) k q a m = member_made id (node_in g id).at m
  written g (Close owner at) k q a m = close owner at m
  written g (CloseParts way at) k q a m = close_parts way at m
  written g (ElementMade id way top scope) k q a m = element_made (node_in g id).kind (node_in g id) way top scope m
  written g (Destroy id first) k q a m = destroy g (node_in g id) first m
  written g (BodyDone turn) k q a m = body_done (node_in g turn.id) turn q m
  written g (StepDone turn) k q a m = step_done (node_in g turn.id) turn q m
  written g (TestDone turn) k q a m = test_done turn (node_in g turn.id).at q m
  written g (Select id) k q a m = select g (node_in g id) a m
  written g (Past scope) k q a m = past scope q m
  written g (TryDone id scope) k q a m = try_done scope (node_in g id).at k m
  written g (Handle id scope live) k q a m = handle g (node_in g id).kind (node_in g id) scope live k q m
  written g (HandlerDone handler scope at) k q a m = handler_done handler scope at k m
  written g (BlockDone scope end at) k q a m = block_done scope end at m
  written g (Leave leaving origin at) k q a m = leave g leaving origin at k m
  written g (BodyEnds at) k q a m = body_ends g at m
  written g (Pads scope) k q a m = pads g scope q m
  written g (Resume at) k q a m = put ResumeIt at m
