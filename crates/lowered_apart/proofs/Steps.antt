-- Each item.
use Rattle.std.proofs.Common.{Bool, ap, ◌≡◌, refl, true, false}
use Rattle.cpp_tree.specs.declared.arena.TNodeId.{TNodeId}
use Rattle.cpp_tree.specs.declared.kinds.TKind.TheVariants.{Assign, Atomic, Binary, Block, Break, Builtin, Call, Case, ClassTable, Comma, Conditional, Construct, Continue, Convert, CopyAssign, CopyConstruct, CopyFrom, CopyScalar, Default, Defer, Destroy as DestroyRow, Elements, Field, FullExpression, Function, Global, Handler, Init, Literal, Load, Local, Loop, Materialize, Piece, Pieces, PointerCall, Rethrow, Return, Retype, Store, Switch, Synchronized, Throw, Try, Update, VirtualCall}
use Rattle.cpp_tree.specs.declared.kinds.TKind.{TKind}
use Rattle.tx_code.specs.declared.instr.Instr.TheVariants.{Pop, Push, Resume as ResumeIt, Rethrow as RethrowIt}
use Rattle.low_code.specs.Nodes.{Node}
use Rattle.low_code.specs.Numbers.{load, store}
use Rattle.low_code.specs.Types.{is_void}
use Rattle.unwind_lower.specs.Expressions.{way_of}
use Rattle.unwind_lower.specs.Settings.{node_in, makes_temporaries}
use Rattle.unwind_lower.specs.States.{State}
use Rattle.unwind_lower.specs.Steps as steps
use Rattle.unwind_lower.specs.Steps.{for_value}
use Rattle.unwind_lower.specs.declared.items.Item.TheVariants.{Bind, BlockDone, BodyDone, BodyEnds, Branch, Close, CloseParts, Destroy, ElementMade, Handle, HandlerDone, Invoke, Leave, Made, MemberMade, Other, OtherAgain, Pads, PartMade, Past, Put, Resume, Run, Select, Slot, StepDone, TestDone, Thrown, TryDone, VariableMade}
use Rattle.unwind_lower.specs.declared.items.Item.{Item}
use Rattle.unwind_lower.specs.declared.items.Leaving.TheVariants.{Break as Breaking, Continue as Continuing}
use Rattle.unwind_lower.specs.declared.items.Way.TheVariants.{Copying, Dropped, Into, Value}
use Rattle.unwind_lower.specs.declared.items.Way.{Way}
use Rattle.lowered_apart.specs.Still.{IsBelow, kid, Nodes, lets_wait, holds, is_switch}
use Rattle.lowered_apart.specs.Waiting.{is_free, MayRun, Below, MayStand, Waiting}
use Rattle.lowered_apart.proofs.Lists.{not_both}
use Rattle.lowered_apart.proofs.Basic.{bound, calm, either, more, put}
use Rattle.lowered_apart.proofs.Kids.{below, run_kid}
use Rattle.lowered_apart.proofs.Expressions.{assign, binary, class_table, comma, conditional, convert, copy_assign, full, function, global, local, materialize, operate, update}
use Rattle.lowered_apart.proofs.Calls.{builtin_call, call_with, invoke, pointer_call, slot, virtual_call}
use Rattle.lowered_apart.proofs.Conditions.{branch, other, other_again}
use Rattle.lowered_apart.proofs.Objects.{construct, copy_construct, copy_from, copy_scalar, defer, destroy, init, made, member_made, store_value, variable_made}
use Rattle.lowered_apart.proofs.Parts.{close_parts, element_made, elements, part_made, piece, pieces}
use Rattle.lowered_apart.proofs.Exceptions.{handle, handler_done, start_throw, start_try, thrown, try_done}
use Rattle.lowered_apart.proofs.Blocks.{block, block_done, body_done, leave_by, past, select, start_atomic, start_loop, start_return, start_switch, start_synchronized, step_done, test_done}
use Rattle.lowered_apart.proofs.Leaving.{body_ends, close, leave}
use Rattle.lowered_apart.proofs.Pads.{pads}

-- of a node that holds something no kid makes temporaries
held : (z : Nodes) (id : TNodeId) → IsBelow z.setting z.root id → holds (node_in z.setting id).kind ≡ true → lets_wait (node_in z.setting id).kind ≡ true → Below z false id
held z id o h e = below z id e (o, λ t. not_both (makes_temporaries z.setting id) (z.still.none_made id o h) t)

module _ {z : Nodes} where
  pub drop_value : (n : Node) (way : Way) {free : Bool} {s : State} → Waiting z free s → Waiting z free (steps.drop_value n way s)
  unfolding steps.drop_value
  drop_value n Dropped m = either (is_void n.typ) m (more (Put Pop n.at) tt refl m)
  drop_value n Value m = m
  drop_value n Into m = m
  drop_value n Copying m = m

  -- a node of a kind
  run_kind : (id : TNodeId) (kind : TKind) (way : Way) {free : Bool} {s : State} → (node_in z.setting id).kind ≡ kind → MayRun z free id → Waiting z free s
      → Waiting z false (steps.run_kind z.setting kind id (node_in z.setting id) way s)
  unfolding steps.run_kind
  run_kind id (Literal word) way e o m = calm (put (Push word) (node_in z.setting id).at m)
  run_kind id (Local place) way e o m = calm (local z.setting place (node_in z.setting id).at m)
  run_kind id (Global place) way e o m = calm (global z.setting place (node_in z.setting id).at m)
  run_kind id (Function func) way e o m = calm (function z.setting func (node_in z.setting id).at m)
  run_kind id (ClassTable class) way e o m = calm (class_table z.setting class (node_in z.setting id).at m)
  run_kind id (Load kind volatile) way e o m = calm (operate (node_in z.setting id) (load kind volatile) (below z id (ap lets_wait e) o) m)
  run_kind id (Convert to) way e o m = calm (convert (node_in z.setting id) to (below z id (ap lets_wait e) o) m)
  run_kind id Retype way e o m = calm (run_kid (node_in z.setting id) 0 (way_of (node_in z.setting id)) (below z id (ap lets_wait e) o) m)
  run_kind id (Binary op kind) way e o m = calm (binary (node_in z.setting id) op kind (below z id (ap lets_wait e) o) m)
  run_kind id Conditional way e o m = calm (conditional id way (below z id (ap lets_wait e) o) m)
  run_kind id Comma way e o m = calm (comma (node_in z.setting id) way (below z id (ap lets_wait e) o) m)
  run_kind id (Assign kind volatile) way e o m = calm (assign (node_in z.setting id) (store kind volatile) (below z id (ap lets_wait e) o) m)
  run_kind id (Update op stored operation volatile old) way e o m = calm (update (node_in z.setting id) op stored operation volatile old (below z id (ap lets_wait e) o) m)
  run_kind id CopyAssign way e o m = calm (copy_assign (node_in z.setting id) (below z id (ap lets_wait e) o) m)
  run_kind id (Materialize place argument) way e o m = calm (materialize z.setting id (node_in z.setting id) place (below z id (ap lets_wait e) o) m)
  run_kind id FullExpression way e o m = calm (full (node_in z.setting id) way (λ index. (kid id index o.0, λ t. refl)) m)
  run_kind id (Call func) way e o m = calm (call_with id (node_in z.setting id) 0 way (below z id (ap lets_wait e) o) m)
  run_kind id (VirtualCall func class place pointer) way e o m = calm (virtual_call id (node_in z.setting id) way (below z id (ap lets_wait e) o) m)
  run_kind id PointerCall way e o m = calm (pointer_call id (node_in z.setting id) way (below z id (ap lets_wait e) o) m)
  run_kind id (Builtin which) way e o m = calm (builtin_call id (node_in z.setting id) way (below z id (ap lets_wait e) o) m)
  run_kind id Throw way e o m = calm (start_throw id (node_in z.setting id) (below z id (ap lets_wait e) o) m)
  run_kind id Rethrow way e o m = calm (put RethrowIt (node_in z.setting id).at m)
  run_kind id (Store kind volatile) way e o m = calm (store_value (node_in z.setting id) (store kind volatile) way (below z id (ap lets_wait e) o) m)
  run_kind id (CopyScalar kind volatile) way e o m = calm (copy_scalar kind volatile (node_in z.setting id).at m)
  run_kind id (Construct func) way e o m = calm (construct id (node_in z.setting id) way (below z id (ap lets_wait e) o) m)
  run_kind id (CopyConstruct func) way e o m = calm (copy_construct z.setting func (node_in z.setting id).at m)
  run_kind id CopyFrom way e o m = calm (copy_from (node_in z.setting id) way (below z id (ap lets_wait e) o) m)
  run_kind id Pieces way e o m = calm (pieces (node_in z.setting id) way (below z id (ap lets_wait e) o) m)
  run_kind id (Piece offset) way e o m = calm (piece id (node_in z.setting id) offset way (below z id (ap lets_wait e) o) m)
  run_kind id (Elements count stride) way e o m = calm (elements id (node_in z.setting id) count stride way (below z id (ap lets_wait e) o) m)
  run_kind id (Block subobjects) way e o m = calm (block (node_in z.setting id) (below z id (ap lets_wait e) o) m)
  run_kind id Init way e o m = calm (init z.setting id (node_in z.setting id) (below z id (ap lets_wait e) o) m)
  run_kind id Defer way e o m = calm (defer id (node_in z.setting id) (held z id o.0 (ap holds e) (ap lets_wait e)) m)
  run_kind id (Loop test_first) way e o m = start_loop id test_first (held z id o.0 (ap holds e) (ap lets_wait e)) (calm m)
  run_kind id Switch way e o m = start_switch id (held z id o.0 (ap holds e) (ap lets_wait e)) (z.still.one_default id o.0 (ap is_switch e)) (calm m)
  run_kind id (Case word) way e o m = calm m
  run_kind id Default way e o m = calm m
  run_kind id Break way e o m = calm (leave_by Breaking (node_in z.setting id).at m)
  run_kind id Continue way e o m = calm (leave_by Continuing (node_in z.setting id).at m)
  run_kind id Return way e o m = calm (start_return (node_in z.setting id) (below z id (ap lets_wait e) o) m)
  run_kind id Try way e o m = start_try id (node_in z.setting id) (held z id o.0 (ap holds e) (ap lets_wait e)) (calm m)
  run_kind id (Handler place) way e o m = calm m
  run_kind id (Atomic kind) way e o m = calm (start_atomic (node_in z.setting id) kind (below z id (ap lets_wait e) o) m)
  run_kind id Synchronized way e o m = calm (start_synchronized (node_in z.setting id) (below z id (ap lets_wait e) o) m)
  run_kind id (DestroyRow func offset count stride) way e o m = calm m
  run_kind id (Field offset kind) way e o m = calm m

  run : (id : TNodeId) (way : Way) {free : Bool} {s : State} → MayRun z free id → Waiting z free s → Waiting z false (steps.run z.setting id way s)
  unfolding steps.run
  run id way o m = run_kind id (node_in z.setting id).kind (for_value way) refl o (drop_value (node_in z.setting id) way m)

  -- each item
  pub written : (item : Item) {s : State} → MayStand z (is_free s.work) item → Waiting z (is_free s.work) s → Waiting z false (steps.written z.setting item s)
  unfolding steps.written
  written (Run id way) k m = run id way k m
  written (Put instr at) k m = calm (put instr at m)
  written (Branch id way) k m = branch (node_in z.setting id) way k m
  written (Other o) k m = other o k (calm m)
  written (OtherAgain o) k m = calm (other_again o k m)
  written (Bind jump) k m = calm (bound jump m)
  written (Slot id way) k m = calm (slot z.setting (node_in z.setting id).kind (node_in z.setting id).at way m)
  written (Invoke id way) k m = calm (invoke z.setting (node_in z.setting id).kind (node_in z.setting id) way m)
  written (Thrown id) k m = calm (thrown z.setting (node_in z.setting id) m)
  written (Made id) k m = calm (made z.setting (node_in z.setting id).kind id (node_in z.setting id) m)
  written (PartMade id way) k m = calm (part_made (node_in z.setting id).kind id (node_in z.setting id) way m)
  written (VariableMade id) k m = calm (variable_made z.setting id (node_in z.setting id) m)
  written (MemberMade id) k m = calm (member_made id (node_in z.setting id).at m)
  written (Close owner at) k m = close owner at (calm m)
  written (CloseParts way at) k m = calm (close_parts way at m)
  written (ElementMade id way top scope) k m = calm (element_made (node_in z.setting id).kind (node_in z.setting id) way top scope m)
  written (Destroy id first) k m = calm (destroy z.setting (node_in z.setting id) first m)
  written (BodyDone turn) k m = body_done turn k (calm m)
  written (StepDone turn) k m = step_done turn k (calm m)
  written (TestDone turn) k m = calm (test_done turn (node_in z.setting turn.id).at m)
  written (Select id) k m = select (node_in z.setting id) k.0 (calm m)
  written (Past scope) k m = calm (past scope m)
  written (TryDone id scope) k m = calm (try_done scope (node_in z.setting id).at m)
  written (Handle id scope live) k m = handle id (node_in z.setting id).kind scope live refl k (calm m)
  written (HandlerDone handler scope at) k m = calm (handler_done handler scope at m)
  written (BlockDone scope end at) k m = calm (block_done scope end at m)
  written (Leave leaving origin at) k m = leave z.setting leaving origin at (calm m)
  written (BodyEnds at) k m = calm (body_ends z.setting at m)
  written (Pads scope) k m = pads z.setting scope (calm m)
  written (Resume at) k m = calm (put ResumeIt at m)
