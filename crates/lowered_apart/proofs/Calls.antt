-- Calls.
use Rattle.std.proofs.Common.{codes, false, length, refl, ℕ, ◌*◌, ◌+◌, ◌-◌, Bool}
use Rattle.cpp_tree.specs.cpp_types.Typ.{Signature}
use Rattle.cpp_tree.specs.cpp_types.declared.classes.At.{At}
use Rattle.cpp_tree.specs.declared.arena.TNodeId.{TNodeId}
use Rattle.cpp_tree.specs.declared.kinds.Builtin.TheVariants.{Abort as AbortOf, GetChar, Join as JoinOf, PutChar, Spawn as SpawnOf}
use Rattle.cpp_tree.specs.declared.kinds.Builtin.{Builtin}
use Rattle.cpp_tree.specs.declared.kinds.TKind.TheVariants.{Builtin as BuiltinCall, Call as CallOf, Construct, PointerCall, VirtualCall}
use Rattle.cpp_tree.specs.declared.kinds.TKind.{TKind}
use Rattle.cpp_tree.specs.tx_ints.declared.kinds.IntKind.TheVariants.{ULong}
use Rattle.tx_code.specs.declared.instr.Instr.TheVariants.{Abort, Call, CallIndirect, Dup, EndHandler, GetException, Inp, Join, NewException, Out, Push, PutException, Slot as SlotOf, Spawn, Swap, Throw}
use Rattle.low_code.specs.Nodes.{Node}
use Rattle.low_code.specs.Numbers.{load}
use Rattle.low_code.specs.Types.{is_void, result_of, word_count}
use Rattle.low_code.specs.declared.numbers.TheConstants.{ADDRESS}
use Rattle.low_code.specs.declared.scopes.Owner.TheVariants.{Call as OfCall}
use Rattle.low_code.specs.declared.scopes.ScopeKind.TheVariants.{Mark, Try}
use Rattle.unwind_lower.specs.Calls as calls
use Rattle.unwind_lower.specs.Calls.{called_by, operand}
use Rattle.unwind_lower.specs.Settings.{Setting, callee_in, class_name, function_text, gives_of, text_of}
use Rattle.unwind_lower.specs.States.{State, depth_of, is_live, number_of, scope_count}
use Rattle.unwind_lower.specs.declared.items.Item.TheVariants.{Close, Invoke, Put, Slot}
use Rattle.unwind_lower.specs.declared.items.Way.TheVariants.{Copying, Dropped, Into, Value}
use Rattle.unwind_lower.specs.declared.items.Way.{Way}
use Rattle.lowered_apart.specs.Still.{Nodes}
use Rattle.lowered_apart.specs.Waiting.{AllRun, Waiting}
use Rattle.lowered_apart.proofs.Basic.{caught_all, either, entered, entered_at, entered_handler, left, made_live, more, named, put, put_call, put_offset}
use Rattle.lowered_apart.proofs.Kids.{run_kid, run_kids}

module _ {z : Nodes} where
  pub call_with : (id : TNodeId) (n : Node) (first : ℕ) (way : Way) {free : Bool} {s : State} → AllRun z free n.kids → Waiting z free s → Waiting z free (calls.call_with id n first way s)
  unfolding calls.call_with
  call_with id n first way k m = run_kids n first Value k (more (Invoke id way) tt refl (more (Close OfCall n.at) tt refl (entered (Mark OfCall) n.at tt m)))

  pub virtual_call : (id : TNodeId) (n : Node) (way : Way) {free : Bool} {s : State} → AllRun z free n.kids → Waiting z free s → Waiting z free (calls.virtual_call id n way s)
  unfolding calls.virtual_call
  virtual_call id n way k m = run_kid n 0 Value k (more (Slot id way) tt refl (call_with id n 1 way k m))

  pub swap_into : (at : At) (way : Way) {free : Bool} {s : State} → Waiting z free s → Waiting z free (calls.swap_into at way s)
  unfolding calls.swap_into
  swap_into at Into m = more (Put Swap at) tt refl m
  swap_into at Value m = m
  swap_into at Dropped m = m
  swap_into at Copying m = m

  pub pointer_call : (id : TNodeId) (n : Node) (way : Way) {free : Bool} {s : State} → AllRun z free n.kids → Waiting z free s → Waiting z free (calls.pointer_call id n way s)
  unfolding calls.pointer_call
  pointer_call id n way k m = run_kid n 0 Value k (swap_into n.at way (call_with id n 1 way k m))

  pub builtin_call : (id : TNodeId) (n : Node) (way : Way) {free : Bool} {s : State} → AllRun z free n.kids → Waiting z free s → Waiting z free (calls.builtin_call id n way s)
  unfolding calls.builtin_call
  builtin_call id n way k m = run_kids n 0 Value k (more (Invoke id way) tt refl m)

  pub put_grabbed : (index : ℕ) (at : At) {free : Bool} {s : State} → Waiting z free s → Waiting z free (calls.put_grabbed index at s)
  unfolding calls.put_grabbed
  put_grabbed index at m = put (GetException (index * 8) ADDRESS) at m

  pub grab_word : (offset : ℕ) (at : At) {free : Bool} {s : State} → Waiting z free s → Waiting z free (calls.grab_word offset at s)
  unfolding calls.grab_word
  grab_word offset at m = put (PutException offset ADDRESS) at m

  throw_grabbed : (at : At) {free : Bool} {s : State} → Waiting z free s → Waiting z free (calls.throw_grabbed at s)
  unfolding calls.throw_grabbed
  throw_grabbed at {s = s} m = entered_handler at (caught_all (scope_count s) (made_live (is_live s)
      (left (put Throw at (entered_at Try (depth_of s) at tt m)))))

  pub grab : (at : At) {free : Bool} {s : State} → Waiting z free s → Waiting z free (calls.grab at s)
  unfolding calls.grab
  grab at {s} m = throw_grabbed at (grab_word 0 at (grab_word 8 at (grab_word 16 at (put (NewException (number_of (codes "int") s)) at (named (codes "int") m)))))

  pub let_go : (at : At) {free : Bool} {s : State} → Waiting z free s → Waiting z free (calls.let_go at s)
  unfolding calls.let_go
  let_go at m = left (put EndHandler at m)

  pub sink_below_two : (at : At) {free : Bool} {s : State} → Waiting z free s → Waiting z free (calls.sink_below_two at s)
  unfolding calls.sink_below_two
  sink_below_two at m = let_go at (put_grabbed 1 at (put_grabbed 0 at (put_grabbed 2 at (grab at m))))

  pub sink_slot : (at : At) (way : Way) {free : Bool} {s : State} → Waiting z free s → Waiting z free (calls.sink_slot at way s)
  unfolding calls.sink_slot
  sink_slot at Into m = sink_below_two at m
  sink_slot at Value m = put Swap at m
  sink_slot at Dropped m = put Swap at m
  sink_slot at Copying m = put Swap at m

  pub put_slot : (g : Setting) (class : ℕ) (slot : ℕ) (pointer : ℕ) (at : At) {free : Bool} {s : State} → Waiting z free s
      → Waiting z free (calls.put_slot g class slot pointer at s)
  unfolding calls.put_slot
  put_slot g class slot pointer at {s} m = put (SlotOf (number_of (class_name g class) s) slot) at (put (load ULong false) at (put_offset pointer at
      (put Dup at (named (class_name g class) m))))

  pub slot : (g : Setting) (kind : TKind) (at : At) (way : Way) {free : Bool} {s : State} → Waiting z free s → Waiting z free (calls.slot g kind at way s)
  unfolding calls.slot
  slot g (VirtualCall func class place pointer) at way m = sink_slot at way (put_slot g class place pointer at m)
  slot g kind at way m = m

  pub call_known : (g : Setting) (func : ℕ) (words : ℕ) (at : At) {free : Bool} {s : State} → Waiting z free s → Waiting z free (calls.call_known g func words at s)
  unfolding calls.call_known
  call_known g func words at {s} m = put_call (Call (number_of (callee_in g func).symbol s) words) at words (gives_of (callee_in g func)) (named
      (callee_in g func).symbol m)

  pub call_found : (ty : ℕ) (words : ℕ) (leaves : ℕ) (at : At) {free : Bool} {s : State} → Waiting z free s → Waiting z free (calls.call_found ty words leaves at s)
  unfolding calls.call_found
  call_found ty words leaves at m = put_call (CallIndirect ty words) at (words + 1) leaves m

  pub call_virtual : (g : Setting) (func : ℕ) (words : ℕ) (at : At) {free : Bool} {s : State} → Waiting z free s → Waiting z free (calls.call_virtual g func words at s)
  unfolding calls.call_virtual
  call_virtual g func words at {s} m = call_found (number_of (text_of g (callee_in g func)) s) words (gives_of (callee_in g func)) at (named (text_of g
      (callee_in g func)) m)

  pub call_signature : (g : Setting) (sig : Signature) (kids : ℕ) (at : At) {free : Bool} {s : State} → Waiting z free s
      → Waiting z free (calls.call_signature g sig kids at s)
  unfolding calls.call_signature
  call_signature g sig kids at {s} m = call_found (number_of (function_text g sig) s) (kids - 1) (word_count (result_of sig)) at (named (function_text g sig) m)

  pub call_pointed : (g : Setting) (n : Node) (kids : ℕ) {free : Bool} {s : State} → Waiting z free s → Waiting z free (calls.call_pointed g n kids s)
  unfolding calls.call_pointed
  call_pointed g n kids m = call_signature g (called_by g n) kids n.at m

  pub join : (n : Node) {free : Bool} {s : State} → Waiting z free s → Waiting z free (calls.join n s)
  unfolding calls.join
  join n m = either (is_void n.typ) (put Join n.at m) (put (Push 0) n.at (put Join n.at m))

  pub built_in : (n : Node) (which : Builtin) {free : Bool} {s : State} → Waiting z free s → Waiting z free (calls.built_in n which s)
  unfolding calls.built_in
  built_in n PutChar m = put Out n.at m
  built_in n GetChar m = put Inp n.at m
  built_in n SpawnOf m = put Spawn n.at m
  built_in n AbortOf m = put Abort n.at m
  built_in n JoinOf m = join n m

  pub invoke : (g : Setting) (kind : TKind) (n : Node) (way : Way) {free : Bool} {s : State} → Waiting z free s → Waiting z free (calls.invoke g kind n way s)
  unfolding calls.invoke
  invoke g (CallOf func) n way m = call_known g func (operand (length n.kids) way) n.at m
  invoke g (Construct func) n way m = call_known g func (operand (length n.kids) way) n.at m
  invoke g (VirtualCall func class place pointer) n way m = call_virtual g func (operand (length n.kids) way) n.at m
  invoke g PointerCall n way m = call_pointed g n (operand (length n.kids) way) m
  invoke g (BuiltinCall which) n way m = built_in n which m
  invoke g kind n way m = m
