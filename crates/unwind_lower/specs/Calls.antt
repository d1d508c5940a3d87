-- Calls.
use Rattle.std.specs.Prelude.{ℕ, ◌+◌, ◌-◌, ◌*◌, length, cond, codes, false}
use Rattle.cpp_tree.specs.cpp_types.declared.classes.At.{At}
use Rattle.cpp_tree.specs.cpp_types.Typ.{Signature}
use Rattle.cpp_tree.specs.tx_ints.declared.kinds.IntKind.TheVariants.{ULong}
use Rattle.cpp_tree.specs.declared.arena.TNodeId.{TNodeId}
use Rattle.cpp_tree.specs.declared.kinds.TKind.{TKind}
use Rattle.cpp_tree.specs.declared.kinds.TKind.TheVariants.{Call as CallOf, Construct, VirtualCall, PointerCall, Builtin as BuiltinCall}
use Rattle.cpp_tree.specs.declared.kinds.Builtin.{Builtin}
use Rattle.cpp_tree.specs.declared.kinds.Builtin.TheVariants.{PutChar, GetChar, Spawn as SpawnOf, Join as JoinOf, Abort as AbortOf}
use Rattle.tx_code.specs.declared.instr.Instr.TheVariants.{Push, Dup, Swap, Call, CallIndirect, Slot as SlotOf, Out, Inp, Spawn, Join, Abort, NewException, PutException, Throw, GetException, EndHandler}
use Rattle.low_code.specs.declared.numbers.TheConstants.{ADDRESS}
use Rattle.low_code.specs.declared.scopes.Owner.TheVariants.{Call as OfCall}
use Rattle.low_code.specs.declared.scopes.ScopeKind.TheVariants.{Mark, Try}
use Rattle.low_code.specs.Nodes.{Node, kid_in}
use Rattle.low_code.specs.Numbers.{load}
use Rattle.low_code.specs.Types.{is_void, called_type, word_count, result_of}
use Rattle.unwind_lower.specs.declared.items.Way.{Way}
use Rattle.unwind_lower.specs.declared.items.Way.TheVariants.{Value, Dropped, Into, Copying}
use Rattle.unwind_lower.specs.declared.items.Item.TheVariants.{Put, Slot, Invoke, Close}
use Rattle.unwind_lower.specs.States.{State, later, put, put_call, put_offset, entered_at, entered, entered_handler, left, caught_all, made_live, named, number_of}
use Rattle.unwind_lower.specs.States.{depth_of, is_live, scope_count}
use Rattle.unwind_lower.specs.Settings.{Setting, node_in, callee_in, gives_of, text_of, function_text, class_name}
use Rattle.unwind_lower.specs.Kids.{run_kid, run_kids}

-- how many words a call passes: with the address of a class result one more
abbrev pub operand : ℕ → Way → ℕ
operand words Into = words + 1
operand words Value = words
operand words Dropped = words
operand words Copying = words

-- ---- the words of a call

-- the words, which are the kids from one on, and the call, in the scope of the argument objects
unfoldable pub call_with : TNodeId → Node → ℕ → Way → State → State
call_with id n first way s = run_kids n first Value (later (Invoke id way) (later (Close OfCall n.at) (entered (Mark OfCall) n.at s)))

unfoldable pub virtual_call : TNodeId → Node → Way → State → State
virtual_call id n way s = run_kid n 0 Value (later (Slot id way) (call_with id n 1 way s))

unfoldable pub swap_into : At → Way → State → State
swap_into at Into s = later (Put Swap at) s
swap_into at Value s = s
swap_into at Dropped s = s
swap_into at Copying s = s

unfoldable pub pointer_call : TNodeId → Node → Way → State → State
pointer_call id n way s = run_kid n 0 Value (swap_into n.at way (call_with id n 1 way s))

unfoldable pub builtin_call : TNodeId → Node → Way → State → State
builtin_call id n way s = run_kids n 0 Value (later (Invoke id way) s)

-- ---- words in any order

-- one of the words that were taken
unfoldable pub put_grabbed : ℕ → At → State → State
put_grabbed index at s = put (GetException (index * 8) ADDRESS) at s

unfoldable pub grab_word : ℕ → At → State → State
grab_word offset at s = put (PutException offset ADDRESS) at s

-- the exception that is made is thrown and taken at once
unfoldable pub throw_grabbed : At → State → State
throw_grabbed at s =
    entered_handler at (caught_all (scope_count s) (made_live (is_live s) (left (put Throw at (entered_at Try (depth_of s) at s)))))

-- three words are taken
unfoldable pub grab : At → State → State
grab at s = throw_grabbed at (grab_word 0 at (grab_word 8 at (grab_word 16 at
    (put (NewException (number_of (codes "int") s)) at (named (codes "int") s)))))

-- the handler is left in which they can be had
unfoldable pub let_go : At → State → State
let_go at s = left (put EndHandler at s)

-- ---- virtual calls

unfoldable pub sink_below_two : At → State → State
sink_below_two at s = let_go at (put_grabbed 1 at (put_grabbed 0 at (put_grabbed 2 at (grab at s))))

-- the address on top comes below the object, and below the address of a class result
unfoldable pub sink_slot : At → Way → State → State
sink_slot at Into s = sink_below_two at s
sink_slot at Value s = put Swap at s
sink_slot at Dropped s = put Swap at s
sink_slot at Copying s = put Swap at s

-- the address of the function that the class of an object has in the slot
unfoldable pub put_slot : Setting → ℕ → ℕ → ℕ → At → State → State
put_slot g class slot pointer at s = put (SlotOf (number_of (class_name g class) s) slot) at (put (load ULong false) at
    (put_offset pointer at (put Dup at (named (class_name g class) s))))

unfoldable pub slot : Setting → TKind → At → Way → State → State
slot g (VirtualCall func class place pointer) at way s = sink_slot at way (put_slot g class place pointer at s)
slot g kind at way s = s

-- ---- the calls

-- a function of the unit is called
unfoldable pub call_known : Setting → ℕ → ℕ → At → State → State
call_known g func words at s = put_call (Call (number_of (callee_in g func).symbol s) words) at words (gives_of (callee_in g func))
    (named (callee_in g func).symbol s)

-- the function of a type is called whose address lies below the words
unfoldable pub call_found : ℕ → ℕ → ℕ → At → State → State
call_found ty words leaves at s = put_call (CallIndirect ty words) at (words + 1) leaves s

unfoldable pub call_virtual : Setting → ℕ → ℕ → At → State → State
call_virtual g func words at s = call_found (number_of (text_of g (callee_in g func)) s) words (gives_of (callee_in g func)) at
    (named (text_of g (callee_in g func)) s)

-- a function of such a type is called, with one word less than there are kids
unfoldable pub call_signature : Setting → Signature → ℕ → At → State → State
call_signature g sig kids at s = call_found (number_of (function_text g sig) s) (kids - 1) (word_count (result_of sig)) at
    (named (function_text g sig) s)

-- what the pointer points to that is the first kid
unfoldable pub called_by : Setting → Node → Signature
called_by g n = called_type (node_in g (kid_in n.kids 0)).typ

-- a call through that pointer
unfoldable pub call_pointed : Setting → Node → ℕ → State → State
call_pointed g n kids s = call_signature g (called_by g n) kids n.at s

-- a join has the value 0 where it has one
unfoldable pub join : Node → State → State
join n s = cond (is_void n.typ) (put Join n.at s) (put (Push 0) n.at (put Join n.at s))

unfoldable pub built_in : Node → Builtin → State → State
built_in n PutChar s = put Out n.at s
built_in n GetChar s = put Inp n.at s
built_in n SpawnOf s = put Spawn n.at s
built_in n AbortOf s = put Abort n.at s
built_in n JoinOf s = join n s

unfoldable pub invoke : Setting → TKind → Node → Way → State → State
invoke g (CallOf func) n way s = call_known g func (operand (length n.kids) way) n.at s
invoke g (Construct func) n way s = call_known g func (operand (length n.kids) way) n.at s
invoke g (VirtualCall func class place pointer) n way s = call_virtual g func (operand (length n.kids) way) n.at s
invoke g PointerCall n way s = call_pointed g n (operand (length n.kids) way) s
invoke g (BuiltinCall which) n way s = built_in n which s
invoke g kind n way s = s
