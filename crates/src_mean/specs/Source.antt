-- The source thread: what a node does, event by event (C++14 clauses 5, 6, 8.5, 12, 15; the TS).
use Rattle.std.specs.Prelude.{ℕ, zero, suc, ℤ, pos, ◌+◌, ◌*◌, ◌^◌, ◌%◌, ◌==◌, Bool, true, false, not, cond, nat_lt, ◌||◌, List, [], ◌∷◌, ◌++◌, Option, Some}
use Rattle.std.specs.Prelude.{None, Result, Ok, Err, slice_get, unwrap_or}
use Rattle.cpp_tree.specs.tx_ints.declared.kinds.IntKind.{IntKind}
use Rattle.cpp_tree.specs.tx_ints.declared.kinds.IntKind.TheVariants.{Int, Long}
use Rattle.cpp_tree.specs.tx_ints.declared.kinds.BinOp.{BinOp}
use Rattle.cpp_tree.specs.tx_ints.declared.kinds.ArithTrap.{ArithTrap}
use Rattle.cpp_tree.specs.tx_ints.declared.kinds.ArithTrap.TheVariants.{Overflow as Overflows, DivideByZero as DividesByZero, ShiftRange as ShiftsBeyond}
use Rattle.cpp_tree.specs.tx_ints.Integers.{apply_of, is_shift}
use Rattle.cpp_tree.specs.tx_ints.Words.{word_of, value_of_word}
use Rattle.cpp_tree.specs.tx_events.declared.Trap.{Trap}
use Rattle.cpp_tree.specs.tx_events.declared.Trap.TheVariants.{Overflow, DivideByZero, ShiftRange, StackOverflow, UnsafeCall, BadCall, BadVirtual}
use Rattle.cpp_tree.specs.tx_events.declared.End.{End}
use Rattle.cpp_tree.specs.tx_events.declared.End.TheVariants.{Exit as Exits, Abort as Aborts, Terminate, Trapped}
use Rattle.cpp_tree.specs.tx_events.declared.Event.{Event}
use Rattle.cpp_tree.specs.tx_events.declared.Event.TheVariants.{Silent, Load as Reads, Store as Writes, Out, Inp, Spawn as Spawns, Join as Joins, BeginAtomic}
use Rattle.cpp_tree.specs.tx_events.declared.Event.TheVariants.{EndAtomic, Raise, BeginSync, EndSync, Done, Stop}
use Rattle.cpp_tree.specs.tx_events.declared.Reply.{Reply}
use Rattle.cpp_tree.specs.tx_events.declared.Reply.TheVariants.{Nothing, Loaded as WasRead, Byte, Id}
use Rattle.cpp_tree.specs.tx_events.Thread.{Thread, Open, Atomic as AtomicBlock, Sync, no_atomic}
use Rattle.cpp_tree.specs.tx_events.Memory.{stacks_start, stack_stride, stack_size}
use Rattle.cpp_tree.specs.cpp_types.Typ.{Typ, typ, Form, void, int, ptr, func, Signature, signature, none as no_typs, more as more_typs}
use Rattle.cpp_tree.specs.cpp_layout.Layout.{kind_size, function_address}
use Rattle.cpp_tree.specs.declared.kinds.Builtin.{Builtin}
use Rattle.cpp_tree.specs.declared.kinds.Builtin.TheVariants.{PutChar, GetChar, Spawn as SpawnThread, Join as JoinThread, Abort as AbortProgram}
use Rattle.cpp_tree.specs.declared.kinds.TKind.{TKind}
use Rattle.cpp_tree.specs.declared.kinds.TKind.TheVariants.{Literal, Local, Global, Function, ClassTable, Load, Convert, Retype, Binary, Conditional, Comma}
use Rattle.cpp_tree.specs.declared.kinds.TKind.TheVariants.{Assign, Update, CopyAssign, Materialize, FullExpression, Call, VirtualCall, PointerCall}
use Rattle.cpp_tree.specs.declared.kinds.TKind.TheVariants.{Builtin as CallBuiltin, Throw, Rethrow, Store, CopyScalar, Construct, CopyConstruct, CopyFrom}
use Rattle.cpp_tree.specs.declared.kinds.TKind.TheVariants.{Pieces, Piece, Elements, Block, Init, Defer, Loop, Switch, Case, Default, Break, Continue, Return}
use Rattle.cpp_tree.specs.declared.kinds.TKind.TheVariants.{Try, Handler, Atomic, Synchronized, Destroy, Field}
use Rattle.cpp_tree.specs.Trees.{Tree, node, Trees, none, more, kind_of, typ_in, literal, first, rest, second, third}
use Rattle.src_mean.specs.Linked.{Func, Program}
use Rattle.src_mean.specs.Exceptions.{Exception, no_bytes, bytes_of, with_bytes, read_bytes, is_object_typ, cancels, catches, thrown_typ}
use Rattle.src_mean.specs.Frames.{Here, Way, value, into, Exit, throws, returns, breaks, continues, Waiting, of_block, of_call, of_pieces, Change, Callee}
use Rattle.src_mean.specs.Frames.{known, virtual, pointer, builtin, Frame, Run, Then, Gives, Leaves, Loads, Loaded, Replied, StoreTo, Converts, Right, Apply}
use Rattle.src_mean.specs.Frames.{Choose, AssignTo, UpdateAt, UpdateOld, UpdateBy, CopyTo, CopyBy, From, Words, Object, Slot, Pointer, Passes, Called, Full}
use Rattle.src_mean.specs.Frames.{Keeps, Scope, Waits, InitAt, Cleans, Due, Destroys, Parts, Each, Items, Test, Body, Step, Picks, Compares, Switches, Opens}
use Rattle.src_mean.specs.Frames.{Within, Closes, Throws, Fills, Filled, Tries, Trying, Takes, Taking, Handling, Returning, Starts, Halted, Ended, State, at}
use Rattle.src_mean.specs.Frames.{blocks_of, handled, puts_some, waiting}

-- Words

-- the number of a word in a kind, as a word
abbrev pub converted : IntKind → ℕ → ℕ
converted kind w = word_of (value_of_word kind w)

-- a sum of addresses
unfoldable pub plus : ℕ → ℕ → ℕ
plus a b = (a + b) % 2 ^ 64

-- the bytes of a word that an access of this kind stores
unfoldable pub stored_bytes : IntKind → ℕ → ℕ
stored_bytes kind w = w % 2 ^ (8 * kind_size kind)

abbrev pub right_value : BinOp → IntKind → ℕ → ℤ
right_value op kind w = cond (is_shift op) (pos w) (value_of_word kind w)

-- an operator on words; the count of a shift is taken as it is
abbrev pub applied : BinOp → IntKind → ℕ → ℕ → Result ℤ ArithTrap
applied op kind a b = apply_of op kind (value_of_word kind a) (right_value op kind b)

abbrev pub trap_of : ArithTrap → Trap
trap_of Overflows = Overflow
trap_of DividesByZero = DivideByZero
trap_of ShiftsBeyond = ShiftRange

-- Ends

abbrev pub halt : Here → End → List Frame → State
halt h end k = at (Stop end) h (Halted end ∷ k)

-- an operator's value goes on as a word
abbrev pub finish : Result ℤ ArithTrap → Here → (ℤ → State) → List Frame → State
finish (Ok v) h on k = on v
finish (Err trap) h on k = halt h (Trapped (trap_of trap)) k

abbrev pub read : Here → ℕ → IntKind → Bool → List Frame → State
read h address kind volatile k = at (Reads address (kind_size kind) volatile) h (Loaded kind ∷ k)

abbrev pub write : Here → ℕ → IntKind → Bool → ℕ → List Frame → State
write h address kind volatile w k = at (Writes address (kind_size kind) (stored_bytes kind w) volatile) h k

-- Leaving

-- the last event of a block
abbrev pub closing : Open → Exit → Event
closing Sync x = EndSync
closing (AtomicBlock kind) (throws e) = Raise kind (cancels e.typ)
closing (AtomicBlock kind) (returns w) = EndAtomic
closing (AtomicBlock kind) breaks = EndAtomic
closing (AtomicBlock kind) continues = EndAtomic

abbrev pub leave_call : Exit → Here → Here → Bool → List Frame → State
leave_call (throws e) h caller true k = halt h Terminate k
leave_call (throws e) h caller false k = at Silent caller (Leaves (throws e) ∷ k)
leave_call (returns w) h caller stops k = at Silent caller (Gives w ∷ k)
leave_call breaks h caller stops k = at Silent caller (Leaves breaks ∷ k)
leave_call continues h caller stops k = at Silent caller (Leaves continues ∷ k)

abbrev pub is_throw : Exit → Bool
is_throw (throws e) = true
is_throw (returns w) = false
is_throw breaks = false
is_throw continues = false

abbrev pub try_first : Here → Exception → Trees → State → List Frame → State
try_first h e none passed k = passed
try_first h e (more handler others) passed k = at Silent h (Trying e handler others ∷ k)

abbrev pub with_temporaries : Here → List Waiting → Here
with_temporaries h ws = record h { temporaries = ws }

-- what goes outward comes to the next frame that minds it
abbrev pub leave : Here → Exit → List Frame → State
leave h x [] = at Silent h []
leave h x (Scope owner always ws ∷ k) = cond (always || is_throw x) (at Silent h (Cleans ws ∷ Leaves x ∷ k)) (leave h x k)
leave h x (Full outer ∷ k) = at Silent (with_temporaries h outer) (Cleans h.temporaries ∷ Leaves x ∷ k)
leave h x (Within block ∷ k) = at (closing block x) h (Closes block ∷ Leaves x ∷ k)
leave h x (Called caller stops ∷ k) = leave_call x h caller stops k
leave h (throws e) (Tries handlers ∷ k) = try_first h e handlers (leave h (throws e) k) k
leave h breaks (Body test body step ∷ k) = at Silent h (Gives 0 ∷ k)
leave h continues (Body test body step ∷ k) = at Silent h (Run value step ∷ Step test body step ∷ k)
leave h breaks (Switches ∷ k) = at Silent h (Gives 0 ∷ k)
leave h x (Starts main ∷ k) = halt h Terminate (Starts main ∷ k)
leave h x (f ∷ k) = leave h x k

-- Calls

-- the words before those of the call: the address of a class result
abbrev pub result_words : Way → List ℕ
result_words value = []
result_words (into target source) = target ∷ []

abbrev pub inside : Here → Func → Here
inside h f = record { frame = h.end; end = h.end + f.size; limit = h.limit; unit = f.unit; places = f.places; temporaries = [] }

-- a new frame for this function
abbrev pub enter : Here → List ℕ → Option Func → List Frame → State
enter h words None k = halt h (Trapped BadCall) k
enter h words (Some f) k = cond (nat_lt h.limit (h.end + f.size))
    (halt h (Trapped StackOverflow) k)
    (at Silent (inside h f) (Passes words f.words ∷ Then value f.body ∷ Called h f.stops ∷ k))

abbrev pub is_safe : Option Func → Bool
is_safe None = false
is_safe (Some f) = f.safe

-- a function that was found by a number
abbrev pub enter_found : Here → List ℕ → Option Func → List Frame → State
enter_found h words f k = cond (no_atomic (blocks_of k) || is_safe f) (enter h words f k) (halt h (Trapped UnsafeCall) k)

abbrev pub enter_pointed : Program → Here → List ℕ → Option ℕ → List Frame → State
enter_pointed p h words None k = halt h (Trapped BadCall) k
enter_pointed p h words (Some number) k = enter_found h words (p.func number) k

abbrev pub first_word : List ℕ → ℕ
first_word [] = 0
first_word (w ∷ ws) = w

abbrev pub second_word : List ℕ → ℕ
second_word [] = 0
second_word (w ∷ ws) = first_word ws

-- void(long)
abbrev pub thread_signature : Signature
thread_signature = signature (more_typs (typ (int Long) false false) no_typs) (typ void false false) false

-- a thread starts in the function with this number
abbrev pub spawn : Here → Option ℕ → ℕ → List Frame → State
spawn h None arg k = halt h (Trapped BadCall) k
spawn h (Some number) arg k = at (Spawns number (value_of_word Long arg)) h (Replied ∷ k)

abbrev pub built_in : Program → Here → Builtin → List ℕ → List Frame → State
built_in p h PutChar ws k = at (Out (first_word ws % 256)) h (Gives (first_word ws % 256) ∷ k)
built_in p h GetChar ws k = at Inp h (Replied ∷ k)
built_in p h SpawnThread ws k = spawn h (p.pointed (first_word ws) thread_signature) (second_word ws) k
built_in p h JoinThread ws k = at (Joins (value_of_word Int (first_word ws))) h (Gives 0 ∷ k)
built_in p h AbortProgram ws k = halt h Aborts k

-- all words are there
abbrev pub invoke : Program → Here → Callee → List ℕ → List Frame → State
invoke p h (known number) ws k = enter h ws (p.func number) k
invoke p h (virtual number) ws k = enter_found h ws (p.func number) k
invoke p h (pointer address sig) ws k = enter_pointed p h ws (p.pointed address sig) k
invoke p h (builtin which) ws k = built_in p h which ws k

-- the next word, or the call
abbrev pub next_word : Program → Here → Callee → List ℕ → Trees → List Frame → State
next_word p h callee before none k = invoke p h callee before k
next_word p h callee before (more t ts) k = at Silent h (Run value t ∷ Words callee before ts ∷ k)

-- words and call in the scope of the argument objects
abbrev pub call : Program → Here → Callee → List ℕ → Trees → List Frame → State
call p h callee before words k = next_word p h callee before words (Scope of_call true [] ∷ k)

abbrev pub call_slot : Program → Here → Option ℕ → List ℕ → Trees → List Frame → State
call_slot p h None before words k = halt h (Trapped BadVirtual) k
call_slot p h (Some number) before words k = call p h (virtual number) before words k

abbrev pub signature_in : Form → Signature
signature_in (ptr (typ (func s) c v)) = s
signature_in f = signature no_typs (typ void false false) false

-- the type of the function that a pointer of this type points to
abbrev pub called_signature : Typ → Signature
called_signature (typ f c v) = signature_in f

-- Objects

-- the destructions at this address, of which this one is first
abbrev pub destroy : Program → Here → ℕ → TKind → Trees → List Frame → State
destroy p h address (Destroy f offset count stride) others k = at Silent h (Destroys (p.number h.unit f) (plus address offset) stride count
    ∷ Gives address ∷ Due others ∷ k)
destroy p h address kind others k = at Silent h (Gives address ∷ Due others ∷ k)

abbrev pub kept : Bool → List Waiting → List Waiting
kept true ws = ws
kept false ws = []

abbrev pub target_of : Way → ℕ
target_of value = 0
target_of (into target source) = target

abbrev pub source_of : Way → ℕ
source_of value = 0
source_of (into target source) = source

-- Switches

abbrev pub is_case : TKind → Bool
is_case (Case w) = true
is_case kind = false

abbrev pub is_default : TKind → Bool
is_default Default = true
is_default kind = false

-- from the first label of that sort on
abbrev pub from_label : (TKind → Bool) → Trees → Trees
from_label test none = none
from_label test (more t ts) = cond (test (kind_of t)) (more t ts) (from_label test ts)

abbrev pub case_word : TKind → ℕ
case_word (Case w) = w
case_word kind = 0

abbrev pub run_items : Here → Trees → List Frame → State
run_items h items k = at Silent h (Items items ∷ Scope of_block true [] ∷ Switches ∷ k)

-- the next label is compared; where there is none, the items go on from `default`
abbrev pub compare : Here → ℕ → Trees → Trees → List Frame → State
compare h w none items k = run_items h (from_label is_default items) k
compare h w (more t ts) items k = at Silent h (Compares w (kind_of t) ts items ∷ k)

-- Handlers

abbrev pub place_address : Here → ℕ → ℕ
place_address h place = plus h.frame (unwrap_or (slice_get h.places place) 0)

abbrev pub taken : Here → Exception → TKind → Trees → List Frame → List Frame
taken h e (Handler (Some place)) fields k = Takes e (place_address h place) fields ∷ k
taken h e kind fields k = k

abbrev pub handle : Here → Exception → Tree → List Frame → State
handle h e (node kind t cat place kids) k = at Silent h (taken h e kind (rest kids) (Then value (first kids) ∷ Handling e ∷ k))

abbrev pub take_field : Here → Exception → ℕ → TKind → Trees → List Frame → State
take_field h e base (Field offset kind) others k = at Silent h (Taking e base offset kind ∷ Takes e base others ∷ k)
take_field h e base kind others k = at Silent h (Takes e base others ∷ k)

-- a field of an exception that is made
abbrev pub fill_field : Here → Typ → ℕ → TKind → Trees → List ℕ → List Frame → State
fill_field h t from (Field offset kind) others bytes k = cond (is_object_typ t)
    (read h (plus from offset) kind false (Filled t from offset kind others bytes ∷ k))
    (at Silent h (Fills t from others (with_bytes offset (bytes_of (kind_size kind) from) bytes) ∷ k))
fill_field h t from kind others bytes k = at Silent h (Fills t from others bytes ∷ k)

abbrev pub rethrow : Here → Option Exception → List Frame → State
rethrow h None k = halt h Terminate k
rethrow h (Some e) k = leave h (throws e) k

-- Nodes

abbrev pub return_value : Here → Trees → List Frame → State
return_value h none k = leave h (returns 0) k
return_value h (more t ts) k = at Silent h (Run value t ∷ Returning ∷ k)

abbrev pub first_part : Here → Bool → Trees → List Frame → State
first_part h true kids k = at Silent h (Run value (first kids) ∷ Test (first kids) (second kids) (third kids) ∷ k)
first_part h false kids k = at Silent h (Run value (second kids) ∷ Body (first kids) (second kids) (third kids) ∷ k)

-- what a node does first; a leaf gives its word at once
abbrev pub run_node : Program → Here → Way → TKind → Trees → (ℕ → State) → List Frame → State
run_node p h way (Literal w) kids done k = done w
run_node p h way (Local place) kids done k = done (place_address h place)
run_node p h way (Global n) kids done k = done (p.global h.unit n)
run_node p h way (Function f) kids done k = done (function_address (p.number h.unit f))
run_node p h way (ClassTable c) kids done k = done (p.table c)
run_node p h way (Load kind volatile) kids done k = at Silent h (Run value (first kids) ∷ Loads kind volatile ∷ k)
run_node p h way (Convert kind) kids done k = at Silent h (Run value (first kids) ∷ Converts kind ∷ k)
run_node p h way Retype kids done k = at Silent h (Run value (first kids) ∷ k)
run_node p h way (Binary op kind) kids done k = at Silent h (Run value (first kids) ∷ Right op kind (second kids) ∷ k)
run_node p h way Conditional kids done k = at Silent h (Run value (first kids) ∷ Choose way (second kids) (third kids) ∷ k)
run_node p h way Comma kids done k = at Silent h (Run value (first kids) ∷ Then way (second kids) ∷ k)
run_node p h way (Assign kind volatile) kids done k = at Silent h (Run value (first kids) ∷ AssignTo kind volatile (second kids) ∷ k)
run_node p h way (Update op stored operation volatile old) kids done k = at Silent h (Run value (first kids)
    ∷ UpdateAt (record { op = op; stored = stored; operation = operation; volatile = volatile; old = old }) (second kids) ∷ k)
run_node p h way CopyAssign kids done k = at Silent h (Run value (first kids) ∷ CopyTo (second kids) (third kids) ∷ k)
run_node p h way (Materialize place true) kids done k = at Silent h (Run (into (place_address h place) 0) (first kids)
    ∷ Waits of_call (literal (place_address h place)) (rest kids) ∷ Gives (place_address h place) ∷ k)
run_node p h way (Materialize place false) kids done k = at Silent h (Run (into (place_address h place) 0) (first kids)
    ∷ Keeps (literal (place_address h place)) (rest kids) ∷ Gives (place_address h place) ∷ k)
run_node p h way FullExpression kids done k = at Silent (with_temporaries h []) (Run way (first kids) ∷ Full h.temporaries ∷ k)
run_node p h way (Call f) kids done k = call p h (known (p.number h.unit f)) (result_words way) kids k
run_node p h way (VirtualCall f class slot offset) kids done k = at Silent h (Run value (first kids)
    ∷ Object (result_words way) class slot offset (rest kids) ∷ k)
run_node p h way PointerCall kids done k = at Silent h (Run value (first kids)
    ∷ Pointer (result_words way) (called_signature (typ_in (first kids))) (rest kids) ∷ k)
run_node p h way (CallBuiltin which) kids done k = next_word p h (builtin which) [] kids k
run_node p h way Throw kids done k = at Silent h (Run value (first kids) ∷ Throws (thrown_typ (typ_in (first kids))) (rest kids) ∷ k)
run_node p h way Rethrow kids done k = rethrow h (handled k) k
run_node p h way (Store kind volatile) kids done k = at Silent h (Run value (first kids) ∷ StoreTo (target_of way) kind volatile 0 ∷ k)
run_node p h way (CopyScalar kind volatile) kids done k = read h (source_of way) kind volatile (StoreTo (target_of way) kind volatile 0 ∷ k)
run_node p h way (Construct f) kids done k = call p h (known (p.number h.unit f)) (target_of way ∷ []) kids k
run_node p h way (CopyConstruct f) kids done k = enter h (target_of way ∷ source_of way ∷ []) (p.func (p.number h.unit f)) k
run_node p h way CopyFrom kids done k = at Silent h (Run value (first kids) ∷ From (target_of way) (second kids) ∷ k)
run_node p h way Pieces kids done k = at Silent h (Parts kids (target_of way) (source_of way) ∷ Scope of_pieces false [] ∷ k)
run_node p h way (Piece offset) kids done k = at Silent h (Run (into (plus (target_of way) offset) (plus (source_of way) offset)) (first kids)
    ∷ Waits of_pieces (literal (plus (target_of way) offset)) (rest kids) ∷ k)
run_node p h way (Elements count stride) kids done k = at Silent h (Each (first kids) (rest kids) stride count (target_of way) (source_of way)
    ∷ Scope of_pieces false [] ∷ k)
run_node p h way (Block subobjects) kids done k = at Silent h (Items kids ∷ Scope of_block (not subobjects) [] ∷ k)
run_node p h way Init kids done k = at Silent h (Run value (first kids) ∷ InitAt (second kids) (rest (rest kids)) ∷ k)
run_node p h way Defer kids done k = at Silent h (Waits of_block (first kids) (rest kids) ∷ k)
run_node p h way (Loop test_first) kids done k = first_part h test_first kids k
run_node p h way Switch kids done k = at Silent h (Run value (first kids) ∷ Picks (rest kids) ∷ k)
run_node p h way (Case w) kids done k = done 0
run_node p h way Default kids done k = done 0
run_node p h way Break kids done k = leave h breaks k
run_node p h way Continue kids done k = leave h continues k
run_node p h way Return kids done k = return_value h kids k
run_node p h way Try kids done k = at Silent h (Run value (first kids) ∷ Tries (rest kids) ∷ k)
run_node p h way (Handler place) kids done k = done 0
run_node p h way (Atomic kind) kids done k = at (BeginAtomic kind) h (Opens (AtomicBlock kind) (first kids) ∷ k)
run_node p h way Synchronized kids done k = at BeginSync h (Opens Sync (first kids) ∷ k)
run_node p h way (Destroy f offset count stride) kids done k = done 0
run_node p h way (Field offset kind) kids done k = done 0

-- Values

-- the last event of a block that is left by its end
abbrev pub end_of : Open → Event
end_of (AtomicBlock kind) = EndAtomic
end_of Sync = EndSync

abbrev pub updated : Change → ℕ → ℕ → ℕ
updated c address old = cond c.old old address

abbrev pub first_end : Bool → Here → ℕ → List Frame → State
first_end true h w k = halt h (Exits (value_of_word Int w)) k
first_end false h w k = at Done h (Ended ∷ k)

-- the thread goes on with a value
abbrev pub give : Program → Here → ℕ → List Frame → State
give p h v [] = at Silent h []
give p h v (Run way (node kind t cat place kids) ∷ k) = run_node p h way kind kids (λ w. give p h w k) k
give p h v (Then way t ∷ k) = at Silent h (Run way t ∷ k)
give p h v (Gives w ∷ k) = give p h w k
give p h v (Leaves x ∷ k) = leave h x k
give p h v (Loads kind volatile ∷ k) = read h v kind volatile k
give p h v (Loaded kind ∷ k) = give p h (converted kind v) k
give p h v (Replied ∷ k) = give p h v k
give p h v (StoreTo address kind volatile answer ∷ k) = write h address kind volatile v (Gives answer ∷ k)
give p h v (Converts kind ∷ k) = give p h (converted kind v) k
give p h v (Right op kind t ∷ k) = at Silent h (Run value t ∷ Apply op kind v ∷ k)
give p h v (Apply op kind left ∷ k) = finish (applied op kind left v) h (λ z. give p h (word_of z) k) k
give p h v (Choose way chosen other ∷ k) = at Silent h (Run way (cond (v == 0) other chosen) ∷ k)
give p h v (AssignTo kind volatile t ∷ k) = at Silent h (Run value t ∷ StoreTo v kind volatile v ∷ k)
give p h v (UpdateAt c t ∷ k) = read h v c.stored c.volatile (UpdateOld c v t ∷ k)
give p h v (UpdateOld c address t ∷ k) = at Silent h (Run value t ∷ UpdateBy c address v ∷ k)
give p h v (UpdateBy c address old
    ∷ k) = finish (applied c.op c.operation old v) h (λ z. write h address c.stored c.volatile (converted c.stored (word_of z))
    (Gives (updated c address old) ∷ k)) k
give p h v (CopyTo source init ∷ k) = at Silent h (Run value source ∷ CopyBy v init ∷ k)
give p h v (CopyBy target init ∷ k) = at Silent h (Run (into target v) init ∷ Gives target ∷ k)
give p h v (From target init ∷ k) = at Silent h (Run (into target v) init ∷ k)
give p h v (Words callee before others ∷ k) = next_word p h callee (before ++ v ∷ []) others k
give p h v (Object before class slot offset words ∷ k) = at (Reads (plus v offset) 8 false) h (Slot (before ++ v ∷ []) class slot words ∷ k)
give p h v (Slot before class slot words ∷ k) = call_slot p h (p.slot v class slot) before words k
give p h v (Pointer before sig words ∷ k) = call p h (pointer v sig) before words k
give p h v (Passes [] places ∷ k) = give p h 0 k
give p h v (Passes (w ∷ ws) [] ∷ k) = give p h 0 k
give p h v (Passes (w ∷ ws) (place ∷ places) ∷ k) = write h (plus h.frame place.offset) place.kind place.volatile w (Passes ws places ∷ k)
give p h v (Called caller stops ∷ k) = at Silent caller (Gives v ∷ k)
give p h v (Scope owner always ws ∷ k) = at Silent h (Cleans (kept always ws) ∷ Gives v ∷ k)
give p h v (Full outer ∷ k) = at Silent (with_temporaries h outer) (Cleans h.temporaries ∷ Gives v ∷ k)
give p h v (Keeps address destroys ∷ k) = at Silent (with_temporaries h (waiting address destroys h.temporaries)) (Gives v ∷ k)
give p h v (Waits owner address destroys ∷ k) = at Silent h (Gives v ∷ puts_some owner address destroys k)
give p h v (InitAt init destroys ∷ k) = at Silent h (Run (into v 0) init ∷ Waits of_block (literal v) destroys ∷ k)
give p h v (Cleans [] ∷ k) = give p h v k
give p h v (Cleans (w ∷ ws) ∷ k) = at Silent h (Run value w.address ∷ Due w.destroys ∷ Cleans ws ∷ k)
give p h v (Due none ∷ k) = give p h v k
give p h v (Due (more t ts) ∷ k) = destroy p h v (kind_of t) ts k
give p h v (Destroys number address stride zero ∷ k) = give p h v k
give p h v (Destroys number address stride (suc n) ∷ k) = enter h (plus address (n * stride) ∷ []) (p.func number) (Destroys number address stride n ∷ k)
give p h v (Parts none target source ∷ k) = give p h v k
give p h v (Parts (more t ts) target source ∷ k) = at Silent h (Run (into target source) t ∷ Parts ts target source ∷ k)
give p h v (Each init destroys stride zero target source ∷ k) = give p h v k
give p h v (Each init destroys stride (suc n) target source ∷ k) = at Silent h (Run (into target source) init
    ∷ Waits of_pieces (literal target) destroys ∷ Each init destroys stride n (plus target stride) (plus source stride) ∷ k)
give p h v (Items none ∷ k) = give p h 0 k
give p h v (Items (more t ts) ∷ k) = at Silent h (Run value t ∷ Items ts ∷ k)
give p h v (Test test body step ∷ k) = cond (v == 0) (at Silent h (Gives 0 ∷ k)) (at Silent h (Run value body ∷ Body test body step ∷ k))
give p h v (Body test body step ∷ k) = at Silent h (Run value step ∷ Step test body step ∷ k)
give p h v (Step test body step ∷ k) = at Silent h (Run value test ∷ Test test body step ∷ k)
give p h v (Picks items ∷ k) = compare h v (from_label is_case items) items k
give p h v (Compares w label ts items ∷ k) = cond (case_word label == w) (run_items h ts k) (compare h w (from_label is_case ts) items k)
give p h v (Switches ∷ k) = give p h 0 k
give p h v (Returning ∷ k) = leave h (returns v) k
give p h v (Opens block body ∷ k) = at Silent h (Run value body ∷ Within block ∷ k)
give p h v (Within block ∷ k) = at (end_of block) h (Closes block ∷ k)
give p h v (Closes block ∷ k) = give p h 0 k
give p h v (Throws t fields ∷ k) = at Silent h (Fills t v fields no_bytes ∷ k)
give p h v (Fills t from none bytes ∷ k) = leave h (throws (record { typ = t; bytes = bytes })) k
give p h v (Fills t from (more field others) bytes ∷ k) = fill_field h t from (kind_of field) others bytes k
give p h v (Filled t from offset kind others bytes ∷ k) = at Silent h (Fills t from others (with_bytes offset (bytes_of (kind_size kind) v) bytes) ∷ k)
give p h v (Tries handlers ∷ k) = give p h 0 k
give p h v (Trying e handler others ∷ k) = cond (catches p.classes (typ_in handler) e.typ) (handle h e handler k) (leave h (throws e) (Tries others ∷ k))
give p h v (Takes e base none ∷ k) = give p h 0 k
give p h v (Takes e base (more field others) ∷ k) = take_field h e base (kind_of field) others k
give p h v (Taking e base offset kind ∷ k) = write h (plus base offset) kind false (read_bytes e.bytes offset (kind_size kind)) (Gives 0 ∷ k)
give p h v (Handling e ∷ k) = give p h v k
give p h v (Starts main ∷ k) = first_end main h v k
give p h v (Halted end ∷ k) = at (Stop end) h (Halted end ∷ k)
give p h v (Ended ∷ k) = at Done h (Ended ∷ k)

-- The thread

-- a reply as a word
abbrev pub reply_word : Reply → ℕ
reply_word Nothing = 0
reply_word (WasRead w) = w
reply_word (Byte z) = word_of z
reply_word (Id z) = word_of z

-- the stack of this thread, on which nothing lies yet
abbrev pub empty_stack : ℕ → Here
empty_stack number = record {
  frame = stacks_start + stack_stride * number;
  end = stacks_start + stack_stride * number;
  limit =
      stacks_start + stack_stride * number + stack_size;
  unit = 0;
  places = [];
  temporaries = [];
}

-- the first state of a thread that calls the function with this number with an argument
abbrev pub begins : Program → (thread number : ℕ) → ℤ → State
begins p thread number arg = enter (empty_stack thread) (word_of arg ∷ []) (p.func number) (Starts false ∷ [])

-- the first state of thread 0
abbrev pub main_state : Program → State
main_state p = enter (empty_stack 0) [] (p.func p.main) (Starts true ∷ [])

abbrev pub source : Program → Thread State
source p = record {
  next = λ s. s.event;
  after = λ s reply. give p s.here (reply_word reply) s.frames;
  child = λ s thread number arg. begins p thread number arg;
  blocks = λ s. blocks_of s.frames;
}
