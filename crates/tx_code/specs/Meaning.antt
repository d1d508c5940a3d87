-- What the instructions and the unwind rows do.
use Rattle.std.specs.Prelude.{Bool, true, false, ℕ, zero, suc, ◌+◌, ◌-◌, ◌*◌, ◌%◌, ◌/◌, ◌^◌, ℤ, pos, List, [], ◌∷◌, ◌++◌, length, map, drop, replicate, Option}
use Rattle.std.specs.Prelude.{Some, None, Result, Ok, Err, not, ◌&&◌, ◌||◌, nat_lt, nat_le, nat_eq, if◌then◌else◌, slice_get, slice_set, slice_index_or}
use Rattle.std.specs.Prelude.{unsigned_abs}
use Rattle.std.specs.Int.{int_rem_euclid}
use Rattle.std.specs.Option.{option_map}
use Rattle.tx_ints.specs.declared.kinds.IntKind.{IntKind}
use Rattle.tx_ints.specs.declared.kinds.IntKind.TheVariants.{Bool as BoolKind, Char, SChar, UChar, Short, UShort, Int, UInt, Long, ULong, LLong, ULLong}
use Rattle.tx_ints.specs.declared.kinds.BinOp.{BinOp}
use Rattle.tx_ints.specs.declared.kinds.BinOp.TheVariants.{Add, Sub, Mul, Div, Rem, Shl, Shr, And, Xor, Or, Lt, Gt, Le, Ge, Eq, Ne}
use Rattle.tx_ints.specs.declared.kinds.ArithTrap.{ArithTrap}
use Rattle.tx_ints.specs.declared.kinds.ArithTrap.TheVariants.{Overflow as OverflowTrap, DivideByZero as DivideTrap, ShiftRange as ShiftTrap}
use Rattle.tx_ints.specs.Integers.{convert_of, apply_of, negate_of}
use Rattle.tx_ints.specs.Words.{word_of, value_of_word}
use Rattle.tx_events.specs.declared.BlockKind.{BlockKind}
use Rattle.tx_events.specs.declared.BlockKind.TheVariants.{NoExcept, Commit, Cancel}
use Rattle.tx_events.specs.declared.Trap.{Trap}
use Rattle.tx_events.specs.declared.Trap.TheVariants.{Overflow, DivideByZero, ShiftRange, StackOverflow, UnsafeCall, BadCall, BadVirtual}
use Rattle.tx_events.specs.declared.End.TheVariants.{Exit, Abort as Aborted, Terminate, Trapped}
use Rattle.tx_events.specs.declared.Event.{Event}
use Rattle.tx_events.specs.declared.Event.TheVariants.{Silent, Load as LoadOf, Store as StoreOf, Out as OutOf, Inp as InpOf, Spawn as SpawnOf, Join as JoinOf}
use Rattle.tx_events.specs.declared.Event.TheVariants.{BeginAtomic, EndAtomic, Raise, BeginSync as BeginSyncOf, EndSync as EndSyncOf, Done, Stop}
use Rattle.tx_events.specs.declared.Reply.{Reply}
use Rattle.tx_events.specs.declared.Reply.TheVariants.{Nothing, Loaded, Byte, Id}
use Rattle.tx_events.specs.Thread.{Thread, Open, Atomic, Sync, rest_of, no_atomic}
use Rattle.tx_events.specs.declared.TheConstants.{EXCEPTION_SIZE}
use Rattle.tx_code.specs.declared.instr.Instr.{Instr}
use Rattle.tx_code.specs.declared.instr.Instr.TheVariants.{Push, Dup, Pop, Swap, FrameAddr, GlobalAddr, FuncAddr, ClassAddr, Load, Store, TLoad, TStore, VLoad}
use Rattle.tx_code.specs.declared.instr.Instr.TheVariants.{VStore, Bin, Neg, Conv, Jump, JumpZero, Call, TCall, CallIndirect, TCallIndirect, Slot, Ret, Begin}
use Rattle.tx_code.specs.declared.instr.Instr.TheVariants.{End, BeginSync, EndSync, Out, Inp, Spawn, Join, Abort, NewException, PutException, Throw, Rethrow}
use Rattle.tx_code.specs.declared.instr.Instr.TheVariants.{GetException, EndHandler, Resume, Over}
use Rattle.tx_code.specs.declared.body.Row.{Row}
use Rattle.tx_code.specs.Objects.{BodyView}
use Rattle.tx_code.specs.Renaming.{Numbering, renamed, renamed_row}

-- ---- numbers

abbrev pub kinds : List IntKind
kinds = BoolKind ∷ Char ∷ SChar ∷ UChar ∷ Short ∷ UShort ∷ Int ∷ UInt ∷ Long ∷ ULong ∷ LLong ∷ ULLong ∷ []

abbrev pub operators : List BinOp
operators = Add ∷ Sub ∷ Mul ∷ Div ∷ Rem ∷ Shl ∷ Shr ∷ And ∷ Xor ∷ Or ∷ Lt ∷ Gt ∷ Le ∷ Ge ∷ Eq ∷ Ne ∷ []

abbrev pub block_kinds : List BlockKind
block_kinds = NoExcept ∷ Commit ∷ Cancel ∷ []

abbrev pub size_of : IntKind → ℕ
size_of BoolKind = 1
size_of Char = 1
size_of SChar = 1
size_of UChar = 1
size_of Short = 2
size_of UShort = 2
size_of Int = 4
size_of UInt = 4
size_of Long = 8
size_of ULong = 8
size_of LLong = 8
size_of ULLong = 8

-- the bytes of a number of a kind, as one number
abbrev pub bits_of : IntKind → ℤ → ℕ
bits_of k v = unsigned_abs (int_rem_euclid v (pos (2 ^ (8 * size_of k))))

-- a sum of addresses
abbrev pub offset_by : ℕ → ℕ → ℕ
offset_by a n = (a + n) % 2 ^ 64

abbrev pub is_shift : BinOp → Bool
is_shift Shl = true
is_shift Shr = true
is_shift op = false

-- the kind of a right operand: a shift's count is a ULong
abbrev pub right_kind : BinOp → IntKind → IntKind
right_kind op k = if is_shift op then ULong else k

abbrev pub trap_of : ArithTrap → Trap
trap_of OverflowTrap = Overflow
trap_of DivideTrap = DivideByZero
trap_of ShiftTrap = ShiftRange

-- ---- what the names in bodies stand for

-- the functions of a program by their numbers, what a name in a function's bodies stands for, and where things lie
pub record Names : Type 0 where
  pub body : (func : ℕ) → (safe : Bool) → Option BodyView
  pub frame : (func : ℕ) → ℕ  -- its bytes
  pub no_except : (func : ℕ) → Bool
  pub numbering : (func : ℕ) → Numbering
  pub global_address : (global : ℕ) → ℕ
  pub func_address : (func : ℕ) → ℕ
  pub class_address : (class : ℕ) → ℕ
  pub stack_start : (thread : ℕ) → ℕ
  pub stack_end : (thread : ℕ) → ℕ
  pub called : (ty address : ℕ) → Option ℕ  -- the function of this type, safety aside, at an address
  pub spawned : (address : ℕ) → Option ℕ  -- the function at an address that a thread may start in
  pub slot_of : (class address slot : ℕ) → Option ℕ  -- the function in a slot of the class at an address, which is this class or derived from it
  pub cancels : (ty : ℕ) → Bool  -- the type supports cancellation

-- ---- states

pub record Exception : Type 0 where
  pub ty : ℕ
  pub bytes : List ℕ

-- a frame's exception: none, one that is being built, or one in flight
pub data Held : Type 0 where
  Free : Held
  Building : Exception → Held
  Flying : Exception → Held

-- a frame's thread, function and body, and its address
pub record Home : Type 0 where
  pub thread : ℕ
  pub func : ℕ
  pub safe : Bool
  pub base : ℕ

-- a frame's open blocks, the exceptions of its entered handlers, both with the innermost first, and its exception
pub record Nest : Type 0 where
  pub opens : List Open
  pub caught : List Exception
  pub held : Held

-- a frame: its index, and its operands with the top first
pub record Frame : Type 0 where
  pub home : Home
  pub nest : Nest
  pub index : ℕ
  pub words : List ℕ

-- what a thread does: it runs in its innermost frame, or an exception is in flight in that frame
pub data State : Type 0 where
  Runs : (top : Frame) → (rest : List Frame) → State
  Unwinds : (exception : Exception) → (top : Frame) → (rest : List Frame) → State

-- a step: an event and the state after each reply, or the thread's end, at which it stays, or what sound code does not come to
pub data Act : Type 0 where
  Does : (event : Event) → (on : Reply → State) → Act
  Ends : (event : Event) → Act
  Lost : Act

abbrev pub goes : State → Act
goes s = Does Silent (λ r. s)

abbrev pub asks : Event → State → Act
asks e s = Does e (λ r. s)

abbrev pub traps : Trap → Act
traps t = Ends (Stop (Trapped t))

-- ---- operands

abbrev pub one : List ℕ → (ℕ → List ℕ → Act) → Act
one [] f = Lost
one (w ∷ ws) f = f w ws

-- the lower one first
abbrev pub two : List ℕ → (ℕ → ℕ → List ℕ → Act) → Act
two [] f = Lost
two (b ∷ []) f = Lost
two (b ∷ a ∷ ws) f = f a b ws

-- n words are moved one by one, so that the first argument, which lies lowest, comes to the top
abbrev pub moved : ℕ → List ℕ → List ℕ → (List ℕ → List ℕ → Act) → Act
moved zero ws args f = f args ws
moved (suc n) [] args f = Lost
moved (suc n) (w ∷ ws) args f = moved n ws (w ∷ args) f

abbrev pub if_some : {A : Type 0} → Option A → Act → (A → Act) → Act
if_some None a f = a
if_some (Some x) a f = f x

abbrev pub with_kind : ℕ → (IntKind → Act) → Act
with_kind n f = if_some (slice_get kinds n) Lost f

-- ---- frames

abbrev pub at : Frame → ℕ → List ℕ → Frame
at f n ws = record { home = f.home; nest = f.nest; index = n; words = ws }

abbrev pub nested : Frame → Nest → ℕ → List ℕ → Frame
nested f n i ws = record { home = f.home; nest = n; index = i; words = ws }

-- on at the next index
abbrev pub on_with : Frame → List ℕ → Frame
on_with f ws = at f (f.index + 1) ws

abbrev pub on_in : Frame → Nest → Frame
on_in f n = nested f n (f.index + 1) f.words

abbrev pub holding : Nest → Held → Nest
holding n h = record { opens = n.opens; caught = n.caught; held = h }

abbrev pub opening : Nest → Open → Nest
opening n b = record { opens = b ∷ n.opens; caught = n.caught; held = n.held }

abbrev pub closing : Nest → Nest
closing n = record { opens = rest_of n.opens; caught = n.caught; held = n.held }

abbrev pub catching : Nest → Exception → Nest
catching n e = record { opens = n.opens; caught = e ∷ n.caught; held = Free }

abbrev pub rest_caught : List Exception → List Exception
rest_caught [] = []
rest_caught (e ∷ es) = es

abbrev pub handled : Nest → Nest
handled n = record { opens = n.opens; caught = rest_caught n.caught; held = n.held }

abbrev pub bare : Nest
bare = record { opens = []; caught = []; held = Free }

abbrev pub first_frame : Home → List ℕ → Frame
first_frame h ws = record { home = h; nest = bare; index = 0; words = ws }

-- the open blocks of a thread
abbrev pub blocks_in : List Frame → List Open
blocks_in [] = []
blocks_in (f ∷ fs) = f.nest.opens ++ blocks_in fs

-- in a transaction: in a safe body, or where an atomic block is open
abbrev pub in_transaction : Frame → List Frame → Bool
in_transaction f rest = f.home.safe || not (no_atomic (blocks_in (f ∷ rest)))

-- ---- loads, stores, operators

abbrev pub loaded : Reply → ℕ
loaded (Loaded v) = v
loaded Nothing = 0
loaded (Byte v) = 0
loaded (Id v) = 0

abbrev pub answered : Reply → ℤ
answered Nothing = pos 0
answered (Loaded v) = pos 0
answered (Byte v) = v
answered (Id v) = v

abbrev pub load_act : ℕ → (volatile : Bool) → Frame → List Frame → Act
load_act n volatile f rest = with_kind n (λ k. one f.words
    (λ a ws. Does (LoadOf a (size_of k) volatile) (λ r. Runs (on_with f (word_of (convert_of k (pos (loaded r))) ∷ ws)) rest)))

abbrev pub store_act : ℕ → (volatile : Bool) → Frame → List Frame → Act
store_act n volatile f rest = with_kind n (λ k. two f.words
    (λ a v ws. asks (StoreOf a (size_of k) (bits_of k (value_of_word k v)) volatile) (Runs (on_with f ws) rest)))

abbrev pub result_act : Result ℤ ArithTrap → (ℤ → Act) → Act
result_act (Ok v) f = f v
result_act (Err t) f = traps (trap_of t)

abbrev pub bin_act : ℕ → ℕ → Frame → List Frame → Act
bin_act op n f rest = if_some (slice_get operators op) Lost (λ o. with_kind n (λ k. two f.words (λ a b ws.
    result_act (apply_of o k (value_of_word k a) (value_of_word (right_kind o k) b)) (λ v. goes (Runs (on_with f (word_of v ∷ ws)) rest)))))

abbrev pub neg_act : ℕ → Frame → List Frame → Act
neg_act n f rest = with_kind n (λ k. one f.words (λ v ws. result_act (negate_of k (value_of_word k v)) (λ u. goes (Runs (on_with f (word_of u ∷ ws)) rest))))

abbrev pub conv_act : ℕ → ℕ → Frame → List Frame → Act
conv_act n m f rest = with_kind n (λ k. with_kind m (λ j. one f.words (λ v ws. goes (Runs (on_with f (word_of (convert_of j (value_of_word k v)) ∷ ws)) rest))))

-- ---- calls

-- the frame of a callee lies behind the caller's
abbrev pub next_home : Names → Home → ℕ → Bool → Home
next_home x h func safe = record { thread = h.thread; func = func; safe = safe; base = h.base + x.frame h.func }

abbrev pub fits : Names → Home → Bool
fits x h = nat_le (h.base + x.frame h.func) (x.stack_end h.thread)

abbrev pub enter_act : Names → ℕ → Bool → List ℕ → Frame → List Frame → Act
enter_act x func safe args f rest = if fits x (next_home x f.home func safe) then goes
    (Runs (first_frame (next_home x f.home func safe) args) (f ∷ rest)) else traps StackOverflow

-- a call into a body that is there
abbrev pub entered_act : Names → ℕ → Bool → List ℕ → Frame → List Frame → Act
entered_act x func safe args f rest = if_some (x.body func safe) Lost (λ b. enter_act x func safe args f rest)

abbrev pub call_act : Names → ℕ → Bool → ℕ → Frame → List Frame → Act
call_act x func safe n f rest = moved n f.words [] (λ args ws. entered_act x func safe args (at f f.index ws) rest)

-- in a transaction the function needs a safe body
abbrev pub checked_act : Names → ℕ → (transaction : Bool) → (ok : Act) → Act
checked_act x func false ok = ok
checked_act x func true ok = if_some (x.body func true) (traps UnsafeCall) (λ b. ok)

abbrev pub call_indirect_act : Names → ℕ → Bool → ℕ → Frame → List Frame → Act
call_indirect_act x ty safe n f rest = moved n f.words [] (λ args ws. one ws (λ a below. if_some (x.called ty a) (traps BadCall) (λ func.
    checked_act x func (in_transaction f rest) (entered_act x func safe args (at f f.index below) rest))))

abbrev pub slot_act : Names → ℕ → ℕ → Frame → List Frame → Act
slot_act x class n f rest = one f.words (λ a ws. if_some (x.slot_of class a n) (traps BadVirtual)
    (λ func. goes (Runs (on_with f (x.func_address func ∷ ws)) rest)))

-- a function hands words to its caller, or a thread ends
abbrev pub status_of : List ℕ → ℤ
status_of [] = pos 0
status_of (w ∷ ws) = value_of_word Int w

abbrev pub finish : ℕ → ℤ → Event
finish thread v = if nat_eq thread 0 then Stop (Exit v) else Done

abbrev pub back_act : Home → List ℕ → List Frame → Act
back_act h ws [] = Ends (finish h.thread (status_of ws))
back_act h ws (g ∷ rest) = goes (Runs (on_with g (ws ++ g.words)) rest)

abbrev pub ret_act : ℕ → Frame → List Frame → Act
ret_act zero f rest = back_act f.home [] rest
ret_act (suc zero) f rest = one f.words (λ w ws. back_act f.home (w ∷ []) rest)
ret_act (suc (suc n)) f rest = Lost

abbrev pub spawn_act : Names → Frame → List Frame → Act
spawn_act x f rest = two f.words (λ a v ws. if_some (x.spawned a) (traps BadCall)
    (λ func. Does (SpawnOf func (value_of_word Long v)) (λ r. Runs (on_with f (word_of (answered r) ∷ ws)) rest)))

-- ---- exceptions

-- an exception's bytes
unfoldable pub no_bytes : List ℕ
no_bytes = replicate EXCEPTION_SIZE 0

-- the bytes of a number, from this position on, the least significant first
unfoldable pub put_bytes : List ℕ → ℕ → ℕ → ℕ → List ℕ
put_bytes bs at zero v = bs
put_bytes bs at (suc n) v = put_bytes (slice_set bs at (v % 256)) (at + 1) n (v / 256)

unfoldable pub get_bytes : List ℕ → ℕ → ℕ → ℕ
get_bytes bs at zero = 0
get_bytes bs at (suc n) = slice_index_or bs at 0 + 256 * get_bytes bs (at + 1) n

abbrev pub new_exception : ℕ → Exception
new_exception ty = record { ty = ty; bytes = no_bytes }

abbrev pub with_number : Exception → ℕ → IntKind → ℤ → Exception
with_number e n k v = record { ty = e.ty; bytes = put_bytes e.bytes n (size_of k) (bits_of k v) }

abbrev pub number_in : Exception → ℕ → IntKind → ℤ
number_in e n k = convert_of k (pos (get_bytes e.bytes n (size_of k)))

abbrev pub built : Held → (Exception → Act) → Act
built (Building e) f = f e
built Free f = Lost
built (Flying e) f = Lost

abbrev pub flown : Held → (Exception → Act) → Act
flown (Flying e) f = f e
flown Free f = Lost
flown (Building e) f = Lost

abbrev pub in_handler : List Exception → Act → Act
in_handler [] a = Lost
in_handler (e ∷ es) a = a

abbrev pub first_or : List Exception → Option Exception → Option Exception
first_or [] o = o
first_or (e ∷ es) o = Some e

-- the exception of the handler that was entered last in the thread and not left
abbrev pub current : List Frame → Option Exception
current [] = None
current (f ∷ fs) = first_or f.nest.caught (current fs)

abbrev pub unwinding : Exception → Frame → List Frame → Act
unwinding e f rest = goes (Unwinds e (nested f (holding f.nest Free) f.index f.words) rest)

abbrev pub put_act : ℕ → ℕ → Frame → List Frame → Act
put_act n k f rest = with_kind k (λ j. built f.nest.held
    (λ e. one f.words (λ v ws. goes (Runs (nested f (holding f.nest (Building (with_number e n j (value_of_word j v)))) (f.index + 1) ws) rest))))

abbrev pub get_act : ℕ → ℕ → Frame → List Frame → Act
get_act n k f rest = with_kind k (λ j. if_some (current (f ∷ rest)) Lost (λ e. goes (Runs (on_with f (word_of (number_in e n j) ∷ f.words)) rest)))

-- ---- the instructions

abbrev pub act : Names → Instr → Frame → List Frame → Act
act x (Push v) f rest = goes (Runs (on_with f (v ∷ f.words)) rest)
act x Dup f rest = one f.words (λ w ws. goes (Runs (on_with f (w ∷ w ∷ ws)) rest))
act x Pop f rest = one f.words (λ w ws. goes (Runs (on_with f ws) rest))
act x Swap f rest = two f.words (λ a b ws. goes (Runs (on_with f (a ∷ b ∷ ws)) rest))
act x Over f rest = two f.words (λ a b ws. goes (Runs (on_with f (a ∷ b ∷ a ∷ ws)) rest))
act x (FrameAddr n) f rest = goes (Runs (on_with f (offset_by f.home.base n ∷ f.words)) rest)
act x (GlobalAddr s) f rest = goes (Runs (on_with f (x.global_address s ∷ f.words)) rest)
act x (FuncAddr s) f rest = goes (Runs (on_with f (x.func_address s ∷ f.words)) rest)
act x (ClassAddr s) f rest = goes (Runs (on_with f (x.class_address s ∷ f.words)) rest)
act x (Load k) f rest = load_act k false f rest
act x (Store k) f rest = store_act k false f rest
act x (TLoad k) f rest = load_act k false f rest
act x (TStore k) f rest = store_act k false f rest
act x (VLoad k) f rest = load_act k true f rest
act x (VStore k) f rest = store_act k true f rest
act x (Bin op k) f rest = bin_act op k f rest
act x (Neg k) f rest = neg_act k f rest
act x (Conv k j) f rest = conv_act k j f rest
act x (Jump n) f rest = goes (Runs (at f n f.words) rest)
act x (JumpZero n) f rest = one f.words (λ w ws. goes (Runs (at f (if nat_eq w 0 then n else f.index + 1) ws) rest))
act x (Call s n) f rest = call_act x s false n f rest
act x (TCall s n) f rest = call_act x s true n f rest
act x (CallIndirect ty n) f rest = call_indirect_act x ty false n f rest
act x (TCallIndirect ty n) f rest = call_indirect_act x ty true n f rest
act x (Slot c n) f rest = slot_act x c n f rest
act x (Ret n) f rest = ret_act n f rest
act x (Begin n) f rest = if_some (slice_get block_kinds n) Lost (λ kind. asks (BeginAtomic kind) (Runs (on_in f (opening f.nest (Atomic kind))) rest))
act x End f rest = asks EndAtomic (Runs (on_in f (closing f.nest)) rest)
act x BeginSync f rest = asks BeginSyncOf (Runs (on_in f (opening f.nest Sync)) rest)
act x EndSync f rest = asks EndSyncOf (Runs (on_in f (closing f.nest)) rest)
act x Out f rest = one f.words (λ v ws. asks (OutOf (v % 256)) (Runs (on_with f (v % 256 ∷ ws)) rest))
act x Inp f rest = Does InpOf (λ r. Runs (on_with f (word_of (answered r) ∷ f.words)) rest)
act x Spawn f rest = spawn_act x f rest
act x Join f rest = one f.words (λ v ws. asks (JoinOf (value_of_word Int v)) (Runs (on_with f ws) rest))
act x Abort f rest = Ends (Stop Aborted)
act x (NewException ty) f rest = goes (Runs (on_in f (holding f.nest (Building (new_exception ty)))) rest)
act x (PutException n k) f rest = put_act n k f rest
act x Throw f rest = built f.nest.held (λ e. unwinding e f rest)
act x Rethrow f rest = if_some (current (f ∷ rest)) (Ends (Stop Terminate)) (λ e. unwinding e f rest)
act x (GetException n k) f rest = get_act n k f rest
act x EndHandler f rest = in_handler f.nest.caught (goes (Runs (on_in f (handled f.nest)) rest))
act x Resume f rest = flown f.nest.held (λ e. unwinding e f rest)

-- ---- the rows

-- a row of `what` 1 handles one type
abbrev pub takes : Row → ℕ → Bool
takes r ty = not (nat_eq r.what 1) || nat_eq r.ty ty

abbrev pub covers : Row → ℕ → Bool
covers r i = nat_le r.from i && nat_lt i r.to

-- the first row that covers the index and takes the type
abbrev pub find : List Row → ℕ → ℕ → Option Row
find [] i ty = None
find (r ∷ rs) i ty = if covers r i && takes r ty then Some r else find rs i ty

-- the operands cut to a depth
abbrev pub cut : ℕ → List ℕ → List ℕ
cut d ws = drop (length ws - d) ws

abbrev pub edge_act : Event → ℕ → List ℕ → Exception → Frame → List Frame → Act
edge_act event target ws e f rest = asks event (Runs (nested f (holding (closing f.nest) (Flying e)) target ws) rest)

-- what a row does: 0 a cleanup, 1 and 2 handlers, 3 to 5 the edges of atomic blocks, 6 that of a synchronized block
abbrev pub row_act : Names → (what target : ℕ) → List ℕ → Exception → Frame → List Frame → Act
row_act x zero target ws e f rest = goes (Runs (nested f (holding f.nest (Flying e)) target ws) rest)
row_act x (suc zero) target ws e f rest = goes (Runs (nested f (catching f.nest e) target ws) rest)
row_act x (suc (suc zero)) target ws e f rest = goes (Runs (nested f (catching f.nest e) target ws) rest)
row_act x (suc (suc (suc zero))) target ws e f rest = edge_act (Raise NoExcept (x.cancels e.ty)) target ws e f rest
row_act x (suc (suc (suc (suc zero)))) target ws e f rest = edge_act (Raise Commit (x.cancels e.ty)) target ws e f rest
row_act x (suc (suc (suc (suc (suc zero))))) target ws e f rest = edge_act (Raise Cancel (x.cancels e.ty)) target ws e f rest
row_act x (suc (suc (suc (suc (suc (suc zero)))))) target ws e f rest = edge_act EndSyncOf target ws e f rest
row_act x (suc (suc (suc (suc (suc (suc (suc n))))))) target ws e f rest = Lost

-- no row does: the frame is left, unless the function lets no exception out
abbrev pub leave_act : Names → Exception → Frame → List Frame → Act
leave_act x e f [] = Ends (Stop Terminate)
leave_act x e f (g ∷ rest) = if x.no_except f.home.func then Ends (Stop Terminate) else goes (Unwinds e g rest)

abbrev pub unwind_act : Names → Option Row → Exception → Frame → List Frame → Act
unwind_act x None e f rest = leave_act x e f rest
unwind_act x (Some r) e f rest = row_act x r.what r.target (cut r.depth f.words) e f rest

-- ---- the thread

abbrev pub code_of : Option BodyView → List Instr
code_of None = []
code_of (Some b) = b.code

abbrev pub rows_of : Option BodyView → List Row
rows_of None = []
rows_of (Some b) = b.rows

-- a function's instruction at an index and the row that takes an exception there, with its names as numbers
abbrev pub fetch : Names → Home → ℕ → Option Instr
fetch x h i = option_map (renamed (x.numbering h.func)) (slice_get (code_of (x.body h.func h.safe)) i)

abbrev pub rows_in : Names → Home → List Row
rows_in x h = map (renamed_row (x.numbering h.func)) (rows_of (x.body h.func h.safe))

abbrev pub step_act : Names → State → Act
step_act x (Runs f rest) = if_some (fetch x f.home f.index) Lost (λ i. act x i f rest)
step_act x (Unwinds e f rest) = unwind_act x (find (rows_in x f.home) f.index e.ty) e f rest

-- a thread at the start of a function, with the words that it is called with
abbrev pub starts : Names → (thread func : ℕ) → List ℕ → State
starts x thread func ws = Runs (first_frame (record { thread = thread; func = func; safe = false; base = x.stack_start thread }) ws) []

abbrev pub blocks_of : State → List Open
blocks_of (Runs f rest) = blocks_in (f ∷ rest)
blocks_of (Unwinds e f rest) = blocks_in (f ∷ rest)

abbrev pub event_of : Act → Event
event_of (Does e on) = e
event_of (Ends e) = e
event_of Lost = Stop Aborted

abbrev pub state_after : State → Act → Reply → State
state_after s (Does e on) r = on r
state_after s (Ends e) r = s
state_after s Lost r = s

-- the meaning of code
abbrev pub thread : Names → Thread State
thread x = record {
  next = λ s. event_of (step_act x s);
  after = λ s r. state_after s (step_act x s) r;
  child = λ s number func arg. starts x number func (word_of arg ∷ []);
  blocks = blocks_of;
}
