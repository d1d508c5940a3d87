-- What an instruction does, with terms as operands, where the source does this next.
use Rattle.std.specs.Prelude.{ℕ, ◌+◌, ◌-◌, ◌%◌, ◌==◌, ◌^◌, ℤ, ◌≡◌, Bool, true, false, not, cond, nat_lt, nat_le, ◌&&◌, ◌||◌, List, [], ◌∷◌, Option, Some, None}
use Rattle.std.specs.Prelude.{Ok, Err, slice_get}
use Rattle.tx_ints.specs.declared.kinds.IntKind.{IntKind}
use Rattle.tx_ints.specs.declared.kinds.IntKind.TheVariants.{Bool as BoolKind, ULong}
use Rattle.tx_ints.specs.declared.kinds.BinOp.{BinOp}
use Rattle.tx_ints.specs.declared.kinds.BinOp.TheVariants.{Add, Sub, Mul, Eq}
use Rattle.tx_ints.specs.declared.kinds.ArithTrap.{ArithTrap}
use Rattle.tx_events.specs.declared.BlockKind.{BlockKind}
use Rattle.tx_events.specs.declared.End.{End as Ending}
use Rattle.tx_events.specs.declared.End.TheVariants.{Abort as Aborts, Terminate, Trapped}
use Rattle.tx_events.specs.declared.Trap.TheVariants.{BadCall, BadVirtual}
use Rattle.tx_events.specs.declared.Event.TheVariants.{Stop}
use Rattle.tx_events.specs.declared.Reply.{Reply}
use Rattle.tx_events.specs.Thread.{Atomic, Sync, Answers, same_kind, rest_of}
use Rattle.tx_code.specs.declared.instr.Instr.{Instr}
use Rattle.tx_code.specs.declared.instr.Instr.TheVariants.{Push, Dup, Pop, Swap, FrameAddr, GlobalAddr, FuncAddr, ClassAddr, Load, Store, TLoad, TStore, VLoad}
use Rattle.tx_code.specs.declared.instr.Instr.TheVariants.{VStore, Bin, Conv, Jump, JumpZero, Begin, End, BeginSync, EndSync, Out, Inp, Spawn, Join, Abort}
use Rattle.tx_code.specs.declared.instr.Instr.TheVariants.{Slot, NewException, PutException, Throw, Rethrow, GetException, EndHandler, Resume, Over}
use Rattle.tx_code.specs.Meaning.{kinds, operators, block_kinds, size_of, Frame, Home, Runs, Unwinds, Act, Does, Ends, if_some, current, goes as acts, traps}
use Rattle.tx_code.specs.Meaning as code
use Rattle.tx_code.specs.Renaming.{Numbering}
use Rattle.cpp_tree.specs.cpp_layout.Layout.{kind_size, function_address}
use Rattle.cpp_tree.specs.cpp_types.Typ.{Typ, Signature}
use Rattle.src_mean.specs.Linked.{Func, Program}
use Rattle.src_mean.specs.Frames.{State}
use Rattle.src_mean.specs.Frames as frames
use Rattle.src_mean.specs.Source.{applied, trap_of, rethrow, thread_signature}
use Rattle.symbolic_source.specs.Terms.{Term, number, variable, local, global, function, table, slot_function, sum, product, low_byte, converted_to, result}
use Rattle.symbolic_source.specs.Terms.{field, Exception, unknown, made, Puts, untouched, put, Values, eval, exception_of, at_offset, plus_number, one_less}
use Rattle.symbolic_source.specs.Frames.{Waiting, Exit, throws, returns, breaks, continues, Replied, below, here_of}
use Rattle.symbolic_source.specs.Frames as symbolic
use Rattle.symbolic_source.specs.Outcomes.{Doing, reads, writes, puts_out, takes_in, joins, spawns_thread, begins_atomic, begins_sync, ends_block, leaves_block}
use Rattle.symbolic_source.specs.Outcomes.{Outcome, goes, chooses, results, finds, spawns, rethrows, halts, Shows, Stops, event_of}
use Rattle.symbolic_source.specs.Replacing.{in_terms}
use Rattle.symbolic_code.specs.Same.{kind_place, same_term, same_number, same_operator}
use Rattle.symbolic_code.specs.Facts.{Fact, is_not_zero}
use Rattle.symbolic_code.specs.Places.{Place, Hold, nothing, making, flying, coded, frame_at, replied, later, with_operands, holding, place_later, opened_later}

-- what names stand for in a function of the source: globals, functions and classes by their places; and types
pub record Table : Type 0 where
  pub global_of : ℕ → Option ℕ
  pub function_of : ℕ → Option ℕ
  pub class_of : ℕ → Option ℕ
  pub type_of : ℕ → Option Typ
  -- a type of functions is this one; the name of a type in code does not tell safety, so that one name may stand for two
  pub is_signature : (name : ℕ) → Signature → Bool
  -- a type of functions is that of a slot of a class
  pub is_slot : (name class slot : ℕ) → Bool

-- what comes of an instruction
pub data Next : Type 0 where
  refused : Next
  quietly : (index : ℕ) → Place → Outcome → Next  -- a silent step
  either_way : Term → (first other : Next) → Next  -- whether the word is 0
  unless_trap : BinOp → IntKind → (left right : Term) → Next → Next
  loudly : Doing → (temporaries : List Waiting) → List symbolic.Frame → (index : ℕ) → Place → Next  -- an event, and the place after its reply
  throwing : Exception → (index : ℕ) → Place → Outcome → Next  -- a silent step, and the exception is in flight at this index
  finding : (class slot : ℕ) → Term → Next → Next  -- whether the slot of the class at this address has a function
  -- a thread, and the place after the reply
  starting : (address argument : Term) → (temporaries : List Waiting) → List symbolic.Frame → (index : ℕ) → Place → Next
  rethrowing : (temporaries : List Waiting) → List symbolic.Frame → (index : ℕ) → Place → Next  -- what a caller's handler has
  ends : Ending → Next

-- ---- operands

abbrev pub one_of : List Term → (Term → List Term → Next) → Next
one_of [] go = refused
one_of (w ∷ ws) go = go w ws

-- the lower one first
abbrev pub two_of : List Term → (Term → Term → List Term → Next) → Next
two_of [] go = refused
two_of (b ∷ []) go = refused
two_of (b ∷ a ∷ ws) go = go a b ws

abbrev pub if_found : {A : Type 0} → Option A → (A → Next) → Next
if_found None go = refused
if_found (Some a) go = go a

abbrev pub pushes : ℕ → Place → Outcome → Term → List Term → Next
pushes i q o w ws = quietly (i + 1) (with_operands q (w ∷ ws)) o

-- ---- events

abbrev pub same_flag : Bool → Bool → Bool
same_flag true b = b
same_flag false b = not b

abbrev pub is_bool : IntKind → Bool
is_bool k = kind_place k == 0

abbrev pub loads : ℕ → Place → IntKind → Bool → Term → List Term → Outcome → Next
loads i q k volatile a ws (goes (reads b size v) temporaries rest) = cond (same_term a b && (size == size_of k) && same_flag volatile v)
    (loudly (reads b size v) temporaries rest (i + 1) (place_later q (converted_to k (variable 0) ∷ in_terms later ws))) refused
loads i q k volatile a ws o = refused

-- what of a word is seen in its lowest bytes, so many: a conversion to a kind of that size is not
abbrev pub kept : ℕ → Term → Term
kept n (converted_to k w) = cond (not (is_bool k) && (kind_size k == n)) w (converted_to k w)
kept n w = w

-- a store as bool makes its word 0 or 1
abbrev pub stored_term : IntKind → Term → Term
stored_term BoolKind w = converted_to BoolKind w
stored_term k w = w

abbrev pub stores : ℕ → Place → IntKind → Bool → Term → Term → List Term → Outcome → Next
stores i q k volatile a w ws (goes (writes b j u v) temporaries rest) =
    cond (same_term a b && (kind_size k == kind_size j) && (same_term (kept (kind_size k) (stored_term k w)) (kept (kind_size k) u) && same_flag volatile v))
    (loudly (writes b j u v) temporaries rest (i + 1) (place_later q (in_terms later ws))) refused
stores i q k volatile a w ws o = refused

abbrev pub outputs : ℕ → Place → Term → List Term → Outcome → Next
outputs i q a ws (goes (puts_out b) temporaries rest) =
    cond (same_term (low_byte a) b) (loudly (puts_out b) temporaries rest (i + 1) (place_later q (in_terms later (b ∷ ws)))) refused
outputs i q a ws o = refused

abbrev pub inputs : ℕ → Place → Outcome → Next
inputs i q (goes takes_in temporaries rest) = loudly takes_in temporaries rest (i + 1) (place_later q (variable 0 ∷ in_terms later q.operands))
inputs i q o = refused

abbrev pub joining : ℕ → Place → Term → List Term → Outcome → Next
joining i q a ws (goes (joins b) temporaries rest) = cond (same_term a b)
    (loudly (joins b) temporaries rest (i + 1) (place_later q (in_terms later ws))) refused
joining i q a ws o = refused

abbrev pub begins : ℕ → Place → BlockKind → Outcome → Next
begins i q kind (goes (begins_atomic k) temporaries rest) =
    cond (same_kind kind k) (loudly (begins_atomic k) temporaries rest (i + 1) (opened_later q (Atomic k ∷ q.opens))) refused
begins i q kind o = refused

abbrev pub begins_locked : ℕ → Place → Outcome → Next
begins_locked i q (goes begins_sync temporaries rest) = loudly begins_sync temporaries rest (i + 1) (opened_later q (Sync ∷ q.opens))
begins_locked i q o = refused

-- a block is left by its end or outward, but not by an exception
abbrev pub ends_atomic : ℕ → Place → Outcome → Next
ends_atomic i q (goes (ends_block (Atomic k)) temporaries rest) = loudly (ends_block (Atomic k)) temporaries rest (i + 1) (opened_later q (rest_of q.opens))
ends_atomic i q (goes (leaves_block (Atomic k) (returns w)) temporaries rest) =
    loudly (leaves_block (Atomic k) (returns w)) temporaries rest (i + 1) (opened_later q (rest_of q.opens))
ends_atomic i q (goes (leaves_block (Atomic k) breaks) temporaries rest) =
    loudly (leaves_block (Atomic k) breaks) temporaries rest (i + 1) (opened_later q (rest_of q.opens))
ends_atomic i q (goes (leaves_block (Atomic k) continues) temporaries rest) =
    loudly (leaves_block (Atomic k) continues) temporaries rest (i + 1) (opened_later q (rest_of q.opens))
ends_atomic i q o = refused

abbrev pub ends_locked : ℕ → Place → Outcome → Next
ends_locked i q (goes (ends_block Sync) temporaries rest) = loudly (ends_block Sync) temporaries rest (i + 1) (opened_later q (rest_of q.opens))
ends_locked i q (goes (leaves_block Sync exit) temporaries rest) = loudly (leaves_block Sync exit) temporaries rest (i + 1) (opened_later q (rest_of q.opens))
ends_locked i q o = refused

abbrev pub aborts : Outcome → Next
aborts (halts Aborts) = ends Aborts
aborts o = refused

-- ---- operators and jumps

-- a number less, where it is seen that none is borrowed; where nothing is left in a sum, what it is added to
abbrev pub minus_number : Term → ℕ → Option Term
minus_number (number m) n = cond (nat_le n m) (Some (number (m - n))) None
minus_number (local m) n = cond (nat_le n m) (Some (local (m - n))) None
minus_number (sum a (number m)) n = cond (nat_le n m) (Some (at_offset a (m - n))) None
minus_number a n = None

abbrev pub less_one : List Fact → Term → ℕ → Option Term
less_one ks a n = cond ((n == 1) && is_not_zero ks a) (Some (one_less a)) None

abbrev pub or_less_one : List Fact → Term → ℕ → Option Term → Option Term
or_less_one ks a n None = less_one ks a n
or_less_one ks a n (Some w) = Some w

-- a number times a word, where it is told whether it is 0
abbrev pub times : (zero : Bool) → ℕ → Term → Term
times true m b = number 0
times false m b = product (number m) b

-- sums, products and differences of addresses, one less of what is not 0, and the test of a label: they do not trap
abbrev pub addresses : List Fact → BinOp → IntKind → Term → Term → Option Term
addresses ks Add ULong a (number n) = Some (plus_number a n)
addresses ks Add ULong a b = Some (sum a b)
addresses ks Sub ULong a (number n) = cond (nat_lt n (2 ^ 64)) (or_less_one ks a n (minus_number a n)) None
addresses ks Mul ULong (number m) b = Some (times (m == 0) m b)
addresses ks Mul ULong a b = Some (product a b)
addresses ks Eq ULong a b = Some (result Eq ULong a b)
addresses ks op k a b = None

abbrev pub operates : List Fact → ℕ → Place → BinOp → IntKind → Term → Term → List Term → Outcome → Next
operates ks i q op k a b ws (results oq j c d o) = cond (same_operator op oq && same_number k j && (same_term a c && same_term b d))
    (unless_trap op k a b (pushes i q o (result op k a b) ws))
    (if_found (addresses ks op k a b) (λ w. pushes i q (results oq j c d o) w ws))
operates ks i q op k a b ws o = if_found (addresses ks op k a b) (λ w. pushes i q o w ws)

abbrev pub jumps_zero : ℕ → ℕ → Place → Term → List Term → Outcome → Next
jumps_zero i n q a ws (chooses w first other) = cond (same_term a w)
    (either_way a (quietly n (with_operands q ws) first) (quietly (i + 1) (with_operands q ws) other)) refused
jumps_zero i n q (number m) ws o = cond (m % 2 ^ 64 == 0) (quietly n (with_operands q ws) o) (quietly (i + 1) (with_operands q ws) o)
jumps_zero i n q a ws o = either_way a (quietly n (with_operands q ws) o) (quietly (i + 1) (with_operands q ws) o)

-- ---- exceptions

abbrev pub puts_in : ℕ → (offset : ℕ) → IntKind → Place → Outcome → Hold → Next
puts_in i n k q o (making t puts) = cond (not (is_bool k))
    (one_of q.operands (λ w ws. quietly (i + 1) (holding (with_operands q ws) (making t (put n (size_of k) w puts))) o)) refused
puts_in i n k q o h = refused

abbrev pub throws_made : ℕ → Place → Outcome → Hold → Next
throws_made i q o (making t puts) = throwing (made t puts) i (holding q nothing) o
throws_made i q o h = refused

abbrev pub resumes : ℕ → Place → Outcome → Hold → Next
resumes i q o (flying e) = throwing e i (holding q nothing) o
resumes i q o h = refused

-- of a handler of this function, or of a caller's
abbrev pub rethrows_caught : ℕ → Place → Outcome → List Exception → Next
rethrows_caught i q (rethrows temporaries rest) [] = rethrowing temporaries rest i (holding q nothing)
rethrows_caught i q o [] = refused
rethrows_caught i q o (e ∷ es) = throwing e i (holding q nothing) o

-- what was put at this place, so many bytes
abbrev pub was_put : (offset size : ℕ) → Puts → Option Term
was_put n size untouched = None
was_put n size (put m k w puts) = cond ((m == n) && (k == size)) (Some w) (cond (nat_le (m + k) n || nat_le (n + size) m) (was_put n size puts) None)

abbrev pub put_in : (offset size : ℕ) → Exception → Option Term
put_in n size (unknown m) = None
put_in n size (made t puts) = cond (nat_le (n + size) 64) (was_put n size puts) None

-- what is read as an address is the word itself
abbrev pub read_as : IntKind → Term → Term
read_as ULong w = w
read_as k w = converted_to k w

abbrev pub taken_word : IntKind → (offset : ℕ) → Exception → Option Term → Term
taken_word k n e None = converted_to k (field e n (size_of k))
taken_word k n e (Some w) = read_as k w

abbrev pub gets_caught : ℕ → (offset : ℕ) → IntKind → Place → Outcome → List Exception → Next
gets_caught i n k q o [] = refused
gets_caught i n k q o (e ∷ es) = cond (not (is_bool k)) (pushes i q o (taken_word k n e (put_in n (size_of k) e)) q.operands) refused

abbrev pub handler_ends : ℕ → Place → Outcome → List Exception → Next
handler_ends i q o [] = refused
handler_ends i q o (e ∷ es) = quietly (i + 1) (record { operands = q.operands; opens = q.opens; caught = es; hold = q.hold }) o

-- ---- functions that are found, and threads

-- what reads an address as a number reads the address
abbrev pub bare_address : Term → Term
bare_address (converted_to ULong w) = w
bare_address w = w

abbrev pub slots_follow : ℕ → (class slot : ℕ) → Place → Term → List Term → Outcome → Next
slots_follow i class slot q a ws (finds c s v o) = cond ((class == c) && (slot == s) && same_term (bare_address a) v)
    (finding c s v (pushes i q o (slot_function c s v) ws)) refused
slots_follow i class slot q a ws o = refused

abbrev pub spawning : ℕ → Place → Term → Term → List Term → Outcome → Next
spawning i q a v ws (spawns b u temporaries rest) = cond (same_term a b && same_term v u)
    (starting b u temporaries rest (i + 1) (place_later q (variable 0 ∷ in_terms later ws))) refused
spawning i q a v ws o = refused

-- ---- instructions

abbrev pub followed : Table → List Fact → (index : ℕ) → Instr → Place → Outcome → Next
followed t ks i (Push n) q o = cond (nat_lt n (2 ^ 64)) (pushes i q o (number n) q.operands) refused
followed t ks i Dup q o = one_of q.operands (λ w ws. pushes i q o w (w ∷ ws))
followed t ks i Pop q o = one_of q.operands (λ w ws. quietly (i + 1) (with_operands q ws) o)
followed t ks i Swap q o = two_of q.operands (λ a b ws. pushes i q o a (b ∷ ws))
followed t ks i Over q o = two_of q.operands (λ a b ws. pushes i q o a (b ∷ a ∷ ws))
followed t ks i (FrameAddr n) q o = pushes i q o (local n) q.operands
followed t ks i (GlobalAddr s) q o = if_found (t.global_of s) (λ n. pushes i q o (global n) q.operands)
followed t ks i (FuncAddr s) q o = if_found (t.function_of s) (λ n. pushes i q o (function n) q.operands)
followed t ks i (ClassAddr s) q o = if_found (t.class_of s) (λ n. pushes i q o (table n) q.operands)
followed t ks i (Load n) q o = if_found (slice_get kinds n) (λ k. one_of q.operands (λ a ws. loads i q k false a ws o))
followed t ks i (TLoad n) q o = if_found (slice_get kinds n) (λ k. one_of q.operands (λ a ws. loads i q k false a ws o))
followed t ks i (VLoad n) q o = if_found (slice_get kinds n) (λ k. one_of q.operands (λ a ws. loads i q k true a ws o))
followed t ks i (Store n) q o = if_found (slice_get kinds n) (λ k. two_of q.operands (λ a w ws. stores i q k false a w ws o))
followed t ks i (TStore n) q o = if_found (slice_get kinds n) (λ k. two_of q.operands (λ a w ws. stores i q k false a w ws o))
followed t ks i (VStore n) q o = if_found (slice_get kinds n) (λ k. two_of q.operands (λ a w ws. stores i q k true a w ws o))
followed t ks i (Bin op n) q o = if_found (slice_get operators op)
    (λ b. if_found (slice_get kinds n) (λ k. two_of q.operands (λ a c ws. operates ks i q b k a c ws o)))
followed t ks i (Conv m n) q o = cond (m == 9) (if_found (slice_get kinds n) (λ k. one_of q.operands (λ a ws. pushes i q o (converted_to k a) ws))) refused
followed t ks i (Jump n) q o = quietly n q o
followed t ks i (JumpZero n) q o = one_of q.operands (λ a ws. jumps_zero i n q a ws o)
followed t ks i (Begin n) q o = if_found (slice_get block_kinds n) (λ kind. begins i q kind o)
followed t ks i End q o = ends_atomic i q o
followed t ks i BeginSync q o = begins_locked i q o
followed t ks i EndSync q o = ends_locked i q o
followed t ks i Out q o = one_of q.operands (λ a ws. outputs i q a ws o)
followed t ks i Inp q o = inputs i q o
followed t ks i Join q o = one_of q.operands (λ a ws. joining i q a ws o)
followed t ks i Abort q o = aborts o
followed t ks i (NewException ty) q o = if_found (t.type_of ty) (λ typ. quietly (i + 1) (holding q (making typ untouched)) o)
followed t ks i (PutException n m) q o = if_found (slice_get kinds m) (λ k. puts_in i n k q o q.hold)
followed t ks i Throw q o = throws_made i q o q.hold
followed t ks i Rethrow q o = rethrows_caught i q o q.caught
followed t ks i (GetException n m) q o = if_found (slice_get kinds m) (λ k. gets_caught i n k q o q.caught)
followed t ks i EndHandler q o = handler_ends i q o q.caught
followed t ks i Resume q o = resumes i q o q.hold
followed t ks i (Slot c slot) q o = if_found (t.class_of c) (λ class. one_of q.operands (λ a ws. slots_follow i class slot q a ws o))
followed t ks i Spawn q o = two_of q.operands (λ a v ws. spawning i q a v ws o)
followed t ks i a q o = refused

-- ---- what it says of the machine

module _ (p : Program) (f : Func) (numbers : Typ → ℕ) (x : Values) (home : Home) (rest : List frames.Frame) (below_frames : List Frame) where
  -- the step does this event, and is at this place after each reply to it
  pub record Loud (doing : Doing) (index : ℕ) (q : Place) (act : Act) : Type 0 where
    pub on : Reply → code.State
    pub does : act ≡ Does (event_of p f x doing) on
    pub then_at : (reply : Reply) → Answers (event_of p f x doing) reply → on reply ≡ Runs (frame_at p f numbers (replied x reply) home index q) below_frames

  -- the step of the code, and the state of the source
  abbrev pub Follows : Next → Act → State → Type 0
  Follows refused act s = Unit {0}
  Follows (quietly index q o) act s = (act ≡ acts (Runs (frame_at p f numbers x home index q) below_frames)) × Shows p f x rest o s
  Follows (either_way w first other) act s = (eval p f x w ≡ 0 → Follows first act s) × ((eval p f x w ≡ 0 → ⊥) → Follows other act s)
  Follows (unless_trap op kind a b next) act s = ((v : ℤ) → applied op kind (eval p f x a) (eval p f x b) ≡ Ok v → Follows next act s)
      × ((trap : ArithTrap) → applied op kind (eval p f x a) (eval p f x b) ≡ Err trap → (act ≡ Ends (Stop (Trapped (trap_of trap))))
      × Stops (Trapped (trap_of trap)) s)
  Follows (loudly doing ws k index q) act s = Loud doing index q act × (s ≡ frames.at (event_of p f x doing) (here_of p f x ws) (below p f x k rest))
  Follows (throwing e index q o) act s = (act ≡ acts (Unwinds (coded numbers (exception_of p f x e)) (frame_at p f numbers x home index q) below_frames))
      × Shows p f x rest o s
  Follows (finding class slot w next) act s = ((n : ℕ) → p.slot (eval p f x w) class slot ≡ Some n → Follows next act s)
      × (p.slot (eval p f x w) class slot ≡ None → (act ≡ Ends (Stop (Trapped BadVirtual))) × Stops (Trapped BadVirtual) s)
  Follows (starting address argument ws k index q) act s = ((n : ℕ) → p.pointed (eval p f x address) thread_signature ≡ Some n
      → Loud (spawns_thread n argument) index q act ×
      (s ≡ frames.at (event_of p f x (spawns_thread n argument)) (here_of p f x ws) (below p f x (Replied ∷ k) rest)))
      × (p.pointed (eval p f x address) thread_signature ≡ None → (act ≡ Ends (Stop (Trapped BadCall))) × Stops (Trapped BadCall) s)
  Follows (rethrowing ws k index q) act s = (act ≡ if_some (current below_frames) (Ends (Stop Terminate))
      (λ e. acts (Unwinds e (frame_at p f numbers x home index q) below_frames)))
      × (s ≡ rethrow (here_of p f x ws) (frames.handled rest) (below p f x k rest))
  Follows (ends end) act s = (act ≡ Ends (Stop end)) × Stops end s

-- the table is right for the names of this function, where types have these numbers
pub record AreNames (p : Program) (f : Func) (numbers : Typ → ℕ) (names : code.Names) (numbering : Numbering) (t : Table) : Type 0 where
  pub globals : (s n : ℕ) → t.global_of s ≡ Some n → names.global_address (numbering.global s) ≡ p.global f.unit n
  pub functions : (s n : ℕ) → t.function_of s ≡ Some n → names.func_address (numbering.func s) ≡ function_address (p.number f.unit n)
  pub classes : (s n : ℕ) → t.class_of s ≡ Some n → names.class_address (numbering.class s) ≡ p.table n
  pub types : (s : ℕ) (typ : Typ) → t.type_of s ≡ Some typ → numbering.ty s ≡ numbers typ
  pub addresses : (n : ℕ) → names.func_address n ≡ function_address n
  pub slots : (s class : ℕ) → t.class_of s ≡ Some class → (a slot : ℕ) → names.slot_of (numbering.class s) a slot ≡ p.slot a class slot
  pub spawned : (a : ℕ) → names.spawned a ≡ p.pointed a thread_signature
  pub signatures : (s : ℕ) (sig : Signature) → t.is_signature s sig ≡ true → (a : ℕ) → names.called (numbering.ty s) a ≡ p.pointed a sig
  pub methods : (s class slot a n : ℕ) → t.is_slot s class slot ≡ true → p.slot a class slot ≡ Some n
      → names.called (numbering.ty s) (function_address n) ≡ Some n
