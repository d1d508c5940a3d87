-- One turn of a thread, row by row of the turn table, and the machine at the start.
use Rattle.std.specs.Prelude.{ℕ, ℤ, pos, negsuc, zero, suc, ◌+◌, Bool, true, false, cond, nat_lt, List, [], ◌∷◌, ◌++◌, Option, Some, None}
use Rattle.choosers.specs.declared.Clash.{Clash}
use Rattle.choosers.specs.declared.Choice.{Choice}
use Rattle.choosers.specs.declared.Choice.TheVariants.{Wait, Yield}
use Rattle.tx_events.specs.declared.BlockKind.{BlockKind}
use Rattle.tx_events.specs.declared.BlockKind.TheVariants.{NoExcept, Commit, Cancel}
use Rattle.tx_events.specs.declared.Trap.TheVariants.{BadAddress, TooManyThreads, BadJoin}
use Rattle.tx_events.specs.declared.End.{End}
use Rattle.tx_events.specs.declared.End.TheVariants.{Abort, Trapped}
use Rattle.tx_events.specs.declared.Event.{Event}
use Rattle.tx_events.specs.declared.Event.TheVariants.{
  Silent,
  Load,
  Store,
  Out,
  Inp,
  Spawn,
  Join,
  BeginAtomic,
  EndAtomic,
  Raise,
  BeginSync,
  EndSync,
  Done,
  Stop,
}
use Rattle.tx_events.specs.declared.Reply.TheVariants.{Nothing, Loaded, Byte, Id}
use Rattle.tx_events.specs.declared.TurnKind.{TurnKind}
use Rattle.tx_events.specs.declared.TurnKind.TheVariants.{Ran, Waited, BlockWait, JoinWait, Rolled, Undone, Released, Idle}
use Rattle.tx_events.specs.Thread.{Thread}
use Rattle.tx_events.specs.Memory.{update, MemoryLayout, can_access, word_of, word_bound, load, store}
use Rattle.tx_events.specs.World.{lock_in, lock_out, target, byte_of, input_after}
use Rattle.tx_serial.specs.Machine.{
  Save,
  Tx,
  NoTx,
  OpenTx,
  GivingUp,
  Closing,
  Local,
  Machine,
  least,
  birth_of,
  blocker,
  lock_owner,
  busy,
  no_waits,
  wait_more,
  clash_of,
  kept_or,
  oldest,
  forget,
  forget_all,
  hand,
  note,
  no_save,
  is_noted,
}

-- What a turn leads to: the machine after it, and its kind.
pub record Turned (S : Type 0) : Type 0 where
  pub machine : Machine S
  pub kind : TurnKind

abbrev pub ran : {S : Type 0} → Machine S → Turned S
ran m = record { machine = m; kind = Ran }

-- nothing is done
abbrev pub stays : {S : Type 0} → TurnKind → Machine S → Turned S
stays kind m = record { machine = m; kind = kind }

-- thread t goes on, and its waits are over
abbrev pub steps : {S : Type 0} → ℕ → Machine S → Local S → Machine S
steps t m l = record m { threads = update m.threads t (Some l); waits = update m.waits t no_waits }

-- the order gains t
abbrev pub order_gains : {S : Type 0} → ℕ → Machine S → Machine S
order_gains t m = record m { order = m.order ++ t ∷ [] }

-- the program ends so
abbrev pub halts : {S : Type 0} → ℕ → Machine S → End → Turned S
halts t m e = ran (record m { end = Some e; order = m.order ++ t ∷ [] })

-- thread t waits for the word x, against the blocking thread u
abbrev pub waited : {S : Type 0} → ℕ → Machine S → ℕ → ℕ → Turned S
waited t m x u = record { machine = record m { waits = update m.waits t (wait_more (m.waits t) x (birth_of (m.threads u))) }; kind = Waited x u }

-- a thread that holds no word and has no transaction
abbrev pub bare : {S : Type 0} → S → Local S
bare s = record { state = s; ended = false; held = λ _. false; wrote = λ _. false; tx = NoTx }

-- Outside a transaction.

-- Load and Store, with the blocking thread, if there is one

abbrev pub load_out : {S : Type 0} → Thread S → ℕ → Machine S → Local S → ℕ → ℕ → Option ℕ → Turned S
load_out a t m l addr size (Some u) = waited t m (word_of addr) u
load_out a t m l addr size None = ran (order_gains t (steps t m (record l { state = a.after l.state (Loaded (load m.memory addr size)) })))

abbrev pub store_out : {S : Type 0} → Thread S → ℕ → Machine S → Local S → ℕ → ℕ → ℕ → Option ℕ → Turned S
store_out a t m l addr size value (Some u) = waited t m (word_of addr) u
store_out a t m l addr size value None = ran (record (order_gains t (steps t m (record l { state = a.after l.state Nothing }))) {
  memory = store m.memory addr size value;
})

-- an outermost BeginAtomic, with the other thread that holds the lock, if there is one
abbrev pub begins : {S : Type 0} → ℕ → Machine S → Local S → S → Option ℕ → Turned S
begins t m l s (Some u) = stays (BlockWait u) m
begins t m l s None = ran (record (steps t m (record l { state = s; tx = OpenTx m.births s (no_save ∷ []) })) { births = m.births + 1 })

-- BeginSync: first the other thread that holds the lock, then the one whose transaction is open or giving up

abbrev pub sync_idle : {S : Type 0} → ℕ → Machine S → Local S → Option ℕ → Turned S
sync_idle t m l (Some u) = stays (BlockWait u) m
sync_idle t m l None = ran (record (order_gains t (steps t m l)) { lock = lock_in t m.lock })

abbrev pub sync_in : {S : Type 0} → ℕ → Machine S → Local S → Option ℕ → Turned S
sync_in t m l (Some u) = stays (BlockWait u) m
sync_in t m l None = sync_idle t m l (busy t m)

abbrev pub spawns : {S : Type 0} → ℕ → Machine S → Local S → S → Machine S
spawns t m l child = record (order_gains t m) {
  started = m.started + 1;
  threads = update (update m.threads m.started (Some (bare child))) t (Some l);
  waits = update m.waits t no_waits;
}

-- Join, with the thread to be joined, if the number is that of one that may be joined

abbrev pub number_of : ℤ → ℕ
number_of (pos n) = n
number_of (negsuc n) = 0

abbrev pub joins : {S : Type 0} → ℕ → ℤ → Machine S → Local S → Option (Local S) → Turned S
joins t id m l None = halts t m (Trapped BadJoin)
joins t id m l (Some u) = cond u.ended (ran (order_gains t (steps t m l))) (stays (JoinWait (number_of id)) m)

-- the rows of a thread that has no transaction
abbrev pub out_does : {S : Type 0} → Thread S → MemoryLayout → ℕ → Machine S → Local S → Event → Turned S
out_does a p t m l Silent = ran (steps t m (record l { state = a.after l.state Nothing }))
out_does a p t m l (Load addr size vol) = cond (can_access p addr size) (load_out a t m l addr size (blocker t false (word_of addr) m))
    (halts t m (Trapped BadAddress))
out_does a p t m l (Store addr size value vol) = cond (can_access p addr size) (store_out a t m l addr size value (blocker t true (word_of addr) m))
    (halts t m (Trapped BadAddress))
out_does a p t m l (BeginAtomic kind) = begins t m l (a.after l.state Nothing) (lock_owner t m.lock.holder)
out_does a p t m l BeginSync = sync_in t m (record l { state = a.after l.state Nothing }) (lock_owner t m.lock.holder)
out_does a p t m l EndSync = ran (record (order_gains t (steps t m (record l { state = a.after l.state Nothing }))) { lock = lock_out m.lock })
out_does a p t m l (Spawn f x) = cond (nat_lt m.started p.limit)
    (ran (spawns t m (record l { state = a.after l.state (Id (pos m.started)) }) (a.child l.state m.started f x))) (halts t m (Trapped TooManyThreads))
out_does a p t m l (Join id) = joins t id m (record l { state = a.after l.state Nothing }) (target t id m.threads)
out_does a p t m l (Out byte) = ran (record (order_gains t (steps t m (record l { state = a.after l.state Nothing }))) { out = m.out ++ byte ∷ [] })
out_does a p t m l Inp = ran
    (record (order_gains t (steps t m (record l { state = a.after l.state (Byte (byte_of m.input)) }))) { input = input_after m.input })
out_does a p t m l Done = ran (order_gains t (steps t m (record l { state = a.after l.state Nothing; ended = true })))
out_does a p t m l (Stop e) = halts t m e
-- by the laws of a thread's blocks these never come here
out_does a p t m l EndAtomic = stays Idle m
out_does a p t m l (Raise kind cancels) = stays Idle m

-- In an open transaction, of birth b, with the kept state k and the savepoints ss.

-- the thread stands again just after its outermost BeginAtomic, and holds no word
abbrev pub again : {S : Type 0} → Local S → ℕ → S → Local S
again l b k = record { state = k; ended = l.ended; held = λ _. false; wrote = λ _. false; tx = OpenTx b k (no_save ∷ []) }

-- the transaction gives up: at once where the thread holds no word
abbrev pub gives_up : {S : Type 0} → Local S → ℕ → S → List Save → Option ℕ → Local S
gives_up l b k ss None = again l b k
gives_up l b k ss (Some x) = record l { tx = GivingUp b k ss }

-- an access to the word x that thread u blocks, as the policy chooses
abbrev pub clashes : {S : Type 0} → MemoryLayout → Choice → ℕ → Machine S → Local S → ℕ → S → List Save → ℕ → ℕ → Turned S
clashes p Wait t m l b k ss x u = waited t m x u
clashes p Yield t m l b k ss x u = record { machine = steps t m (gives_up l b k ss (least l.held (word_bound p))); kind = Rolled x u }

-- Load and Store, with the blocking thread, if there is one

abbrev pub load_in : {S : Type 0} → Thread S → MemoryLayout → (Clash → Choice) → ℕ → Machine S → Local S → ℕ → S → List Save → ℕ → ℕ → Option ℕ → Turned S
load_in a p answer t m l b k ss addr size (Some u) = clashes p (answer (clash_of t false (word_of addr) m b u)) t m l b k ss (word_of addr) u
load_in a p answer t m l b k ss addr size None = ran (steps t m (record l {
  state = a.after l.state (Loaded (load m.memory addr size));
  held = update l.held (word_of addr) true;
  tx = OpenTx b k ss;
}))

abbrev pub store_in : {S : Type 0} → Thread S → MemoryLayout → (Clash → Choice) → ℕ → Machine S → Local S → ℕ → S → List Save → ℕ → ℕ → ℕ → Option ℕ → Turned S
store_in a p answer t m l b k ss addr size value (Some u) = clashes p (answer (clash_of t true (word_of addr) m b u)) t m l b k ss (word_of addr) u
store_in a p answer t m l b k ss addr size value None = ran (record (steps t m (record l {
  state = a.after l.state Nothing;
  held = update l.held (word_of addr) true;
  wrote = update l.wrote (word_of addr) true;
  tx = OpenTx b k (note ss (word_of addr) (m.memory (word_of addr)));
})) { memory = store m.memory addr size value })

-- the outermost block has ended: the transaction is closing, or gone where the thread holds no word

abbrev pub closes : {S : Type 0} → ℕ → Option ℕ → Tx S
closes b None = NoTx
closes b (Some x) = Closing b

abbrev pub outermost : {S : Type 0} → MemoryLayout → ℕ → Machine S → Local S → S → ℕ → Turned S
outermost p t m l s b = ran (order_gains t (steps t m (record l { state = s; tx = closes b (least l.held (word_bound p)) })))

-- the newest savepoint is dropped, and hands down its notes
abbrev pub commits : {S : Type 0} → MemoryLayout → ℕ → Machine S → Local S → S → ℕ → S → List Save → Turned S
commits p t m l s b k [] = stays Idle m
commits p t m l s b k (n ∷ []) = outermost p t m l s b
commits p t m l s b k (n ∷ o ∷ ss) = ran (steps t m (record l { state = s; tx = OpenTx b k (hand n o ∷ ss) }))

-- a Raise that cancels: the least word that the newest savepoint notes is put back, or, where it notes none, it is dropped

abbrev pub cancels_by : {S : Type 0} → MemoryLayout → ℕ → Machine S → Local S → S → ℕ → S → Save → List Save → Option ℕ → Turned S
cancels_by p t m l s b k n ss (Some x) = record {
  machine = record (steps t m (record l { tx = OpenTx b k (forget n x ∷ ss) })) { memory = update m.memory x (kept_or (n x) (m.memory x)) };
  kind = Undone x;
}
cancels_by p t m l s b k n [] None = outermost p t m l s b
cancels_by p t m l s b k n (o ∷ ss) None = ran (steps t m (record l { state = s; tx = OpenTx b k (o ∷ ss) }))

abbrev pub cancels : {S : Type 0} → MemoryLayout → ℕ → Machine S → Local S → S → ℕ → S → List Save → Turned S
cancels p t m l s b k [] = stays Idle m
cancels p t m l s b k (n ∷ ss) = cancels_by p t m l s b k n ss (least (is_noted n) (word_bound p))

abbrev pub raises : {S : Type 0} → MemoryLayout → ℕ → Machine S → Local S → S → ℕ → S → List Save → BlockKind → Bool → Turned S
raises p t m l s b k ss NoExcept can = halts t m Abort
raises p t m l s b k ss Commit can = commits p t m l s b k ss
raises p t m l s b k ss Cancel true = cancels p t m l s b k ss
raises p t m l s b k ss Cancel false = halts t m Abort

-- the rows of a thread whose transaction is open
abbrev pub in_does : {S : Type 0} → Thread S → MemoryLayout → (Clash → Choice) → ℕ → Machine S → Local S → ℕ → S → List Save → Event → Turned S
in_does a p answer t m l b k ss Silent = ran (steps t m (record l { state = a.after l.state Nothing; tx = OpenTx b k ss }))
in_does a p answer t m l b k ss (Load addr size vol) = cond (can_access p addr size)
    (load_in a p answer t m l b k ss addr size (blocker t false (word_of addr) m)) (halts t m (Trapped BadAddress))
in_does a p answer t m l b k ss (Store addr size value vol) = cond (can_access p addr size)
    (store_in a p answer t m l b k ss addr size value (blocker t true (word_of addr) m)) (halts t m (Trapped BadAddress))
in_does a p answer t m l b k ss (BeginAtomic kind) = ran (steps t m (record l { state = a.after l.state Nothing; tx = OpenTx b k (no_save ∷ ss) }))
in_does a p answer t m l b k ss EndAtomic = commits p t m l (a.after l.state Nothing) b k ss
in_does a p answer t m l b k ss (Raise kind can) = raises p t m l (a.after l.state Nothing) b k ss kind can
in_does a p answer t m l b k ss BeginSync = ran (steps t m (record l { state = a.after l.state Nothing; tx = OpenTx b k ss }))
in_does a p answer t m l b k ss EndSync = ran (steps t m (record l { state = a.after l.state Nothing; tx = OpenTx b k ss }))
in_does a p answer t m l b k ss (Stop e) = halts t m e
-- by the laws of a thread's blocks these never come here
in_does a p answer t m l b k ss (Spawn f x) = stays Idle m
in_does a p answer t m l b k ss (Join id) = stays Idle m
in_does a p answer t m l b k ss (Out byte) = stays Idle m
in_does a p answer t m l b k ss Inp = stays Idle m
in_does a p answer t m l b k ss Done = stays Idle m

-- Closing and giving up: one word a turn.

-- the words without this one
abbrev pub without : (ℕ → Bool) → ℕ → ℕ → Bool
without f x = update f x false

-- the least word is let go; where it was the last, there is no transaction
abbrev pub lets_go : {S : Type 0} → MemoryLayout → ℕ → Machine S → Local S → ℕ → Option ℕ → Turned S
lets_go p t m l b None = stays Idle m
lets_go p t m l b (Some x) = record {
  machine = steps t m (record l { held = without l.held x; wrote = without l.wrote x; tx = closes b (least (without l.held x) (word_bound p)) });
  kind = Released x;
}

-- the least word goes back to the outermost savepoint and is let go; where it was the last, the thread starts again

abbrev pub given_back : {S : Type 0} → Local S → ℕ → S → List Save → ℕ → Option ℕ → Local S
given_back l b k ss x None = again l b k
given_back l b k ss x (Some y) = record l { held = without l.held x; wrote = without l.wrote x; tx = GivingUp b k (forget_all ss x) }

abbrev pub gives_back : {S : Type 0} → MemoryLayout → ℕ → Machine S → Local S → ℕ → S → List Save → Option ℕ → Turned S
gives_back p t m l b k ss None = stays Idle m
gives_back p t m l b k ss (Some x) = record {
  machine = record
      (steps t m (given_back l b k ss x (least (without l.held x) (word_bound p)))) { memory = update m.memory x (kept_or (oldest ss x) (m.memory x)) };
  kind = Undone x;
}

-- The turn.

abbrev pub turn_in : {S : Type 0} → Thread S → MemoryLayout → (Clash → Choice) → ℕ → Machine S → Local S → Tx S → Turned S
turn_in a p answer t m l (Closing b) = lets_go p t m l b (least l.held (word_bound p))
turn_in a p answer t m l (GivingUp b k ss) = gives_back p t m l b k ss (least l.held (word_bound p))
turn_in a p answer t m l NoTx = out_does a p t m l (a.next l.state)
turn_in a p answer t m l (OpenTx b k ss) = in_does a p answer t m l b k ss (a.next l.state)

-- a thread that was not started, or has ended, is idle
abbrev pub turn_of : {S : Type 0} → Thread S → MemoryLayout → (Clash → Choice) → ℕ → Machine S → Option (Local S) → Turned S
turn_of a p answer t m None = stays Idle m
turn_of a p answer t m (Some l) = cond l.ended (stays Idle m) (turn_in a p answer t m l l.tx)

-- and so is every thread once the program has ended
abbrev pub turn_at : {S : Type 0} → Thread S → MemoryLayout → (Clash → Choice) → ℕ → Machine S → Option End → Turned S
turn_at a p answer t m None = turn_of a p answer t m (m.threads t)
turn_at a p answer t m (Some e) = stays Idle m

-- The turn of thread t, where the policy answers so at a clash.
abbrev pub turn : {S : Type 0} → Thread S → MemoryLayout → (Clash → Choice) → ℕ → Machine S → Turned S
turn a p answer t m = turn_at a p answer t m m.end

-- A turn to be taken: whose it is, and what the policy answers in it.
pub record Slot : Type 0 where
  pub thread : ℕ
  pub answer : Clash → Choice

-- turns one after another
abbrev pub turns : {S : Type 0} → Thread S → MemoryLayout → List Slot → Machine S → Machine S
turns a p [] m = m
turns a p (q ∷ qs) m = turns a p qs (turn a p q.answer q.thread m).machine

abbrev pub first_thread : {S : Type 0} → S → ℕ → Option (Local S)
first_thread s zero = Some (bare s)
first_thread s (suc n) = None

-- The machine at the start: thread 0 alone, and nothing held.
abbrev pub first_machine : {S : Type 0} → (ℕ → ℕ) → List ℕ → S → Machine S
first_machine memory input main = record {
  memory = memory;
  threads = first_thread main;
  started = 1;
  lock = record { holder = None; depth = 0 };
  births = 0;
  waits = λ _. no_waits;
  out = [];
  input = input;
  order = [];
  end = None;
}
