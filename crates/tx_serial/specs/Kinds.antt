-- Which kinds of turn come, and where.
use Rattle.std.specs.Prelude.{ℕ, ℤ, ◌≡◌, ◌⊎◌, Bool, true, false, List, [], ◌∷◌, Some, None}
use Rattle.choosers.specs.declared.Clash.{Clash}
use Rattle.choosers.specs.declared.Choice.{Choice}
use Rattle.choosers.specs.declared.Choice.TheVariants.{Wait, Yield}
use Rattle.tx_events.specs.declared.BlockKind.TheVariants.{Cancel}
use Rattle.tx_events.specs.declared.Event.{Event}
use Rattle.tx_events.specs.declared.Event.TheVariants.{
  Silent,
  Load,
  Store,
  Out,
  Inp,
  Spawn,
  Join,
  BeginAtomic,
  EndAtomic,
  Raise,
  BeginSync,
  EndSync,
  Done,
  Stop,
}
use Rattle.tx_events.specs.declared.TurnKind.{TurnKind}
use Rattle.tx_events.specs.declared.TurnKind.TheVariants.{Ran, Waited, BlockWait, JoinWait, Rolled, Undone, Released, Idle}
use Rattle.tx_events.specs.Thread.{Thread}
use Rattle.tx_events.specs.Memory.{MemoryLayout, can_access, word_of, word_bound}
use Rattle.tx_events.specs.World.{target}
use Rattle.tx_serial.specs.Machine.{Machine, Local, Tx, NoTx, OpenTx, GivingUp, Closing, Save, least, blocker, lock_owner, busy, clash_of, is_noted}
use Rattle.tx_serial.specs.Turn.{number_of}

-- The event is a mapped and aligned access to the word x: a store, or a load.
abbrev pub Accesses : MemoryLayout → Event → Bool → ℕ → Type 0
Accesses p (Load addr size vol) store x = (can_access p addr size ≡ true) × (store ≡ false) × (x ≡ word_of addr)
Accesses p (Store addr size value vol) store x = (can_access p addr size ≡ true) × (store ≡ true) × (x ≡ word_of addr)
Accesses p Silent store x = ⊥
Accesses p (Out byte) store x = ⊥
Accesses p Inp store x = ⊥
Accesses p (Spawn f arg) store x = ⊥
Accesses p (Join id) store x = ⊥
Accesses p (BeginAtomic kind) store x = ⊥
Accesses p EndAtomic store x = ⊥
Accesses p (Raise kind cancels) store x = ⊥
Accesses p BeginSync store x = ⊥
Accesses p EndSync store x = ⊥
Accesses p Done store x = ⊥
Accesses p (Stop end) store x = ⊥

-- The access is one that thread u blocks, of all that block it the one whose birth is least.
abbrev pub Blocked : {S : Type 0} → MemoryLayout → ℕ → Machine S → Event → Bool → ℕ → ℕ → Type 0
Blocked p t m e store x u = Accesses p e store x × (blocker t store x m ≡ Some u)

-- Outside a transaction thread u shuts the block: it holds the lock, or, where no other thread does, BeginSync meets its
-- transaction, which is open or giving up.
abbrev pub Shut : {S : Type 0} → ℕ → Machine S → Event → ℕ → Type 0
Shut t m (BeginAtomic kind) u = lock_owner t m.lock.holder ≡ Some u
Shut t m BeginSync u = (lock_owner t m.lock.holder ≡ Some u) ⊎ ((lock_owner t m.lock.holder ≡ None) × (busy t m ≡ Some u))
Shut t m (Load addr size vol) u = ⊥
Shut t m (Store addr size value vol) u = ⊥
Shut t m Silent u = ⊥
Shut t m (Out byte) u = ⊥
Shut t m Inp u = ⊥
Shut t m (Spawn f arg) u = ⊥
Shut t m (Join id) u = ⊥
Shut t m EndAtomic u = ⊥
Shut t m (Raise kind cancels) u = ⊥
Shut t m EndSync u = ⊥
Shut t m Done u = ⊥
Shut t m (Stop end) u = ⊥

-- the joined thread has not ended
pub record Unended {S : Type 0} (t : ℕ) (m : Machine S) (e : Event) (n : ℕ) : Type 0 where
  pub id : ℤ
  pub joins : e ≡ Join id
  pub number : n ≡ number_of id
  pub joined : Local S
  pub there : target t id m.threads ≡ Some joined
  pub runs : joined.ended ≡ false

-- the least word that the newest savepoint notes
abbrev pub NewestNotes : MemoryLayout → List Save → ℕ → Type 0
NewestNotes p [] x = ⊥
NewestNotes p (n ∷ ss) x = least (is_noted n) (word_bound p) ≡ Some x

-- A thread that goes on, and has no transaction, takes a turn of this kind. Ran comes where nothing else does.
abbrev pub KindOut : {S : Type 0} → Thread S → MemoryLayout → ℕ → Machine S → Local S → TurnKind → Type 0
KindOut a p t m l Ran = Unit {0}
KindOut a p t m l (Waited x u) = (store : Bool) × Blocked p t m (a.next l.state) store x u
KindOut a p t m l (BlockWait u) = Shut t m (a.next l.state) u
KindOut a p t m l (JoinWait n) = Unended t m (a.next l.state) n
KindOut a p t m l (Rolled x u) = ⊥
KindOut a p t m l (Undone x) = ⊥
KindOut a p t m l (Released x) = ⊥
KindOut a p t m l Idle = ⊥

-- And one whose transaction is open: at a blocked access the policy's answer decides; at a Raise that cancels a word
-- goes back while the newest savepoint notes one.
abbrev pub KindIn : {S : Type 0} → Thread S → MemoryLayout → (Clash → Choice) → ℕ → Machine S → Local S → ℕ → List Save → TurnKind → Type 0
KindIn a p answer t m l b ss Ran = Unit {0}
KindIn a p answer t m l b ss (Waited x u) = (store : Bool) × Blocked p t m (a.next l.state) store x u × (answer (clash_of t store x m b u) ≡ Wait)
KindIn a p answer t m l b ss (Rolled x u) = (store : Bool) × Blocked p t m (a.next l.state) store x u × (answer (clash_of t store x m b u) ≡ Yield)
KindIn a p answer t m l b ss (Undone x) = (a.next l.state ≡ Raise Cancel true) × NewestNotes p ss x
KindIn a p answer t m l b ss (BlockWait u) = ⊥
KindIn a p answer t m l b ss (JoinWait n) = ⊥
KindIn a p answer t m l b ss (Released x) = ⊥
KindIn a p answer t m l b ss Idle = ⊥

-- While it gives up, the least held word goes back; while it closes, the least held word is let go.

abbrev pub KindGiving : {S : Type 0} → MemoryLayout → Local S → TurnKind → Type 0
KindGiving p l (Undone x) = least l.held (word_bound p) ≡ Some x
KindGiving p l Ran = ⊥
KindGiving p l (Waited x u) = ⊥
KindGiving p l (BlockWait u) = ⊥
KindGiving p l (JoinWait n) = ⊥
KindGiving p l (Rolled x u) = ⊥
KindGiving p l (Released x) = ⊥
KindGiving p l Idle = ⊥

abbrev pub KindClosing : {S : Type 0} → MemoryLayout → Local S → TurnKind → Type 0
KindClosing p l (Released x) = least l.held (word_bound p) ≡ Some x
KindClosing p l Ran = ⊥
KindClosing p l (Waited x u) = ⊥
KindClosing p l (BlockWait u) = ⊥
KindClosing p l (JoinWait n) = ⊥
KindClosing p l (Rolled x u) = ⊥
KindClosing p l (Undone x) = ⊥
KindClosing p l Idle = ⊥

abbrev pub KindBy : {S : Type 0} → Thread S → MemoryLayout → (Clash → Choice) → ℕ → Machine S → Local S → Tx S → TurnKind → Type 0
KindBy a p answer t m l NoTx kind = KindOut a p t m l kind
KindBy a p answer t m l (OpenTx b k ss) kind = KindIn a p answer t m l b ss kind
KindBy a p answer t m l (GivingUp b k ss) kind = KindGiving p l kind
KindBy a p answer t m l (Closing b) kind = KindClosing p l kind

-- The thread goes on: no end has come, it was started, and it has not ended.
pub record GoesOn {S : Type 0} (t : ℕ) (m : Machine S) (l : Local S) : Type 0 where
  pub going : m.end ≡ None
  pub is : m.threads t ≡ Some l
  pub up : l.ended ≡ false

-- In the turn of thread t the policy is asked of this clash: t goes on, its transaction is open, and its access is blocked.
pub record Asked {S : Type 0} (a : Thread S) (p : MemoryLayout) (t : ℕ) (m : Machine S) (c : Clash) : Type 0 where
  pub local : Local S
  pub goes : GoesOn t m local
  pub birth : ℕ
  pub kept : S
  pub saves : List Save
  pub tx : local.tx ≡ OpenTx birth kept saves
  pub store : Bool
  pub word : ℕ
  pub holder : ℕ
  pub blocked : Blocked p t m (a.next local.state) store word holder
  pub is : c ≡ clash_of t store word m birth holder

abbrev pub is_ran : TurnKind → Bool
is_ran Ran = true
is_ran (Waited x u) = false
is_ran (BlockWait u) = false
is_ran (JoinWait n) = false
is_ran (Rolled x u) = false
is_ran (Undone x) = false
is_ran (Released x) = false
is_ran Idle = false

abbrev pub is_idle : TurnKind → Bool
is_idle Idle = true
is_idle Ran = false
is_idle (Waited x u) = false
is_idle (BlockWait u) = false
is_idle (JoinWait n) = false
is_idle (Rolled x u) = false
is_idle (Undone x) = false
is_idle (Released x) = false
