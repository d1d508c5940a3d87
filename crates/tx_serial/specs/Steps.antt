-- What a turn executes, and which births it draws.
use Rattle.std.specs.Prelude.{ℕ, pos, ◌≡◌, ◌+◌, Bool, true, false, cond, ◌&&◌, List, Some}
use Rattle.tx_events.specs.declared.Event.{Event}
use Rattle.tx_events.specs.declared.Event.TheVariants.{
  Silent,
  Load,
  Store,
  Out,
  Inp,
  Spawn,
  Join,
  BeginAtomic,
  EndAtomic,
  Raise,
  BeginSync,
  EndSync,
  Done,
  Stop,
}
use Rattle.tx_events.specs.declared.Reply.{Reply}
use Rattle.tx_events.specs.declared.Reply.TheVariants.{Nothing, Loaded, Byte, Id}
use Rattle.tx_events.specs.declared.TurnKind.{TurnKind}
use Rattle.tx_events.specs.Memory.{load}
use Rattle.tx_events.specs.Thread.{Thread}
use Rattle.tx_events.specs.World.{byte_of}
use Rattle.tx_events.specs.declared.TurnKind.TheVariants.{Ran, Waited, BlockWait, JoinWait, Rolled, Undone, Released, Idle}
use Rattle.tx_serial.specs.Machine.{Machine, Local, Waits, Tx, NoTx, OpenTx, GivingUp, Closing, no_waits, wait_more, birth_of}
use Rattle.tx_serial.specs.Turn.{Turned}
use Rattle.tx_serial.specs.Kinds.{is_ran}

-- what answers the event: bytes of memory, a byte of input, the number of the thread that is started, or nothing
abbrev pub reply_of : {S : Type 0} → Machine S → Event → Reply
reply_of m Silent = Nothing
reply_of m (Load addr size vol) = Loaded (load m.memory addr size)
reply_of m (Store addr size value vol) = Nothing
reply_of m (Out byte) = Nothing
reply_of m Inp = Byte (byte_of m.input)
reply_of m (Spawn f x) = Id (pos m.started)
reply_of m (Join id) = Nothing
reply_of m (BeginAtomic kind) = Nothing
reply_of m EndAtomic = Nothing
reply_of m (Raise kind cancels) = Nothing
reply_of m BeginSync = Nothing
reply_of m EndSync = Nothing
reply_of m Done = Nothing
reply_of m (Stop end) = Nothing

-- One step of thread t was executed: its state is the one after its event, with the reply of the machine before.
pub record Executes {S : Type 0} (a : Thread S) (t : ℕ) (m : Machine S) (l : Local S) (r : Turned S) : Type 0 where
  pub now : Local S
  pub is : r.machine.threads t ≡ Some now
  pub state : now.state ≡ a.after l.state (reply_of m (a.next l.state))

abbrev pub is_begin : Event → Bool
is_begin Silent = false
is_begin (Load addr size vol) = false
is_begin (Store addr size value vol) = false
is_begin (Out byte) = false
is_begin Inp = false
is_begin (Spawn f x) = false
is_begin (Join id) = false
is_begin (BeginAtomic kind) = true
is_begin EndAtomic = false
is_begin (Raise kind cancels) = false
is_begin BeginSync = false
is_begin EndSync = false
is_begin Done = false
is_begin (Stop end) = false

-- The turn draws a birth: it is a Ran turn of an outermost BeginAtomic.
abbrev pub draws : {S : Type 0} → Thread S → Local S → Tx S → TurnKind → Bool
draws a l NoTx kind = is_ran kind && is_begin (a.next l.state)
draws a l (OpenTx b k ss) kind = false
draws a l (GivingUp b k ss) kind = false
draws a l (Closing b) kind = false

-- the next birth after it
abbrev pub births_after : Bool → ℕ → ℕ
births_after drawn births = cond drawn (births + 1) births

-- The waits of thread t after its turn of this kind: a Waited turn counts one more at its word and against the birth of the
-- blocking thread; each other turn that changes the thread ends them; and BlockWait, JoinWait and Idle leave them.
abbrev pub waits_after : {S : Type 0} → Machine S → ℕ → TurnKind → Waits
waits_after m t (Waited x u) = wait_more (m.waits t) x (birth_of (m.threads u))
waits_after m t Ran = no_waits
waits_after m t (Rolled x u) = no_waits
waits_after m t (Undone x) = no_waits
waits_after m t (Released x) = no_waits
waits_after m t (BlockWait u) = m.waits t
waits_after m t (JoinWait n) = m.waits t
waits_after m t Idle = m.waits t
