-- Where the order grows.
use Rattle.std.specs.Prelude.{ℕ, Bool, true, false, cond, not, ◌&&◌, ◌||◌, List, [], ◌∷◌, ◌++◌, Option, Some, None, is_some}
use Rattle.tx_events.specs.declared.Event.{Event}
use Rattle.tx_events.specs.declared.Event.TheVariants.{
  Silent,
  Load,
  Store,
  Out,
  Inp,
  Spawn,
  Join,
  BeginAtomic,
  EndAtomic,
  Raise,
  BeginSync,
  EndSync,
  Done,
  Stop,
}
use Rattle.tx_events.specs.Thread.{Thread}
use Rattle.tx_serial.specs.Machine.{Local, Tx, NoTx, OpenTx, GivingUp, Closing}
use Rattle.tx_serial.specs.Turn.{Turned}
use Rattle.tx_serial.specs.Kinds.{is_ran}
use Rattle.tx_serial.specs.Run.{is_open}

-- an event at which the order gains the thread at once: neither Silent nor BeginAtomic
abbrev pub enters_order : Event → Bool
enters_order Silent = false
enters_order (BeginAtomic kind) = false
enters_order (Load addr size vol) = true
enters_order (Store addr size value vol) = true
enters_order (Out byte) = true
enters_order Inp = true
enters_order (Spawn f x) = true
enters_order (Join id) = true
enters_order EndAtomic = true
enters_order (Raise kind cancels) = true
enters_order BeginSync = true
enters_order EndSync = true
enters_order Done = true
enters_order (Stop end) = true

abbrev pub open_in : {S : Type 0} → Option (Local S) → Bool
open_in None = false
open_in (Some l) = is_open l.tx

-- The turn of thread t, whose local state was l, adds t to the order: outside a transaction each Ran turn whose event is
-- neither Silent nor an outermost BeginAtomic; in a transaction the Ran turn that ends its outermost block, after which it
-- is open no more, and the one that ends the program; and no turn while it gives up or closes.
abbrev pub adds : {S : Type 0} → Thread S → ℕ → Local S → Tx S → Turned S → Bool
adds a t l NoTx r = is_ran r.kind && enters_order (a.next l.state)
adds a t l (OpenTx b k ss) r = is_ran r.kind && (is_some r.machine.end || not (open_in (r.machine.threads t)))
adds a t l (GivingUp b k ss) r = false
adds a t l (Closing b) r = false

abbrev pub order_after : Bool → ℕ → List ℕ → List ℕ
order_after grows t order = cond grows (order ++ t ∷ []) order
