-- What the laws say of machines and of runs.
use Rattle.std.specs.Prelude.{ℕ, ◌≡◌, ◌==◌, true, false, Option, Some, None}
use Rattle.tx_events.specs.declared.End.{End}
use Rattle.tx_events.specs.declared.End.TheVariants.{StepsOut}
use Rattle.tx_events.specs.Thread.{Thread}
use Rattle.tx_events.specs.Memory.{MemoryLayout}
use Rattle.tx_events.specs.World.{World, Replays}
use Rattle.tx_serial.specs.Machine.{Machine, Local, Waits, no_waits, held_by, wrote_by, live_in}
use Rattle.tx_serial.specs.Run.{Outcome, is_access}

-- No word that is held for writing has a second holder.
abbrev pub HeldApart : {S : Type 0} → Machine S → Type 0
HeldApart m = (t u x : ℕ) → (u == t) ≡ false → wrote_by (m.threads t) x ≡ true → held_by (m.threads u) x ≡ false

-- Where a thread holds the lock, no other thread has a transaction that is open or giving up.
abbrev pub LockAlone : {S : Type 0} → Machine S → Type 0
LockAlone m = (t u : ℕ) → m.lock.holder ≡ Some t → (u == t) ≡ false → live_in (m.threads u) ≡ false

-- the end of a run: the world's, or StepsOut where it has none
abbrev pub EndsAs : Option End → End → Type 0
EndsAs None e = e ≡ StepsOut
EndsAs (Some end) e = e ≡ end

-- The order of a run replays in the indivisible world, with the same output, input left and end.
pub record Replayed {S : Type 0} (a : Thread S) (p : MemoryLayout) (start : World S) (result : Outcome S) : Type 0 where
  pub world : World S
  pub replays : Replays a p start result.order world
  pub out : result.out ≡ world.out
  pub input : result.input ≡ world.input
  pub end : EndsAs world.end result.end

-- A thread number that was not started, and a thread whose next event is no Load or Store, have no waits.

abbrev pub RestsAt : {S : Type 0} → Thread S → Option (Local S) → Waits → Type 0
RestsAt a None waits = waits ≡ no_waits
RestsAt a (Some l) waits = is_access (a.next l.state) ≡ false → waits ≡ no_waits

abbrev pub Rests : {S : Type 0} → Thread S → Machine S → Type 0
Rests a m = (u : ℕ) → RestsAt a (m.threads u) (m.waits u)
