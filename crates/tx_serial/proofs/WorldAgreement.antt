-- What each turn keeps between the machine and the world. It needs no law of the thread.
use Rattle.std.specs.Prelude.{ℕ, ◌≡◌, ◌==◌, ◌≤◌, Bool, true, false, ◌&&◌, Option, Some, None}
use Rattle.tx_events.specs.Thread.{Thread}
use Rattle.tx_events.specs.Memory.{MemoryLayout}
use Rattle.tx_events.specs.World.{World, Lock, Replays}
use Rattle.tx_serial.specs.Machine.{Machine, Local, held_by, wrote_by, live_in}
use Rattle.tx_serial.specs.Shows.{ShowsThread}

-- a live transaction wrote the word
abbrev pub undoes : {S : Type 0} → Option (Local S) → ℕ → Bool
undoes o x = live_in o && wrote_by o x

pub record Going {S : Type 0} (a : Thread S) (p : MemoryLayout) (memory : ℕ → ℕ) (threads : ℕ → Option (Local S)) (started : ℕ) (lock : Lock)
    (w : World S) : Type 0 where
  pub started_is : w.started ≡ started
  pub lock_is : w.lock ≡ lock
  pub fresh : (u : ℕ) → started ≤ u → threads u ≡ None
  pub free : (x : ℕ) → ((u : ℕ) → undoes (threads u) x ≡ false) → w.memory x ≡ memory x
  pub apart : (t u x : ℕ) → (u == t) ≡ false → wrote_by (threads t) x ≡ true → held_by (threads u) x ≡ false
  pub alone : (t u : ℕ) → lock.holder ≡ Some t → (u == t) ≡ false → live_in (threads u) ≡ false
  pub shown : (u : ℕ) → ShowsThread a p memory w.memory (threads u) (w.threads u)

pub record Agrees {S : Type 0} (a : Thread S) (p : MemoryLayout) (m : Machine S) (w : World S) : Type 0 where
  pub out : w.out ≡ m.out
  pub input : w.input ≡ m.input
  pub end : w.end ≡ m.end
  pub going : m.end ≡ None → Going a p m.memory m.threads m.started m.lock w

-- the order of the machine leads to a world with which it agrees
abbrev pub Agreed : {S : Type 0} → Thread S → MemoryLayout → World S → Machine S → Type 0
Agreed {S} a p start m = (w : World S) × Replays a p start m.order w × Agrees a p m w
