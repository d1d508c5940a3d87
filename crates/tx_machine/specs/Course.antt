-- A run of the runtime so far.
use Rattle.std.specs.Prelude.{ℕ, ◌≡◌, ◌<◌, ◌≤◌, ◌⊎◌, length, List, [], ◌∷◌, ◌++◌, None}
use Rattle.choosers.specs.declared.Clash.{Clash}
use Rattle.choosers.specs.declared.Choice.{Choice}
use Rattle.choosers.specs.declared.Seen.{Seen}
use Rattle.tx_events.specs.declared.actor.Actor.{Ghosts}
use Rattle.tx_events.specs.declared.TheConstants.{THREAD_LIMIT}
use Rattle.tx_events.specs.Memory.{MemoryLayout}
use Rattle.tx_events.specs.Thread.{Thread}
use Rattle.tx_serial.specs.Kinds.{Asked}
use Rattle.tx_serial.specs.Machine.{Machine}
use Rattle.tx_serial.specs.Turn.{Slot}
use Rattle.tx_serial.specs.Run as runs
use Rattle.tx_serial.specs.Run.{Progress, advance, advances, not_begun, seen, picks, AnsweredBy, PicksTo, NoEndBefore}
use Rattle.tx_runtime.specs.Runtime.{machine_of, limit_of}
use Rattle.tx_machine.specs.declared.counts.Counts.{Counts}
use Rattle.tx_machine.specs.declared.course.Course.{Course}
use Rattle.tx_machine.specs.Watch.{Sight, watched_turn, watched}

abbrev pub counts_of : Counts → runs.Counts
counts_of c = record { ran = c.ran; waited = c.waited; rolled = c.rolled; idle = c.idle }

-- At each turn at least one thread is started, and no more than the limit of threads.
pub record IsOneToLimit (started : ℕ) : Type 0 where
  pub some : 0 < started
  pub within : started ≤ THREAD_LIMIT

-- The course stands where the turns so far have led.
pub record Shows {A K : Type 0} {g : Ghosts A K} (course : Course A K g) (r : Progress g.State) : Type 0 where
  pub machine : machine_of course.runtime ≡ r.machine
  pub turn : length course.picked.items ≡ r.turn
  pub thread : course.thread ≡ r.before
  pub last : course.last ≡ r.last
  pub inside : course.inside ≡ r.inside
  pub counts : counts_of course.counts ≡ r.counts

-- Its numbers are no greater than the number of turns that it has taken, and all thread numbers are its own.
pub record IsBounded {A K : Type 0} {g : Ghosts A K} (course : Course A K g) : Type 0 where
  pub limit : limit_of course.runtime ≡ THREAD_LIMIT
  pub births : (machine_of course.runtime).births ≤ length course.picked.items
  pub depth : (machine_of course.runtime).lock.depth ≤ length course.picked.items
  pub counted : runs.sum_of (counts_of course.counts) ≤ length course.picked.items

-- One turn more: of the thread that the picker picked, with an answer of the policy where it was asked.
pub record OneTurn {A K G P W : Type 0} {g : Ghosts A K} (p : MemoryLayout) (policy : Clash → Choice → Type 0) (step : G → Seen → ℕ → G → Type 0)
    (sight : Sight g.State P W) (old new : Course A K g) (before after : G) (saw sees : W) (r : Progress g.State) : Type 0 where
  pub slot : Slot
  pub answered : (c : Clash) → Asked g.thread p slot.thread r.machine c → policy c (slot.answer c)
  pub picked : step before (seen r) slot.thread after
  pub watched : sees ≡ watched_turn sight g.thread p slot r saw
  pub picks : new.picked.items ≡ old.picked.items ++ slot.thread ∷ []
  pub shows : Shows new (advance g.thread p slot r)

-- These turns were taken from the start.
pub record Plays {S G P W : Type 0} (a : Thread S) (p : MemoryLayout) (policy : Clash → Choice → Type 0) (step : G → Seen → ℕ → G → Type 0)
    (sight : Sight S P W) (first : Machine S) (slots : List Slot) (before after : G) (saw sees : W) : Type 0 where
  pub going : NoEndBefore a p slots (not_begun first)
  pub answered : AnsweredBy policy a p slots (not_begun first)
  pub picked : PicksTo step a p slots (not_begun first) before after
  pub watched : sees ≡ watched sight a p slots (not_begun first) saw

-- The picker was asked once in each of these turns, and once more in a turn that was not taken, or not that.
pub record Asks {S G : Type 0} (a : Thread S) (p : MemoryLayout) (policy : Clash → Choice → Type 0) (step : G → Seen → ℕ → G → Type 0)
    (first : Machine S) (slots : List Slot) (before after : G) : Type 0 where
  pub going : NoEndBefore a p slots (not_begun first)
  pub answered : AnsweredBy policy a p slots (not_begun first)
  pub mid : G
  pub picked : PicksTo step a p slots (not_begun first) before mid
  pub once : (after ≡ mid) ⊎ ((t : ℕ) × step mid (seen (advances a p slots (not_begun first))) t after)

-- A whole play: these are its turns, at most so many, and it has stopped at the program's end or after all of them.
pub record Played {A K G P W : Type 0} {g : Ghosts A K} (p : MemoryLayout) (policy : Clash → Choice → Type 0) (step : G → Seen → ℕ → G → Type 0)
    (sight : Sight g.State P W) (bound : ℕ) (first : Machine g.State) (course : Course A K g)
    (before after : G) (saw sees : W) : Type 0 where
  pub slots : List Slot
  pub plays : Plays g.thread p policy step sight first slots before after saw sees
  pub shows : Shows course (advances g.thread p slots (not_begun first))
  pub picks : course.picked.items ≡ picks slots
  pub within : length slots ≤ bound
  pub stopped : (machine_of course.runtime).end ≡ None → length slots ≡ bound
