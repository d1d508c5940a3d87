-- Runs in which the first thread stays alone.
use Rattle.std.specs.Prelude.{ℕ, ◌≡◌, ◌==◌, ◌≤◌, ◌+◌, ◌*◌, Bool, true, false, cond, suc, List, [], ◌∷◌, Some, None}
use Rattle.choosers.specs.Picks.{PickerName}
use Rattle.choosers.specs.Picks.PickerName.{Round, Clashing, Listed}
use Rattle.tx_events.specs.declared.End.{End}
use Rattle.tx_events.specs.Thread.{Thread}
use Rattle.tx_events.specs.Memory.{MemoryLayout}
use Rattle.tx_events.specs.World.{World, Replays}
use Rattle.tx_serial.specs.Bound.{is_spawn}
use Rattle.src_mean.specs.Cost.{cost}

-- no step of the replay starts a thread
abbrev pub SpawnsNothing : {S : Type 0} (a : Thread S) (p : MemoryLayout) (w : World S) (order : List ℕ) (v : World S) → Replays a p w order v → Type 0
SpawnsNothing a p w [] v h = Unit {0}
SpawnsNothing a p w (t ∷ order) v h = (is_spawn (a.next h.1.before) ≡ false) × SpawnsNothing a p h.0 order v h.2

-- From the first world on some replay spawns nothing, costs at most n, and comes to this end with this output.
pub record EndsAlone {S : Type 0} (a : Thread S) (p : MemoryLayout) (first : World S) (n : ℕ) (out : List ℕ) (end : End) : Type 0 where
  pub order : List ℕ
  pub world : World S
  pub replays : Replays a p first order world
  pub spawns_nothing : SpawnsNothing a p first order world replays
  pub within : cost a p first order world replays ≤ n
  pub out_is : world.out ≡ out
  pub end_is : world.end ≡ Some end

-- In this world, which a replay has come to for so many units of cost, thread 0 alone was started; and from there on the program comes to this end with this
-- output, so that it costs at most n in all.
pub record IsOnTheWay {S : Type 0} (a : Thread S) (p : MemoryLayout) (w : World S) (spent n : ℕ) (out : List ℕ) (end : End) : Type 0 where
  pub left : ℕ
  pub ends : EndsAlone a p w left out end
  pub within : spent + left ≤ n
  pub started : w.started ≡ 1
  pub no_others : (t : ℕ) → w.threads (suc t) ≡ None

-- How many turns of thread 0 are enough for cost n, where up to each event the code takes at most many * n + more steps: one for each of its steps, and two
-- more for each access.
abbrev pub enough : (many more n : ℕ) → ℕ
enough many more n = many * n + more + 2 * n

-- how many of the picks are thread 0
abbrev pub zeros_in : List ℕ → ℕ
zeros_in [] = 0
zeros_in (t ∷ ts) = cond (t == 0) (suc (zeros_in ts)) (zeros_in ts)

-- a picker that picks among the threads that were started, and has a pick for each turn
abbrev pub picks_started : PickerName → Bool
picks_started (Round slot) = true
picks_started Clashing = true
picks_started (Listed schedule) = false
