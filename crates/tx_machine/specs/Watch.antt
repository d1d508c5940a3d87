-- What an observer has seen of a run.
use Rattle.std.specs.Prelude.{ℕ, List, [], ◌∷◌, Option}
use Rattle.std.specs.Option.{option_map}
use Rattle.tx_events.specs.declared.End.{End}
use Rattle.tx_events.specs.declared.TurnKind.{TurnKind}
use Rattle.tx_events.specs.Memory.{MemoryLayout}
use Rattle.tx_events.specs.Thread.{Thread}
use Rattle.tx_serial.specs.Turn.{Slot, turn}
use Rattle.tx_serial.specs.Run.{Progress, advance, state_in}

-- What an observer is shown and told: what it sees of a thread in a state, what it has seen once it is shown a thread before
-- its turn, and what it has seen once it is told the kind of that turn and the program's end.
pub record Sight (S P W : Type 0) : Type 0 where
  pub place : S → P
  pub shown : W → ℕ → Option P → W
  pub told : W → TurnKind → Option End → W

-- after one turn
abbrev pub watched_turn : {S P W : Type 0} → Sight S P W → Thread S → MemoryLayout → Slot → Progress S → W → W
watched_turn sight a p q r w =
    let done = turn a p q.answer q.thread r.machine in
    sight.told (sight.shown w q.thread (option_map sight.place (state_in (r.machine.threads q.thread)))) done.kind done.machine.end

-- Before each turn it is shown the thread, and its place if it was started; after it, the kind and the end.
abbrev pub watched : {S P W : Type 0} → Sight S P W → Thread S → MemoryLayout → List Slot → Progress S → W → W
watched sight a p [] r w = w
watched sight a p (q ∷ qs) r w = watched sight a p qs (advance a p q r) (watched_turn sight a p q r w)
