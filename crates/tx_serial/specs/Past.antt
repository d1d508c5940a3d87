-- The turns that a thread has waited in a row.
use Rattle.std.specs.Prelude.{ℕ, ◌==◌, ◌+◌, ◌&&◌, cond, List, [], ◌∷◌}
use Rattle.tx_events.specs.declared.TurnKind.{TurnKind}
use Rattle.tx_events.specs.declared.TurnKind.TheVariants.{Ran, Waited, BlockWait, JoinWait, Rolled, Undone, Released, Idle}
use Rattle.tx_events.specs.Thread.{Thread}
use Rattle.tx_events.specs.Memory.{MemoryLayout}
use Rattle.tx_serial.specs.Machine.{Machine, birth_of}
use Rattle.tx_serial.specs.Turn.{Slot, turn}

-- A turn that was taken: whose it was, its kind, and, of a Waited one, the birth of the blocking thread.
pub record Past : Type 0 where
  pub thread : ℕ
  pub kind : TurnKind
  pub least : ℕ

abbrev pub least_birth : {S : Type 0} → Machine S → TurnKind → ℕ
least_birth m (Waited x u) = birth_of (m.threads u)
least_birth m Ran = 0
least_birth m (BlockWait u) = 0
least_birth m (JoinWait n) = 0
least_birth m (Rolled x u) = 0
least_birth m (Undone x) = 0
least_birth m (Released x) = 0
least_birth m Idle = 0

-- all turns that were taken, the last one first
abbrev pub past_after : {S : Type 0} → Thread S → MemoryLayout → List Slot → Machine S → List Past → List Past
past_after a p [] m past = past
past_after a p (q ∷ qs) m past =
    let done = turn a p q.answer q.thread m in
    past_after a p qs done.machine (record { thread = q.thread; kind = done.kind; least = least_birth m done.kind } ∷ past)

-- n waits in a row at the word x against the least birth b, and then a turn of this kind: only a Waited one there is one
-- more, and each other one ends them. An Idle turn is no turn of the thread, which was not started, or has ended.
abbrev pub row_after : TurnKind → ℕ → ℕ → ℕ → ℕ → ℕ
row_after (Waited y u) least x b n = cond ((y == x) && (least == b)) (n + 1) 0
row_after Idle least x b n = n
row_after Ran least x b n = 0
row_after (BlockWait u) least x b n = 0
row_after (JoinWait id) least x b n = 0
row_after (Rolled y u) least x b n = 0
row_after (Undone y) least x b n = 0
row_after (Released y) least x b n = 0

-- How many Waited turns of thread t come last, without another turn of its own between, at the word x and against the least
-- birth b.
abbrev pub waits_in_a_row : ℕ → ℕ → ℕ → List Past → ℕ
waits_in_a_row t x b [] = 0
waits_in_a_row t x b (q ∷ qs) = cond (q.thread == t) (row_after q.kind q.least x b (waits_in_a_row t x b qs)) (waits_in_a_row t x b qs)
