-- What a thread still has to put back and let go.
use Rattle.std.specs.Prelude.{ℕ, ◌≡◌, ◌==◌, ◌+◌, ◌*◌, Bool, true, false, List, [], ◌∷◌, Option, Some, None}
use Rattle.tx_events.specs.declared.Event.{Event}
use Rattle.tx_events.specs.declared.TurnKind.{TurnKind}
use Rattle.tx_events.specs.declared.TurnKind.TheVariants.{Ran, Waited, BlockWait, JoinWait, Rolled, Undone, Released, Idle}
use Rattle.tx_events.specs.World.{lock_free}
use Rattle.tx_serial.specs.Machine.{Machine, Local, Tx, NoTx, OpenTx, GivingUp, Closing, Save, count, is_noted}
use Rattle.tx_serial.specs.Bound.{accesses_of}

abbrev pub notes : ℕ → List Save → ℕ
notes n [] = 0
notes n (s ∷ ss) = count (is_noted s) n + notes n ss

abbrev pub notes_in : {S : Type 0} → ℕ → Tx S → ℕ
notes_in n NoTx = 0
notes_in n (OpenTx b k ss) = notes n ss
notes_in n (GivingUp b k ss) = 0
notes_in n (Closing b) = 0

-- the words that the thread holds, and the notes of its open transaction
abbrev pub weight : {S : Type 0} → ℕ → Option (Local S) → ℕ
weight n None = 0
weight n (Some l) = count l.held n + notes_in n l.tx

abbrev pub spent : TurnKind → ℕ
spent (Undone x) = 1
spent (Released x) = 1
spent Ran = 0
spent Idle = 0
spent (Waited x u) = 0
spent (BlockWait u) = 0
spent (JoinWait u) = 0
spent (Rolled x u) = 0

abbrev pub earned : Event → ℕ
earned e = 2 * accesses_of e

-- a Ran turn earns what its event earns
abbrev pub earned_by : TurnKind → Event → ℕ
earned_by Ran e = earned e
earned_by (Undone x) e = 0
earned_by (Released x) e = 0
earned_by Idle e = 0
earned_by (Waited x u) e = 0
earned_by (BlockWait u) e = 0
earned_by (JoinWait u) e = 0
earned_by (Rolled x u) e = 0

abbrev pub is_giving : {S : Type 0} → Tx S → Bool
is_giving NoTx = false
is_giving (OpenTx b k ss) = false
is_giving (GivingUp b k ss) = true
is_giving (Closing b) = false

-- thread 0 alone was started
pub record Lone {S : Type 0} (m : Machine S) : Type 0 where
  pub started : m.started ≡ 1
  pub fresh : (u : ℕ) → (u == 0) ≡ false → m.threads u ≡ None
  pub lock : lock_free 0 m.lock ≡ true
