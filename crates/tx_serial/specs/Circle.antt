-- Who waits for whom.
use Rattle.std.specs.Prelude.{ℕ, ◌≡◌, ◌<◌, ◌≤◌, Bool, true}
use Rattle.choosers.specs.Answers.{is_older}
use Rattle.choosers.specs.declared.Clash.{Clash}
use Rattle.choosers.specs.declared.Choice.{Choice}
use Rattle.tx_events.specs.declared.TurnKind.TheVariants.{Waited, Rolled}
use Rattle.tx_events.specs.Thread.{Thread}
use Rattle.tx_events.specs.Memory.{MemoryLayout}
use Rattle.tx_serial.specs.Machine.{Machine, Local, tx_in, birth_of, conflicts_with}
use Rattle.tx_serial.specs.Turn.{Slot, turn}
use Rattle.tx_serial.specs.Kinds.{Accesses, GoesOn, Asked}
use Rattle.tx_serial.specs.Run.{Progress}

-- At the clash of which it may be asked in the turn of thread t the policy answers what the rule allows.
abbrev pub AnswersAt : {S : Type 0} → (Clash → Choice → Bool) → Thread S → MemoryLayout → ℕ → (Clash → Choice) → Machine S → Type 0
AnswersAt allows a p t answer m = (c : Clash) → Asked a p t m c → allows c (answer c) ≡ true

-- and so in the next turn of whichever thread
abbrev pub AnswersBy : {S : Type 0} → (Clash → Choice → Bool) → Thread S → MemoryLayout → (Clash → Choice) → Machine S → Type 0
AnswersBy allows a p answer m = (t : ℕ) → AnswersAt allows a p t answer m

-- Of all transactions, those that are open, giving up or closing, the one of thread t has the least birth, or the greatest.

abbrev pub IsEldest : {S : Type 0} → ℕ → Machine S → Type 0
IsEldest t m = (tx_in (m.threads t) ≡ true) × ((u : ℕ) → tx_in (m.threads u) ≡ true → birth_of (m.threads t) ≤ birth_of (m.threads u))

abbrev pub IsYoungest : {S : Type 0} → ℕ → Machine S → Type 0
IsYoungest t m = (tx_in (m.threads t) ≡ true) × ((u : ℕ) → tx_in (m.threads u) ≡ true → birth_of (m.threads u) ≤ birth_of (m.threads t))

-- Thread u blocks the access that is next of thread t.
pub record Blocks {S : Type 0} (a : Thread S) (p : MemoryLayout) (m : Machine S) (t u : ℕ) (word : ℕ) : Type 0 where
  pub local : Local S
  pub goes : GoesOn t m local
  pub store : Bool
  pub access : Accesses p (a.next local.state) store word
  pub off : conflicts_with t store word m.threads u ≡ true

-- Thread t waits for a word that thread u keeps from it: its turn would be Waited.
pub record WaitsFor {S : Type 0} (a : Thread S) (p : MemoryLayout) (answer : Clash → Choice) (m : Machine S) (t u : ℕ) : Type 0 where
  pub word : ℕ
  pub holder : ℕ
  pub waits : (turn a p answer t m).kind ≡ Waited word holder
  pub blocks : Blocks a p m t u word

-- and so on, from one to the next
pub data WaitsOn {S : Type 0} (a : Thread S) (p : MemoryLayout) (answer : Clash → Choice) (m : Machine S) : ℕ → ℕ → Type 0 where
  direct : {t u : ℕ} → WaitsFor a p answer m t u → WaitsOn a p answer m t u
  along : {t u v : ℕ} → WaitsFor a p answer m t u → WaitsOn a p answer m u v → WaitsOn a p answer m t v

-- A turn under the rule of the older. A Rolled one has an asker whose birth is greater than that of a blocking transaction,
-- its holder; a Waited one in a transaction has an asker whose birth is less than that of every blocking transaction. So the
-- transaction with the least birth is not rolled back, and the one with the greatest does not wait for a word. And before the
-- turn no circle of waits stands, whatever answers the rule allows.
pub record OlderTurn {S : Type 0} (a : Thread S) (p : MemoryLayout) (q : Slot) (r : Progress S) : Type 0 where
  pub rolled : (word holder : ℕ) → (turn a p q.answer q.thread r.machine).kind ≡ Rolled word holder
      → Blocks a p r.machine q.thread holder word × (birth_of (r.machine.threads holder) < birth_of (r.machine.threads q.thread))
  pub waited : (word holder : ℕ) → tx_in (r.machine.threads q.thread) ≡ true → (turn a p q.answer q.thread r.machine).kind ≡ Waited word holder
      → (u : ℕ) → Blocks a p r.machine q.thread u word → birth_of (r.machine.threads q.thread) < birth_of (r.machine.threads u)
  pub eldest : (word holder : ℕ) → IsEldest q.thread r.machine → (turn a p q.answer q.thread r.machine).kind ≡ Rolled word holder → ⊥
  pub youngest : (word holder : ℕ) → IsYoungest q.thread r.machine → (turn a p q.answer q.thread r.machine).kind ≡ Waited word holder → ⊥
  pub circle : (answer : Clash → Choice) (t : ℕ) → AnswersBy is_older a p answer r.machine → WaitsOn a p answer r.machine t t → ⊥
