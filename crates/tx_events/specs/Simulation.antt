-- One thread follows another for a number of steps of the first: a way to show that two threads have the same events.
use Rattle.std.specs.Prelude.{ℕ, zero, suc, ◌≡◌, ◌+◌, ◌≤◌, ◌⊎◌, Bool, true, false}
use Rattle.tx_events.specs.declared.Event.TheVariants.{Silent}
use Rattle.tx_events.specs.declared.Reply.{Reply}
use Rattle.tx_events.specs.declared.Reply.TheVariants.{Nothing}
use Rattle.tx_events.specs.Thread.{Thread, Answers, is_silent}

-- by so many silent steps
pub data Path {S : Type 0} (a : Thread S) : ℕ → S → S → Type 0 where
  here : {s : S} → Path a 0 s s
  step : {n : ℕ} {s q : S} → a.next s ≡ Silent → Path a n (a.after s Nothing) q → Path a (n + 1) s q

-- the terms of a simulation: two threads, how many steps of the second each step of the first earns, and how often at most the first steps in a row while the
-- second stands
pub record SimulationBound (S T : Type 0) : Type 0 where
  pub first : Thread S
  pub second : Thread T
  pub rate : ℕ
  pub most : ℕ

-- the patience left: it falls where the second took no step, and else is at most `most` again
abbrev pub Patient : ℕ → ℕ → ℕ → ℕ → Type 0
Patient most before steps after = (after + 1 ≤ before) ⊎ ((1 ≤ steps) × (after ≤ most))

-- a silent step of the first: the second takes some silent steps, which the credit pays
pub record SilentMatch {S T : Type 0} (x : SimulationBound S T) (sim : ℕ → ℕ → S → T → Type 0) (patience credit : ℕ) (s : S) (r : T) : Type 0 where
  pub steps : ℕ
  pub patience_left : ℕ
  pub credit_left : ℕ
  pub to : T
  pub path : Path x.second steps r to
  pub waits : Patient x.most patience steps patience_left
  pub pays : credit_left + steps ≤ credit + x.rate
  pub goes : sim patience_left credit_left (x.first.after s Nothing) to

-- both were answered, after so many steps of the second
pub record AfterReply {S T : Type 0} (x : SimulationBound S T) (sim : ℕ → ℕ → S → T → Type 0) (steps credit : ℕ) (s : S) (r : T) : Type 0 where
  pub patience_left : ℕ
  pub credit_left : ℕ
  pub waits : patience_left ≤ x.most
  pub pays : credit_left + steps + 1 ≤ credit + x.rate
  pub goes : sim patience_left credit_left s r

-- an event of the first: the second comes to it by silent steps, which the credit pays
pub record EventMatch {S T : Type 0} (x : SimulationBound S T) (sim : ℕ → ℕ → S → T → Type 0) (credit : ℕ) (s : S) (r : T) : Type 0 where
  pub steps : ℕ
  pub to : T
  pub path : Path x.second steps r to
  pub same : x.second.next to ≡ x.first.next s
  pub pays : steps ≤ credit
  pub on : (reply : Reply) → Answers (x.first.next s) reply → AfterReply x sim steps credit (x.first.after s reply) (x.second.after to reply)

abbrev pub Stepped : {S T : Type 0} → SimulationBound S T → (ℕ → ℕ → S → T → Type 0) → ℕ → ℕ → S → T → Bool → Type 0
Stepped x sim patience credit s r true = SilentMatch x sim patience credit s r
Stepped x sim patience credit s r false = EventMatch x sim credit s r

-- for n steps of the first, with this patience and this credit
abbrev pub Sim : {S T : Type 0} → SimulationBound S T → ℕ → ℕ → ℕ → S → T → Type 0
Sim x zero patience credit s r = Unit {0}
Sim x (suc n) patience credit s r = Stepped x (Sim x n) patience credit s r (is_silent (x.first.next s))
