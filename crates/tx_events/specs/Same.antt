-- Threads with the same events.
use Rattle.std.specs.Prelude.{ℕ, ℤ, ◌≡◌, ◌+◌, ◌*◌, ◌≤◌, false, List, [], ◌∷◌, Option, Some, None}
use Rattle.tx_events.specs.declared.Event.{Event}
use Rattle.tx_events.specs.declared.Event.TheVariants.{Silent, Spawn}
use Rattle.tx_events.specs.declared.Reply.{Reply}
use Rattle.tx_events.specs.declared.Reply.TheVariants.{Nothing}
use Rattle.tx_events.specs.Thread.{Thread, Answers, is_silent}
use Rattle.tx_events.specs.World.{World, Alive}

-- with these replies to its events that are not silent, the thread comes from s to this state
pub data Reaches {S : Type 0} (a : Thread S) : S → List Reply → S → Type 0 where
  at_once : {s : S} → Reaches a s [] s
  silently : {s q : S} {replies : List Reply} → a.next s ≡ Silent → Reaches a (a.after s Nothing) replies q → Reaches a s replies q
  answered : {s q : S} {reply : Reply} {replies : List Reply} → is_silent (a.next s) ≡ false → Answers (a.next s) reply → Reaches a (a.after s reply) replies q
      → Reaches a s (reply ∷ replies) q

-- in so many steps, each silent one and each event that was answered counted as one
abbrev pub steps : {S : Type 0} (a : Thread S) {s q : S} {replies : List Reply} → Reaches a s replies q → ℕ
steps a at_once = 0
steps a (silently e r) = steps a r + 1
steps a (answered e f r) = steps a r + 1

-- and there this is its next event
pub record Comes {S : Type 0} (a : Thread S) (s : S) (replies : List Reply) (event : Event) : Type 0 where
  pub at : S
  pub reaches : Reaches a s replies at
  pub is : a.next at ≡ event

-- SameEvents: for all replies, the one comes to its next event that is not silent exactly where the other does, and the events are equal
pub record SameEvents {S T : Type 0} (a : Thread S) (b : Thread T) (s : S) (r : T) : Type 0 where
  pub there : (replies : List Reply) (event : Event) → is_silent event ≡ false → Comes a s replies event → Comes b r replies event
  pub back : (replies : List Reply) (event : Event) → is_silent event ≡ false → Comes b r replies event → Comes a s replies event

-- its bound: up to each such event the second thread takes at most many * n + more steps, where the first takes n
abbrev pub StepsWithin : {S T : Type 0} → Thread S → Thread T → ℕ → ℕ → S → T → Type 0
StepsWithin a b many more s r = (replies : List Reply) (event : Event) → is_silent event ≡ false → (f : Comes a s replies event) (g : Comes b r replies event)
    → steps b g.reaches ≤ many * steps a f.reaches + more

-- the states that the threads of a program can come to, where its first thread starts in main
pub data Descends {S : Type 0} (a : Thread S) (main : S) : S → Type 0 where
  at_first : Descends a main main
  went_on : {s : S} (reply : Reply) → Descends a main s → Answers (a.next s) reply → Descends a main (a.after s reply)
  started : {s : S} (number func : ℕ) (arg : ℤ) → Descends a main s → a.next s ≡ Spawn func arg → Descends a main (a.child s number func arg)

-- of two programs: where threads with the same events start threads, these have the same events
abbrev pub SameChildren : {S T : Type 0} → Thread S → Thread T → S → T → Type 0
SameChildren {S} {T} a b main main' = (s : S) (r : T) (number func : ℕ) (arg : ℤ) → Descends a main s → Descends b main' r → SameEvents a b s r
    → a.next s ≡ Spawn func arg → b.next r ≡ Spawn func arg → SameEvents a b (a.child s number func arg) (b.child r number func arg)

-- states of threads of two programs, with the same events
pub record Paired {S T : Type 0} (a : Thread S) (b : Thread T) (main : S) (main' : T) (s : S) (r : T) : Type 0 where
  pub events : SameEvents a b s r
  pub first : Descends a main s
  pub second : Descends b main' r

abbrev pub SameThread : {S T : Type 0} → Thread S → Thread T → S → T → Option (Alive S) → Option (Alive T) → Type 0
SameThread a b main main' None None = Unit {0}
SameThread a b main main' None (Some v) = ⊥
SameThread a b main main' (Some u) None = ⊥
SameThread a b main main' (Some u) (Some v) = (v.ended ≡ u.ended) × Paired a b main main' u.state v.state

-- the world with these threads in place of its own
abbrev pub with_threads : {S T : Type 0} → World S → (ℕ → Option (Alive T)) → World T
with_threads w threads = record { memory = w.memory; threads = threads; started = w.started; lock = w.lock; out = w.out; input = w.input; end = w.end }
