-- One turn of a course is one turn of a run.
use Rattle.std.proofs.Common.{ℕ, ◌≡◌, ◌<◌, ◌≤◌, ◌+◌, true, refl, ap, sym, ◌∙◌, subst, length, List, [], ◌∷◌, ◌++◌, Option, Some, None, arith, Bool}
use Rattle.std.specs.Option.{option_map}
use Rattle.choosers.specs.declared.Clash.{Clash}
use Rattle.choosers.specs.declared.Choice.{Choice}
use Rattle.choosers.specs.declared.Seen.{Seen}
use Rattle.tx_events.specs.declared.actor.Actor.{Ghosts}
use Rattle.tx_events.specs.declared.TurnKind.{TurnKind}
use Rattle.tx_events.specs.Memory.{MemoryLayout}
use Rattle.tx_serial.specs.Kinds.{Asked}
use Rattle.tx_serial.specs.Machine.{Local}
use Rattle.tx_serial.specs.Turn.{turn}
use Rattle.tx_serial.specs.Run.{Progress, count_in, inside, seen, state_in}
use Rattle.tx_runtime.specs.Here.{Chosen}
use Rattle.tx_runtime.specs.Runtime.{machine_of, ShowsActor}
use Rattle.tx_machine.specs.declared.course.Course.{Course}
use Rattle.tx_events.specs.declared.TheConstants.{THREAD_LIMIT}
use Rattle.tx_machine.specs.Course.{Shows, OneTurn, IsOneToLimit, counts_of}
use Rattle.tx_machine.specs.Watch.{Sight}

-- what an observer is shown of an actor is what it sees of its state
pub shown_place : {A S P : Type 0} (state : A → S) (place : A → P) (read : S → P) → ((a : A) → place a ≡ read (state a))
    → (o : Option (Local S)) (actor : Option A) → ShowsActor state o actor → option_map place actor ≡ option_map read (state_in o)
shown_place state place read same None None h = refl
shown_place state place read same None (Some a) h = absurd h
shown_place state place read same (Some l) None h = absurd h
shown_place state place read same (Some l) (Some a) h = ap Some (same a ∙ ap read h)

pub seen_is : {S : Type 0} (r : Progress S) (s : Seen) → s.turn ≡ r.turn → s.started ≡ r.machine.started → s.last ≡ r.last → s.inside ≡ r.inside → s ≡ seen r
seen_is r s turn started last inside = λ i. record { turn = turn i; started = started i; last = last i; inside = inside i }

pub one_to_limit : {n limit shown : ℕ} → n ≡ shown → 0 < n → n ≤ limit → limit ≡ THREAD_LIMIT → IsOneToLimit shown
one_to_limit {n} e some within limit = record { some = subst (λ k. 0 < k) e some; within = subst (λ k. k ≤ THREAD_LIMIT) e (subst (λ k. n ≤ k) limit within) }

one_longer : {X : Type 0} (xs : List X) (x : X) → length (xs ++ x ∷ []) ≡ length xs + 1
one_longer [] x = refl
one_longer (y ∷ xs) x = let rest = one_longer xs x in omega (arith, rest)

module _ {A K G P W : Type 0} {g : Ghosts A K} (p : MemoryLayout) (answers : Clash → Choice → Type 0) (allows : Clash → Choice → Bool)
    (step : G → Seen → ℕ → G → Type 0)
    (sight : Sight g.State P W) (old new : Course A K g) where
  pub one_turn : (before after : G) (saw mid sees : W) (r : Progress g.State) (t : ℕ) (kind : TurnKind)
      → Shows old r
      → Chosen g.thread p answers allows t (machine_of old.runtime) kind (machine_of new.runtime)
      → step before (seen r) t after
      → mid ≡ sight.shown saw t (option_map sight.place (state_in ((machine_of old.runtime).threads t)))
      → sees ≡ sight.told mid kind (machine_of new.runtime).end
      → new.picked.items ≡ old.picked.items ++ t ∷ []
      → new.thread ≡ Some t
      → new.last ≡ Some kind
      → new.inside ≡ inside g.thread t (machine_of old.runtime) kind
      → counts_of new.counts ≡ count_in kind (counts_of old.counts)
      → OneTurn p (λ c choice. answers c choice × (allows c choice ≡ true)) step sight old new before after saw sees r
  one_turn before after saw mid sees r t kind shows chosen picked was is picks thread last into counts =
      let done = turn g.thread p (λ _. chosen.choice) t r.machine in
      let machine : machine_of new.runtime ≡ done.machine = ap (λ d. d.machine) chosen.turned
      ∙ ap (λ m. (turn g.thread p (λ _. chosen.choice) t m).machine) shows.machine in
      let same : kind ≡ done.kind = ap (λ d. d.kind) chosen.turned ∙ ap (λ m. (turn g.thread p (λ _. chosen.choice) t m).kind) shows.machine in
      let longer = ap length picks ∙ one_longer old.picked.items t in
      let shown : mid ≡ sight.shown saw t (option_map sight.place (state_in (r.machine.threads t))) = was
      ∙ ap (λ m. sight.shown saw t (option_map sight.place (state_in (m.threads t)))) shows.machine in
      record {
        slot = record { thread = t; answer = λ _. chosen.choice };
        answered = λ c asked. chosen.asked c (subst (λ m. Asked g.thread p t m c) (sym shows.machine) asked);
        picked = picked;
        watched = is ∙ (ap (λ w. sight.told w kind (machine_of new.runtime).end) shown
            ∙ (ap (λ k. sight.told (sight.shown saw t (option_map sight.place (state_in (r.machine.threads t)))) k (machine_of new.runtime).end) same
            ∙ ap (λ m. sight.told (sight.shown saw t (option_map sight.place (state_in (r.machine.threads t)))) done.kind m.end) machine));
        picks = picks;
        shows = record {
          machine = machine;
          turn = longer ∙ ap (λ n. n + 1) shows.turn;
          thread = thread;
          last = last ∙ ap Some same;
          inside = into ∙ (ap (λ m. inside g.thread t m kind) shows.machine ∙ ap (inside g.thread t r.machine) same);
          counts = counts ∙ (ap (λ k. count_in k (counts_of old.counts)) same ∙ ap (count_in done.kind) shows.counts);
        };
      }
