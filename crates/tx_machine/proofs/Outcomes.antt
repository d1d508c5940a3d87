-- A play that has stopped is a run, and the laws of runs hold of it.
use Rattle.std.proofs.Common.{
  ℕ,
  zero,
  suc,
  ◌≡◌,
  ◌==◌,
  ◌≤◌,
  ◌+◌,
  ◌*◌,
  Bool,
  true,
  false,
  cond,
  refl,
  ap,
  sym,
  ◌∙◌,
  subst,
  length,
  List,
  [],
  ◌∷◌,
  ◌++◌,
  Option,
  Some,
  None,
  arith,
}
use Rattle.std.proofs.lemmas.Bool.{true≢false, ne_eqb}
use Rattle.std.proofs.lemmas.Option.{none-some}
use Rattle.choosers.specs.Answers.{is_older}
use Rattle.choosers.specs.declared.Clash.{Clash}
use Rattle.choosers.specs.declared.Choice.{Choice}
use Rattle.choosers.specs.declared.Seen.{Seen}
use Rattle.tx_events.specs.declared.actor.Actor.{Ghosts}
use Rattle.tx_events.specs.declared.TheConstants.{THREAD_LIMIT}
use Rattle.tx_events.specs.declared.End.{End}
use Rattle.tx_events.specs.declared.End.TheVariants.{Exit, Abort, Terminate, Trapped, StepsOut}
use Rattle.tx_events.specs.declared.Trap.{Trap}
use Rattle.tx_events.specs.Memory.{MemoryLayout}
use Rattle.tx_events.specs.Thread.{Thread, Lawful}
use Rattle.tx_events.specs.World.{first_world}
use Rattle.tx_serial.specs.Bound.{zeros}
use Rattle.tx_serial.specs.Kinds.{GoesOn}
use Rattle.tx_serial.specs.Machine.{Machine, Local}
use Rattle.tx_serial.specs.Run.{
  Progress,
  advance,
  advances,
  not_begun,
  picks,
  state_in,
  trap_place,
  RunOf,
  Stops,
  NoEndBefore,
  AnsweredBy,
  EachTurn,
  is_answer,
}
use Rattle.tx_serial.specs.Shows.{ShownByReplay}
use Rattle.tx_serial.specs.Turn.{Slot, turn, first_machine}
use Rattle.tx_serial.proofs.GrowingRuns.{advances_grow}
use Rattle.tx_serial.proofs.KindConditions.{idle_exact}
use Rattle.tx_serial.proofs.OlderRuns.{older_each}
use Rattle.tx_serial.proofs.OnePolicy.{lengths}
use Rattle.tx_serial.proofs.OrderReplays.{turns_shown}
use Rattle.tx_serial.proofs.OwnEnds.{at_the_bound}
use Rattle.tx_serial.proofs.RecordedPicks.{machine_of, run_counted, run_replayed, again}
use Rattle.tx_serial.proofs.SoundKept.{start_sound}
use Rattle.tx_serial.proofs.TrapPlaces.{run_place}
use Rattle.tx_serial.proofs.TurnBound.{ends_alone}
use Rattle.tx_serial.proofs.TurnSteps as steps
use Rattle.tx_runtime.specs.Runtime as runtime
use Rattle.tx_machine.specs.declared.run.Finished.{Finished}
use Rattle.tx_machine.specs.Course.{Played, Asks}
use Rattle.tx_machine.specs.Finished.{end_or_out, stands_at, outcome_of, zeros_in, RunsTo}
use Rattle.tx_machine.specs.Watch.{Sight}

module _ {S : Type 0} (a : Thread S) (p : MemoryLayout) where
  -- the thread of the last turn stands where it stood before that turn, once the program has ended
  abbrev Stays : Progress S → Type 0
  Stays r = (e : End) → r.machine.end ≡ Some e → stands_at r.machine r.before ≡ r.place

  turn_stays : (q : Slot) (r : Progress S) → r.machine.end ≡ None → Stays (advance a p q r)
  turn_stays q r going e ends = by_thread (r.machine.threads q.thread) refl
    where
      idle : ((l : Local S) → GoesOn q.thread r.machine l → ⊥) → ⊥
      idle never = none-some e (sym going ∙ (sym (ap (λ d. d.machine.end) (idle_exact a p q.answer q.thread r.machine never)) ∙ ends))

      by_up : (l : Local S) (up : Bool) → r.machine.threads q.thread ≡ Some l → l.ended ≡ up
          → state_in ((turn a p q.answer q.thread r.machine).machine.threads q.thread) ≡ state_in (r.machine.threads q.thread)
      by_up l false at up = ap (λ f. state_in (f q.thread))
          (steps.end_stays a p q.answer q.thread r.machine l (record { going = going; is = at; up = up }) e ends)
      by_up l true at down = absurd (idle (λ n g. true≢false (sym down ∙ (ap (λ v. v.ended) (one l n (sym at ∙ g.is)) ∙ g.up))))
        where
          one : (v w : Local S) → Some v ≡ Some w → v ≡ w
          one v w h = cc

      by_thread : (o : Option (Local S)) → r.machine.threads q.thread ≡ o
          → state_in ((turn a p q.answer q.thread r.machine).machine.threads q.thread) ≡ state_in (r.machine.threads q.thread)
      by_thread None at = absurd (idle (λ n g. none-some n (sym at ∙ g.is)))
      by_thread (Some l) at = by_up l l.ended at refl

  stays : (qs : List Slot) (r : Progress S) → Stays r → NoEndBefore a p qs r → Stays (advances a p qs r)
  stays [] r h going = h
  stays (q ∷ qs) r h going = stays qs (advance a p q r) (turn_stays q r going.0) going.1

  not_out : (trap : Trap) → Trapped trap ≡ StepsOut → ⊥
  not_out trap e = cc

  trapped_there : (trap : Trap) (bound taken : ℕ) (r : Progress S) → Stays r → (o : Option End) → r.machine.end ≡ o → Stops bound taken o (Trapped trap)
      → stands_at r.machine r.before ≡ r.place
  trapped_there trap bound taken r h (Some e) is stops = h e is
  trapped_there trap bound taken r h None is stops = absurd (not_out trap stops.1)

  same_place : (bound taken : ℕ) (r : Progress S) → Stays r → (end : End) → Stops bound taken r.machine.end end
      → trap_place end (stands_at r.machine r.before) ≡ trap_place end r.place
  same_place bound taken r h (Trapped trap) stops = trapped_there trap bound taken r h r.machine.end refl stops
  same_place bound taken r h (Exit code) stops = refl
  same_place bound taken r h Abort stops = refl
  same_place bound taken r h Terminate stops = refl
  same_place bound taken r h StepsOut stops = refl

  stops_so : (bound taken : ℕ) (o : Option End) (end : End) → end ≡ end_or_out o → (o ≡ None → taken ≡ bound) → Stops bound taken o end
  stops_so bound taken None end is all = (all refl, is)
  stops_so bound taken (Some e) end is all = is

  -- what holds after each turn, where it holds after each list of turns
  each_turn : (P : Slot → Progress S → Type 0) (qs : List Slot) (r : Progress S) → ((ks : List Slot) (q : Slot) → P q (advances a p ks r))
      → EachTurn P a p qs r
  each_turn P [] r h = tt
  each_turn P (q ∷ qs) r h = (h [] q, each_turn P qs (advance a p q r) (λ ks k. h (q ∷ ks) k))

  loosened : (policy other : Clash → Choice → Type 0) → ((c : Clash) (choice : Choice) → policy c choice → other c choice) → (qs : List Slot) (r : Progress S)
      → AnsweredBy policy a p qs r → AnsweredBy other a p qs r
  loosened policy other f [] r h = tt
  loosened policy other f (q ∷ qs) r h = (λ c asked. f c (q.answer c) (h.0 c asked), loosened policy other f qs (advance a p q r) h.1)

zeros_same : (qs : List Slot) → zeros_in (picks qs) ≡ zeros qs
zeros_same [] = refl
zeros_same (q ∷ qs) = by_thread (zeros_same qs) q.thread
  where
    by_thread : zeros_in (picks qs) ≡ zeros qs → (t : ℕ) → zeros_in (t ∷ picks qs) ≡ cond (t == 0) (suc (zeros qs)) (zeros qs)
    by_thread rest zero = ap suc rest
    by_thread rest (suc t) = rest ∙ sym (ap (λ b. cond b (suc (zeros qs)) (zeros qs)) (ne_eqb (suc t) 0 (λ e. absurd (omega (arith, e)))))

module _ {A K G P W : Type 0} {g : Ghosts A K} (laws : Lawful g.State g.is_reached g.thread) (p : MemoryLayout) (small : p.limit ≤ THREAD_LIMIT)
    (policy : Clash → Choice → Type 0) (step : G → Seen → ℕ → G → Type 0) (sight : Sight g.State P W) (bound : ℕ) (memory : ℕ → ℕ) (input : List ℕ)
    (main : g.State)
    (reached : g.is_reached main) (free : g.thread.blocks main ≡ []) where
  module _ (finished : Finished A K g) (before after : G) (saw sees : W)
      (h : Played p policy step sight bound (first_machine memory input main) finished.course before after saw sees)
      (end : finished.end ≡ end_or_out (runtime.machine_of finished.course.runtime).end) where
    abbrev last : Progress g.State
    last = advances g.thread p h.slots (not_begun (first_machine memory input main))

    ends : Stops bound (length h.slots) last.machine.end finished.end
    ends = subst (λ (m : Machine g.State). Stops bound (length h.slots) m.end finished.end) h.shows.machine
        (stops_so g.thread p bound (length h.slots) (runtime.machine_of finished.course.runtime).end finished.end end h.stopped)

    run : RunOf g.thread p bound (first_machine memory input main) h.slots (outcome_of finished)
    run = record {
      within = h.within;
      going = h.plays.going;
      stops = ends;
      out = ap (λ m. m.out) h.shows.machine;
      input = ap (λ m. m.input) h.shows.machine;
      order = ap (λ m. m.order) h.shows.machine;
      picked = h.picks;
      counts = h.shows.counts;
      place = ap (λ m. trap_place finished.end (stands_at m finished.course.thread)) h.shows.machine
          ∙ (ap (λ t. trap_place finished.end (stands_at last.machine t)) h.shows.thread
          ∙ same_place g.thread p bound (length h.slots) last
          (stays g.thread p h.slots (not_begun (first_machine memory input main)) (λ e none. absurd (none-some e none)) h.plays.going) finished.end ends);
    }

    shown_each : (ks : List Slot) (q : Slot) → ShownByReplay g.thread p (first_world memory input main)
        (advance g.thread p q (advances g.thread p ks (not_begun (first_machine memory input main)))).machine
    shown_each ks q = subst (ShownByReplay g.thread p (first_world memory input main))
        (sym (machine_of g.thread p (ks ++ q ∷ []) (not_begun (first_machine memory input main)))
        ∙ ap (λ r. r.machine) (advances_grow g.thread p ks q (not_begun (first_machine memory input main))))
        (turns_shown g.is_reached g.thread p laws small memory input main (ks ++ q ∷ []) reached free)

    ended_so : (o : Option End) (e : End) → Stops bound (length h.slots) o finished.end → o ≡ Some e → finished.end ≡ e
    ended_so None e stops is = absurd (none-some e is)
    ended_so (Some x) e stops is = stops ∙ one x e is
      where
        one : (v w : End) → Some v ≡ Some w → v ≡ w
        one v w i = cc

    pub runs_to : RunsTo g.thread p policy step sight bound memory input main before after saw sees (outcome_of finished)
    runs_to = record {
      slots = h.slots;
      run = run;
      answered = h.plays.answered;
      picked = h.plays.picked;
      watched = h.plays.watched;
      replayed = run_replayed g.thread p (first_world memory input main) bound (first_machine memory input main) h.slots (outcome_of finished) run
          (turns_shown g.is_reached g.thread p laws small memory input main h.slots reached free);
      shows = each_turn g.thread p (λ q r. ShownByReplay g.thread p (first_world memory input main) (advance g.thread p q r).machine) h.slots
          (not_begun (first_machine memory input main)) shown_each;
      counted = run_counted g.thread p bound (first_machine memory input main) h.slots (outcome_of finished) run;
      out_at_bound = λ out. ap length h.picks
          ∙ (lengths h.slots ∙ (at_the_bound g.is_reached g.thread laws p small bound memory input main h.slots (outcome_of finished) reached free run out).0);
      place = run_place g.thread p bound (first_machine memory input main) h.slots (outcome_of finished) refl run;
      older = λ rule. older_each g.is_reached g.thread laws p small h.slots (not_begun (first_machine memory input main))
          (start_sound g.is_reached g.thread laws p small memory input main reached free)
          (loosened g.thread p policy (λ c choice. is_older c choice ≡ true) rule h.slots (not_begun (first_machine memory input main)) h.plays.answered);
      again = λ answer is others other their said tog.
          again g.thread p bound (first_machine memory input main) answer h.slots others (outcome_of finished) other run
          (loosened g.thread p policy (is_answer answer) is h.slots (not_begun (first_machine memory input main)) h.plays.answered) their said tog;
      within = λ instructions accesses order v e replay most is many.
          let both = ends_alone g.is_reached g.thread laws p small memory input main reached free instructions accesses order v e replay most is h.slots
          (subst (λ n. instructions + 2 * accesses ≤ n) (ap zeros_in h.picks ∙ zeros_same h.slots) many) in
          let same = machine_of g.thread p h.slots (not_begun (first_machine memory input main)) in
          (ended_so last.machine.end e ends (ap (λ m. m.end) same ∙ both.0), ap (λ m. m.out) h.shows.machine ∙ (ap (λ m. m.out) same ∙ both.1));
    }

  -- the same, of a play whose memory and first machine are equal to these
  pub run_from : (q : MemoryLayout) (m : Machine g.State) → q ≡ p → m ≡ first_machine memory input main
      → (finished : Finished A K g) (before after : G) (saw sees : W)
      → Played q policy step sight bound m finished.course before after saw sees → finished.end ≡ end_or_out (runtime.machine_of finished.course.runtime).end
      → RunsTo g.thread p policy step sight bound memory input main before after saw sees (outcome_of finished)
  run_from q m layout is finished before after saw sees h end =
      runs_to finished before after saw sees
      (subst (λ z. Played z policy step sight bound (first_machine memory input main) finished.course before after saw sees) layout
      (subst (λ z. Played q policy step sight bound z finished.course before after saw sees) is h))
      end

-- and so of the picks of one that failed
pub asks_from : {S G : Type 0} (a : Thread S) (policy : Clash → Choice → Type 0) (step : G → Seen → ℕ → G → Type 0) (p q : MemoryLayout) (first m : Machine S)
    → q ≡ p → m ≡ first → (before after : G) → (slots : List Slot) × Asks a q policy step m slots before after
    → (slots : List Slot) × Asks a p policy step first slots before after
asks_from a policy step p q first m layout is before after h = (
  h.0,
  subst (λ z. Asks a z policy step first h.0 before after) layout (subst (λ z. Asks a q policy step z h.0 before after) is h.1),
)
