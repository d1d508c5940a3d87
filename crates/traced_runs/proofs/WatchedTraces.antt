-- The observer of a run has kept the trace of its order.
use Rattle.std.proofs.Common.{ℕ, ◌≡◌, ◌≤◌, refl, ap, sym, ◌∙◌, subst, List, [], ◌∷◌}
use Rattle.choosers.specs.declared.Clash.{Clash}
use Rattle.choosers.specs.declared.Choice.{Choice}
use Rattle.choosers.specs.declared.Seen.{Seen}
use Rattle.tx_events.specs.declared.Event.{Event}
use Rattle.tx_events.specs.declared.Item.{Item}
use Rattle.tx_events.specs.declared.TheConstants.{THREAD_LIMIT}
use Rattle.tx_events.specs.Memory.{MemoryLayout}
use Rattle.tx_events.specs.Thread.{Thread, Lawful}
use Rattle.tx_events.specs.World.{first_world}
use Rattle.tx_serial.specs.Run.{Outcome, Progress, advance, not_begun}
use Rattle.tx_serial.specs.Trace.{TraceOf}
use Rattle.tx_serial.specs.Turn.{Slot, first_machine}
use Rattle.tx_serial.proofs.RecordedPicks.{machine_of}
use Rattle.tx_machine.specs.Finished.{RunsTo}
use Rattle.tx_machine.specs.Watch.{Sight, watched}
use Rattle.turn_traces.specs.Keeping.{Keeping, not_kept, shown, told, keep, keep_turn}
use Rattle.turn_traces.proofs.KeptRuns.{keeps_the_trace}
use Rattle.traced_runs.specs.TracedRuns.{no_one}

abbrev pub tracing : {S : Type 0} → Thread S → Sight S Event Keeping
tracing a = record { place = a.next; shown = λ w t place. shown w t place; told = λ w kind end. told w kind end }

module _ {S : Type 0} (a : Thread S) (p : MemoryLayout) where
  watched_is : (qs : List Slot) (r : Progress S) (k : Keeping) → watched (tracing a) a p qs r k ≡ keep a p qs r.machine k
  watched_is [] r k = refl
  watched_is (q ∷ qs) r k = watched_is qs (advance a p q r) (keep_turn a p q r.machine k)

  unseen : (qs : List Slot) (r : Progress S) → tt ≡ watched (no_one {S = S}) a p qs r tt
  unseen [] r = refl
  unseen (q ∷ qs) r = unseen qs (advance a p q r)

  module _ {G : Type 0} (policy : Clash → Choice → Type 0) (step : G → Seen → ℕ → G → Type 0) (bound : ℕ) (memory : ℕ → ℕ) (input : List ℕ) (main : S)
      (before after : G) (first sees : Keeping) (result : Outcome S)
      (h : RunsTo a p policy step (tracing a) bound memory input main before after first sees result) where
    pub unwatched_run : RunsTo a p policy step no_one bound memory input main before after tt tt result
    unwatched_run = record {
      slots = h.slots;
      run = h.run;
      answered = h.answered;
      picked = h.picked;
      watched = unseen h.slots (not_begun (first_machine memory input main));
      replayed = h.replayed;
      shows = h.shows;
      counted = h.counted;
      out_at_bound = h.out_at_bound;
      place = h.place;
      older = h.older;
      again = h.again;
      within = h.within;
    }

    pub traced_run : (R : S → Type 0) → Lawful S R a → p.limit ≤ THREAD_LIMIT → R main → a.blocks main ≡ [] → first ≡ not_kept
        → TraceOf a p (first_world memory input main) result.order sees.items
    traced_run R laws small reached free fresh =
        let start = first_machine memory input main in
        let kept = h.watched ∙ (ap (watched (tracing a) a p h.slots (not_begun start)) fresh ∙ watched_is h.slots (not_begun start) not_kept) in
        let order = h.run.order ∙ ap (λ m. m.order) (machine_of a p h.slots (not_begun start)) in
        subst (λ (z : Keeping). TraceOf a p (first_world memory input main) result.order z.items) (sym kept)
        (subst (λ o. TraceOf a p (first_world memory input main) o (keep a p h.slots start not_kept).items) (sym order)
        (keeps_the_trace R a laws p small memory input main reached free h.slots))

-- a trace from equal starts
pub traced_as : {S : Type 0} (a : Thread S) (p q : MemoryLayout) (memory other : ℕ → ℕ) (main first : S) (input order kept : List ℕ) (items : List Item)
    → p ≡ q → memory ≡ other → main ≡ first → kept ≡ order → TraceOf a p (first_world memory input main) order items
    → TraceOf a q (first_world other input first) kept items
traced_as a p q memory other main first input order kept items layout words state same h =
    subst (λ z. TraceOf a z (first_world other input first) kept items) layout
    (subst (λ z. TraceOf a p (first_world z input first) kept items) words
    (subst (λ z. TraceOf a p (first_world memory input z) kept items) state
    (subst (λ z. TraceOf a p (first_world memory input main) z items) (sym same) h)))
