-- The turns of a thread, told by the cost of another with the same events.
use Rattle.std.proofs.Common.{ℕ, ◌≡◌, ◌≤◌, ◌+◌, ◌*◌, true, false, ◌∙◌, List, [], Some}
use Rattle.choosers.specs.declared.Clash.{Clash}
use Rattle.choosers.specs.declared.Choice.{Choice}
use Rattle.choosers.specs.Picks.{PickerName, pick}
use Rattle.tx_events.specs.declared.TheConstants.{THREAD_LIMIT}
use Rattle.tx_events.specs.declared.End.{End}
use Rattle.tx_events.specs.declared.End.TheVariants.{StepsOut}
use Rattle.tx_events.specs.Thread.{Thread, Lawful}
use Rattle.tx_events.specs.Memory.{MemoryLayout}
use Rattle.tx_events.specs.World.{World, first_world, only_first}
use Rattle.tx_events.specs.Same.{SameEvents, StepsWithin, with_threads}
use Rattle.tx_serial.specs.Machine.{Machine}
use Rattle.tx_serial.specs.Turn.{Slot, turns, turn, first_machine}
use Rattle.tx_serial.specs.Bound.{Tally, no_tally, is_waiting, zeros}
use Rattle.tx_serial.specs.Run.{PickedBy, not_begun, Outcome, RunOf}
use Rattle.turn_bounds.specs.Alone.{EndsAlone, enough, picks_started}
use Rattle.turn_bounds.proofs.AloneLifting as lifting
use Rattle.turn_bounds.proofs.AloneLifting.{limit_at, limit_grows, alone_lifts}
use Rattle.turn_bounds.proofs.LoneRuns as lone

module _ {S T : Type 0} (a : Thread S) (R : T → Type 0) (b : Thread T) (laws : Lawful T R b) (main : S) (main' : T) (reached : R main')
    (free : b.blocks main' ≡ []) (same : SameEvents a b main main') (many more : ℕ) (some : 1 ≤ many) (within : StepsWithin a b many more main main')
    (p : MemoryLayout) (small : p.limit ≤ THREAD_LIMIT) (memory : ℕ → ℕ) (input : List ℕ) (n : ℕ) (out : List ℕ) (end : End)
    (run : EndsAlone a p (first_world memory input main) n out end) where
  abbrev first : Machine T
  first = first_machine memory input main'

  lifts : lifting.Lifted a b (limit_at many more some) (limit_grows many more some) p n (first_world memory input main) (only_first (main', no_tally)) run.order
      run.world
  lifts = alone_lifts many more some a b main main' same within p memory input n run.order run.world run.replays run.spawns_nothing run.within

  abbrev last : World (T × Tally)
  last = with_threads run.world lifts.threads

  abbrev Told : List ℕ → End → Type 0
  Told o e = (e ≡ end) × (o ≡ out)

  pub bound_ends : (qs : List Slot) → enough many more n ≤ zeros qs → ((turns b p qs first).end ≡ Some end) × ((turns b p qs first).out ≡ out)
  bound_ends qs few =
      let t = lone.enough_turns R b laws p small memory input main' reached free (many * n + more) n run.order last end lifts.replays lifts.at_most run.end_is
      qs few in
      (t.0, t.1 ∙ run.out_is)

  pub bound_only : (qs : List Slot) (x : End) → (turns b p qs first).end ≡ Some x → (x ≡ end) × ((turns b p qs first).out ≡ out)
  bound_only qs x i =
      let t = lone.only_end R b laws p small memory input main' reached free (many * n + more) n run.order last end lifts.replays lifts.at_most run.end_is
      qs x i in
      (t.0, t.1 ∙ run.out_is)

  pub bound_quiet : (qs : List Slot) (answer : Clash → Choice) (t : ℕ) → is_waiting (turn b p answer t (turns b p qs first)).kind ≡ false
  bound_quiet = lone.never_waiting R b laws p small memory input main' reached free (many * n + more) n run.order last end lifts.replays lifts.at_most run.end_is

  module _ (bound : ℕ) (qs : List Slot) (result : Outcome T) (is : RunOf b p bound first qs result) where
    pub run_not_out : (result.end ≡ StepsOut → ⊥) → Told result.out result.end
    run_not_out other =
        let t = lone.not_out R b laws p small memory input main' reached free (many * n + more) n run.order last end lifts.replays lifts.at_most run.end_is
        bound qs result is other in
        (t.0, t.1 ∙ run.out_is)

    pub run_in_time : enough many more n ≤ zeros qs → Told result.out result.end
    run_in_time few =
        let t = lone.in_time R b laws p small memory input main' reached free (many * n + more) n run.order last end lifts.replays lifts.at_most run.end_is
        bound qs result is few in
        (t.0, t.1 ∙ run.out_is)

    pub run_picked : (picker : PickerName) → picks_started picker ≡ true → PickedBy (λ s before. pick picker s.turn s before) b p qs (not_begun first)
        → enough many more n ≤ bound → Told result.out result.end
    run_picked picker started picked few =
        let t = lone.picked_in_time R b laws p small memory input main' reached free (many * n + more) n run.order last end lifts.replays lifts.at_most
        run.end_is bound qs result is picker started picked few in
        (t.0, t.1 ∙ run.out_is)

    pub run_quiet : (result.counts.waited ≡ 0) × (result.counts.rolled ≡ 0)
    run_quiet = lone.no_waits_counted R b laws p small memory input main' reached free (many * n + more) n run.order last end lifts.replays lifts.at_most
        run.end_is bound qs result is
