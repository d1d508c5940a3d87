-- A run that ends by itself has a last turn, whose thread was started.
use Rattle.std.proofs.Common.{ℕ, ◌≡◌, true, refl, ap, sym, ◌∙◌, subst, length, List, [], ◌∷◌, Option, Some, None}
use Rattle.std.specs.Prelude.{is_some}
use Rattle.std.proofs.lemmas.Option.{none-some}
use Rattle.tx_events.specs.declared.End.{End}
use Rattle.tx_events.specs.declared.End.TheVariants.{Exit, Abort, Terminate, Trapped, StepsOut}
use Rattle.tx_events.specs.declared.Trap.{Trap}
use Rattle.tx_events.specs.Thread.{Thread}
use Rattle.tx_events.specs.Memory.{MemoryLayout}
use Rattle.tx_serial.specs.Machine.{Machine, Local}
use Rattle.tx_serial.specs.Turn.{Slot, turn}
use Rattle.tx_serial.specs.Run.{Progress, advance, advances, not_begun, state_in, NoEndBefore, Stops, trap_place, is_trapped, Outcome, RunOf}
use Rattle.tx_serial.proofs.KindConditions.{idle_exact}

module _ {S : Type 0} (a : Thread S) (p : MemoryLayout) where
  abbrev HasPlace : Progress S → Type 0
  HasPlace r = (e : End) → r.machine.end ≡ Some e → is_some r.place ≡ true

  turn_place : (q : Slot) (r : Progress S) → r.machine.end ≡ None → HasPlace (advance a p q r)
  turn_place q r going e ends = by_thread (r.machine.threads q.thread) refl
    where
      by_thread : (o : Option (Local S)) → r.machine.threads q.thread ≡ o → is_some (state_in o) ≡ true
      by_thread (Some l) at = refl
      by_thread None at =
          let idle = idle_exact a p q.answer q.thread r.machine (λ l g. none-some l (sym at ∙ g.is)) in
          absurd (none-some e (sym going ∙ (sym (ap (λ d. d.machine.end) idle) ∙ ends)))

  has_place : (qs : List Slot) (r : Progress S) → HasPlace r → NoEndBefore a p qs r → HasPlace (advances a p qs r)
  has_place [] r h going = h
  has_place (q ∷ qs) r h going = has_place qs (advance a p q r) (turn_place q r going.0) going.1

  not_out : (trap : Trap) → Trapped trap ≡ StepsOut → ⊥
  not_out trap e = cc

  trapped : (trap : Trap) (bound taken : ℕ) (r : Progress S) → HasPlace r → (o : Option End) → r.machine.end ≡ o → Stops bound taken o (Trapped trap)
      → is_some r.place ≡ true
  trapped trap bound taken r h (Some e) is stops = h e is
  trapped trap bound taken r h None is stops = absurd (not_out trap stops.1)

  at_place : (bound taken : ℕ) (r : Progress S) → HasPlace r → (end : End) → Stops bound taken r.machine.end end
      → is_some (trap_place end r.place) ≡ is_trapped end
  at_place bound taken r h (Trapped trap) stops = trapped trap bound taken r h r.machine.end refl stops
  at_place bound taken r h (Exit code) stops = refl
  at_place bound taken r h Abort stops = refl
  at_place bound taken r h Terminate stops = refl
  at_place bound taken r h StepsOut stops = refl

  pub run_place : (bound : ℕ) (first : Machine S) (slots : List Slot) (result : Outcome S) → first.end ≡ None → RunOf a p bound first slots result
      → is_some result.place ≡ is_trapped result.end
  run_place bound first slots result going run =
      ap is_some run.place
      ∙ at_place bound (length slots) (advances a p slots (not_begun first))
      (has_place slots (not_begun first) (λ e ends. absurd (none-some e (sym going ∙ ends))) run.going) result.end run.stops
