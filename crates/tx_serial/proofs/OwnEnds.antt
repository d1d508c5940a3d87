-- No list of turns ends a program with StepsOut, so a run that ends so has taken all of its turns.
use Rattle.std.proofs.Common.{ℕ, ◌≡◌, ◌≤◌, Bool, true, false, cond, refl, ap, sym, subst, ◌∙◌, length, List, [], ◌∷◌, Option, Some, None, inl, inr}
use Rattle.std.proofs.lemmas.Bool.{false≢true}
use Rattle.std.proofs.lemmas.Option.{none-some}
use Rattle.choosers.specs.declared.Clash.{Clash}
use Rattle.choosers.specs.declared.Choice.{Choice}
use Rattle.tx_events.specs.declared.TheConstants.{THREAD_LIMIT}
use Rattle.tx_events.specs.declared.End.{End}
use Rattle.tx_events.specs.declared.End.TheVariants.{StepsOut}
use Rattle.tx_events.specs.declared.TurnKind.TheVariants.{Idle}
use Rattle.tx_events.specs.Thread.{Thread, Lawful, may_come, is_own_end}
use Rattle.tx_events.specs.Memory.{MemoryLayout}
use Rattle.tx_serial.specs.Machine.{Machine, Local}
use Rattle.tx_serial.specs.Kinds.{GoesOn}
use Rattle.tx_serial.specs.Sound.{Sound, SoundThread}
use Rattle.tx_serial.specs.Turn.{Slot, turn, turns, turn_at, turn_of, turn_in, stays, first_machine}
use Rattle.tx_serial.specs.Run.{Stops, Outcome, RunOf, advances, not_begun}
use Rattle.tx_serial.proofs.SoundKept.{turn_sound, start_sound}
use Rattle.tx_serial.proofs.RecordedPicks.{machine_of}
use Rattle.tx_serial.proofs.TurnSteps.{end_own}

abbrev IsOwn : Option End → Type 0
IsOwn None = Unit {0}
IsOwn (Some e) = is_own_end e ≡ true

from_each : (o : Option End) → ((e : End) → o ≡ Some e → is_own_end e ≡ true) → IsOwn o
from_each None h = tt
from_each (Some e) h = h e refl

module _ {S : Type 0} (R : S → Type 0) (a : Thread S) (laws : Lawful S R a) (p : MemoryLayout) (small : p.limit ≤ THREAD_LIMIT) where
  goes_own : (answer : Clash → Choice) (t : ℕ) (m : Machine S) (l : Local S) → Sound R a p m → GoesOn t m l → IsOwn (turn a p answer t m).machine.end
  goes_own answer t m l sound h = from_each (turn a p answer t m).machine.end (λ e i. elim (end_own a p answer t m l h e i) [
    | inl o ↦ o
    | inr next ↦
        let here = subst (SoundThread R a p) h.is (sound.threads t) in
        ap (λ v. may_come v (a.blocks l.state)) (sym next) ∙ laws.comes l.state here.reached
  ])

  turn_own : (answer : Clash → Choice) (t : ℕ) (m : Machine S) → Sound R a p m → IsOwn m.end → IsOwn (turn a p answer t m).machine.end
  turn_own answer t m sound own = by_end m.end refl
    where
      by_ended : (l : Local S) (b : Bool) → m.end ≡ None → m.threads t ≡ Some l → l.ended ≡ b → IsOwn (turn a p answer t m).machine.end
      by_ended l false none at up = goes_own answer t m l sound (record { going = none; is = at; up = up })
      by_ended l true none at down =
          subst (λ o. IsOwn (turn_at a p answer t m o).machine.end) (sym none)
          (subst (λ o. IsOwn (turn_of a p answer t m o).machine.end) (sym at)
          (subst (λ c. IsOwn (cond c (stays Idle m) (turn_in a p answer t m l l.tx)).machine.end) (sym down) own))

      by_thread : (o : Option (Local S)) → m.end ≡ None → m.threads t ≡ o → IsOwn (turn a p answer t m).machine.end
      by_thread None none at = subst (λ o. IsOwn (turn_at a p answer t m o).machine.end) (sym none)
          (subst (λ o. IsOwn (turn_of a p answer t m o).machine.end) (sym at) own)
      by_thread (Some l) none at = by_ended l l.ended none at refl

      by_end : (o : Option End) → m.end ≡ o → IsOwn (turn a p answer t m).machine.end
      by_end None none = by_thread (m.threads t) none refl
      by_end (Some e) some = subst (λ o. IsOwn (turn_at a p answer t m o).machine.end) (sym some) own

  turns_own : (qs : List Slot) (m : Machine S) → Sound R a p m → IsOwn m.end → IsOwn (turns a p qs m).end
  turns_own [] m sound own = own
  turns_own (q ∷ qs) m sound own = turns_own qs (turn a p q.answer q.thread m).machine (turn_sound R a laws p small q.answer q.thread m sound)
      (turn_own q.answer q.thread m sound own)

  steps_out : (bound taken : ℕ) (o : Option End) (e : End) → IsOwn o → Stops bound taken o e → e ≡ StepsOut → (taken ≡ bound) × (o ≡ None)
  steps_out bound taken None e own stops out = (stops.0, refl)
  steps_out bound taken (Some f) e own stops out = absurd (false≢true (sym (ap is_own_end (sym stops ∙ out)) ∙ own))

  pub at_the_bound : (bound : ℕ) (memory : ℕ → ℕ) (input : List ℕ) (main : S) (slots : List Slot) (result : Outcome S) → R main → a.blocks main ≡ []
      → RunOf a p bound (first_machine memory input main) slots result → result.end ≡ StepsOut
      → (length slots ≡ bound) × ((turns a p slots (first_machine memory input main)).end ≡ None)
  at_the_bound bound memory input main slots result reached free run out =
      let first = first_machine memory input main in
      let same = machine_of a p slots (not_begun first) in
      let own = turns_own slots first (start_sound R a laws p small memory input main reached free) tt in
      steps_out bound (length slots) (turns a p slots first).end result.end own
      (subst (λ (z : Machine S). Stops bound (length slots) z.end result.end) same run.stops) out
