-- Two threads that take the same steps, one for one.
use Rattle.std.proofs.Common.{Bool, true, false, ◌≡◌, ℕ, zero, suc, inr, refl, sym, ◌∙◌, arith}
use Rattle.tx_events.specs.declared.Event.{Event}
use Rattle.tx_events.specs.declared.Event.TheVariants.{Silent, Load, Store, Out, Inp, Spawn, Join, BeginAtomic, EndAtomic, Raise, BeginSync, EndSync, Done}
use Rattle.tx_events.specs.declared.Event.TheVariants.{Stop}
use Rattle.tx_events.specs.declared.Reply.{Reply}
use Rattle.tx_events.specs.declared.Reply.TheVariants.{Nothing}
use Rattle.tx_events.specs.Thread.{Thread, is_silent}
use Rattle.tx_events.specs.Same.{SameEvents, StepsWithin}
use Rattle.tx_events.specs.Simulation.{here, step, SimulationBound, Stepped, Sim}
use Rattle.tx_events.proofs.SimulationLemmas.{simulated, simulated_within}
use Rattle.std.proofs.lemmas.Bool.{true≢false}

silent_is : (e : Event) → is_silent e ≡ true → e ≡ Silent
silent_is Silent h = refl
silent_is (Load a size v) h = absurd (true≢false (sym h))
silent_is (Store a size w v) h = absurd (true≢false (sym h))
silent_is (Out b) h = absurd (true≢false (sym h))
silent_is Inp h = absurd (true≢false (sym h))
silent_is (Spawn f a) h = absurd (true≢false (sym h))
silent_is (Join i) h = absurd (true≢false (sym h))
silent_is (BeginAtomic k) h = absurd (true≢false (sym h))
silent_is EndAtomic h = absurd (true≢false (sym h))
silent_is (Raise k c) h = absurd (true≢false (sym h))
silent_is BeginSync h = absurd (true≢false (sym h))
silent_is EndSync h = absurd (true≢false (sym h))
silent_is Done h = absurd (true≢false (sym h))
silent_is (Stop e) h = absurd (true≢false (sym h))

module _ {S T : Type 0} (a : Thread S) (b : Thread T) (R : S → T → Type 0) (same : (s : S) (t : T) → R s t → b.next t ≡ a.next s)
    (on : (s : S) (t : T) (r : Reply) → R s t → R (a.after s r) (b.after t r)) where
  terms : SimulationBound S T
  terms = record { first = a; second = b; rate = 1; most = 0 }

  stepped : (n : ℕ) (s : S) (t : T) (w : Bool) → is_silent (a.next s) ≡ w → R s t → Sim terms n 0 0 (a.after s Nothing) (b.after t Nothing)
      → ((r : Reply) → Sim terms n 0 0 (a.after s r) (b.after t r)) → Stepped terms (Sim terms n) 0 0 s t w
  unfolding terms
  stepped n s t true e h one each = record {
    steps = 1;
    patience_left = 0;
    credit_left = 0;
    to = b.after t Nothing;
    path = step
        (same s t h ∙ silent_is (a.next s) e) here;
    waits = inr (omega arith, omega arith);
    pays = omega arith;
    goes = one;
  }
  stepped n s t false e h one each = record {
    steps = 0;
    to = t;
    path = here;
    same = same s t h;
    pays = omega arith;
    on = λ r fits.
        record { patience_left = 0; credit_left = 0; waits = omega arith; pays = omega arith; goes = each r };
  }

  lockstep : (n : ℕ) (s : S) (t : T) → R s t → Sim terms n 0 0 s t
  unfolding terms
  lockstep zero s t h = tt
  lockstep (suc n) s t h = stepped n s t (is_silent (a.next s)) refl h (lockstep n _ _ (on s t Nothing h)) (λ r. lockstep n _ _ (on s t r h))

  pub lock_same : (s : S) (t : T) → R s t → SameEvents a b s t
  unfolding terms
  lock_same s t h = simulated terms 0 0 s t (λ n. lockstep n s t h)

  pub lock_within : (s : S) (t : T) → R s t → StepsWithin a b 1 0 s t
  unfolding terms
  lock_within s t h = simulated_within terms 0 0 s t (λ n. lockstep n s t h)
