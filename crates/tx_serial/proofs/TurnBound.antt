-- The turns of a program that spawns nothing.
use Rattle.std.proofs.Common.{ℕ, ◌≡◌, ◌==◌, ◌≤◌, ◌+◌, ◌*◌, true, false, refl, ap, sym, ◌∙◌, subst, List, [], Option, Some, None}
use Rattle.std.proofs.lemmas.Bool.{eqb-true}
use Rattle.choosers.specs.declared.Clash.{Clash}
use Rattle.choosers.specs.declared.Choice.{Choice}
use Rattle.tx_events.specs.declared.TheConstants.{THREAD_LIMIT}
use Rattle.tx_events.specs.declared.End.{End}
use Rattle.tx_events.specs.Thread.{Thread, Lawful}
use Rattle.tx_events.specs.Memory.{MemoryLayout}
use Rattle.tx_events.specs.World.{World, Replays, first_world}
use Rattle.tx_serial.specs.Machine.{Machine, Tx, NoTx, OpenTx, GivingUp, Closing}
use Rattle.tx_serial.specs.Turn.{Slot, turns, turn, turn_at, turn_of, first_machine}
use Rattle.tx_serial.specs.Bound.{Tally, no_tally, tally_in, tallied, AtMost, is_waiting, zeros}
use Rattle.tx_serial.proofs.PendingWork.{Lone}
use Rattle.tx_serial.proofs.AloneThread.{lone_turn}
use Rattle.tx_serial.proofs.AloneEnds.{Paid}
use Rattle.tx_serial.proofs.PartialRuns.{turn_bound, paid, quiet, shown}
use Rattle.tx_serial.proofs.HistoryErased.{erase, erase_tx, erase_local, erase_opt, turns_erased, first_erased}

module _ {S : Type 0} (R : S → Type 0) (a : Thread S) (laws : Lawful S R a) (p : MemoryLayout) (small : p.limit ≤ THREAD_LIMIT) (memory : ℕ → ℕ)
    (input : List ℕ) (main : S) (reached : R main) (free : a.blocks main ≡ [])
    (steps accesses : ℕ) (order : List ℕ) (v : World (S × Tally)) (e : End) (h : Replays (tallied a) p (first_world memory input (main, no_tally)) order v)
    (k : AtMost a p steps accesses (first_world memory input (main, no_tally)) order v h) (f : v.end ≡ Some e) (qs : List Slot) where
  abbrev last : Machine (S × Tally)
  last = turns (tallied a) p qs (first_machine memory input (main, no_tally))

  abbrev now : Machine S
  now = turns a p qs (first_machine memory input main)

  same : erase (turns (tallied a) p qs (first_machine memory input (main, no_tally))) ≡ now
  same = turns_erased no_tally (λ n e r. tally_in e n) a p qs (first_machine memory input (main, no_tally))
      ∙ ap (turns a p qs) (first_erased no_tally (λ n e r. tally_in e n) a p memory input main)

  pub ends_alone : steps + 2 * accesses ≤ zeros qs → (now.end ≡ Some e) × (now.out ≡ v.out)
  ends_alone many =
      let b = turn_bound R a laws p small memory input main reached free steps accesses order v e h k f qs many in
      (sym (ap (λ m. m.end) same) ∙ b.0, sym (ap (λ m. m.out) same) ∙ b.1)

  lone_erased : Lone last → Lone (erase last)
  lone_erased l = record { started = l.started; fresh = λ u d. ap erase_opt (l.fresh u d); lock = l.lock }

  bare_tx : (z : Tx (S × Tally)) → erase_tx z ≡ NoTx → z ≡ NoTx
  bare_tx NoTx i = refl
  bare_tx (OpenTx b s ss) i = absurd (cc)
  bare_tx (GivingUp b s ss) i = absurd (cc)
  bare_tx (Closing b) i = absurd (cc)

  -- none of them waits or gives up
  pub never_waits : (answer : Clash → Choice) (t : ℕ) → is_waiting (turn a p answer t now).kind ≡ false
  never_waits answer t = by_end now.end refl
    where
      going : now.end ≡ None → Paid R a laws p small last (zeros qs)
      going i = paid R a laws p small memory input main reached free steps accesses order v e h k f qs (ap (λ m. m.end) same ∙ i)

      alone : Paid R a laws p small last (zeros qs) → now.end ≡ None → is_waiting (turn a p answer 0 now).kind ≡ false
      alone pd i =
          (lone_turn a p now (erase_local pd.now) (subst Lone same (lone_erased pd.lone)) answer (ap (λ m. m.threads 0) (sym same) ∙ ap erase_opt pd.at)
          (λ j. quiet R a laws p small memory input main reached free steps accesses order v e h k f last
          (shown R a laws p small memory input main reached free steps accesses order v e h k f qs) (ap (λ m. m.end) same ∙ i) pd.now pd.at
          (bare_tx pd.now.tx j))).1

      other : Paid R a laws p small last (zeros qs) → (t == 0) ≡ false → is_waiting (turn_of a p answer t now (now.threads t)).kind ≡ false
      other pd d = ap (λ o. is_waiting (turn_of a p answer t now o).kind) (ap (λ m. m.threads t) (sym same) ∙ ap erase_opt (pd.lone.fresh t d))

      by_end : (o : Option End) → now.end ≡ o → is_waiting (turn_at a p answer t now o).kind ≡ false
      by_end (Some x) i = refl
      by_end None i = elim (t == 0) as (λ b. (t == 0) ≡ b → is_waiting (turn_of a p answer t now (now.threads t)).kind ≡ false) [
        | true ↦ λ j. subst (λ u. is_waiting (turn_of a p answer u now (now.threads u)).kind ≡ false) (sym (eqb-true t 0 j))
            (ap (λ o. is_waiting (turn_at a p answer 0 now o).kind) (sym i) ∙ alone (going i) i)
        | false ↦ λ d. other (going i) d
      ] refl
