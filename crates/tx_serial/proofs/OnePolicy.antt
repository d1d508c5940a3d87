-- Turns under a policy whose answer is a function of the clash are those of one answer throughout.
use Rattle.std.proofs.Common.{ℕ, suc, ◌≡◌, ◌≤◌, ◌+◌, refl, ap, sym, ◌∙◌, subst, length, List, [], ◌∷◌, Option, Some}
use Rattle.choosers.specs.declared.Clash.{Clash}
use Rattle.choosers.specs.declared.Choice.{Choice}
use Rattle.choosers.specs.declared.Seen.{Seen}
use Rattle.tx_events.specs.Thread.{Thread}
use Rattle.tx_events.specs.Memory.{MemoryLayout}
use Rattle.tx_serial.specs.Machine.{Machine}
use Rattle.tx_serial.specs.Turn.{Slot}
use Rattle.tx_serial.specs.Kinds.{Asked}
use Rattle.tx_serial.specs.Run.{
  Progress,
  advance,
  advances,
  not_begun,
  count_in,
  inside,
  state_in,
  picks,
  slots_of,
  PickedBy,
  AnsweredBy,
  is_answer,
  NoEndBefore,
  Stops,
  trap_place,
  Outcome,
  RunOf,
}
use Rattle.tx_serial.proofs.PolicyAnswers.{turn_same}

pub picks_of : (answer : Clash → Choice) (ts : List ℕ) → picks (slots_of answer ts) ≡ ts
picks_of answer [] = refl
picks_of answer (t ∷ ts) = ap (λ us. t ∷ us) (picks_of answer ts)

pub lengths : (qs : List Slot) → length (picks qs) ≡ length qs
lengths [] = refl
lengths (q ∷ qs) = ap suc (lengths qs)

same_length : (answer : Clash → Choice) (qs : List Slot) → length (slots_of answer (picks qs)) ≡ length qs
same_length answer [] = refl
same_length answer (q ∷ qs) = ap suc (same_length answer qs)

module _ {S : Type 0} (a : Thread S) (p : MemoryLayout) (answer : Clash → Choice) where
  pub all_answered : (ts : List ℕ) (r : Progress S) → AnsweredBy (is_answer answer) a p (slots_of answer ts) r
  all_answered [] r = tt
  all_answered (t ∷ ts) r = (λ c asked. refl, all_answered ts (advance a p (record { thread = t; answer = answer }) r))

  -- the turn of the same thread, with that answer
  abbrev plain : Slot → Slot
  plain q = record { thread = q.thread; answer = answer }

  one_turn : (q : Slot) (r : Progress S) → ((c : Clash) → Asked a p q.thread r.machine c → is_answer answer c (q.answer c))
      → advance a p q r ≡ advance a p (plain q) r
  one_turn q r h = ap
      (λ done. record {
        machine = done.machine;
        turn = r.turn + 1;
        before = Some q.thread;
        place = state_in (r.machine.threads q.thread);
        last = Some done.kind;
        inside = inside a q.thread r.machine done.kind;
        counts = count_in done.kind r.counts;
      })
      (turn_same a p q.answer answer q.thread r.machine h)

  straight : (qs : List Slot) (r : Progress S) → AnsweredBy (is_answer answer) a p qs r → advances a p qs r ≡ advances a p (slots_of answer (picks qs)) r
  straight [] r h = refl
  straight (q ∷ qs) r h = straight qs (advance a p q r) h.1 ∙ ap (advances a p (slots_of answer (picks qs))) (one_turn q r h.0)

  straight_going : (qs : List Slot) (r : Progress S) → AnsweredBy (is_answer answer) a p qs r → NoEndBefore a p qs r
      → NoEndBefore a p (slots_of answer (picks qs)) r
  straight_going [] r h g = tt
  straight_going (q ∷ qs) r h g = (g.0, subst (NoEndBefore a p (slots_of answer (picks qs))) (one_turn q r h.0) (straight_going qs (advance a p q r) h.1 g.1))

  pub straight_picked : (pick : Seen → Option ℕ → Option ℕ) (qs : List Slot) (r : Progress S) → AnsweredBy (is_answer answer) a p qs r → PickedBy pick a p qs r
      → PickedBy pick a p (slots_of answer (picks qs)) r
  straight_picked pick [] r h g = tt
  straight_picked pick (q ∷ qs) r h g =
      (g.0, subst (PickedBy pick a p (slots_of answer (picks qs))) (one_turn q r h.0) (straight_picked pick qs (advance a p q r) h.1 g.1))

  pub straight_run : (bound : ℕ) (first : Machine S) (qs : List Slot) (result : Outcome S) → RunOf a p bound first qs result
      → AnsweredBy (is_answer answer) a p qs (not_begun first)
      → RunOf a p bound first (slots_of answer (picks qs)) result
  straight_run bound first qs result h g =
      let same = straight qs (not_begun first) g in record {
        within = subst (λ n. n ≤ bound) (sym (same_length answer qs)) h.within;
        going = straight_going qs (not_begun first) g h.going;
        stops = subst (λ n. Stops bound n (advances a p (slots_of answer (picks qs)) (not_begun first)).machine.end result.end) (sym (same_length answer qs))
            (subst (λ (r : Progress S). Stops bound (length qs) r.machine.end result.end) same h.stops);
        out = h.out ∙ ap (λ r. r.machine.out) same;
        input = h.input ∙ ap (λ r. r.machine.input) same;
        order = h.order ∙ ap (λ r. r.machine.order) same;
        picked = h.picked ∙ sym (picks_of answer (picks qs));
        counts = h.counts ∙ ap (λ r. r.counts) same;
        place = h.place ∙ ap (λ r. trap_place result.end r.place) same;
      }
