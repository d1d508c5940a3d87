-- A run under recorded picks.
use Rattle.std.proofs.Common.{ℕ, zero, suc, ◌≡◌, ◌≤◌, ◌<◌, ◌+◌, List, [], ◌∷◌, length, drop, Option, Some, None, refl, sym, ap, subst, ◌∙◌, arith}
use Rattle.std.specs.Prelude.{slice_get, min}
use Rattle.std.specs.Option.{option_map}
use Rattle.choosers.specs.Answers.{PolicyName, answer}
use Rattle.choosers.specs.Picks.{PickerName, pick}
use Rattle.choosers.specs.Picks.PickerName.{Round, Clashing, Listed}
use Rattle.tx_code.specs.Images.{ImageView}
use Rattle.tx_events.specs.declared.End.{End}
use Rattle.tx_events.specs.Memory.{MemoryLayout}
use Rattle.tx_events.specs.Thread.{Thread}
use Rattle.tx_serial.specs.Machine.{Machine}
use Rattle.tx_serial.specs.Run.{Outcome, PickedBy, Progress, RunOf, Stops, Together, advance, advances, not_begun, picks, turns_within}
use Rattle.tx_serial.specs.Turn.{Slot}
use Rattle.tx_serial.proofs.OnePolicy.{lengths}
use Rattle.tx_serial.proofs.RecordedPicks.{again}
use Rattle.tx_machine.specs.ImageRuns.{here_of, layout_of_image, machine_at_main}
use Rattle.tx_machine.specs.declared.run.Ran.{Ran}
use Rattle.vm_thread.specs.Threads.{Running, running}
use Rattle.vm_thread.specs.declared.thread.Here.{Here}
use Rattle.named_runs.specs.NamedRuns.{IsNamedRun, IsSameRan}

one_more : (n : ℕ) → suc n ≡ n + 1
one_more n = omega arith

drop_get : (whole : List ℕ) (n x : ℕ) → slice_get whole n ≡ Some x → drop n whole ≡ x ∷ drop (suc n) whole
drop_get [] zero x e = absurd (cc)
drop_get [] (suc n) x e = absurd (cc)
drop_get (y ∷ ys) zero x e = ap (λ z. z ∷ ys) (one y x e)
  where
    one : (y x : ℕ) → Some y ≡ Some x → y ≡ x
    one y x e = cc
drop_get (y ∷ ys) (suc n) x e = drop_get ys n x e

none_together : (ts : List ℕ) → Together ts []
none_together [] = tt
none_together (t ∷ ts) = tt

-- the turns of a schedule are of its entries
listed_together : {S : Type 0} (a : Thread S) (p : MemoryLayout) (whole : List ℕ) (slots : List Slot) (r : Progress S)
    → PickedBy (λ seen before. pick (Listed whole) seen.turn seen before) a p slots r → Together (drop r.turn whole) (picks slots)
listed_together a p whole [] r h = none_together (drop r.turn whole)
listed_together a p whole (q ∷ qs) r (at, rest) =
    subst (λ l. Together l (q.thread ∷ picks qs)) (sym (drop_get whole r.turn q.thread at ∙ ap (λ n. q.thread ∷ drop n whole) (one_more r.turn)))
    (refl, listed_together a p whole qs (advance a p q r) rest)

-- a run is one of no more turns than it has
own_stop : (bound taken : ℕ) (o : Option End) (e : End) → Stops bound taken o e → Stops taken taken o e
own_stop bound taken (Some x) e s = s
own_stop bound taken None e s = (refl, s.1)

own_bound : {S : Type 0} (a : Thread S) (p : MemoryLayout) (bound : ℕ) (first : Machine S) (slots : List Slot) (r : Outcome S) → RunOf a p bound first slots r
    → RunOf a p (length slots) first slots r
own_bound a p bound first slots r h = record {
  within = omega arith;
  going = h.going;
  stops = own_stop bound (length slots) (advances a p slots (not_begun first)).machine.end r.end h.stops;
  out = h.out;
  input = h.input;
  order = h.order;
  picked = h.picked;
  counts = h.counts;
  place = h.place;
}

few_turns : (bound : ℕ) (picker : PickerName) → turns_within bound picker ≤ bound
few_turns bound (Round slot) = omega arith
few_turns bound Clashing = omega arith
few_turns bound (Listed schedule) = omega arith

pub same_run : (image : ImageView) (picker : PickerName) (policy : PolicyName) (bound : ℕ) (input : List ℕ) (ran other : Ran Here)
    → IsNamedRun image picker policy bound input ran
    → IsNamedRun image (Listed ran.picked.items) policy bound input other → IsSameRan other ran
same_run image picker policy bound input ran other h g =
    let first = machine_at_main image input in
    let many : length ran.picked.items ≡ length h.slots = ap length (h.is.picked ∙ h.run.picked) ∙ lengths h.slots in
    let few = few_turns bound picker in
    let within = h.run.within in
    let turns : turns_within bound (Listed ran.picked.items) ≡ length h.slots = omega (arith, many, few, within) in
    let theirs = subst (λ n. RunOf running (layout_of_image image) n first g.slots g.outcome) turns g.run in
    let tog : Together h.outcome.picked g.outcome.picked =
    subst (Together h.outcome.picked) (sym g.run.picked)
    (subst (λ l. Together l (picks g.slots)) h.is.picked
    (listed_together running (layout_of_image image) ran.picked.items g.slots (not_begun first) g.picked)) in
    let same : g.outcome ≡ h.outcome =
    again running (layout_of_image image) (length h.slots) first (answer policy) h.slots g.slots h.outcome g.outcome
    (own_bound running (layout_of_image image) (turns_within bound picker) first h.slots h.outcome h.run) h.answered theirs g.answered tog in
    record {
      out = g.is.out ∙ ap (λ (o : Outcome Running). o.out) same ∙ sym h.is.out;
      end = g.is.end ∙ ap (λ (o : Outcome Running). o.end) same ∙ sym h.is.end;
      order = g.is.order ∙ ap (λ (o : Outcome Running). o.order) same ∙ sym h.is.order;
      picked = g.is.picked ∙ ap (λ (o : Outcome Running). o.picked) same ∙ sym h.is.picked;
      ran = ap (λ c. c.ran) (g.is.counts ∙ ap (λ (o : Outcome Running). o.counts) same ∙ sym h.is.counts);
      waited = ap (λ c. c.waited) (g.is.counts ∙ ap (λ (o : Outcome Running). o.counts) same ∙ sym h.is.counts);
      rolled = ap (λ c. c.rolled) (g.is.counts ∙ ap (λ (o : Outcome Running). o.counts) same ∙ sym h.is.counts);
      idle = ap (λ c. c.idle) (g.is.counts ∙ ap (λ (o : Outcome Running). o.counts) same ∙ sym h.is.counts);
      place = g.is.place ∙ ap (λ (o : Outcome Running). option_map here_of o.place) same ∙ sym h.is.place;
    }
