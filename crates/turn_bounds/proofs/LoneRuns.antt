-- The turns of a machine whose only thread comes to an end within a bound.
use Rattle.std.proofs.Common.{ℕ, zero, suc, ◌≡◌, ◌==◌, ◌≤◌, ◌<◌, ◌+◌, ◌*◌, ◌%◌, ◌/◌, ◌++◌, Bool, true, false, cond, refl, ap, sym, ◌∙◌, subst, length, List, [], ◌∷◌, Option, Some, None, arith}
use Rattle.std.specs.Prelude.{if◌then◌else◌}
use Rattle.std.proofs.Math.Nat.{mod-lt}
use Rattle.std.proofs.lemmas.Bool.{false≢true}
use Rattle.choosers.specs.declared.Clash.{Clash}
use Rattle.choosers.specs.declared.Choice.{Choice}
use Rattle.choosers.specs.declared.Choice.TheVariants.{Wait}
use Rattle.choosers.specs.declared.Seen.{Seen}
use Rattle.choosers.specs.Picks.{PickerName, pick, goes_on}
use Rattle.choosers.specs.Picks.PickerName.{Round, Clashing, Listed}
use Rattle.tx_events.specs.declared.TheConstants.{THREAD_LIMIT}
use Rattle.tx_events.specs.declared.End.{End}
use Rattle.tx_events.specs.declared.End.TheVariants.{StepsOut}
use Rattle.tx_events.specs.declared.TurnKind.{TurnKind}
use Rattle.tx_events.specs.declared.TurnKind.TheVariants.{Ran, Waited, BlockWait, JoinWait, Rolled, Undone, Released, Idle}
use Rattle.tx_events.specs.Thread.{Thread, Lawful}
use Rattle.tx_events.specs.Memory.{MemoryLayout}
use Rattle.tx_events.specs.World.{World, Replays, first_world}
use Rattle.tx_serial.specs.Machine.{Machine}
use Rattle.tx_serial.specs.Turn.{Slot, turns, turn, turn_at, first_machine}
use Rattle.tx_serial.specs.Bound.{Tally, no_tally, tally_in, tallied, AtMost, is_waiting, zeros}
use Rattle.tx_serial.specs.Run.{Counts, count_in, Progress, advance, advances, not_begun, seen, picks, PickedBy, NoEndBefore, Stops, Outcome, RunOf}
use Rattle.tx_serial.proofs.TurnBound.{ends_alone, never_waits}
use Rattle.tx_serial.proofs.PartialRuns.{paid}
use Rattle.tx_serial.proofs.HistoryErased.{erase, turns_erased, first_erased}
use Rattle.tx_serial.proofs.RecordedPicks.{machine_of}
use Rattle.turn_bounds.specs.Alone.{zeros_in, picks_started}

-- ---- lists of turns

abbrev first_slot : Slot
first_slot = record { thread = 0; answer = λ c. Wait }

-- so many turns of thread 0
abbrev slots_more : ℕ → List Slot
slots_more zero = []
slots_more (suc n) = first_slot ∷ slots_more n

more_zeros : (n : ℕ) → n ≤ zeros (slots_more n)
more_zeros zero = omega arith
more_zeros (suc n) = suc_le n (zeros (slots_more n)) (more_zeros n)
  where
    suc_le : (n m : ℕ) → n ≤ m → suc n ≤ suc m
    suc_le n m h = omega (arith, h)

zeros_behind : (xs : List Slot) (n : ℕ) → n ≤ zeros (xs ++ slots_more n)
zeros_behind [] n = more_zeros n
zeros_behind (x ∷ xs) n =
    let h = zeros_behind xs n in
    elim (x.thread == 0) as (λ k. n ≤ cond k (suc (zeros (xs ++ slots_more n))) (zeros (xs ++ slots_more n))) [
      | true ↦ le_suc n (zeros (xs ++ slots_more n)) h
      | false ↦ h
    ]
  where
    le_suc : (n m : ℕ) → n ≤ m → n ≤ suc m
    le_suc n m h = omega (arith, h)

pub zeros_picked : (qs : List Slot) → zeros_in (picks qs) ≡ zeros qs
zeros_picked [] = refl
zeros_picked (q ∷ qs) = ap (λ z. cond (q.thread == 0) (suc z) z) (zeros_picked qs)

some_same : {A : Type 0} (x y : A) → Some x ≡ Some y → x ≡ y
some_same x y e = cc

not_both : {A P : Type 0} (o : Option A) (x : A) → o ≡ None → o ≡ Some x → P
not_both o x e f = absurd (cc)

-- ---- picks

pub mod_one : (n m : ℕ) → m ≡ 1 → n % m ≡ 0
mod_one n m e = ap (λ z. n % z) e ∙ below_one (n % 1) (mod-lt n (omega arith))
  where
    below_one : (k : ℕ) → k < 1 → k ≡ 0
    below_one k h = omega (arith, h)

-- the last turn, if there was one, was thread 0's
abbrev FirstBefore : Option ℕ → Type 0
FirstBefore None = Unit {0}
FirstBefore (Some t) = t ≡ 0

first_picked : (picker : PickerName) → picks_started picker ≡ true → (n : ℕ) (s : Seen) (before : Option ℕ) (t : ℕ) → s.started ≡ 1 → FirstBefore before
    → pick picker n s before ≡ Some t → t ≡ 0
first_picked (Round slot) started n s before t one first e = sym (some_same (n / slot % s.started) t e) ∙ mod_one (n / slot) s.started one
first_picked Clashing started n s None t one first e = sym (some_same 0 t e)
first_picked Clashing started n s (Some u) t one first e = sym (some_same (if goes_on s then u else (u + 1) % s.started) t e) ∙ either (goes_on s)
  where
    either : (k : Bool) → (if k then u else (u + 1) % s.started) ≡ 0
    either true = first
    either false = mod_one (u + 1) s.started one
first_picked (Listed schedule) started n s before t one first e = absurd (false≢true started)

-- ---- counts

quiet_count : (kind : TurnKind) (c : Counts) → is_waiting kind ≡ false → c.waited ≡ 0 → c.rolled ≡ 0
    → ((count_in kind c).waited ≡ 0) × ((count_in kind c).rolled ≡ 0)
quiet_count Ran c q w r = (w, r)
quiet_count (Undone x) c q w r = (w, r)
quiet_count (Released x) c q w r = (w, r)
quiet_count (Waited x u) c q w r = absurd (false≢true (sym q))
quiet_count (BlockWait u) c q w r = absurd (false≢true (sym q))
quiet_count (Rolled x u) c q w r = absurd (false≢true (sym q))
quiet_count Idle c q w r = (w, r)
quiet_count (JoinWait u) c q w r = (w, r)

-- ---- turns

module _ {S : Type 0} (a : Thread S) (p : MemoryLayout) where
  turns_on : (xs ys : List Slot) (m : Machine S) → turns a p (xs ++ ys) m ≡ turns a p ys (turns a p xs m)
  turns_on [] ys m = refl
  turns_on (x ∷ xs) ys m = turns_on xs ys (turn a p x.answer x.thread m).machine

  -- after an end nothing changes
  ended_stays : (qs : List Slot) (m : Machine S) (x : End) → m.end ≡ Some x → turns a p qs m ≡ m
  ended_stays [] m x i = refl
  ended_stays (q ∷ qs) m x i = ap (λ o. turns a p qs (turn_at a p q.answer q.thread m o).machine) i ∙ ended_stays qs m x i

module _ {S : Type 0} (R : S → Type 0) (a : Thread S) (laws : Lawful S R a) (p : MemoryLayout) (small : p.limit ≤ THREAD_LIMIT) (memory : ℕ → ℕ)
    (input : List ℕ) (main : S) (reached : R main) (free : a.blocks main ≡ [])
    (steps accesses : ℕ) (order : List ℕ) (v : World (S × Tally)) (e : End) (h : Replays (tallied a) p (first_world memory input (main, no_tally)) order v)
    (k : AtMost a p steps accesses (first_world memory input (main, no_tally)) order v h) (f : v.end ≡ Some e) where
  abbrev first : Machine S
  first = first_machine memory input main

  pub enough_turns : (qs : List Slot) → steps + 2 * accesses ≤ zeros qs → ((turns a p qs first).end ≡ Some e) × ((turns a p qs first).out ≡ v.out)
  enough_turns qs many = ends_alone R a laws p small memory input main reached free steps accesses order v e h k f qs many

  pub never_waiting : (qs : List Slot) (answer : Clash → Choice) (t : ℕ) → is_waiting (turn a p answer t (turns a p qs first)).kind ≡ false
  never_waiting qs answer t = never_waits R a laws p small memory input main reached free steps accesses order v e h k f qs answer t

  -- whatever the turns, there is no other end
  pub only_end : (qs : List Slot) (x : End) → (turns a p qs first).end ≡ Some x → (x ≡ e) × ((turns a p qs first).out ≡ v.out)
  only_end qs x i =
      let n = steps + 2 * accesses in
      let all = enough_turns (qs ++ slots_more n) (zeros_behind qs n) in
      let same = turns_on a p qs (slots_more n) first ∙ ended_stays a p (slots_more n) (turns a p qs first) x i in
      (some_same x e (sym i ∙ ap (λ m. m.end) (sym same) ∙ all.0), ap (λ m. m.out) (sym same) ∙ all.1)

  -- until the end thread 0 is alone
  pub stays_alone : (qs : List Slot) → (turns a p qs first).end ≡ None → (turns a p qs first).started ≡ 1
  stays_alone qs i = sym (ap (λ m. m.started) same)
      ∙ (paid R a laws p small memory input main reached free steps accesses order v e h k f qs (ap (λ m. m.end) same ∙ i)).lone.started
    where
      same : erase (turns (tallied a) p qs (first_machine memory input (main, no_tally))) ≡ turns a p qs first
      same = turns_erased no_tally (λ n e r. tally_in e n) a p qs (first_machine memory input (main, no_tally))
          ∙ ap (turns a p qs) (first_erased no_tally (λ n e r. tally_in e n) a p memory input main)

  -- ---- runs

  next_turns : (xs : List Slot) (q : Slot) (m : Machine S) → m ≡ turns a p xs first → (turn a p q.answer q.thread m).machine ≡ turns a p (xs ++ q ∷ []) first
  next_turns xs q m i = ap (λ z. (turn a p q.answer q.thread z).machine) i ∙ sym (turns_on a p xs (q ∷ []) first)

  counts_after : (xs qs : List Slot) (r : Progress S) → r.machine ≡ turns a p xs first → r.counts.waited ≡ 0 → r.counts.rolled ≡ 0
      → ((advances a p qs r).counts.waited ≡ 0) × ((advances a p qs r).counts.rolled ≡ 0)
  counts_after xs [] r i w l = (w, l)
  counts_after xs (q ∷ qs) r i w l =
      let one = quiet_count (turn a p q.answer q.thread r.machine).kind r.counts
      (ap (λ z. is_waiting (turn a p q.answer q.thread z).kind) i ∙ never_waiting xs q.answer q.thread) w l in
      counts_after (xs ++ q ∷ []) qs (advance a p q r) (next_turns xs q r.machine i) one.0 one.1

  module _ (picker : PickerName) (started : picks_started picker ≡ true) where
    all_first : (xs qs : List Slot) (r : Progress S) → r.machine ≡ turns a p xs first → FirstBefore r.before → NoEndBefore a p qs r
        → PickedBy (λ s before. pick picker s.turn s before) a p qs r → zeros qs ≡ length qs
    all_first xs [] r i b going picked = refl
    all_first xs (q ∷ qs) r i b going picked =
        let one = ap (λ z. z.started) i ∙ stays_alone xs (ap (λ z. z.end) (sym i) ∙ going.0) in
        let is = first_picked picker started r.turn (seen r) r.before q.thread one b picked.0 in
        ap (λ t. cond (t == 0) (suc (zeros qs)) (zeros qs)) is
        ∙ ap suc (all_first (xs ++ q ∷ []) qs (advance a p q r) (next_turns xs q r.machine i) is going.1 picked.1)

  module _ (bound : ℕ) (qs : List Slot) (result : Outcome S) (run : RunOf a p bound first qs result) where
    abbrev Told : Type 0
    Told = (result.end ≡ e) × (result.out ≡ v.out)

    same_machine : (advances a p qs (not_begun first)).machine ≡ turns a p qs first
    same_machine = machine_of a p qs (not_begun first)

    ended : (x : End) → (turns a p qs first).end ≡ Some x → result.end ≡ x → Told
    ended x i is = let o = only_end qs x i in (is ∙ o.0, run.out ∙ ap (λ m. m.out) same_machine ∙ o.1)

    by_end : (o : Option End) → (turns a p qs first).end ≡ o → Stops bound (length qs) o result.end
        → ((turns a p qs first).end ≡ None → length qs ≡ bound → result.end ≡ StepsOut → Told) → Told
    by_end (Some x) i stops none = ended x i stops
    by_end None i stops none = none i stops.0 stops.1

    told : ((turns a p qs first).end ≡ None → length qs ≡ bound → result.end ≡ StepsOut → Told) → Told
    told none = by_end (turns a p qs first).end refl (subst (λ m. Stops bound (length qs) m.end result.end) same_machine run.stops) none

    -- a run that ends otherwise than by its bound
    pub not_out : (result.end ≡ StepsOut → ⊥) → Told
    not_out other = told (λ i full out. absurd (other out))

    -- a run in which thread 0 has so many turns
    pub in_time : steps + 2 * accesses ≤ zeros qs → Told
    in_time many = told (λ i full out. not_both (turns a p qs first).end e i (enough_turns qs many).0)

    -- a run under a picker that picks among the started threads, with so great a bound
    pub picked_in_time : (picker : PickerName) → picks_started picker ≡ true → PickedBy (λ s before. pick picker s.turn s before) a p qs (not_begun first)
        → steps + 2 * accesses ≤ bound → Told
    picked_in_time picker started picked many = told (λ i full out. not_both (turns a p qs first).end e i
        (enough_turns qs (subst (λ z. steps + 2 * accesses ≤ z)
        (sym (all_first picker started [] qs (not_begun first) refl tt run.going picked ∙ full)) many)).0)

    pub no_waits_counted : (result.counts.waited ≡ 0) × (result.counts.rolled ≡ 0)
    no_waits_counted =
        let c = counts_after [] qs (not_begun first) refl refl refl in
        (ap (λ z. z.waited) run.counts ∙ c.0, ap (λ z. z.rolled) run.counts ∙ c.1)
