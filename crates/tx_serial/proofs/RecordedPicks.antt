-- Runs: each picker has one, and the recorded picks give it again.
use Rattle.std.proofs.Common.{ℕ, zero, suc, ◌≡◌, ◌≤◌, ◌<◌, ◌+◌, true, refl, ap, sym, ◌∙◌, subst, length, List, [], ◌∷◌, Option, Some, None, arith}
use Rattle.std.specs.Prelude.{is_some}
use Rattle.std.proofs.lemmas.Bool.{false≢true}
use Rattle.choosers.specs.declared.Clash.{Clash}
use Rattle.choosers.specs.declared.Choice.{Choice}
use Rattle.choosers.specs.declared.Seen.{Seen}
use Rattle.tx_events.specs.declared.End.{End}
use Rattle.tx_events.specs.declared.End.TheVariants.{StepsOut}
use Rattle.tx_events.specs.declared.TurnKind.{TurnKind}
use Rattle.tx_events.specs.declared.TurnKind.TheVariants.{Ran, Waited, BlockWait, JoinWait, Rolled, Undone, Released, Idle}
use Rattle.tx_events.specs.Thread.{Thread}
use Rattle.tx_events.specs.Memory.{MemoryLayout}
use Rattle.tx_serial.specs.Machine.{Machine}
use Rattle.tx_serial.specs.Turn.{Slot, turns, turn}
use Rattle.tx_events.specs.World.{World, Replays}
use Rattle.tx_serial.specs.Shows.{ShownByReplay}
use Rattle.tx_serial.specs.Laws.{EndsAs, Replayed}
use Rattle.tx_serial.specs.Run.{
  Counts,
  count_in,
  sum_of,
  Progress,
  advance,
  advances,
  not_begun,
  seen,
  picks,
  PickedBy,
  AnsweredBy,
  is_answer,
  NoEndBefore,
  Stops,
  trap_place,
  Outcome,
  RunOf,
  slots_of,
  Together,
}
use Rattle.tx_serial.proofs.OnePolicy.{picks_of, lengths, all_answered, straight_run, straight_picked}

count_one : (kind : TurnKind) (c : Counts) → sum_of (count_in kind c) ≡ sum_of c + 1
count_one Ran c = omega arith
count_one (Undone x) c = omega arith
count_one (Released x) c = omega arith
count_one (Waited x u) c = omega arith
count_one (BlockWait u) c = omega arith
count_one (Rolled x u) c = omega arith
count_one Idle c = omega arith
count_one (JoinWait n) c = omega arith

module _ {S : Type 0} (a : Thread S) (p : MemoryLayout) where
  -- the machine of a run is that of its turns
  pub machine_of : (slots : List Slot) (r : Progress S) → (advances a p slots r).machine ≡ turns a p slots r.machine
  machine_of [] r = refl
  machine_of (q ∷ qs) r = machine_of qs (advance a p q r)

  -- each turn is counted once
  pub all_counted : (slots : List Slot) (r : Progress S) → sum_of (advances a p slots r).counts ≡ length slots + sum_of r.counts
  all_counted [] r = omega arith
  all_counted (q ∷ qs) r =
      let rest = all_counted qs (advance a p q r) in
      let one = count_one (turn a p q.answer q.thread r.machine).kind r.counts in
      omega (arith, rest, one)

  no_longer : (e : End) → Some e ≡ None → ⊥
  no_longer e h = cc

  -- with one policy, two runs whose picks agree as far as both go are one run
  same_picks : (answer : Clash → Choice) (bound taken : ℕ) (ts us : List ℕ) (r : Progress S) (e f : End)
      → NoEndBefore a p (slots_of answer ts) r → NoEndBefore a p (slots_of answer us) r
      → taken + length (slots_of answer ts) ≤ bound → taken + length (slots_of answer us) ≤ bound
      → Stops bound (taken + length (slots_of answer ts)) (advances a p (slots_of answer ts) r).machine.end e
      → Stops bound (taken + length (slots_of answer us)) (advances a p (slots_of answer us) r).machine.end f
      → Together ts us → us ≡ ts
  same_picks answer bound taken [] [] r e f g h i j k l tog = refl
  same_picks answer bound taken [] (u ∷ us) r e f g h i j k l tog = by_end r.machine.end k h.0
    where
      by_end : (o : Option End) → Stops bound (taken + 0) o e → o ≡ None → (u ∷ us) ≡ []
      by_end (Some x) s n = absurd (no_longer x n)
      by_end None s n = let z = s.0 in absurd (omega (arith, z, j))
  same_picks answer bound taken (t ∷ ts) [] r e f g h i j k l tog = by_end r.machine.end l g.0
    where
      by_end : (o : Option End) → Stops bound (taken + 0) o f → o ≡ None → [] ≡ (t ∷ ts)
      by_end (Some x) s n = absurd (no_longer x n)
      by_end None s n = let z = s.0 in absurd (omega (arith, z, i))
  same_picks answer bound taken (t ∷ ts) (u ∷ us) r e f g h i j k l tog =
      let next = advance a p (record { thread = t; answer = answer }) r in
      let more : (vs : List ℕ) → taken + length (slots_of answer (t ∷ vs)) ≡ (taken + 1) + length (slots_of answer vs) = λ vs. omega arith in
      let h' = subst (λ z. NoEndBefore a p (slots_of answer us) (advance a p (record { thread = z; answer = answer }) r)) tog.0 h.1 in
      let l' = subst
      (λ z. Stops bound (taken + length (slots_of answer (t ∷ us)))
      (advances a p (slots_of answer us) (advance a p (record { thread = z; answer = answer }) r)).machine.end f) tog.0 l in
      let rest = same_picks answer bound (taken + 1) ts us next e f g.1 h' (omega (arith, i)) (omega (arith, j))
      (subst (λ n. Stops bound n (advances a p (slots_of answer ts) next).machine.end e) (more ts) k)
      (subst (λ n. Stops bound n (advances a p (slots_of answer us) next).machine.end f) (more us) l')
      tog.1 in
      ap (λ z. z ∷ us) tog.0 ∙ ap (λ zs. t ∷ zs) rest

  same_stop : (bound taken : ℕ) (o : Option End) (e f : End) → Stops bound taken o e → Stops bound taken o f → f ≡ e
  same_stop bound taken (Some x) e f s z = z ∙ sym s
  same_stop bound taken None e f s z = z.1 ∙ sym s.1

  -- one list of turns comes to one outcome
  pub one_outcome : (bound : ℕ) (first : Machine S) (slots : List Slot) (r s : Outcome S) → RunOf a p bound first slots r → RunOf a p bound first slots s
      → s ≡ r
  one_outcome bound first slots r s h g =
      let end = same_stop bound (length slots) (advances a p slots (not_begun first)).machine.end r.end s.end h.stops g.stops in
      let out = g.out ∙ sym h.out in
      let input = g.input ∙ sym h.input in
      let order = g.order ∙ sym h.order in
      let picked = g.picked ∙ sym h.picked in
      let counts = g.counts ∙ sym h.counts in
      let place = g.place ∙ (ap (λ e. trap_place e (advances a p slots (not_begun first)).place) end ∙ sym h.place) in
      λ i. record { out = out i; input = input i; end = end i; order = order i; picked = picked i; counts = counts i; place = place i }

  -- two runs under one policy, whose answers are a function, are one where their threads agree as far as both go
  same_run : (bound : ℕ) (first : Machine S) (answer : Clash → Choice) (ts us : List ℕ) (r s : Outcome S)
      → RunOf a p bound first (slots_of answer ts) r → RunOf a p bound first (slots_of answer us) s → Together ts us → s ≡ r
  same_run bound first answer ts us r s h g tog =
      let same = same_picks answer bound 0 ts us (not_begun first) r.end s.end h.going g.going (let w = h.within in omega (arith, w))
      (let w = g.within in omega (arith, w))
      (subst (λ n. Stops bound n (advances a p (slots_of answer ts) (not_begun first)).machine.end r.end) (omega arith) h.stops)
      (subst (λ n. Stops bound n (advances a p (slots_of answer us) (not_begun first)).machine.end s.end) (omega arith) g.stops)
      tog in
      one_outcome bound first (slots_of answer ts) r s h (subst (λ z. RunOf a p bound first (slots_of answer z) s) same g)

  pub again : (bound : ℕ) (first : Machine S) (answer : Clash → Choice) (slots others : List Slot) (r s : Outcome S)
      → RunOf a p bound first slots r → AnsweredBy (is_answer answer) a p slots (not_begun first) → RunOf a p bound first others s
      → AnsweredBy (is_answer answer) a p others (not_begun first) → Together r.picked s.picked → s ≡ r
  again bound first answer slots others r s h i g j tog =
      same_run bound first answer (picks slots) (picks others) r s (straight_run a p answer bound first slots r h i)
      (straight_run a p answer bound first others s g j)
      (subst (λ z. Together z (picks others)) h.picked (subst (Together r.picked) g.picked tog))

  -- from any progress, a picker that picks below the bound and a policy have a list of turns that stops
  record Goes (pick : Seen → Option ℕ → Option ℕ) (answer : Clash → Choice) (left : ℕ) (r : Progress S) : Type 0 where
    turns : List ℕ
    end : End
    within : length (slots_of answer turns) ≤ left
    going : NoEndBefore a p (slots_of answer turns) r
    picked : PickedBy pick a p (slots_of answer turns) r
    stops : Stops left (length (slots_of answer turns)) (advances a p (slots_of answer turns) r).machine.end end

  step_stop : (left taken : ℕ) (o : Option End) (e : End) → Stops left taken o e → Stops (suc left) (suc taken) o e
  step_stop left taken (Some x) e s = s
  step_stop left taken None e s = (ap suc s.0, s.1)

  module _ (pick : Seen → Option ℕ → Option ℕ) (answer : Clash → Choice) (bound : ℕ)
      (can : (s : Seen) (before : Option ℕ) → s.turn < bound → is_some (pick s before) ≡ true) where
    at_end : (left : ℕ) (r : Progress S) (e : End) → r.machine.end ≡ Some e → Goes pick answer left r
    at_end left r e i = record { turns = []; end = e; within = omega arith; going = tt; picked = tt; stops = subst (λ o. Stops left 0 o e) (sym i) refl }

    goes : (left : ℕ) (r : Progress S) → r.turn + left ≡ bound → Goes pick answer left r
    goes zero r fits = by_end r.machine.end refl
      where
        by_end : (o : Option End) → r.machine.end ≡ o → Goes pick answer zero r
        by_end None i = record {
          turns = [];
          end = StepsOut;
          within = omega arith;
          going = tt;
          picked = tt;
          stops = subst (λ o. Stops 0 0 o StepsOut) (sym i) (refl, refl);
        }
        by_end (Some e) i = at_end zero r e i
    goes (suc left) r fits = by_end (λ s f. goes left s f) r.machine.end refl
      where
        by_pick : ((s : Progress S) → s.turn + left ≡ bound → Goes pick answer left s) → (o : Option ℕ) → pick (seen r) r.before ≡ o → r.machine.end ≡ None
            → Goes pick answer (suc left) r
        by_pick onward None none i = absurd (false≢true (sym (ap is_some none) ∙ can (seen r) r.before (omega (arith, fits))))
        by_pick onward (Some t) some i =
            let next = advance a p (record { thread = t; answer = answer }) r in
            let rest = onward next (omega (arith, fits)) in
            record {
              turns = t ∷ rest.turns;
              end = rest.end;
              within = let w = rest.within in omega (arith, w);
              going = (i, rest.going);
              picked = (some, rest.picked);
              stops = step_stop left (length (slots_of answer rest.turns)) (advances a p (slots_of answer rest.turns) next).machine.end rest.end rest.stops;
            }

        by_end : ((s : Progress S) → s.turn + left ≡ bound → Goes pick answer left s) → (o : Option End) → r.machine.end ≡ o → Goes pick answer (suc left) r
        by_end onward (Some e) i = at_end (suc left) r e i
        by_end onward None i = by_pick onward (pick (seen r) r.before) refl i

    pub has_run : (first : Machine S)
        → (slots : List Slot) × (result : Outcome S) × RunOf a p bound first slots result × AnsweredBy (is_answer answer) a p slots (not_begun first)
        × PickedBy pick a p slots (not_begun first)
    has_run first =
        let run = goes bound (not_begun first) (omega arith) in
        let last = advances a p (slots_of answer run.turns) (not_begun first) in (
          slots_of answer run.turns,
          record {
            out = last.machine.out;
            input = last.machine.input;
            end = run.end;
            order = last.machine.order;
            picked = run.turns;
            counts = last.counts;
            place = trap_place run.end last.place;
          },
          record {
            within = run.within;
            going = run.going;
            stops = run.stops;
            out = refl;
            input = refl;
            order = refl;
            picked = sym (picks_of answer run.turns);
            counts = refl;
            place = refl;
          },
          all_answered a p answer run.turns (not_begun first),
          run.picked,
        )

  -- the turns of one picker agree
  one_pick : {t u : ℕ} → Some u ≡ Some t → u ≡ t
  one_pick e = cc

  together : (pick : Seen → Option ℕ → Option ℕ) (answer : Clash → Choice) (ts us : List ℕ) (r : Progress S) → PickedBy pick a p (slots_of answer ts) r
      → PickedBy pick a p (slots_of answer us) r → Together ts us
  together pick answer [] us r h g = tt
  together pick answer (t ∷ ts) [] r h g = tt
  together pick answer (t ∷ ts) (u ∷ us) r h g =
      let same : u ≡ t = one_pick (sym g.0 ∙ h.0) in (
        same,
        together pick answer ts us (advance a p (record { thread = t; answer = answer }) r) h.1
            (subst (λ z. PickedBy pick a p (slots_of answer us) (advance a p (record { thread = z; answer = answer }) r)) same g.1),
      )

  pub one_run : (bound : ℕ) (first : Machine S) (pick : Seen → Option ℕ → Option ℕ) (answer : Clash → Choice) (slots others : List Slot) (r s : Outcome S)
      → RunOf a p bound first slots r → AnsweredBy (is_answer answer) a p slots (not_begun first) → PickedBy pick a p slots (not_begun first)
      → RunOf a p bound first others s → AnsweredBy (is_answer answer) a p others (not_begun first) → PickedBy pick a p others (not_begun first) → s ≡ r
  one_run bound first pick answer slots others r s h x i g y j =
      same_run bound first answer (picks slots) (picks others) r s (straight_run a p answer bound first slots r h x)
      (straight_run a p answer bound first others s g y)
      (together pick answer (picks slots) (picks others) (not_begun first) (straight_picked a p answer pick slots (not_begun first) x i)
      (straight_picked a p answer pick others (not_begun first) y j))

  pub run_counted : (bound : ℕ) (first : Machine S) (slots : List Slot) (r : Outcome S) → RunOf a p bound first slots r → sum_of r.counts ≡ length r.picked
  run_counted bound first slots r h = ap sum_of h.counts
      ∙ (all_counted slots (not_begun first) ∙ (omega arith ∙ (sym (lengths slots) ∙ ap length (sym h.picked))))

  ends_as : (bound taken : ℕ) (o : Option End) (e : End) → Stops bound taken o e → EndsAs o e
  ends_as bound taken None e h = h.1
  ends_as bound taken (Some x) e h = h

  pub run_replayed : (start : World S) (bound : ℕ) (first : Machine S) (slots : List Slot) (r : Outcome S) → RunOf a p bound first slots r
      → ShownByReplay a p start (turns a p slots first) → Replayed a p start r
  run_replayed start bound first slots r h f =
      let same = machine_of slots (not_begun first) in record {
        world = f.world;
        replays = subst (λ o. Replays a p start o f.world) (sym (h.order ∙ ap (λ m. m.order) same)) f.replays;
        out = h.out ∙ (ap (λ m. m.out) same ∙ sym f.shows.out);
        input = h.input ∙ (ap (λ m. m.input) same ∙ sym f.shows.input);
        end = subst (λ o. EndsAs o r.end) (ap (λ m. m.end) same ∙ sym f.shows.end)
            (ends_as bound (length slots) (advances a p slots (not_begun first)).machine.end r.end h.stops);
      }
