-- A play grows by one turn at a time.
use Rattle.std.proofs.Common.{
  ℕ,
  ◌≡◌,
  ◌<◌,
  ◌≤◌,
  ◌+◌,
  ◌-◌,
  ◌^◌,
  inr,
  refl,
  ap,
  sym,
  ◌∙◌,
  subst,
  length,
  List,
  [],
  ◌∷◌,
  ◌++◌,
  Option,
  Some,
  None,
  is_some,
  true,
  false,
  Bool,
  arith,
}
use Rattle.choosers.specs.declared.Clash.{Clash}
use Rattle.choosers.specs.declared.Choice.{Choice}
use Rattle.choosers.specs.declared.Seen.{Seen}
use Rattle.tx_events.specs.declared.actor.Actor.{Ghosts}
use Rattle.tx_events.specs.declared.End.{End}
use Rattle.tx_events.specs.Memory.{MemoryLayout}
use Rattle.tx_events.specs.Thread.{Thread}
use Rattle.tx_serial.specs.Machine.{Machine}
use Rattle.tx_serial.specs.Turn.{Slot}
use Rattle.tx_serial.specs.Run.{Progress, advance, advances, not_begun, seen, picks}
use Rattle.tx_serial.proofs.OnePolicy.{lengths}
use Rattle.tx_serial.proofs.GrowingRuns.{picks_grow, length_grows, advances_grow, going_grows, answered_grows, picks_to_grow}
use Rattle.tx_runtime.specs.Runtime.{machine_of}
use Rattle.tx_machine.specs.declared.course.Course.{Course}
use Rattle.tx_machine.specs.Course.{Shows, OneTurn, Plays, Played, Asks}
use Rattle.tx_machine.specs.Watch.{Sight, watched, watched_turn}

watched_grows : {S P W : Type 0} (sight : Sight S P W) (a : Thread S) (p : MemoryLayout) (qs : List Slot) (q : Slot) (r : Progress S) (w : W)
    → watched sight a p (qs ++ q ∷ []) r w ≡ watched_turn sight a p q (advances a p qs r) (watched sight a p qs r w)
watched_grows sight a p [] q r w = refl
watched_grows sight a p (k ∷ qs) q r w = watched_grows sight a p qs q (advance a p k r) (watched_turn sight a p k r w)

pub no_end : (o : Option End) (ended : Bool) → ended ≡ is_some o → ended ≡ false → o ≡ None
no_end None ended e f = refl
no_end (Some x) ended e f = cc

-- so many turns were taken from the start
pub record Going {A K G P W : Type 0} {g : Ghosts A K} (p : MemoryLayout) (policy : Clash → Choice → Type 0) (step : G → Seen → ℕ → G → Type 0)
    (sight : Sight g.State P W) (count : ℕ) (first : Machine g.State) (course : Course A K g) (before after : G) (saw sees : W) : Type 0 where
  pub slots : List Slot
  pub plays : Plays g.thread p policy step sight first slots before after saw sees
  pub shows : Shows course (advances g.thread p slots (not_begun first))
  pub picks : course.picked.items ≡ picks slots
  pub taken : length slots ≡ count

module _ {A K G P W : Type 0} {g : Ghosts A K} (p : MemoryLayout) (policy : Clash → Choice → Type 0) (step : G → Seen → ℕ → G → Type 0)
    (sight : Sight g.State P W) where
  pub begun : (course : Course A K g) (before : G) (saw : W) → Shows course (not_begun (machine_of course.runtime))
      → Going p policy step sight 0 (machine_of course.runtime) course before before saw saw
  begun course before saw shows = record {
    slots = [];
    plays = record { going = tt; answered = tt; picked = refl; watched = refl };
    shows = shows;
    picks = none course.picked.items shows.turn;
    taken = refl;
  } where
    none : (xs : List ℕ) → length xs ≡ 0 → xs ≡ []
    none [] e = refl
    none (x ∷ xs) e = absurd (omega (arith, e))

  module _ (taken : ℕ) (first : Machine g.State) (course : Course A K g) (before mid : G) (saw seen-so-far : W)
      (h : Going p policy step sight taken first course before mid saw seen-so-far) where
    abbrev so_far : Progress g.State
    so_far = advances g.thread p h.slots (not_begun first)

    pub onward : (next : Course A K g) (after : G) (sees : W) → (machine_of course.runtime).end ≡ None → (q : MemoryLayout) → q ≡ p
        → OneTurn q policy step sight course next mid after seen-so-far sees so_far → Going p policy step sight (taken + 1) first next before after saw sees
    onward next after sees going q layout is =
        let one = subst (λ z. OneTurn z policy step sight course next mid after seen-so-far sees so_far) layout is in
        let slots = h.slots ++ one.slot ∷ [] in
        let end : so_far.machine.end ≡ None = sym (ap (λ m. m.end) h.shows.machine) ∙ going in
        record {
          slots = slots;
          plays = record {
            going = going_grows g.thread p h.slots one.slot (not_begun first) h.plays.going end;
            answered = answered_grows g.thread p policy h.slots one.slot (not_begun first) h.plays.answered one.answered;
            picked = picks_to_grow g.thread p step h.slots one.slot (not_begun first) before mid after h.plays.picked one.picked;
            watched = one.watched
                ∙ (ap (watched_turn sight g.thread p one.slot so_far) h.plays.watched
                ∙ sym (watched_grows sight g.thread p h.slots one.slot (not_begun first) saw));
          };
          shows = subst (Shows next) (sym (advances_grow g.thread p h.slots one.slot (not_begun first))) one.shows;
          picks = one.picks ∙ (ap (λ xs. xs ++ one.slot.thread ∷ []) h.picks ∙ sym (picks_grow h.slots one.slot));
          taken = length_grows h.slots one.slot ∙ ap (λ n. n + 1) h.taken;
        }

    pub few : (bound : ℕ) → taken < bound → bound < 2 ^ 32 → length course.picked.items < 2 ^ 32 - 1
    few bound below small = let n = ap length h.picks ∙ (lengths h.slots ∙ h.taken) in omega (arith, n, below, small)

    pub stopped : (bound : ℕ) → taken ≤ bound → is_some (machine_of course.runtime).end ≡ true
        → Played p policy step sight bound first course before mid saw seen-so-far
    stopped bound within ended = record {
      slots = h.slots;
      plays = h.plays;
      shows = h.shows;
      picks = h.picks;
      within = let n = h.taken in omega (arith, n, within);
      stopped = λ none. absurd (not_both (machine_of course.runtime).end ended none);
    } where
      not_both : (o : Option End) → is_some o ≡ true → o ≡ None → ⊥
      not_both None h e = cc
      not_both (Some x) h e = cc

    pub bounded : (bound : ℕ) → taken ≡ bound → Played p policy step sight bound first course before mid saw seen-so-far
    bounded bound all = record {
      slots = h.slots;
      plays = h.plays;
      shows = h.shows;
      picks = h.picks;
      within = let n = h.taken in omega (arith, n, all);
      stopped = λ none. h.taken ∙ all;
    }

    pub failed : (after : G) → ((r : Progress g.State) → Shows course r → (t : ℕ) × step mid (seen r) t after)
        → (slots : List Slot) × Asks g.thread p policy step first slots before after
    failed after asked = (
      h.slots,
      record { going = h.plays.going; answered = h.plays.answered; mid = mid; picked = h.plays.picked; once = inr (asked so_far h.shows) },
    )
