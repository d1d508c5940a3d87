-- From what was compared to what notes ask for.
use Rattle.std.proofs.Common.{ℕ, zero, suc, ◌≡◌, ◌+◌, ◌<◌, ◌≤◌, ◌⊎◌, refl, ap, sym, ◌∙◌, subst, Bool, List, arith}
use Rattle.cpp_tree.specs.cpp_types.Typ.{Typ}
use Rattle.src_mean.specs.Linked.{Func, Program}
use Rattle.symbolic_source.specs.Outcomes.{Outcome}
use Rattle.symbolic_source.specs.Steps.{Answers, advanced, step_of}
use Rattle.symbolic_code.specs.Facts.{Fact}
use Rattle.symbolic_code.specs.Places.{Place}
use Rattle.tx_code.specs.declared.body.Row.{Row}
use Rattle.symbolic_source.specs.Terms.{Exception}
use Rattle.body_check.specs.Notes.{Note, no_answers, Lands, LandsOn, Reaches, Flies}
use Rattle.body_check.proofs.Landing.{equally}
use Rattle.note_landing.specs.Books.{bounds}
use Rattle.note_landing.specs.Landings.{Agrees, LandsIn, FliesBelow}

-- one silent step more
stepped_next : (p : Program) (f : Func) (answers : Answers) (n : ℕ) (o : Outcome) → step_of p f answers (advanced p f answers n o) ≡ advanced p f answers (suc n) o
stepped_next p f answers zero o = refl
stepped_next p f answers (suc n) o = stepped_next p f answers n (step_of p f answers o)

pub stepped : (p : Program) (f : Func) (answers : Answers) (n : ℕ) (o : Outcome) → step_of p f answers (advanced p f answers n o) ≡ advanced p f answers (n + 1) o
stepped p f answers n o =
    let e : n + 1 ≡ suc n = omega arith in
    stepped_next p f answers n o ∙ ap (λ z. advanced p f answers z o) (sym e)

module _ (p : Program) (f : Func) (notes : List Note) (thrown : Typ → Bool) where
  pub landed : (known : List Fact) (answers : Answers) (index : ℕ) (q : Place) (o : Outcome) (lag rank : ℕ) → Agrees p f notes thrown known index q (advanced p f answers lag o) rank → LandsIn p f notes thrown known answers index q o lag rank
  landed known answers index q o lag rank a = record {
    lands = equally p f bounds notes thrown (record { at = a.found.at; note = a.found.note; is = a.found.is; there = a.found.same.there; lag = lag; terms = a.found.same.terms; types = a.found.same.makes.types; same_place = a.found.same.makes.same_place; same_facts = a.found.same.makes.same_facts; same_outcome = a.found.same.makes.same_outcome; foreseen = a.foreseen; low = a.found.same.low });
    lag_is = refl;
    rank_is = a.found.ranked;
  }

  pub lands_on : (known : List Fact) (index : ℕ) (q : Place) (o : Outcome) (lag rank lead above : ℕ) → LandsIn p f notes thrown known no_answers index q o lag rank → lead + lag ≤ 1024 → (1 ≤ lead + lag) ⊎ (rank + 1 ≤ above) → LandsOn p f bounds notes thrown known lead above index q o
  lands_on known index q o lag rank lead above l short goes = record {
    lands = l.lands;
    short = subst (λ z. lead + z ≤ 1024) (sym l.lag_is) short;
    goes_on = subst (λ z. (1 ≤ lead + z) ⊎ (l.lands.note.rank + 1 ≤ above)) (sym l.lag_is) (subst (λ z. (1 ≤ lead + lag) ⊎ (z + 1 ≤ above)) (sym l.rank_is) goes);
  }

  pub reaches : (known : List Fact) (answers : Answers) (index : ℕ) (q : Place) (o : Outcome) (lag rank above : ℕ) → LandsIn p f notes thrown known answers index q o lag rank → lag ≤ 1024 → (1 ≤ lag) ⊎ (rank + 1 ≤ above) → Reaches p f bounds notes thrown known answers above index q o
  reaches known answers index q o lag rank above l short goes = record {
    lands = l.lands;
    some = subst (λ z. (1 ≤ z) ⊎ (l.lands.note.rank + 1 ≤ above)) (sym l.lag_is) (subst (λ z. (1 ≤ lag) ⊎ (z + 1 ≤ above)) (sym l.rank_is) goes);
    short = subst (λ z. z ≤ 1024) (sym l.lag_is) short;
  }

  pub at_once : (known : List Fact) (index : ℕ) (q : Place) (o : Outcome) (rank : ℕ) → Agrees p f notes thrown known index q o rank → (l : Lands p f bounds notes thrown known no_answers index q o) × (l.lag ≡ 0)
  at_once known index q o rank a =
      let l = landed known no_answers index q o 0 rank a in
      (l.lands, l.lag_is)

  -- at least one step back to a caller
  pub back : (known : List Fact) (index : ℕ) (q : Place) (o : Outcome) (n rank : ℕ) → n < 512 → Agrees p f notes thrown known index q (advanced p f no_answers n (step_of p f no_answers o)) rank → (l : Lands p f bounds notes thrown known no_answers index q o) × (1 ≤ l.lag) × (l.lag ≤ 512)
  back known index q o n rank h a =
      let l = landed known no_answers index q o (suc n) rank a in
      (l.lands, subst (λ z. 1 ≤ z) (sym l.lag_is) (some n), subst (λ z. z ≤ 512) (sym l.lag_is) (short n h))
    where
      some : (n : ℕ) → 1 ≤ suc n
      some n = omega arith

      short : (n : ℕ) → n < 512 → suc n ≤ 512
      short n h = omega (arith, h)

  -- a flight behind an instruction
  pub behind : (numbers : Typ → ℕ) (rows : List Row) (known : List Fact) (index : ℕ) (q : Place) (e : Exception) (o : Outcome) (rank lead above : ℕ) → FliesBelow p f notes thrown numbers rows known index q e o rank → (1 ≤ lead) ⊎ (rank + 1 ≤ above)
      → (t : Flies p f bounds notes thrown numbers rows known index q e o) × ((1 ≤ lead) ⊎ (t.rank + 1 ≤ above))
  behind numbers rows known index q e o rank lead above t goes = (t.flies, subst (λ z. (1 ≤ lead) ⊎ (z + 1 ≤ above)) (sym t.rank_is) goes)

  -- ---- with equations

  pub landed_at : (known : List Fact) (answers : Answers) (index : ℕ) (q : Place) (o o2 : Outcome) (lag rank : ℕ) → o2 ≡ advanced p f answers lag o → Agrees p f notes thrown known index q o2 rank → LandsIn p f notes thrown known answers index q o lag rank
  landed_at known answers index q o o2 lag rank e a = landed known answers index q o lag rank (subst (λ z. Agrees p f notes thrown known index q z rank) e a)

  pub lands_on_at : (known : List Fact) (index : ℕ) (q : Place) (o : Outcome) (lag rank lead above n : ℕ) → LandsIn p f notes thrown known no_answers index q o lag rank → n ≡ lead + lag → n ≤ 1024 → (1 ≤ n) ⊎ (rank + 1 ≤ above) → LandsOn p f bounds notes thrown known lead above index q o
  lands_on_at known index q o lag rank lead above n l e short goes = lands_on known index q o lag rank lead above l (subst (λ z. z ≤ 1024) e short) (subst (λ z. (1 ≤ z) ⊎ (rank + 1 ≤ above)) e goes)

  pub reaches_at : (known : List Fact) (answers : Answers) (index : ℕ) (q : Place) (o : Outcome) (lag rank above n : ℕ) → LandsIn p f notes thrown known answers index q o lag rank → n ≡ 0 + lag → n ≤ 1024 → (1 ≤ n) ⊎ (rank + 1 ≤ above) → Reaches p f bounds notes thrown known answers above index q o
  reaches_at known answers index q o lag rank above n l e short goes =
      let i : n ≡ lag = omega (arith, e) in
      reaches known answers index q o lag rank above l (subst (λ z. z ≤ 1024) i short) (subst (λ z. (1 ≤ z) ⊎ (rank + 1 ≤ above)) i goes)

  pub at_once_at : (ks known : List Fact) (index : ℕ) (q : Place) (o2 o : Outcome) (rank : ℕ) → ks ≡ known → o2 ≡ o → Agrees p f notes thrown ks index q o2 rank → (l : Lands p f bounds notes thrown known no_answers index q o) × (l.lag ≡ 0)
  at_once_at ks known index q o2 o rank i e a = at_once known index q o rank (subst (λ z. Agrees p f notes thrown known index q z rank) e (subst (λ z. Agrees p f notes thrown z index q o2 rank) i a))

  -- at least one step back to a caller, so many in all
  pub back_at : (known : List Fact) (index : ℕ) (q : Place) (o o1 o2 : Outcome) (lag n rank : ℕ) → o1 ≡ step_of p f no_answers o → o2 ≡ advanced p f no_answers lag o1 → n ≡ 1 + lag → n ≤ 512 → Agrees p f notes thrown known index q o2 rank
      → (l : Lands p f bounds notes thrown known no_answers index q o) × (1 ≤ l.lag) × (l.lag ≤ 512)
  back_at known index q o o1 o2 lag n rank e1 e2 i h a = back known index q o lag rank (less lag n i h) (subst (λ z. Agrees p f notes thrown known index q (advanced p f no_answers lag z) rank) e1 (subst (λ z. Agrees p f notes thrown known index q z rank) e2 a))
    where
      less : (lag n : ℕ) → n ≡ 1 + lag → n ≤ 512 → lag < 512
      less lag n i h = omega (arith, i, h)
