-- The notes of straight code fit.
use Rattle.std.proofs.Common.{ℕ, ◌≡◌, ◌+◌, ◌-◌, ◌≤◌, ◌^◌, inr, refl, ap, sym, ◌∙◌, subst, Bool, true, false, cond, nat_lt, List, ◌∷◌, Some, arith}
use Rattle.std.specs.Prelude.{slice_get}
use Rattle.tx_ints.specs.declared.kinds.BinOp.{BinOp}
use Rattle.tx_ints.specs.declared.kinds.IntKind.TheVariants.{ULong}
use Rattle.tx_code.specs.declared.instr.Instr.{Instr}
use Rattle.tx_code.specs.Meaning.{kinds}
use Rattle.low_code.specs.Numbers.{kind_number}
use Rattle.src_mean.specs.Linked.{Program}
use Rattle.symbolic_source.specs.Terms.{Term, variable, unknown}
use Rattle.symbolic_source.specs.Outcomes.{Outcome, results}
use Rattle.symbolic_source.specs.Small.{is_stuck}
use Rattle.symbolic_code.specs.Facts.{Fact}
use Rattle.symbolic_code.specs.Places.{Place, with_operands}
use Rattle.symbolic_code.specs.Following.{Table, Next, quietly, refused, if_found, two_of, operates, pushes, addresses, followed}
use Rattle.body_check.specs.Notes.{Bounds, Lands, LandsOn, Fits, no_answers}
use Rattle.body_check.specs.Calls.{Book, StepFits, NoteFits}
use Rattle.body_check.specs.Linked.{Held}
use Rattle.lowered_notes.specs.Straight.{Moved, pushed, doubled, dropped, swapped, copied, placed, computed, Straight, done, moves, is_operator, Stand, moved_note, IsNoted, AreNoted, Ends, AllFit}
use Rattle.lowered_notes.proofs.KindNumbers.{kind_found, operator_found}

-- ---- what the instruction does

small_pushes : (b : Bool) (next : Next) → b ≡ true → cond b next refused ≡ next
small_pushes true next e = refl
small_pushes false next e = absurd cc

operates_on : (known : List Fact) (i : ℕ) (q : Place) (op : BinOp) (a b : Term) (ws : List Term) (o : Outcome) → is_operator o ≡ false
    → operates known i q op ULong a b ws o ≡ if_found (addresses known op ULong a b) (λ w. pushes i q o w ws)
operates_on known i q op a b ws (results oq j c d o) e = absurd cc
operates_on known i q op a b ws o e = refl

pub moved_follows : (t : Table) (known : List Fact) (i : ℕ) (q : Place) (o : Outcome) → is_operator o ≡ false → {instr : Instr} {ws us : List Term}
    → Moved known instr ws us → followed t known i instr (with_operands q ws) o ≡ quietly (i + 1) (with_operands q us) o
moved_follows t known i q o e (pushed n small) = small_pushes (nat_lt n (2 ^ 64)) _ small
moved_follows t known i q o e (doubled w) = refl
moved_follows t known i q o e (dropped w) = refl
moved_follows t known i q o e (swapped a b) = refl
moved_follows t known i q o e (copied a b) = refl
moved_follows t known i q o e (placed offset) = refl
moved_follows t known i q o e (computed {ws} op a b w is) =
    ap (λ z. if_found z (λ c. if_found (slice_get kinds (kind_number ULong)) (λ k. two_of (b ∷ a ∷ ws) (λ a d us. operates known i (with_operands q (b ∷ a ∷ ws)) c k a d us o)))) (operator_found op)
    ∙ (ap (λ z. if_found z (λ k. operates known i (with_operands q (b ∷ a ∷ ws)) op k a b ws o)) (kind_found ULong)
    ∙ (operates_on known i (with_operands q (b ∷ a ∷ ws)) op a b ws o e
    ∙ ap (λ z. if_found z (λ u. pushes i (with_operands q (b ∷ a ∷ ws)) o u ws)) is))

-- ---- its note

module _ (p : Program) (b : Bounds) (book : Book) (h : Held) where
  -- what stays as it is has come to a note of itself
  abbrev pub stays : (q : Place) (known : List Fact) (o : Outcome) (index rank : ℕ) (ws : List Term) → is_stuck o ≡ false → IsNoted b h.notes q known o index rank ws
      → Lands p h.func b h.notes book.thrown known no_answers index (with_operands q ws) o
  stays q known o index rank ws going n = record {
    at = n.at;
    note = moved_note b h.notes q known o index rank ws;
    is = n.is;
    there = refl;
    lag = 0;
    terms = record { word = λ i. variable i; exception = λ i. unknown i };
    types = λ i. tt;
    same_place = λ x bounded holds numbers home. refl;
    same_facts = λ x bounded holds. holds;
    same_outcome = λ x bounded holds rest s shows. shows;
    foreseen = going;
    low = n.low;
  }

  carried : (q : Place) (known : List Fact) (o : Outcome) (index rank : ℕ) → is_operator o ≡ false → {instr : Instr} {ws us : List Term} (m : Moved known instr ws us)
      → LandsOn p h.func b h.notes book.thrown known 0 rank (index + 1) (with_operands q us) o
      → Fits p h.func b h.notes book.thrown book.numbers h.rows known 0 rank (followed h.table known index instr (with_operands q ws) o)
  carried q known o index rank plain m l = subst (λ (z : Next). Fits p h.func b h.notes book.thrown book.numbers h.rows known 0 rank z)
      (sym (moved_follows h.table known index q o plain m)) l

  step : (q : Place) (known : List Fact) (o : Outcome) (index rank : ℕ) → is_operator o ≡ false → {instr : Instr} {ws us : List Term} (m : Moved known instr ws us)
      → LandsOn p h.func b h.notes book.thrown known 0 rank (index + 1) (with_operands q us) o
      → StepFits p b book h known 0 rank index instr (with_operands q ws) o
  step q known o index rank plain (pushed n small) l = carried q known o index rank plain (pushed n small) l
  step q known o index rank plain m l = carried q known o index rank plain m l

  moved_fits : (q : Place) (known : List Fact) (o : Outcome) (index rank : ℕ) {instr : Instr} {ws us : List Term} → 1 ≤ b.half → is_stuck o ≡ false → is_operator o ≡ false
      → Moved known instr ws us → slice_get h.body.code index ≡ Some instr
      → LandsOn p h.func b h.notes book.thrown known 0 rank (index + 1) (with_operands q us) o → NoteFits p b book h (moved_note b h.notes q known o index rank ws)
  moved_fits q known o index rank {instr} half going plain m there l =
      record { instr = instr; is = there; short = half; foreseen = going; fits = step q known o index rank plain m l }

  falls : (n : ℕ) → 1 ≤ n → n - 1 + 1 ≤ n
  falls n e = omega (arith, e)

  stays_on : (q : Place) (known : List Fact) (o : Outcome) (index rank : ℕ) (ws : List Term) → is_stuck o ≡ false → 1 ≤ rank
      → IsNoted b h.notes q known o index (rank - 1) ws → LandsOn p h.func b h.notes book.thrown known 0 rank index (with_operands q ws) o
  stays_on q known o index rank ws going above n =
      record { lands = stays q known o index (rank - 1) ws going n; short = omega arith; goes_on = inr (falls rank above) }

  -- ---- straight code

  module _ (q : Place) (known : List Fact) (o : Outcome) where
    pub all_fit : 1 ≤ b.half → is_stuck o ≡ false → is_operator o ≡ false → {instrs : List Instr} {ws vs : List Term} (s : Straight known instrs ws vs) (index rank : ℕ)
        → Stand h.body.code index instrs → AreNoted b h.notes q known o s index rank → Ends p b book h q known o s index rank → AllFit p b book h q known o s index rank
    all_fit half going plain done index rank there noted l = tt
    all_fit half going plain (moves m done) index rank there noted l = (moved_fits q known o index rank half going plain m there.0 l, tt)
    all_fit half going plain (moves {us = us} m (moves n s)) index rank there noted l = (
      moved_fits q known o index rank half going plain m there.0 (stays_on q known o (index + 1) rank us going noted.1 noted.0),
      all_fit half going plain (moves n s) (index + 1) (rank - 1) there.1 noted.2 l,
    )
