-- A test of each index of a range, one index further.
use Rattle.std.proofs.Common.{Bool, true, false, ◌≡◌, ◌<◌, ℕ, zero, suc, ◌+◌, ◌-◌, List, length, map, get_or, Option, Some, None, refl, sym, ap, ◌∙◌, arith}
use Rattle.std.specs.Prelude.{◌&&◌, nat_le, slice_get}
use Rattle.std.specs.Option.{option_map_or}
use Rattle.std.proofs.lemmas.Bool.{le-leb, false≢true}
use Rattle.tx_code.specs.declared.instr.Instr.{Instr}
use Rattle.tx_code.specs.declared.body.Row.{Row}
use Rattle.tx_code.specs.Sound.{is_edge, edge_right, left_at}
use Rattle.tx_events.specs.Thread.{Open}
use Rattle.tx_code.specs.Shapes as shapes
use Rattle.code_walk.specs.declared.walk.Slot.{Slot}
use Rattle.code_walk.specs.Walk as walk
use Rattle.code_walk.specs.Walk.{bare, slot_at}
use Rattle.code_walk.specs.Slots.{slot_of}
use Rattle.code_verify.specs.Rules.{of_shape, holds_over, edge_test, depth_test}
use Rattle.code_walk.proofs.SlotNotes.{get_map}

first_of : (test : ℕ → shapes.Shape → Bool) (ss : List (walk.Slot shapes.Shape)) (i to : ℕ) → i < to
    → holds_over test ss i (to - i) ≡ (of_shape (test i) (slot_at ss i).shape && holds_over test ss (i + 1) (to - (i + 1)))
first_of test ss i to h = let e : to - i ≡ suc (to - (i + 1)) = omega (arith, h) in ap (holds_over test ss i) e

module _ (test : ℕ → shapes.Shape → Bool) (t : List (List Open)) (slots : List Slot) (i to : ℕ) (d : Slot) where
  pub range_on : i < to → i < length slots → true ≡ of_shape (test i) (slot_of t (get_or slots i d)).shape
      → holds_over test (map (slot_of t) slots) i (to - i) ≡ holds_over test (map (slot_of t) slots) (i + 1) (to - (i + 1))
  range_on h l e = first_of test (map (slot_of t) slots) i to h
      ∙ ap (λ z. of_shape (test i) z.shape && holds_over test (map (slot_of t) slots) (i + 1) (to - (i + 1))) (get_map (slot_of t) slots i d bare l)
      ∙ ap (λ z. z && holds_over test (map (slot_of t) slots) (i + 1) (to - (i + 1))) (sym e)

  pub range_stops : i < to → i < length slots → false ≡ of_shape (test i) (slot_of t (get_or slots i d)).shape
      → holds_over test (map (slot_of t) slots) i (to - i) ≡ false
  range_stops h l e = first_of test (map (slot_of t) slots) i to h
      ∙ ap (λ z. of_shape (test i) z.shape && holds_over test (map (slot_of t) slots) (i + 1) (to - (i + 1))) (get_map (slot_of t) slots i d bare l)
      ∙ ap (λ z. z && holds_over test (map (slot_of t) slots) (i + 1) (to - (i + 1))) (sym e)

-- ---- tests that hold of each shape

of_any : (test : shapes.Shape → Bool) (o : Option shapes.Shape) → ((s : shapes.Shape) → test s ≡ true) → of_shape test o ≡ true
of_any test None h = refl
of_any test (Some s) h = h s

all_over : (test : ℕ → shapes.Shape → Bool) (ss : List (walk.Slot shapes.Shape)) (from n : ℕ) → ((i : ℕ) (s : shapes.Shape) → test i s ≡ true)
    → holds_over test ss from n ≡ true
all_over test ss from zero h = refl
all_over test ss from (suc n) h = ap (λ z. z && holds_over test ss (from + 1) n) (of_any (test from) (slot_at ss from).shape (h from))
    ∙ all_over test ss (from + 1) n h

no_edge : (what : ℕ) (opens : List Open) → nat_le 3 what ≡ false → edge_right what opens ≡ true
no_edge zero opens h = refl
no_edge (suc zero) opens h = refl
no_edge (suc (suc zero)) opens h = refl
no_edge (suc (suc (suc n))) opens h = absurd (false≢true (sym h ∙ le-leb 3 (suc (suc (suc n))) (omega arith)))

pub no_edges : (r : Row) (ss : List (walk.Slot shapes.Shape)) (from n : ℕ) → is_edge r ≡ false → holds_over (edge_test r) ss from n ≡ true
no_edges r ss from n h = all_over (edge_test r) ss from n (λ i s. no_edge r.what s.opens h)

keeps_none : (code : List Instr) (r : Row) (i : ℕ) (s : shapes.Shape) (o : Option Instr) → r.depth ≡ 0
    → option_map_or (λ a. nat_le r.depth (left_at a s.depth)) o true ≡ true
keeps_none code r i s None h = refl
keeps_none code r i s (Some a) h = ap (λ z. nat_le z (left_at a s.depth)) h ∙ le-leb 0 (left_at a s.depth) (omega arith)

pub no_depths : (code : List Instr) (r : Row) (ss : List (walk.Slot shapes.Shape)) (from n : ℕ) → r.depth ≡ 0 → holds_over (depth_test code r) ss from n ≡ true
no_depths code r ss from n h = all_over (depth_test code r) ss from n (λ i s. keeps_none code r i s (slice_get code i) h)
