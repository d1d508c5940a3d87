-- A run of an image is a run of the thread of its main.
use Rattle.std.proofs.Common.{ℕ, ◌≡◌, ◌≤◌, ◌%◌, true, inl, refl, subst, List}
use Rattle.std.specs.Prelude.{nat_eq, nat_le}
use Rattle.std.specs.List.{list_all}
use Rattle.std.proofs.lemmas.Bool.{eqb-true, leb-true}
use Rattle.choosers.specs.declared.Clash.{Clash}
use Rattle.choosers.specs.declared.Choice.{Choice}
use Rattle.choosers.specs.declared.Seen.{Seen}
use Rattle.tx_code.specs.Images.{ImageView, IsImage, is_cell, all_apart}
use Rattle.tx_code.proofs.ReachedIndexes.{and_left, and_right}
use Rattle.tx_events.specs.Memory.{MemoryLayout}
use Rattle.tx_events.specs.Thread.{Thread}
use Rattle.tx_memory.specs.Cells.{lies_within}
use Rattle.tx_serial.specs.Run.{Outcome}
use Rattle.tx_serial.specs.Turn.{Slot, first_machine}
use Rattle.tx_machine.specs.Course.{Asks}
use Rattle.tx_machine.specs.Finished.{RunsTo}
use Rattle.tx_machine.specs.Watch.{Sight}

-- ---- the globals of an image fit a memory

pub globals_whole : (i : ImageView) → IsImage i → i.size % 8 ≡ 0
globals_whole i is = eqb-true (i.size % 8) 0 (and_left (nat_eq (i.size % 8) 0) (nat_le i.size 1048576) is.whole)

pub globals_small : (i : ImageView) → IsImage i → i.size ≤ 1048576
globals_small i is = leb-true i.size 1048576 (and_right (nat_eq (i.size % 8) 0) (nat_le i.size 1048576) is.whole)

pub cells_within : (i : ImageView) → IsImage i → list_all (lies_within i.size) i.globals ≡ true
cells_within i is = and_left (list_all (is_cell i.size) i.globals) (all_apart i.globals) is.cells

-- ---- runs from equal starts

pub runs_as : {S G P W : Type 0} (a : Thread S) (policy : Clash → Choice → Type 0) (step : G → Seen → ℕ → G → Type 0) (sight : Sight S P W) (bound : ℕ)
    (input : List ℕ) (p q : MemoryLayout) (memory other : ℕ → ℕ) (main first : S) → p ≡ q → memory ≡ other → main ≡ first → (before after : G) (saw sees : W)
    (result : Outcome S) → RunsTo a p policy step sight bound memory input main before after saw sees result
    → RunsTo a q policy step sight bound other input first before after saw sees result
runs_as a policy step sight bound input p q memory other main first layout words state before after saw sees result h =
    subst (λ z. RunsTo a z policy step sight bound other input first before after saw sees result) layout
    (subst (λ z. RunsTo a p policy step sight bound z input first before after saw sees result) words
    (subst (λ z. RunsTo a p policy step sight bound memory input z before after saw sees result) state h))

pub asks_as : {S G : Type 0} (a : Thread S) (policy : Clash → Choice → Type 0) (step : G → Seen → ℕ → G → Type 0)
    (input : List ℕ) (p q : MemoryLayout) (memory other : ℕ → ℕ) (main first : S) → p ≡ q → memory ≡ other → main ≡ first → (before after : G)
    → (slots : List Slot) × Asks a p policy step (first_machine memory input main) slots before after
    → (slots : List Slot) × Asks a q policy step (first_machine other input first) slots before after
asks_as a policy step input p q memory other main first layout words state before after h = (
  h.0,
  subst (λ z. Asks a z policy step (first_machine other input first) h.0 before after) layout
      (subst (λ z. Asks a p policy step (first_machine z input first) h.0 before after) words
      (subst (λ z. Asks a p policy step (first_machine memory input z) h.0 before after) state h.1)),
)

-- in a whole run the picker was asked once in each turn
pub asks_of : {S G P W : Type 0} (a : Thread S) (policy : Clash → Choice → Type 0) (step : G → Seen → ℕ → G → Type 0) (sight : Sight S P W) (bound : ℕ)
    (input : List ℕ) (p : MemoryLayout) (memory : ℕ → ℕ) (main : S) (before after : G) (saw sees : W)
    (result : Outcome S) → RunsTo a p policy step sight bound memory input main before after saw sees result
    → (slots : List Slot) × Asks a p policy step (first_machine memory input main) slots before after
asks_of a policy step sight bound input p memory main before after saw sees result h =
    (h.slots, record { going = h.run.going; answered = h.answered; mid = after; picked = h.picked; once = inl refl })
