-- The turns of checked images, told by the cost of their source.
use Rattle.std.proofs.Common.{ℕ, ◌≡◌, ◌≤◌, ◌+◌, ◌*◌, true, false, refl, ap, ◌∙◌, List, Some, arith}
use Rattle.std.proofs.Math.Nat.{mul-le-mul_right}
use Rattle.body_check.specs.Notes.{Bounds}
use Rattle.body_check.specs.Calls.{Book}
use Rattle.choosers.specs.declared.Clash.{Clash}
use Rattle.choosers.specs.declared.Choice.{Choice}
use Rattle.choosers.specs.Picks.{PickerName, pick}
use Rattle.src_mean.specs.Linked.{Program}
use Rattle.src_mean.specs.Source.{source, main_state}
use Rattle.tx_code.specs.Images.{ImageView}
use Rattle.tx_events.specs.declared.End.{End}
use Rattle.tx_events.specs.declared.End.TheVariants.{StepsOut}
use Rattle.tx_events.specs.declared.TheConstants.{THREAD_LIMIT}
use Rattle.tx_events.specs.Memory.{MemoryLayout}
use Rattle.tx_events.specs.World.{first_world}
use Rattle.tx_serial.specs.Bound.{is_waiting, zeros}
use Rattle.tx_serial.specs.Machine.{Machine}
use Rattle.tx_serial.specs.Run.{PickedBy, not_begun, Outcome, RunOf}
use Rattle.tx_serial.specs.Turn.{Slot, turns, turn, first_machine}
use Rattle.vm_thread.specs.Threads.{Running, running, at_main, IsReached}
use Rattle.vm_thread.specs.ThreadLaws.{running_laws, at_main_stands}
use Rattle.turn_bounds.specs.Alone.{EndsAlone, picks_started}
use Rattle.turn_bounds.specs.Checked.{IsChecked, enough_for, EndsSo}
use Rattle.turn_bounds.proofs.ImageThreads.{main_same, main_within}
use Rattle.turn_bounds.proofs.SameBounds as same

-- with notes that allow at most 63 steps, 66 turns a unit of cost and 64 more are enough
pub units_enough : (b : Bounds) (n z : ℕ) → b.most ≤ 63 → 66 * n + 64 ≤ z → enough_for b n ≤ z
units_enough b n z few many =
    let less : (b.most + 1) * n ≤ 64 * n = mul-le-mul_right n (omega (arith, few)) in
    omega (arith, less, few, many)

module _ (p : Program) (i : ImageView) (b : Bounds) (book : Book) (is : IsChecked p i b book) (layout : MemoryLayout) (small : layout.limit ≤ THREAD_LIMIT)
    (memory : ℕ → ℕ) (input : List ℕ) (n : ℕ) (out : List ℕ) (end : End)
    (run : EndsAlone (source p) layout (first_world memory input (main_state p)) n out end) where
  abbrev first : Machine Running
  first = first_machine memory input (at_main i)

  some_steps : 1 ≤ b.most + 1
  some_steps = omega arith

  pub image_ends : (slots : List Slot) → enough_for b n ≤ zeros slots → EndsSo layout first slots out end
  image_ends slots many =
      let t = same.bound_ends (source p) IsReached running running_laws (main_state p) (at_main i) (at_main_stands i is.image is.sound) refl
      (main_same p i b book is) (b.most + 1) b.most some_steps (main_within p i b book is) layout small memory input n out end run slots many in
      record { end_is = t.0; out_is = t.1 }

  pub image_only : (slots : List Slot) (other : End) → (turns running layout slots first).end ≡ Some other → EndsSo layout first slots out end
  image_only slots other e =
      let t = same.bound_only (source p) IsReached running running_laws (main_state p) (at_main i) (at_main_stands i is.image is.sound) refl
      (main_same p i b book is) (b.most + 1) b.most some_steps (main_within p i b book is) layout small memory input n out end run slots other e in
      record { end_is = e ∙ ap Some t.0; out_is = t.1 }

  pub image_quiet : (slots : List Slot) (answer : Clash → Choice) (t : ℕ) → is_waiting (turn running layout answer t (turns running layout slots first)).kind ≡ false
  image_quiet = same.bound_quiet (source p) IsReached running running_laws (main_state p) (at_main i) (at_main_stands i is.image is.sound) refl
      (main_same p i b book is) (b.most + 1) b.most some_steps (main_within p i b book is) layout small memory input n out end run

  module _ (bound : ℕ) (slots : List Slot) (result : Outcome Running) (runs : RunOf running layout bound first slots result) where
    abbrev Told : Type 0
    Told = (result.end ≡ end) × (result.out ≡ out)

    pub run_not_out : (result.end ≡ StepsOut → ⊥) → Told
    run_not_out other = same.run_not_out (source p) IsReached running running_laws (main_state p) (at_main i) (at_main_stands i is.image is.sound) refl
        (main_same p i b book is) (b.most + 1) b.most some_steps (main_within p i b book is) layout small memory input n out end run bound slots
        result runs other

    pub run_in_time : enough_for b n ≤ zeros slots → Told
    run_in_time many = same.run_in_time (source p) IsReached running running_laws (main_state p) (at_main i) (at_main_stands i is.image is.sound) refl
        (main_same p i b book is) (b.most + 1) b.most some_steps (main_within p i b book is) layout small memory input n out end run bound slots
        result runs many

    pub run_picked : (picker : PickerName) → picks_started picker ≡ true
        → PickedBy (λ s before. pick picker s.turn s before) running layout slots (not_begun first) → enough_for b n ≤ bound → Told
    run_picked picker started picked many = same.run_picked (source p) IsReached running running_laws (main_state p) (at_main i) (at_main_stands i is.image is.sound) refl
        (main_same p i b book is) (b.most + 1) b.most some_steps (main_within p i b book is) layout small memory input n out end run bound slots
        result runs picker started picked many

    pub run_quiet : (result.counts.waited ≡ 0) × (result.counts.rolled ≡ 0)
    run_quiet = same.run_quiet (source p) IsReached running running_laws (main_state p) (at_main i) (at_main_stands i is.image is.sound) refl
        (main_same p i b book is) (b.most + 1) b.most some_steps (main_within p i b book is) layout small memory input n out end run bound slots result runs
