-- A run under a closure that picks as a picker with a name is a run under that picker.
use Rattle.std.proofs.Common.{ℕ, ◌≡◌, ◌<◌, ◌≤◌, ◌+◌, List, [], ◌∷◌, length, Option, Some, None, arith, subst, sym, refl}
use Rattle.std.specs.Prelude.{IfOk, Result}
use Rattle.std.proofs.lemmas.Result.{IfOk-weaker}
use Rattle.choosers.specs.Answers as answers
use Rattle.choosers.specs.Answers.{answer}
use Rattle.choosers.specs.Picks.{PickerName, pick}
use Rattle.choosers.specs.declared.Seen.{Seen}
use Rattle.tx_code.specs.Images.{ImageView}
use Rattle.tx_events.specs.Memory.{MemoryLayout}
use Rattle.tx_events.specs.Thread.{Thread}
use Rattle.tx_serial.specs.Run.{PickedBy, PicksTo, RunOf, Progress, advance, is_answer, not_begun, seen, turns_within}
use Rattle.tx_serial.specs.Turn.{Slot}
use Rattle.tx_machine.specs.ImageRuns.{RunsImage, layout_of_image, machine_at_main}
use Rattle.tx_machine.specs.declared.run.Ran.{Ran}
use Rattle.vm_thread.specs.Threads.{running}
use Rattle.vm_thread.specs.declared.thread.Here.{Here}
use Rattle.named_runs.specs.NamedRuns.{IsNamedRun}

-- `stands g before`: the closure's state g stands behind a turn of that thread
module _ {G : Type 0} (name : PickerName) (turns : ℕ) (stands : G → Option ℕ → Type 0) (step : G → Seen → ℕ → G → Type 0)
    (one : (g h : G) (s : Seen) (t : ℕ) (before : Option ℕ) → s.turn < turns → stands g before → step g s t h → (pick name s.turn s before ≡ Some t)
    × stands h (Some t)) where
  picked_by : {S : Type 0} (a : Thread S) (p : MemoryLayout) (slots : List Slot) (r : Progress S) (before after : G) → r.turn + length slots ≤ turns
      → stands before r.before → PicksTo step a p slots r before after
      → PickedBy (λ seen before. pick name seen.turn seen before) a p slots r
  picked_by a p [] r before after few here picks = tt
  picked_by a p (q ∷ qs) r before after few here (mid, picked, rest) =
      let now = one before mid (seen r) q.thread r.before (omega (arith, few)) here picked in
      (now.0, picked_by a p qs (advance a p q r) mid after (omega (arith, few)) now.1 rest)

  pub named : (image : ImageView) (policy : answers.PolicyName) (bound : ℕ) (input : List ℕ) (before after : G) (ran : Ran Here)
      → turns ≡ turns_within bound name → stands before None
      → RunsImage image (is_answer (answer policy)) step turns input before after ran → IsNamedRun image name policy bound input ran
  named image policy bound input before after ran e here h = record {
    slots = h.runs.slots;
    outcome = h.outcome;
    run = subst (λ n. RunOf running (layout_of_image image) n (machine_at_main image input) h.runs.slots h.outcome) e h.runs.run;
    picked = picked_by running (layout_of_image image) h.runs.slots (not_begun (machine_at_main image input)) before after
        (omega (arith, h.runs.run.within)) here h.runs.picked;
    answered = h.runs.answered;
    replayed = h.runs.replayed;
    counted = h.runs.counted;
    out_at_bound = λ out. subst (λ n. length h.outcome.picked ≡ n) e (h.runs.out_at_bound out);
    is = h.is;
  }

-- the same of what a call answers
pub named_result : {G E : Type 0} {step : G → Seen → ℕ → G → Type 0} (name : PickerName) (turns : ℕ) (stands : G → Option ℕ → Type 0) (image : ImageView)
    (policy : answers.PolicyName) (bound : ℕ) (input : List ℕ) (before after : G)
    (r : Result (Ran Here) E) → IfOk r (RunsImage image (is_answer (answer policy)) step turns input before after)
    → ((g h : G) (s : Seen) (t : ℕ) (b : Option ℕ) → s.turn < turns → stands g b → step g s t h → (pick name s.turn s b ≡ Some t) × stands h (Some t))
    → turns ≡ turns_within bound name → stands before None
    → IfOk r (IsNamedRun image name policy bound input)
named_result {step = step} name turns stands image policy bound input before after r done one e here =
    IfOk-weaker r (RunsImage image (is_answer (answer policy)) step turns input before after) (IsNamedRun image name policy bound input)
    (λ ran h. named name turns stands step one image policy bound input before after ran e here h) done
