-- What a call answers of a run and of something beside it.
use Rattle.std.proofs.Common.{ℕ, ◌≡◌, ◌<◌, Option, Some, None, List}
use Rattle.std.specs.Prelude.{IfOk, Result}
use Rattle.std.proofs.lemmas.Result.{IfOk-weaker}
use Rattle.choosers.specs.Answers as answers
use Rattle.choosers.specs.Answers.{answer}
use Rattle.choosers.specs.Picks.{PickerName, pick}
use Rattle.choosers.specs.declared.Choice.{Choice}
use Rattle.choosers.specs.declared.Clash.{Clash}
use Rattle.choosers.specs.declared.Seen.{Seen}
use Rattle.tx_code.specs.Images.{ImageView}
use Rattle.tx_serial.specs.Run.{is_answer, turns_within}
use Rattle.tx_machine.specs.ImageRuns.{RunsImage}
use Rattle.tx_machine.specs.declared.run.Ran.{Ran}
use Rattle.vm_thread.specs.declared.thread.Here.{Here}
use Rattle.named_runs.specs.NamedRuns.{IsNamedRun}
use Rattle.named_runs.proofs.Pickers.{named}
use Rattle.named_runs.proofs.Policies.{image_runs_more}

-- a run under a closure that picks as a picker with a name is a run under that picker
pub named_pair : {G E X : Type 0} {step : G → Seen → ℕ → G → Type 0} (name : PickerName) (turns : ℕ) (stands : G → Option ℕ → Type 0) (image : ImageView)
    (policy : answers.PolicyName) (bound : ℕ) (input : List ℕ) (before after : G) (r : Result (Ran Here × X) E)
    → IfOk r (λ both. RunsImage image (is_answer (answer policy)) step turns input before after both.0)
    → ((g h : G) (s : Seen) (t : ℕ) (b : Option ℕ) → s.turn < turns → stands g b → step g s t h → (pick name s.turn s b ≡ Some t) × stands h (Some t))
    → turns ≡ turns_within bound name → stands before None → IfOk r (λ both. IsNamedRun image name policy bound input both.0)
named_pair {step = step} name turns stands image policy bound input before after r done one e here =
    IfOk-weaker r (λ both. RunsImage image (is_answer (answer policy)) step turns input before after both.0)
    (λ both. IsNamedRun image name policy bound input both.0)
    (λ both h. named name turns stands step one image policy bound input before after both.0 e here h) done

-- a run under a policy is one under each policy that may answer as much
pub pair_more : {G E X : Type 0} {P Q : Clash → Choice → Type 0} (step : G → Seen → ℕ → G → Type 0) (image : ImageView) (bound : ℕ) (input : List ℕ)
    (before after : G) (r : Result (Ran Here × X) E) → IfOk r (λ both. RunsImage image P step bound input before after both.0)
    → ((c : Clash) (choice : Choice) → P c choice → Q c choice) → IfOk r (λ both. RunsImage image Q step bound input before after both.0)
pair_more {P = P} {Q = Q} step image bound input before after r done more =
    IfOk-weaker r (λ both. RunsImage image P step bound input before after both.0) (λ both. RunsImage image Q step bound input before after both.0)
    (λ both h. image_runs_more P Q more image step bound input before after both.0 h) done
