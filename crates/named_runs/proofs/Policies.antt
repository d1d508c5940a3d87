-- A run under a policy is one under each policy that may answer as much.
use Rattle.std.proofs.Common.{ℕ, ◌≡◌, List, [], ◌∷◌}
use Rattle.std.specs.Prelude.{IfOk, Result}
use Rattle.std.proofs.lemmas.Result.{IfOk-weaker}
use Rattle.choosers.specs.declared.Clash.{Clash}
use Rattle.choosers.specs.declared.Choice.{Choice}
use Rattle.choosers.specs.declared.Seen.{Seen}
use Rattle.tx_code.specs.Images.{ImageView}
use Rattle.tx_events.specs.Memory.{MemoryLayout}
use Rattle.tx_events.specs.Thread.{Thread}
use Rattle.tx_serial.specs.Run.{AnsweredBy, Outcome, Progress, advance}
use Rattle.tx_serial.specs.Turn.{Slot}
use Rattle.tx_machine.specs.Finished.{RunsTo}
use Rattle.tx_machine.specs.ImageRuns.{RunsImage}
use Rattle.tx_machine.specs.Watch.{Sight}
use Rattle.tx_machine.specs.declared.run.Ran.{Ran}
use Rattle.vm_thread.specs.declared.thread.Here.{Here}

module _ (P Q : Clash → Choice → Type 0) (more : (c : Clash) (choice : Choice) → P c choice → Q c choice) where
  answered_more : {S : Type 0} (a : Thread S) (p : MemoryLayout) (slots : List Slot) (r : Progress S) → AnsweredBy P a p slots r → AnsweredBy Q a p slots r
  answered_more a p [] r h = h
  answered_more a p (q ∷ qs) r (h, hs) = (λ c asked. more c (q.answer c) (h c asked), answered_more a p qs (advance a p q r) hs)

  runs_more : {S G V W : Type 0} (a : Thread S) (p : MemoryLayout) (step : G → Seen → ℕ → G → Type 0) (sight : Sight S V W) (bound : ℕ) (memory : ℕ → ℕ)
      (input : List ℕ) (main : S) (before after : G) (saw sees : W)
      (result : Outcome S) → RunsTo a p P step sight bound memory input main before after saw sees result
      → RunsTo a p Q step sight bound memory input main before after saw sees result
  runs_more a p step sight bound memory input main before after saw sees result h = record {
    slots = h.slots;
    run = h.run;
    answered = answered_more a p h.slots _ h.answered;
    picked = h.picked;
    watched = h.watched;
    replayed = h.replayed;
    shows = h.shows;
    counted = h.counted;
    out_at_bound = h.out_at_bound;
    place = h.place;
    older = λ k. h.older (λ c choice x. k c choice (more c choice x));
    again = λ answer k. h.again answer (λ c choice x. k c choice (more c choice x));
    within = h.within;
  }

  pub image_runs_more : {G : Type 0} (image : ImageView) (step : G → Seen → ℕ → G → Type 0) (bound : ℕ) (input : List ℕ) (before after : G) (ran : Ran Here)
      → RunsImage image P step bound input before after ran → RunsImage image Q step bound input before after ran
  image_runs_more image step bound input before after ran h =
      record { outcome = h.outcome; runs = runs_more _ _ step _ bound _ input _ before after tt tt h.outcome h.runs; is = h.is }

-- the same of what a call answers
pub result_more : {G E : Type 0} {P Q : Clash → Choice → Type 0} (step : G → Seen → ℕ → G → Type 0) (image : ImageView) (bound : ℕ) (input : List ℕ)
    (before after : G) (r : Result (Ran Here) E)
    → IfOk r (RunsImage image P step bound input before after) → ((c : Clash) (choice : Choice) → P c choice → Q c choice)
    → IfOk r (RunsImage image Q step bound input before after)
result_more {P = P} {Q = Q} step image bound input before after r done more =
    IfOk-weaker r (RunsImage image P step bound input before after) (RunsImage image Q step bound input before after)
    (λ ran h. image_runs_more P Q more image step bound input before after ran h) done
