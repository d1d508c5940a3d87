-- Runs of compiled programs that are runs of their source.
use Rattle.std.specs.Prelude.{◌≡◌, ℕ, List, Some, None}
use Rattle.bounded_runs.specs.BoundedRuns.{IsOfLinked}
use Rattle.choosers.specs.Answers as policies
use Rattle.choosers.specs.Picks as pickers
use Rattle.command_io.specs.Writes.{Written}
use Rattle.exec_command.specs.Exec.{RunsImage, RunsObjects}
use Rattle.image_checks.specs.Shown.{IsShown}
use Rattle.named_runs.specs.NamedRuns.{IsNamedRun}
use Rattle.src_bind.specs.Tables.{Given}
use Rattle.tx_answers.specs.declared.answer.Answer.{Answer}
use Rattle.tx_answers.specs.declared.ends.Decision.{Decision}
use Rattle.tx_code.specs.Images.{ImageView, IsImage}
use Rattle.tx_code.specs.Linked.{ImageOf}
use Rattle.tx_code.specs.Objects.{ObjectView}
use Rattle.tx_code.specs.Sound.{Sound}
use Rattle.tx_machine.specs.declared.run.Ran.{Ran}
use Rattle.tx_words.specs.declared.command.RunOptions.{RunOptions}
use Rattle.vm_thread.specs.declared.thread.Here.{Here}

-- What was run, if anything was, is a run of an image that the objects link to.
pub data IsOfObjects (objects : List ObjectView) (input : List ℕ) (a : Answer) : Type 0 where
  of_nothing : a.ran ≡ None → IsOfObjects objects input a
  of_image : (image : ImageView) → ImageOf objects image → (picker : pickers.PickerName) (policy : policies.PolicyName) (bound : ℕ) (ran : Ran Here)
      → IsNamedRun image picker policy bound input ran → a.ran ≡ Some ran → IsOfObjects objects input a

-- the objects link to a sound image that is shown to be the code of the linked program
pub record LinkToCode (g : Given) (objects : List ObjectView) : Type 0 where
  pub image : ImageView
  pub links : ImageOf objects image
  pub code : IsShown g image
  pub whole : IsImage image
  pub sound : Sound image

-- A decision stands as it was, and what was run is a run of the linked program's source, within its turn bound.
pub record IsHeld (g : Given) (input : List ℕ) (old new : Decision) : Type 0 where
  pub same : new ≡ old
  pub source : IsOfLinked g input new.answer

-- an image is run, and what was run is a run of the linked program's source
pub record RunsHeldImage (o : RunOptions) (g : Given) (image : ImageView) (input entries : List ℕ) (a : Answer) (writes : List Written) : Type 0 where
  pub runs : RunsImage o image input entries a writes
  pub source : IsOfLinked g input a

-- objects are linked and run, or can't be linked; what was run, if anything was, is a run of the linked program's source
pub record RunsHeld (o : RunOptions) (g : Given) (objects : List ObjectView) (input entries : List ℕ) (a : Answer) (writes : List Written) : Type 0 where
  pub decides : RunsObjects o objects input entries a writes
  pub source : IsOfLinked g input a
