-- What becomes of objects that are to be run, with a report of the races of the run.
use Rattle.std.specs.Prelude.{◌≡◌, ℕ, List, [], ◌∷◌, ◌++◌, Some, None, string_bytes}
use Rattle.std.specs.Option.{option_map}
use Rattle.command_io.specs.Writes.{Written, to_file}
use Rattle.exec_command.specs.Exec.{RefusesLink}
use Rattle.link_faults.specs.Answers.{Faulty}
use Rattle.link_faults.specs.declared.fault.LinkFault.{LinkFault}
use Rattle.named_runs.specs.NamedRuns.{IsNamedRun, picker_of, policy_of}
use Rattle.race_check.specs.Races.{Races}
use Rattle.race_report.specs.Report.{report_text}
use Rattle.run_report.specs.RunWrites.{run_writes}
use Rattle.traced_runs.specs.TracedRuns.{TracesImage}
use Rattle.tx_answers.specs.Report.{status_of}
use Rattle.tx_answers.specs.declared.answer.Answer.{Answer}
use Rattle.tx_code.specs.Images.{ImageView}
use Rattle.tx_code.specs.Linked.{ImageOf}
use Rattle.tx_code.specs.Objects.{ObjectView}
use Rattle.tx_code.specs.Sound.{Sound}
use Rattle.tx_events.specs.declared.Item.{Item}
use Rattle.tx_machine.specs.declared.run.Ran.{Ran}
use Rattle.tx_words.specs.declared.command.RunOptions.{RunOptions}
use Rattle.vm_thread.specs.declared.thread.Here.{Here}

-- These words are the races of the trace of that order, run by the threads of the image.
pub record AreRaces (image : ImageView) (input order words : List ℕ) : Type 0 where
  pub items : List Item
  pub trace : TracesImage image input order items
  pub races : Races items words

-- The image is run: the answer has the run; all is written that is written of a run, and then the report of its races.
pub record RunsWithRaces (o : RunOptions) (file : List ℕ) (image : ImageView) (input entries : List ℕ) (a : Answer) (writes : List Written) : Type 0 where
  pub ran : Ran Here
  pub words : List ℕ
  pub sound : Sound image
  pub run : IsNamedRun image (picker_of o.picker entries) (policy_of o.policy) o.steps input ran
  pub races : AreRaces image input ran.order.items words
  pub answer : a ≡ record { status = status_of ran.end; ran = Some ran; refusal = None }
  pub writes_are : writes ≡ run_writes image ran (option_map string_bytes o.order_file) (option_map string_bytes o.record_file)
      ++ to_file file (report_text words) ∷ []

-- The objects are linked, and their image is run. They were compiled from sources, so that their code is not sound is no refusal.
pub data DecidesObjects (o : RunOptions) (file : List ℕ) (objects : List ObjectView) (input entries : List ℕ) (a : Answer)
    (writes : List Written) : Type 0 where
  faulty : (fault : LinkFault) → Faulty objects fault → RefusesLink fault a writes → DecidesObjects o file objects input entries a writes
  linked : (image : ImageView) → ImageOf objects image → RunsWithRaces o file image input entries a writes
      → DecidesObjects o file objects input entries a writes
