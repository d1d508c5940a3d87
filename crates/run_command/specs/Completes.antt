-- What becomes of texts that are accepted: they are not refused but where they can't be linked, and else are run.
use Rattle.std.specs.Prelude.{◌≡◌, ℕ, Bool, List, Some, None}
use Rattle.command_io.specs.Writes.{Written}
use Rattle.cpp_tree.specs.declared.program.Program.{Program}
use Rattle.cpp_tree.specs.Units.{program_of}
use Rattle.exec_command.specs.Exec.{RefusesLink}
use Rattle.link_faults.specs.Answers.{Faulty}
use Rattle.link_faults.specs.declared.fault.LinkFault.{LinkFault}
use Rattle.tx_answers.specs.Report.{status_of}
use Rattle.tx_answers.specs.declared.answer.Answer.{Answer}
use Rattle.tx_code.specs.Objects.{ObjectView}
use Rattle.tx_machine.specs.declared.run.Ran.{Ran}
use Rattle.unit_objects.specs.Units.{AreUnitObjects}
use Rattle.vm_thread.specs.declared.thread.Here.{Here}
use Rattle.run_command.specs.Runs.{Compiled}

-- the objects of the compiled program have a fault of linking, which is the refusal
pub record CannotLink (fold : Bool) (p : Program) (names : List (List ℕ)) (a : Answer) (writes : List Written) : Type 0 where
  pub program : Program
  pub compiled : Compiled fold p program
  pub objects : List ObjectView
  pub are_objects : AreUnitObjects (program_of program) names objects
  pub fault : LinkFault
  pub faulty : Faulty objects fault
  pub refuses : RefusesLink fault a writes

-- the answer is that of a run: its status is that of the run's end, or of a bound that was reached
pub record AnswersRun (a : Answer) : Type 0 where
  pub ran : Ran Here
  pub answer : a ≡ record { status = status_of ran.end; ran = Some ran; refusal = None }

pub data Completes (fold : Bool) (p : Program) (names : List (List ℕ)) (a : Answer) (writes : List Written) : Type 0 where
  cannot_link : CannotLink fold p names a writes → Completes fold p names a writes
  runs_through : AnswersRun a → Completes fold p names a writes

-- of the accepted program, which texts have once
pub record Completed (fold : Bool) (p : Program) (names : List (List ℕ)) (a : Answer) (writes : List Written) : Type 0 where
  pub program : Program
  pub same : program_of program ≡ program_of p
  pub completes : Completes fold program names a writes
