-- What `races` comes to.
use Rattle.std.specs.Prelude.{◌≤◌, ◌<◌, ℕ, Bool, List, take, length, string_bytes}
use Rattle.run_command.specs.command_io.Writes.{Written}
use Rattle.run_command.specs.cpp_tree.declared.program.Program.{Program}
use Rattle.run_command.specs.cpp_tree.Units.{program_of}
use Rattle.run_command.specs.exec_command.Exec.{schedule_name, bad_schedule_line}
use Rattle.object_races.specs.ObjectRaces.{DecidesObjects}
use Rattle.run_command.specs.Commands.{source_files, wants_of, AreTexts, TooMany, no_files}
use Rattle.run_command.specs.Runs.{Compiled}
use Rattle.run_command.specs.schedules.Text.{Spells as Says, IsFirstBad, most_entries}
use Rattle.run_command.specs.bounded_runs.BoundedRuns.{IsOfLinked, IsOfSource}
use Rattle.run_command.specs.src_bind.Tables.{Given}
use Rattle.run_command.specs.source_verdict.Verdict.{Accepts, RefusesTexts}
use Rattle.run_command.specs.tx_answers.Ends.{Ends, Refuses}
use Rattle.run_command.specs.tx_answers.declared.answer.Answer.{Answer}
use Rattle.run_command.specs.tx_answers.declared.answer.Status.TheVariants.{BadSchedule}
use Rattle.run_command.specs.tx_code.Objects.{ObjectView}
use Rattle.run_command.specs.tx_host.Told.{HostState}
use Rattle.run_command.specs.tx_words.declared.command.Races.{Races}
use Rattle.run_command.specs.tx_words.declared.command.RunOptions.{RunOptions}
use Rattle.run_command.specs.unit_objects.Units.{AreUnitObjects}

-- The units of a program are compiled to objects that have exactly their entries; these are linked and run, and the races of the run are reported. What code
-- the bodies have is not told.
pub record RacesUnits (o : RunOptions) (file : List ℕ) (p : Program) (names : List (List ℕ)) (input entries : List ℕ) (a : Answer)
    (writes : List Written) : Type 0 where
  pub objects : List ObjectView
  pub are_objects : AreUnitObjects (program_of p) names objects
  pub decides : DecidesObjects o file objects input entries a writes

-- The units of a linked program are run, and its races are reported; what was run is a run of the program, in the order that is answered, within its
-- turn bound.
pub record RacesLinked (o : RunOptions) (file : List ℕ) (g : Given) (names : List (List ℕ)) (input entries : List ℕ) (a : Answer)
    (writes : List Written) : Type 0 where
  pub units : RacesUnits o file g.program names input entries a writes
  pub source : IsOfLinked g input a

-- a safe program, with `fold` one that shows the program that it folds to, is compiled and run, and the races of that run are reported
pub record CompilesAndRaces (o : RunOptions) (fold : Bool) (file : List ℕ) (p : Program) (names : List (List ℕ)) (input entries : List ℕ) (a : Answer)
    (writes : List Written) : Type 0 where
  pub program : Program
  pub compiled : Compiled fold p program
  pub races : RacesUnits o file program names input entries a writes
  pub source : IsOfSource p input a

-- the first refusal of the texts; or they are a safe program, which is compiled and run
pub data DecidesTexts (o : RunOptions) (fold : Bool) (file : List ℕ) (names texts : List (List ℕ)) (input entries : List ℕ) (a : Answer)
    (writes : List Written) : Type 0 where
  refuses : RefusesTexts names texts a writes → DecidesTexts o fold file names texts input entries a writes
  runs : (p : Program) → Accepts texts p → CompilesAndRaces o fold file p names input entries a writes
      → DecidesTexts o fold file names texts input entries a writes

-- the schedule is read: a run looks at its first entries alone
pub data Decides (r : Races) (sources : List (List ℕ)) (input schedule : List ℕ) (a : Answer) (writes : List Written) : Type 0 where
  bad_schedule : (line : ℕ) → IsFirstBad schedule line → Refuses 10 (bad_schedule_line (schedule_name r.run.options.picker) line) BadSchedule a writes
      → Decides r sources input schedule a writes
  scheduled : (entries : List ℕ) → Says schedule entries
      → DecidesTexts r.run.options r.run.fold (string_bytes r.report_file) (source_files r.run) sources input (take most_entries entries) a writes
      → Decides r sources input schedule a writes

pub record DecidesOn (r : Races) (texts : List (List ℕ)) (a : Answer) (writes : List Written) : Type 0 where
  pub sources : List (List ℕ)
  pub input : List ℕ
  pub schedule : List ℕ
  pub texts_are : AreTexts r.run texts sources input schedule
  pub decides : Decides r sources input schedule a writes

-- more than 16 sources are refused before any file is read
pub data Reports (r : Races) (old new : HostState) (a : Answer) : Type 0 where
  too_many : 16 < length (source_files r.run) → Ends no_files TooMany old new a → Reports r old new a
  reports : length (source_files r.run) ≤ 16 → Ends (wants_of r.run) (DecidesOn r) old new a → Reports r old new a
