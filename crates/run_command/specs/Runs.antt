-- What becomes of texts that are to be run.
use Rattle.std.specs.Prelude.{◌≡◌, ℕ, Bool, true, false, List}
use Rattle.bounded_runs.specs.BoundedRuns.{IsOfLinked, IsOfSource}
use Rattle.command_io.specs.Writes.{Written}
use Rattle.cpp_tree.specs.declared.program.Program.{Program}
use Rattle.cpp_tree.specs.Units.{program_of}
use Rattle.cpp_tree.specs.WellFormed.{WellFormed}
use Rattle.exec_command.specs.Exec.{RunsObjects}
use Rattle.src_bind.specs.Tables.{Given}
use Rattle.source_verdict.specs.Verdict.{Accepts, RefusesTexts}
use Rattle.tx_answers.specs.declared.answer.Answer.{Answer}
use Rattle.tree_fold.specs.Programs.{folded_program}
use Rattle.tx_code.specs.Objects.{ObjectView}
use Rattle.tx_safety.specs.Safe.{IsSafe}
use Rattle.tx_words.specs.declared.command.RunOptions.{RunOptions}
use Rattle.unit_objects.specs.Units.{AreUnitObjects}

-- What is compiled of a program: the program itself, or with `--fold` one that shows the folded program. It is well formed and safe too
abbrev pub IsCompiled : (fold : Bool) → Program → Program → Type 0
IsCompiled true p q = program_of q ≡ folded_program (program_of p)
IsCompiled false p q = q ≡ p

pub record Compiled (fold : Bool) (p q : Program) : Type 0 where
  pub is : IsCompiled fold p q
  pub well_formed : WellFormed q
  pub safe : IsSafe (program_of q)

-- The units of a program are compiled to objects that have exactly the entries of the units; these are linked and run, and the only refusal is that they can't
-- be linked. What code the bodies have is not told.
pub record RunsUnits (o : RunOptions) (p : Program) (names : List (List ℕ)) (input entries : List ℕ) (a : Answer) (writes : List Written) : Type 0 where
  pub objects : List ObjectView
  pub are_objects : AreUnitObjects (program_of p) names objects
  pub decides : RunsObjects o objects input entries a writes

-- The units of a linked program are run, and what was run of them is a run of the program, in the order that is answered, within its turn bound.
pub record RunsLinked (o : RunOptions) (g : Given) (names : List (List ℕ)) (input entries : List ℕ) (a : Answer) (writes : List Written) : Type 0 where
  pub units : RunsUnits o g.program names input entries a writes
  pub source : IsOfLinked g input a

-- A safe program is compiled, with `--fold` the program that it folds to, and run; what was run is a run of the program itself, in the order that is answered, within
-- its turn bound.
pub record CompilesAndRuns (o : RunOptions) (fold : Bool) (p : Program) (names : List (List ℕ)) (input entries : List ℕ) (a : Answer)
    (writes : List Written) : Type 0 where
  pub program : Program
  pub compiled : Compiled fold p program
  pub runs : RunsUnits o program names input entries a writes
  pub source : IsOfSource p input a

-- the first refusal of the texts; or they are a safe program, which is compiled and run
pub data DecidesTexts (o : RunOptions) (fold : Bool) (names texts : List (List ℕ)) (input entries : List ℕ) (a : Answer) (writes : List Written) : Type 0 where
  refuses : RefusesTexts names texts a writes → DecidesTexts o fold names texts input entries a writes
  runs : (p : Program) → Accepts texts p → CompilesAndRuns o fold p names input entries a writes → DecidesTexts o fold names texts input entries a writes
