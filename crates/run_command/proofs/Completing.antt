-- Accepted texts are run, or can't be linked.
use Rattle.std.specs.Prelude.{◌≡◌, ℕ, Bool, List}
use Rattle.command_io.specs.Writes.{Written}
use Rattle.cpp_tree.specs.declared.program.Program.{Program}
use Rattle.cpp_tree.specs.Units.{program_of}
use Rattle.exec_command.specs.Exec.{RunsObjects, cannot_link as has_fault, links}
use Rattle.source_verdict.specs.Nested.{HasNested}
use Rattle.source_verdict.specs.Verdict.{Accepts, RefusesTexts}
use Rattle.tx_answers.specs.declared.answer.Answer.{Answer}
use Rattle.tx_code.specs.Objects.{ObjectView}
use Rattle.tx_words.specs.declared.command.RunOptions.{RunOptions}
use Rattle.unit_objects.specs.Units.{AreUnitObjects}
use Rattle.run_command.specs.Runs.{Compiled, DecidesTexts, runs, refuses}
use Rattle.run_command.specs.Completes.{Completes, Completed, cannot_link, runs_through}

of_objects : (o : RunOptions) (fold : Bool) (p q : Program) (names : List (List ℕ)) (objects : List ObjectView) (input entries : List ℕ) (a : Answer)
    (writes : List Written) → Compiled fold p q → AreUnitObjects (program_of q) names objects → RunsObjects o objects input entries a writes
    → Completes fold p names a writes
of_objects o fold p q names objects input entries a writes compiled are (has_fault fault faulty told) =
    cannot_link (record { program = q; compiled = compiled; objects = objects; are_objects = are; fault = fault; faulty = faulty; refuses = told })
of_objects o fold p q names objects input entries a writes compiled are (links image is run) = runs_through (record { ran = run.ran; answer = run.is.answer })

pub completed : ((names texts : List (List ℕ)) (p : Program) (a : Answer) (writes : List Written) → Accepts texts p → RefusesTexts names texts a writes →
    HasNested texts) → ((texts : List (List ℕ)) (p q : Program) → Accepts texts p → Accepts texts q → program_of p ≡ program_of q)
    → (o : RunOptions) (fold : Bool) (names texts : List (List ℕ)) (input entries : List ℕ) (p : Program) (a : Answer) (writes : List Written) → Accepts texts p
    → (HasNested texts → ⊥) → DecidesTexts o fold names texts input entries a writes → Completed fold p names a writes
completed only one o fold names texts input entries p a writes accepted flat (refuses r) = absurd (flat (only names texts p a writes accepted r))
completed only one o fold names texts input entries p a writes accepted flat (runs q is c) = record {
  program = q;
  same = one texts q p is accepted;
  completes = of_objects o fold q c.program names c.runs.objects input entries a writes c.compiled c.runs.are_objects c.runs.decides;
}
