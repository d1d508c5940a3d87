-- What was run with its races is a run of an image that the objects link to.
use Rattle.std.proofs.Common.{ℕ, List, ap}
use Rattle.command_io.specs.Writes.{Written}
use Rattle.held_runs.specs.HeldRuns.{IsOfObjects, of_nothing, of_image}
use Rattle.held_runs.proofs.Held.{nothing_ran}
use Rattle.named_runs.specs.NamedRuns.{picker_of, policy_of}
use Rattle.object_races.specs.ObjectRaces.{DecidesObjects, faulty, linked}
use Rattle.tx_answers.specs.declared.answer.Answer.{Answer}
use Rattle.tx_code.specs.Objects.{ObjectView}
use Rattle.tx_words.specs.declared.command.RunOptions.{RunOptions}

pub of_raced : (o : RunOptions) (file : List ℕ) (objects : List ObjectView) (input entries : List ℕ) (a : Answer) (writes : List Written)
    → DecidesObjects o file objects input entries a writes → IsOfObjects objects input a
of_raced o file objects input entries a writes (faulty fault is refuses) = of_nothing (nothing_ran a writes fault refuses)
of_raced o file objects input entries a writes (linked image links runs) =
    of_image image links (picker_of o.picker entries) (policy_of o.policy) o.steps runs.ran runs.run (ap (λ (x : Answer). x.ran) runs.answer)
