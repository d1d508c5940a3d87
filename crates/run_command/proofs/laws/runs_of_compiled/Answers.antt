use Rattle.run_command.proofs.Folding.{source_kept}
use Rattle.run_command.proofs.laws.runs_of_compiled.Goals as goal

pub returns : goal.returns
returns c = source_kept c.same_bound.ensures c.same_memory.ensures.size c.same_memory.ensures.bound
