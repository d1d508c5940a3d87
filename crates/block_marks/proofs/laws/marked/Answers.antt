use Rattle.block_marks.proofs.Steps.{stays_marked, main_marked, thread_marked}
use Rattle.block_marks.proofs.laws.marked.Goals as goal

pub returns : goal.returns
returns c = record { stays = stays_marked; main = main_marked; thread = thread_marked }
