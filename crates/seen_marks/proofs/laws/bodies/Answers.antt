use Rattle.seen_marks.proofs.laws.bodies.Goals as goal
use Rattle.seen_marks.proofs.Trees.{bodies_law}

-- src/laws.rt:6:1
pub returns : goal.returns
returns c = record { unmarked = bodies_law }
