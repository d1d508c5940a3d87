use Rattle.lowered_trees.proofs.Bodies.{body_runs}
use Rattle.lowered_trees.proofs.laws.bodies_run.Goals as goal

pub returns : goal.returns
returns c = body_runs
