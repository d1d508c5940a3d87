use Rattle.elab_unit_items.proofs.Bodies.{statements_law}
use Rattle.elab_unit_items.proofs.laws.bodies.Goals as goal

pub returns : goal.returns
returns c = record { statements = statements_law }
