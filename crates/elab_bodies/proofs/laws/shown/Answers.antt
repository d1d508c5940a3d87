use Rattle.elab_bodies.proofs.Shown.{shown_law, units_law}
use Rattle.elab_bodies.proofs.laws.shown.Goals as goal

pub returns-clause-functions : goal.returns-clause-functions
returns-clause-functions c = shown_law

pub returns-clause-units : goal.returns-clause-units
returns-clause-units c = units_law
