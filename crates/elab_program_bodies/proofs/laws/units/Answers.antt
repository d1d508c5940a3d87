use Rattle.elab_program_bodies.proofs.Shown.{hold_law, once_law, places_law, functions_law}
use Rattle.elab_program_bodies.proofs.laws.units.Goals as goal

pub returns-clause-hold : goal.returns-clause-hold
returns-clause-hold c = hold_law

pub returns-clause-once : goal.returns-clause-once
returns-clause-once c = once_law

pub returns-clause-places : goal.returns-clause-places
returns-clause-places c = places_law

pub returns-clause-functions : goal.returns-clause-functions
returns-clause-functions c = functions_law
