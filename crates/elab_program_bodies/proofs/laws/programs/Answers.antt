use Rattle.elab_program_bodies.proofs.Programs.{come_law, places_law, functions_law}
use Rattle.elab_program_bodies.proofs.laws.programs.Goals as goal

pub returns-clause-come : goal.returns-clause-come
returns-clause-come c = come_law

pub returns-clause-places : goal.returns-clause-places
returns-clause-places c = places_law

pub returns-clause-functions : goal.returns-clause-functions
returns-clause-functions c = functions_law
