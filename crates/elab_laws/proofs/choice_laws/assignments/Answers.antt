use Rattle.elab_laws.proofs.Assigning.{assignments_law, compounds_law}
use Rattle.elab_laws.proofs.choice_laws.assignments.Goals as goal

pub returns-clause-assignments : goal.returns-clause-assignments
returns-clause-assignments c = assignments_law

pub returns-clause-compounds : goal.returns-clause-compounds
returns-clause-compounds c = compounds_law
