use Rattle.elab_fits.proofs.Arithmetic.{part_stands}
use Rattle.elab_fits.proofs.Unary.{indirection_stands, subscript_stands}
use Rattle.elab_fits.proofs.Assigning.{assignment_stands, compound_stands, step_stands}
use Rattle.elab_fits.proofs.laws.objects.Goals as goal

pub returns-clause-indirections : goal.returns-clause-indirections
returns-clause-indirections c = indirection_stands

pub returns-clause-subscripts : goal.returns-clause-subscripts
returns-clause-subscripts c = subscript_stands

pub returns-clause-assignments : goal.returns-clause-assignments
returns-clause-assignments c = assignment_stands

pub returns-clause-compounds : goal.returns-clause-compounds
returns-clause-compounds c = compound_stands

pub returns-clause-steps : goal.returns-clause-steps
returns-clause-steps c = step_stands

pub returns-clause-parts : goal.returns-clause-parts
returns-clause-parts c = part_stands
