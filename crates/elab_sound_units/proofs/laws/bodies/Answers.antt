use Rattle.elab_sound_units.proofs.Steps.{entered_law, objects_law, parameters_law, given_law, parts_law, copies_law}
use Rattle.elab_sound_units.proofs.laws.bodies.Goals as goal

pub returns-clause-entered : goal.returns-clause-entered
returns-clause-entered c = entered_law

pub returns-clause-objects : goal.returns-clause-objects
returns-clause-objects c = objects_law

pub returns-clause-parameters : goal.returns-clause-parameters
returns-clause-parameters c = parameters_law

pub returns-clause-given : goal.returns-clause-given
returns-clause-given c = given_law

pub returns-clause-parts : goal.returns-clause-parts
returns-clause-parts c = parts_law

pub returns-clause-copies : goal.returns-clause-copies
returns-clause-copies c = copies_law
