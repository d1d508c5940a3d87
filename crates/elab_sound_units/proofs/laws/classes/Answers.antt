use Rattle.elab_sound_units.proofs.Steps.{methods_law, outside_law, members_law, classes_law, spelled_law}
use Rattle.elab_sound_units.proofs.laws.classes.Goals as goal

pub returns-clause-methods : goal.returns-clause-methods
returns-clause-methods c = methods_law

pub returns-clause-outside : goal.returns-clause-outside
returns-clause-outside c = outside_law

pub returns-clause-members : goal.returns-clause-members
returns-clause-members c = members_law

pub returns-clause-classes : goal.returns-clause-classes
returns-clause-classes c = classes_law

pub returns-clause-spelled : goal.returns-clause-spelled
returns-clause-spelled c = spelled_law
