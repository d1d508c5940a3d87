use Rattle.elab_sound_units.proofs.Steps.{constructors_law, destructors_law, bodies_law, defaults_law, late_law, outside_bodies_law, implied_law}
use Rattle.elab_sound_units.proofs.laws.members.Goals as goal

pub returns-clause-constructors : goal.returns-clause-constructors
returns-clause-constructors c = constructors_law

pub returns-clause-destructors : goal.returns-clause-destructors
returns-clause-destructors c = destructors_law

pub returns-clause-methods : goal.returns-clause-methods
returns-clause-methods c = bodies_law

pub returns-clause-defaults : goal.returns-clause-defaults
returns-clause-defaults c = defaults_law

pub returns-clause-late : goal.returns-clause-late
returns-clause-late c = late_law

pub returns-clause-outside : goal.returns-clause-outside
returns-clause-outside c = outside_bodies_law

pub returns-clause-implied : goal.returns-clause-implied
returns-clause-implied c = implied_law
