use Rattle.elab_sound_units.proofs.Programs.{starts_law, later_law, programs_law}
use Rattle.elab_sound_units.proofs.Units.{declarations_law, units_law}
use Rattle.elab_sound_units.proofs.laws.units.Goals as goal

pub returns-clause-starts : goal.returns-clause-starts
returns-clause-starts c = starts_law

pub returns-clause-later : goal.returns-clause-later
returns-clause-later c = later_law

pub returns-clause-declarations : goal.returns-clause-declarations
returns-clause-declarations c = declarations_law

pub returns-clause-units : goal.returns-clause-units
returns-clause-units c = units_law

pub returns-clause-programs : goal.returns-clause-programs
returns-clause-programs c = programs_law
