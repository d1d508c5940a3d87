use Rattle.elab_contexts.proofs.Holding.{starts_law, later_law, declarations_law, units_law, specials_law}
use Rattle.elab_contexts.proofs.laws.holding.Goals as goal

pub returns-clause-starts : goal.returns-clause-starts
returns-clause-starts c = starts_law

pub returns-clause-later : goal.returns-clause-later
returns-clause-later c = later_law

pub returns-clause-declarations : goal.returns-clause-declarations
returns-clause-declarations c = declarations_law

pub returns-clause-units : goal.returns-clause-units
returns-clause-units c = units_law

pub returns-clause-specials : goal.returns-clause-specials
returns-clause-specials c = specials_law
