use Rattle.state_growth.proofs.Units.{declarations_law, units_law, begin_law, held_law}
use Rattle.state_growth.proofs.laws.units.Goals as goal

pub returns-clause-declarations : goal.returns-clause-declarations
returns-clause-declarations c = declarations_law

pub returns-clause-units : goal.returns-clause-units
returns-clause-units c = units_law

pub returns-clause-begin : goal.returns-clause-begin
returns-clause-begin c = begin_law

pub returns-clause-held : goal.returns-clause-held
returns-clause-held c = held_law
