use Rattle.elab_places.proofs.DefaultsKept.{declarations_law, all_declarations_law, units_law, begin_law, all_defaults_law}
use Rattle.elab_places.proofs.laws.declarations.Goals as goal

pub returns-clause-each : goal.returns-clause-each
returns-clause-each c = declarations_law

pub returns-clause-all : goal.returns-clause-all
returns-clause-all c = all_declarations_law

pub returns-clause-units : goal.returns-clause-units
returns-clause-units c = units_law

pub returns-clause-begin : goal.returns-clause-begin
returns-clause-begin c = begin_law

pub returns-clause-defaults : goal.returns-clause-defaults
returns-clause-defaults c = all_defaults_law
