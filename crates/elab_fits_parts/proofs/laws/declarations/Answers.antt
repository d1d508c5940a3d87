use Rattle.elab_fits_parts.proofs.Walks.{variables_law, aliases_law, enums_law, names_law, functions_law, outside_law, classes_law, defaults_law, methods_law}
use Rattle.elab_fits_parts.proofs.Walks.{bodies_law}
use Rattle.elab_fits_parts.proofs.laws.declarations.Goals as goal

pub returns-clause-variables : goal.returns-clause-variables
returns-clause-variables c = variables_law

pub returns-clause-aliases : goal.returns-clause-aliases
returns-clause-aliases c = aliases_law

pub returns-clause-enums : goal.returns-clause-enums
returns-clause-enums c = enums_law

pub returns-clause-names : goal.returns-clause-names
returns-clause-names c = names_law

pub returns-clause-functions : goal.returns-clause-functions
returns-clause-functions c = functions_law

pub returns-clause-outside : goal.returns-clause-outside
returns-clause-outside c = outside_law

pub returns-clause-classes : goal.returns-clause-classes
returns-clause-classes c = classes_law

pub returns-clause-defaults : goal.returns-clause-defaults
returns-clause-defaults c = defaults_law

pub returns-clause-methods : goal.returns-clause-methods
returns-clause-methods c = methods_law

pub returns-clause-bodies : goal.returns-clause-bodies
returns-clause-bodies c = bodies_law
