use Rattle.elab_sound_units.proofs.Steps.{variables_law, aliases_law, enums_law, names_law, functions_law, definitions_law}
use Rattle.elab_sound_units.proofs.laws.declarations.Goals as goal

pub returns-clause-variables : goal.returns-clause-variables
returns-clause-variables c = variables_law

pub returns-clause-aliases : goal.returns-clause-aliases
returns-clause-aliases c = aliases_law

pub returns-clause-enums : goal.returns-clause-enums
returns-clause-enums c = enums_law

pub returns-clause-names : goal.returns-clause-names
returns-clause-names c = names_law

pub returns-clause-functions : goal.returns-clause-functions
returns-clause-functions c = functions_law

pub returns-clause-definitions : goal.returns-clause-definitions
returns-clause-definitions c = definitions_law
