use Rattle.elab_contexts.proofs.Holding.{starts_override, lambdas_override, operands_override, statements_override, variables_override, functions_override, outside_override, classes_override, defaults_override, methods_override, implied_override}
use Rattle.elab_contexts.proofs.Unchanged.{aliases_override, enums_override, names_override}
use Rattle.elab_contexts.proofs.laws.overriders.Goals as goal

pub returns-clause-lambdas : goal.returns-clause-lambdas
returns-clause-lambdas c = lambdas_override

pub returns-clause-operands : goal.returns-clause-operands
returns-clause-operands c = operands_override

pub returns-clause-statements : goal.returns-clause-statements
returns-clause-statements c = statements_override

pub returns-clause-variables : goal.returns-clause-variables
returns-clause-variables c = variables_override

pub returns-clause-functions : goal.returns-clause-functions
returns-clause-functions c = functions_override

pub returns-clause-outside : goal.returns-clause-outside
returns-clause-outside c = outside_override

pub returns-clause-classes : goal.returns-clause-classes
returns-clause-classes c = classes_override

pub returns-clause-defaults : goal.returns-clause-defaults
returns-clause-defaults c = defaults_override

pub returns-clause-methods : goal.returns-clause-methods
returns-clause-methods c = methods_override

pub returns-clause-implied : goal.returns-clause-implied
returns-clause-implied c = implied_override

pub returns-clause-aliases : goal.returns-clause-aliases
returns-clause-aliases c = aliases_override

pub returns-clause-enums : goal.returns-clause-enums
returns-clause-enums c = enums_override

pub returns-clause-names : goal.returns-clause-names
returns-clause-names c = names_override

pub returns-clause-starts : goal.returns-clause-starts
returns-clause-starts c = starts_override
