use Rattle.elab_laws.proofs.Naming.{variables_law, captures_law, own_members_law, globals_law, enumerators_law, functions_law, qualified_enumerators_law}
use Rattle.elab_laws.proofs.naming_laws.names.Goals as goal

pub returns-clause-variables : goal.returns-clause-variables
returns-clause-variables c = variables_law

pub returns-clause-captures : goal.returns-clause-captures
returns-clause-captures c = captures_law

pub returns-clause-own_members : goal.returns-clause-own_members
returns-clause-own_members c = own_members_law

pub returns-clause-globals : goal.returns-clause-globals
returns-clause-globals c = globals_law

pub returns-clause-enumerators : goal.returns-clause-enumerators
returns-clause-enumerators c = enumerators_law

pub returns-clause-functions : goal.returns-clause-functions
returns-clause-functions c = functions_law

pub returns-clause-qualified_enumerators : goal.returns-clause-qualified_enumerators
returns-clause-qualified_enumerators c = qualified_enumerators_law
