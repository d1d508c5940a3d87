use Rattle.elab_fits_forms.proofs.Variables.{variable_stands}
use Rattle.elab_fits_forms.proofs.Members.{members_mean}
use Rattle.elab_fits_forms.proofs.Names.{entities_mean, names_mean, resolved_stand}
use Rattle.elab_fits_forms.proofs.Leaves.{this_stands, leaves_mean}
use Rattle.elab_fits_forms.proofs.laws.names.Goals as goal

pub returns-clause-variables : goal.returns-clause-variables
returns-clause-variables c = variable_stands

pub returns-clause-this : goal.returns-clause-this
returns-clause-this c = this_stands

pub returns-clause-entities : goal.returns-clause-entities
returns-clause-entities c = entities_mean

pub returns-clause-members : goal.returns-clause-members
returns-clause-members c = members_mean

pub returns-clause-names : goal.returns-clause-names
returns-clause-names c = names_mean

pub returns-clause-resolved : goal.returns-clause-resolved
returns-clause-resolved c = resolved_stand

pub returns-clause-leaves : goal.returns-clause-leaves
returns-clause-leaves c = leaves_mean
