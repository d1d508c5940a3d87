use Rattle.elab_fits_statements.proofs.Anywhere.{anywhere}
use Rattle.elab_fits_statements.proofs.Roles.{values_law}
use Rattle.elab_fits_statements.proofs.Wholes.{whole_value, whole_object}
use Rattle.elab_fits_statements.proofs.laws.wholes.Goals as goal

pub returns-clause-parts : goal.returns-clause-parts
returns-clause-parts c = anywhere

pub returns-clause-values : goal.returns-clause-values
returns-clause-values c = whole_value

pub returns-clause-objects : goal.returns-clause-objects
returns-clause-objects c = whole_object

pub returns-clause-statements : goal.returns-clause-statements
returns-clause-statements c = values_law
