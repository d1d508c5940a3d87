use Rattle.elab_fits_statements.proofs.Scalars.{scalars_law}
use Rattle.elab_fits_statements.proofs.Fields.{fields_serve}
use Rattle.elab_fits_statements.proofs.Variables.{condition_fits, variable_stands, variable_fits, end_fits, return_fits, object_returned}
use Rattle.elab_fits_statements.proofs.Switches.{switched_law}
use Rattle.elab_fits_statements.proofs.laws.variables.Goals as goal

pub returns-clause-conditions : goal.returns-clause-conditions
returns-clause-conditions c = condition_fits

pub returns-clause-switched : goal.returns-clause-switched
returns-clause-switched c = switched_law

pub returns-clause-places : goal.returns-clause-places
returns-clause-places c = variable_stands

pub returns-clause-objects : goal.returns-clause-objects
returns-clause-objects c = variable_fits

pub returns-clause-ends : goal.returns-clause-ends
returns-clause-ends c = end_fits

pub returns-clause-returns : goal.returns-clause-returns
returns-clause-returns c = return_fits

pub returns-clause-returned : goal.returns-clause-returned
returns-clause-returned c = object_returned

pub returns-clause-fields : goal.returns-clause-fields
returns-clause-fields c = fields_serve

pub returns-clause-scalars : goal.returns-clause-scalars
returns-clause-scalars c = scalars_law
