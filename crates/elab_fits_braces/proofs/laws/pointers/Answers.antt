use Rattle.elab_fits_braces.proofs.This.{object_is_this, own_is_this}
use Rattle.elab_fits_braces.proofs.laws.pointers.Goals as goal

pub returns-clause-objects : goal.returns-clause-objects
returns-clause-objects c = object_is_this

pub returns-clause-own : goal.returns-clause-own
returns-clause-own c = own_is_this
