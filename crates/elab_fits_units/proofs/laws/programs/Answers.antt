use Rattle.elab_fits_units.proofs.Whole.{programs_fit}
use Rattle.elab_fits_units.proofs.laws.programs.Goals as goal

pub returns : goal.returns
returns c = record { fit = programs_fit }
