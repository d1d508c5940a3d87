use Rattle.fold_fits.proofs.Programs.{programs_fit}
use Rattle.fold_fits.proofs.laws.programs.Goals as goal

pub returns : goal.returns
returns c = programs_fit
