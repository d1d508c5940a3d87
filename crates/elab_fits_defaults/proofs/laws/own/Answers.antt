use Rattle.elab_fits_defaults.proofs.Own.{own_build}
use Rattle.elab_fits_defaults.proofs.laws.own.Goals as goal

pub returns : goal.returns
returns c = record { own = own_build }
