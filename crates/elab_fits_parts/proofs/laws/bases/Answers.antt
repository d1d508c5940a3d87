use Rattle.elab_fits_parts.proofs.Bases.{bases_law}
use Rattle.elab_fits_parts.proofs.laws.bases.Goals as goal

pub returns : goal.returns
returns c = record { build = bases_law }
