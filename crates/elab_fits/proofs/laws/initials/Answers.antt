use Rattle.elab_fits.proofs.Initials.{initial_gives}
use Rattle.elab_fits.proofs.Binding.{reference_binds}
use Rattle.elab_fits.proofs.laws.initials.Goals as goal

pub returns-clause-scalars : goal.returns-clause-scalars
returns-clause-scalars c = initial_gives

pub returns-clause-references : goal.returns-clause-references
returns-clause-references c = reference_binds
