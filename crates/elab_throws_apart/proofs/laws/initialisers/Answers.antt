use Rattle.elab_throws_apart.proofs.Initials.{initialisers_law}
use Rattle.elab_throws_apart.proofs.laws.initialisers.Goals as goal

pub returns : goal.returns
returns c = record { initialisers = initialisers_law }
