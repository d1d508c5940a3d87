use Rattle.elab_plain.proofs.Programs.{plain_law}
use Rattle.elab_plain.proofs.laws.programs.Goals as goal

pub returns : goal.returns
returns c = plain_law
