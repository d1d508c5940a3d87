use Rattle.elab_leaving.proofs.Units.{whole_same}
use Rattle.elab_leaving.proofs.laws.programs.Goals as goal

pub returns : goal.returns
returns c = λ xs. whole_same xs
