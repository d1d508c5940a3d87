use Rattle.elab_leaving.proofs.Units.{unit_same}
use Rattle.elab_leaving.proofs.laws.units.Goals as goal

pub returns : goal.returns
returns c = λ s st decls e. unit_same s st decls e
