use Rattle.lowered_notes.proofs.Straight.{all_fit}
use Rattle.lowered_notes.proofs.laws.straight_code_fits.Goals as goal

pub returns : goal.returns
returns c = λ p b book h q known o half going plain instrs ws vs s index rank there noted l. all_fit p b book h q known o half going plain s index rank there noted l
