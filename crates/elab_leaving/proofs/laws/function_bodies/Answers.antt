use Rattle.elab_leaving.proofs.Leaving.{function_same}
use Rattle.elab_leaving.proofs.laws.function_bodies.Goals as goal

pub returns : goal.returns
returns c = λ lams q s st h this place t e. function_same lams q s st h this place t e
