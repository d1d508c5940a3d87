use Rattle.lowered_apart.proofs.Below.{well_formed_still}
use Rattle.lowered_apart.proofs.laws.well_formed_bodies_are_still.Goals as goal

pub returns : goal.returns
returns c = λ g s root o e w u. well_formed_still g s root o e w u
