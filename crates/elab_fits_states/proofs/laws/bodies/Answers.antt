use Rattle.elab_fits_states.proofs.Bodies.{bodies_fit}
use Rattle.elab_fits_states.proofs.Made.{bodies_stay}
use Rattle.elab_fits_states.proofs.laws.bodies.Goals as goal

pub returns-clause-bodies : goal.returns-clause-bodies
returns-clause-bodies c = bodies_fit

pub returns-clause-stay : goal.returns-clause-stay
returns-clause-stay c = bodies_stay
