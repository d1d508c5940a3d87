use Rattle.setting_growth.proofs.Bodies.{body_law}
use Rattle.setting_growth.proofs.laws.bodies.Goals as goal

pub returns : goal.returns
returns c = body_law
