use Rattle.std.proofs.Common.{ap, sym, ◌∙◌, length}
use Rattle.tx_serial.proofs.OnePolicy.{lengths}
use Rattle.tx_serial.proofs.OwnEnds.{at_the_bound}
use Rattle.tx_serial.proofs.runs.steps_out_at_the_bound.Goals as goal

pub returns : goal.returns
returns g c = λ p bound memory input main slots result small reached free run out.
    let both = at_the_bound g.A.Actor.is_reached g.A.Actor.thread g.met.A.Actor.laws p small bound memory input main slots result reached free run out in
    (ap length run.picked ∙ (lengths slots ∙ both.0), both.1)
