use Rattle.std.proofs.Common.{[], refl}
use Rattle.tx_answers.proofs.Endings.{ends_settled}
use Rattle.explain_command.specs.Explain.{DecidesExplanation}
use Rattle.explain_command.proofs.explaining.explain.Goals as goal

pub returns : goal.returns
returns g c =
    let before = g.H.Host.state c.args.host.now in
    ends_settled [] (DecidesExplanation c.args.rule.now) before before
    (g.H.Host.state c.settle.new.host) [] c.decided.result c.settle.result refl c.decided.ensures c.settle.ensures
