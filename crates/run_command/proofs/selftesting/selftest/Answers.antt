use Rattle.std.proofs.Common.{[], refl}
use Rattle.tx_answers.proofs.Endings.{ends_settled}
use Rattle.run_command.specs.Commands.{DecidesSelftest}
use Rattle.run_command.proofs.selftesting.selftest.Goals as goal

pub returns : goal.returns
returns g c =
    let before = g.H.Host.state c.args.host.now in
    ends_settled [] (DecidesSelftest c.args.n) before before
    (g.H.Host.state c.settle.new.host) [] c.decided.result c.settle.result refl c.decided.ensures c.settle.ensures
