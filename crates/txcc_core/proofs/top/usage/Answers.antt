use Rattle.std.proofs.Common.{[], refl}
use Rattle.txcc_core.specs.TopCall.{DecidesUsage, no_files}
use Rattle.run_command.proofs.tx_answers.Endings.{ends_settled}
use Rattle.txcc_core.proofs.top.usage.Goals as goal

pub returns : goal.returns
returns g c =
    let before = g.H.Host.state c.args.host.now in
    ends_settled no_files DecidesUsage before before
    (g.H.Host.state c.settle.new.host) [] c.usage_lines.result c.settle.result refl c.usage_lines.ensures c.settle.ensures
