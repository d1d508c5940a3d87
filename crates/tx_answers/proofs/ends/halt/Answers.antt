use Rattle.std.proofs.Common.{subst, sym}
use Rattle.command_io.specs.Reads.{wanted}
use Rattle.tx_answers.specs.Ends.{Halts}
use Rattle.tx_answers.proofs.Endings.{at_limit}
use Rattle.tx_answers.proofs.ends.halt.Goals as goal

pub returns-in-TooLong : goal.returns-in-TooLong
returns-in-TooLong g c =
    let w = wanted c.args.kind c.args.name.now in
    let before = g.H.Host.state c.args.host.now in
    let after = g.H.Host.state c.settle.new.host in
    subst (λ u. Halts w u before after c.settle.result) (sym c.in-TooLong.is)
    (at_limit w before after c.over_limit.result c.settle.result c.over_limit.ensures c.settle.ensures)
