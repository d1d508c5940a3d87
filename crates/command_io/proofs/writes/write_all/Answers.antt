use Rattle.command_io.proofs.Steps.{stops_at, writes_more}
use Rattle.command_io.proofs.writes.write_all.Goals as goal

pub returns-in-Err-clause-unwritten : goal.returns-in-Err-clause-unwritten
returns-in-Err-clause-unwritten g c =
    stops_at (g.H.Host.state c.args.host.now) (g.H.Host.state c.writes.host)
    (g.H.Host.state c.write_one.new.host) c.args.writes.now c.writes.write-index c.write-item.result c.in-Err.fault c.writes-test.true c.write-item.is
    c.writes.invariant c.in-Err.ensures.unwritten

pub writes-preserved : goal.writes-preserved
writes-preserved g c =
    writes_more (g.H.Host.state c.args.host.now) (g.H.Host.state c.writes.host)
    (g.H.Host.state c.write_one.new.host) c.args.writes.now c.writes.write-index c.write-item.result c.writes-test.true c.write-item.is c.writes.invariant
    c.in_default.ensures.written
