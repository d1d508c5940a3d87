use Rattle.low_code.specs.Writer.{body_of}
use Rattle.low_code.proofs.Jumps.{bind_next}
use Rattle.low_code.proofs.writer.Writer.bind_all.Goals as goal

pub loop-i-preserved : goal.loop-i-preserved
loop-i-preserved c = bind_next c.args.scope c.args.sort (body_of c.args.self.now) (body_of c.loop-i.self) (body_of c.bind_there.new.self) c.loop-i.i
    c.in_ok-pending.pending c.loop-i.invariant c.in_ok-pending.ensures c.in_ok-bind_there.ensures
