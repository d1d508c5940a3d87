use Rattle.tx_serial.proofs.OneTrace.{trace_grows}
use Rattle.tx_serial.proofs.trace.trace_grows.Goals as goal

pub returns : goal.returns
returns g c = λ p start order t items more. trace_grows g.A.Actor.thread p start order t items more
