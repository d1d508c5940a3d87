use Rattle.tx_serial.proofs.OneTrace.{one_trace}
use Rattle.std.proofs.Common.{refl}
use Rattle.tx_serial.specs.Trace.{items_of}
use Rattle.tx_serial.proofs.trace.one_trace.Goals as goal

pub returns-clause-exists : goal.returns-clause-exists
returns-clause-exists g c = λ p start v order h. (items_of g.A.Actor.thread p start order v h, record { world = v; replays = h; is = refl })

pub returns-clause-unique : goal.returns-clause-unique
returns-clause-unique g c = λ p start order items other. one_trace g.A.Actor.thread p start order items other
