use Rattle.std.proofs.Common.{ap, true}
use Rattle.tx_serial.specs.Machine.{Local}
use Rattle.tx_runtime.proofs.thread.ThreadSlot+A+A+Saved.finish.Goals as goal

pub returns-clause-local : goal.returns-clause-local
returns-clause-local g c = λ holders t. ap (λ (l : Local g.A.Actor.State). record l { ended = true }) (c.go_on.ensures.local holders t)
