use Rattle.std.proofs.Common.{refl}
use Rattle.tx_serial.specs.Turn.{first_machine}
use Rattle.tx_serial.proofs.TrapPlaces.{run_place}
use Rattle.tx_serial.proofs.runs.trapped_at_a_place.Goals as goal

pub returns : goal.returns
returns g c = λ p bound memory input main slots result run. run_place g.A.Actor.thread p bound (first_machine memory input main) slots result refl run
