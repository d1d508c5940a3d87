use Rattle.std.proofs.Common.{◌≤◌, ◌-◌, length}
use Rattle.own_table.specs.Bits.{has_bit}
use Rattle.tx_serial.specs.Machine.{birth_of}
use Rattle.tx_runtime.specs.Blocks.{Sums}
use Rattle.tx_runtime.specs.View.{machine_in}
use Rattle.tx_runtime.proofs.access.Engine+A+A+Saved.sum_up.Given as goal

abbrev pub invariant-threads : goal.invariant-threads
invariant-threads g l = record {
  within : l.from ≤ length l.self.threads.items;
  sums : Sums (has_bit l.threads) (λ v. birth_of ((machine_in g.A.Actor.state g.A.Actor.saved_state l.self).threads v)) l.from l.found;
}

abbrev pub decreases-threads : goal.decreases-threads
decreases-threads g l = length l.self.threads.items - l.from
