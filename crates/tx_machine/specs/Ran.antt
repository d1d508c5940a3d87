-- The record of a run.
use Rattle.std.specs.Prelude.{◌≡◌, Option}
use Rattle.tx_serial.specs.Run.{Outcome}
use Rattle.tx_machine.specs.declared.run.Ran.{Ran}

-- It has each part of what the run came to, and this place.
pub record IsRan {S P : Type 0} (outcome : Outcome S) (at : Option P) (ran : Ran P) : Type 0 where
  pub out : ran.out.items ≡ outcome.out
  pub end : ran.end ≡ outcome.end
  pub order : ran.order.items ≡ outcome.order
  pub picked : ran.picked.items ≡ outcome.picked
  pub counts : record { ran = ran.ran; waited = ran.waited; rolled = ran.rolled; idle = ran.idle } ≡ outcome.counts
  pub place : ran.place ≡ at
