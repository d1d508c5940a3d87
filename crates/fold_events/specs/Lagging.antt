-- A thread that leaves out silent steps of another one.
use Rattle.std.specs.Prelude.{◌≡◌, ℕ}
use Rattle.tx_events.specs.Thread.{Thread}
use Rattle.tx_events.specs.Simulation.{Path}

-- the first thread comes by silent steps to a state for which this one of the second stands
pub record Lags {S T : Type 0} (a : Thread S) (shown : S → T) (s : S) (r : T) : Type 0 where
  pub many : ℕ
  pub to : S
  pub path : Path a many s to
  pub is : r ≡ shown to
