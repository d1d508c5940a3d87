use Rattle.std.proofs.Common.{ℕ, ◌≡◌, ◌==◌, ◌<◌, not, false}
use Rattle.std.specs.Prelude.{◌&&◌}
use Rattle.tx_serial.specs.Machine.{live_in}
use Rattle.tx_runtime.specs.View.{machine_in}
use Rattle.tx_runtime.proofs.outside.Engine+A+A+Saved.busy.Given as goal

abbrev pub invariant-loop-u : goal.invariant-loop-u
invariant-loop-u g l = (v : ℕ) → v < l.u → (not (v == l.t) && live_in ((machine_in g.A.Actor.state g.A.Actor.saved_state l.self).threads v)) ≡ false
