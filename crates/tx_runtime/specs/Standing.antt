-- Where a thread stands that takes a turn.
use Rattle.std.specs.Prelude.{ℕ}
use Rattle.tx_events.specs.Thread.{Thread}
use Rattle.tx_serial.specs.Machine.{Machine}
use Rattle.tx_runtime.specs.declared.turn.Standing.{Standing}
use Rattle.tx_runtime.specs.declared.turn.Standing.TheVariants.{Still, Outside, Inside, Undoing, Releasing}
use Rattle.tx_runtime.specs.Here.{IsStill, GoesOutside, GoesInside, GivesUp, Closes}

abbrev pub StandsAt : {S : Type 0} → (S → Type 0) → Thread S → ℕ → Machine S → Standing → Type 0
StandsAt R a t m Still = IsStill t m
StandsAt R a t m (Outside e) = GoesOutside R a t m e
StandsAt R a t m (Inside e) = GoesInside R a t m e
StandsAt R a t m Undoing = GivesUp t m
StandsAt R a t m Releasing = Closes t m
