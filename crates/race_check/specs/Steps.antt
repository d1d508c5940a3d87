-- Steps that two items tell by themselves.
use Rattle.std.specs.Prelude.{ℕ, ◌==◌, Bool, false}
use Rattle.tx_events.specs.declared.What.{What}
use Rattle.tx_events.specs.declared.What.TheVariants.{Read, Write, Enter, Leave, Spawned, Joined}

-- it starts thread n
abbrev pub starts_it : What → ℕ → Bool
starts_it (Spawned child) n = child == n
starts_it (Joined child) n = false
starts_it (Read addr size) n = false
starts_it (Write addr size) n = false
starts_it Enter n = false
starts_it Leave n = false

-- it joins thread n
abbrev pub joins_it : What → ℕ → Bool
joins_it (Joined child) n = child == n
joins_it (Spawned child) n = false
joins_it (Read addr size) n = false
joins_it (Write addr size) n = false
joins_it Enter n = false
joins_it Leave n = false
