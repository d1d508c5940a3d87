-- Worked traces.
use Rattle.std.specs.Prelude.{List, [], ◌∷◌}
use Rattle.tx_events.specs.declared.Item.{Item}
use Rattle.tx_events.specs.declared.What.TheVariants.{Read, Write, Spawned, Joined}

-- two threads that count up one global, started and joined by the first thread
abbrev pub two_counters : List Item
two_counters = record { t = 0; what = Spawned 1 } ∷ record { t = 0; what = Spawned 2 } ∷ record { t = 1; what = Read 65536 4 }
    ∷ record { t = 1; what = Write 65536 4 } ∷ record { t = 2; what = Read 65536 4 } ∷ record { t = 2; what = Write 65536 4 }
    ∷ record { t = 0; what = Joined 1 } ∷ record { t = 0; what = Joined 2 } ∷ []
