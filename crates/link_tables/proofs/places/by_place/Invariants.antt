use Rattle.std.proofs.Common.{◌≡◌, take, length}
use Rattle.link_tables.specs.Symbols.{Tells, number_of, has_place}
use Rattle.link_tables.proofs.places.by_place.Given as goal

abbrev pub invariant-loop-def : goal.invariant-loop-def
invariant-loop-def l = Tells (λ k. number_of (has_place k) (take l.def-index l.defs)) l.table.items × (length l.table.items ≡ l.places)
