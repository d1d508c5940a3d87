use Rattle.std.proofs.Common.{◌≡◌, length}
use Rattle.link_tables.specs.Symbols.{Tells, number_for}
use Rattle.link_tables.proofs.places.numbers.Given as goal

abbrev pub invariant-loop-rank : goal.invariant-loop-rank
invariant-loop-rank l = Tells (number_for l.ranks l.defs) l.table.items × (length l.table.items ≡ l.rank-index)
