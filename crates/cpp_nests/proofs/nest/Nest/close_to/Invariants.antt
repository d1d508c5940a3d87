use Rattle.std.proofs.Common.{◌≡◌, length, reverse}
use Rattle.cpp_nests.specs.Nests.{closed_to}
use Rattle.cpp_nests.proofs.nest.Nest.close_to.Given as goal

abbrev pub decreases-close : goal.decreases-close
decreases-close l = length l.self-inside.open.items

abbrev pub invariant-close : goal.invariant-close
invariant-close l = closed_to l.rank (reverse l.self-inside.open.items) ≡ closed_to l.rank (reverse l.initial.self-inside.open.items)
