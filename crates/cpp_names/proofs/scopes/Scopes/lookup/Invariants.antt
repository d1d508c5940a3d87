use Rattle.std.proofs.Common.{◌≡◌, length, reverse}
use Rattle.cpp_names.specs.Names.{found_in}
use Rattle.cpp_names.proofs.scopes.Scopes.lookup.Given as goal

-- the scopes further out decide
abbrev pub invariant-outwards : goal.invariant-outwards
invariant-outwards l = found_in l.fn.self l.name ≡ found_in (reverse l.inner) l.name

abbrev pub decreases-outwards : goal.decreases-outwards
decreases-outwards l = length l.inner
