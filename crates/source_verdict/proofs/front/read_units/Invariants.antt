use Rattle.std.proofs.Common.{map, take}
use Rattle.source_verdict.specs.Front.{AreRead}
use Rattle.source_verdict.proofs.front.read_units.Given as goal

-- the texts so far are the units so far
abbrev pub invariant-texts : goal.invariant-texts
invariant-texts l = AreRead 0 (map (λ text. text.items) (take l.index l.texts)) l.units.items
