use Rattle.std.proofs.Common.{◌≡◌, ◌+◌, map, take}
use Rattle.tx_code.specs.Linked.{or_none}
use Rattle.link_tables.specs.Renamed.{told}
use Rattle.link_parts.proofs.parts.slots_of.Given as goal

abbrev pub invariant-loop-slot : goal.invariant-loop-slot
invariant-loop-slot l = l.copy.items ≡ map (or_none (λ n. told l.numbers.funcs.items (l.start + n))) (take l.slot-index l.slots)
