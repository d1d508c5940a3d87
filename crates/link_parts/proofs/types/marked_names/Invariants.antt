use Rattle.std.proofs.Common.{◌≡◌, map, take}
use Rattle.tx_code.specs.Objects.{bytes_of}
use Rattle.link_parts.specs.Types.{marked}
use Rattle.link_parts.proofs.types.marked_names.Given as goal

abbrev pub invariant-loop-name : goal.invariant-loop-name
invariant-loop-name l = (map bytes_of l.types.items ≡ marked (map bytes_of (take l.name-index l.all)) l.marks) × (l.i ≡ l.name-index)
