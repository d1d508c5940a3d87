use Rattle.std.proofs.Common.{◌≡◌, map, take}
use Rattle.tx_code.specs.Linked.{end_of}
use Rattle.link_tables.specs.Found.{global_of_row, global_row}
use Rattle.link_parts.specs.Parts.{cells_told}
use Rattle.link_parts.proofs.parts.cells_of.Given as goal

abbrev pub invariant-loop-global : goal.invariant-loop-global
invariant-loop-global l = (l.cells.items ≡ cells_told l.numbers 0 (map global_row (take l.global-index l.found)))
    × (l.place ≡ end_of 0 (map global_of_row (map global_row (take l.global-index l.found))))
