use Rattle.std.proofs.Common.{◌≡◌, map, take}
use Rattle.tx_code.specs.Renaming.{renamed_row}
use Rattle.link_tables.specs.Renamed.{numbering_in}
use Rattle.link_tables.proofs.renamed.renamed_rows.Given as goal

abbrev pub invariant-loop-row : goal.invariant-loop-row
invariant-loop-row l = l.copy.items ≡ map (renamed_row (numbering_in l.numbers l.start)) (take l.row-index l.rows)
