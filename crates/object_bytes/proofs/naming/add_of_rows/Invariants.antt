use Rattle.std.proofs.Common.{◌≡◌, ◌++◌, take}
use Rattle.std.specs.List.{flat_map}
use Rattle.tx_code.specs.WellFormed.{named_by_row}
use Rattle.object_bytes.proofs.naming.add_of_rows.Given as goal

abbrev pub invariant-loop-row : goal.invariant-loop-row
invariant-loop-row l = l.out.items ≡ l.fn.out.items ++ flat_map named_by_row (take l.row-index l.rows)
