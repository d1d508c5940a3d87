use Rattle.std.proofs.Common.{◌+◌, map, take, slice_index}
use Rattle.std.specs.List.{flat_map}
use Rattle.tx_code.specs.WellFormed.{named_by_row}
use Rattle.link_parts.specs.Types.{Adds}
use Rattle.link_parts.proofs.types.mark_rows.Given as goal

abbrev pub invariant-loop-row : goal.invariant-loop-row
invariant-loop-row l = Adds (map (λ n. slice_index l.ranks (l.start + n)) (flat_map named_by_row (take l.row-index l.rows))) l.fn.marks.items l.marks.items
