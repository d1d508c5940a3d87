use Rattle.std.proofs.Common.{◌≡◌, map, take, length}
use Rattle.link_faults.specs.Unlisted.{AreMarks}
use Rattle.link_tables.specs.Found.{func_row}
use Rattle.link_parts.specs.Types.{ranks_in_rows}
use Rattle.link_parts.proofs.types.type_marks.Given as goal

abbrev pub invariant-loop-func : goal.invariant-loop-func
invariant-loop-func l = AreMarks (ranks_in_rows l.ranks (map func_row (take l.func-index l.kept))) l.marks.items × (length l.marks.items ≡ l.names)
