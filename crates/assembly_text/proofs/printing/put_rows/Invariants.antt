use Rattle.std.proofs.Common.{◌≡◌, ◌++◌, take, map}
use Rattle.std.specs.List.{flat_map}
use Rattle.assembly_text.specs.Lines.{line_text, row_line}
use Rattle.assembly_text.proofs.printing.put_rows.Given as goal

abbrev pub invariant-loop-row : goal.invariant-loop-row
invariant-loop-row l = l.out.items ≡ l.fn.out.items ++ flat_map line_text (map row_line (take l.row-index l.rows))
