use Rattle.std.proofs.Common.{◌≡◌, ◌++◌, length, take}
use Rattle.std.specs.List.{flat_map}
use Rattle.object_bytes.specs.Spelling.{cell_bytes, u32_bytes}
use Rattle.object_bytes.proofs.writing.put_cells.Given as goal

abbrev pub invariant-loop-cell : goal.invariant-loop-cell
invariant-loop-cell l = l.out.items ≡ (l.fn.out.items ++ u32_bytes (length l.cells)) ++ flat_map cell_bytes (take l.cell-index l.cells)
