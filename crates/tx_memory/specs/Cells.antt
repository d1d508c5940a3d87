-- Cells of the globals.
use Rattle.std.specs.Prelude.{ℕ, ◌+◌, ◌*◌, ◌%◌, ◌^◌, ◌==◌, ◌&&◌, Bool, nat_le, nat_lt}
use Rattle.tx_events.specs.declared.GlobalCell.{GlobalCell}
use Rattle.tx_events.specs.Thread.{is_size}

-- the cell lies in globals of this size, at a multiple of its own size, and its value fits it
abbrev pub lies_within : ℕ → GlobalCell → Bool
lies_within size cell = is_size cell.size && cell.offset % cell.size == 0 && nat_le (cell.offset + cell.size) size && nat_lt cell.value (2 ^ (8 * cell.size))
