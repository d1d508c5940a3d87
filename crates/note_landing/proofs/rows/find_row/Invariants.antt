use Rattle.std.proofs.Common.{◌≡◌, drop}
use Rattle.tx_code.specs.Meaning.{find}
use Rattle.note_landing.proofs.rows.find_row.Given as goal

abbrev pub invariant-loop-row : goal.invariant-loop-row
invariant-loop-row l = find l.rows l.index l.number ≡ find (drop l.row-index l.rows) l.index l.number
