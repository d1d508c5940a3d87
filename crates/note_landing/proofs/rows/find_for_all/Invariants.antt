use Rattle.std.proofs.Common.{ℕ, ◌≡◌, drop}
use Rattle.tx_code.specs.Meaning.{find}
use Rattle.note_landing.proofs.rows.find_for_all.Given as goal

abbrev pub invariant-loop-row : goal.invariant-loop-row
invariant-loop-row l = (number : ℕ) → find l.rows l.index number ≡ find (drop l.row-index l.rows) l.index number
