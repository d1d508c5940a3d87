use Rattle.std.proofs.Common.{◌≡◌, drop}
use Rattle.tx_code.specs.Meaning.{find}
use Rattle.vm_thread.proofs.lookups.find_row.Given as goal

abbrev pub invariant-loop-row : goal.invariant-loop-row
invariant-loop-row l = find l.rows l.index l.ty ≡ find (drop l.row-index l.rows) l.index l.ty
