use Rattle.std.proofs.Common.{◌≡◌, drop, None}
use Rattle.tx_code.specs.Lines.{line_from}
use Rattle.tx_code.proofs.tables.line.Given as goal

abbrev pub invariant-loop-row : goal.invariant-loop-row
invariant-loop-row l = line_from None l.fn.lines l.fn.index ≡ line_from l.line (drop l.row-index l.lines) l.index
