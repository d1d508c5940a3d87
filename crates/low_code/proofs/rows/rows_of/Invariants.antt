use Rattle.std.proofs.Common.{◌≡◌, ◌++◌, drop}
use Rattle.low_code.specs.Writer.{body_of}
use Rattle.low_code.specs.Rows.{rows_from, rows_in}
use Rattle.low_code.proofs.rows.rows_of.Given as goal

abbrev pub invariant-loop-low : goal.invariant-loop-low
invariant-loop-low l = l.rows.items ++ rows_from (body_of l.body) l.from l.scope l.index (drop l.low-index l.body.code.items) ≡ rows_in (body_of l.body)
