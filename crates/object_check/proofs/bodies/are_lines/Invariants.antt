use Rattle.std.proofs.Common.{◌≡◌, drop}
use Rattle.std.specs.List.{list_all}
use Rattle.tx_code.specs.WellFormed.{is_line}
use Rattle.object_check.proofs.bodies.are_lines.Given as goal

abbrev pub invariant-loop-line : goal.invariant-loop-line
invariant-loop-line l = list_all (is_line l.instrs) l.lines ≡ list_all (is_line l.instrs) (drop l.line-index l.lines)
