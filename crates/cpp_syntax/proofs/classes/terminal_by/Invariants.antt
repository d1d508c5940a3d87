use Rattle.std.proofs.Common.{◌≡◌, map, drop}
use Rattle.cpp_syntax.specs.Classes.{terminal_by}
use Rattle.cpp_syntax.specs.Rows.{spelled_of}
use Rattle.cpp_syntax.proofs.classes.terminal_by.Given as goal

abbrev pub invariant-loop-row : goal.invariant-loop-row
invariant-loop-row l = terminal_by (map spelled_of (drop l.row-index l.rows)) l.word l.otherwise ≡ terminal_by (map spelled_of l.rows) l.word l.otherwise
