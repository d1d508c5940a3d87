-- The source line of an instruction.
use Rattle.std.specs.Prelude.{ℕ, List, [], ◌∷◌, Option, Some, None, nat_le, if◌then◌else◌}
use Rattle.tx_code.specs.declared.body.LineRow.{LineRow}

-- the line where one more row is seen
abbrev pub line_after : Option ℕ → LineRow → ℕ → Option ℕ
line_after line l index = if nat_le l.from index then Some l.line else line

abbrev pub line_from : Option ℕ → List LineRow → ℕ → Option ℕ
line_from line [] index = line
line_from line (l ∷ ls) index = line_from (line_after line l index) ls index

-- that of the last row which begins at or before the index
abbrev pub line_at : List LineRow → (index : ℕ) → Option ℕ
line_at lines index = line_from None lines index
