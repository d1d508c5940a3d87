-- One more row of lines.
use Rattle.std.proofs.Common.{◌≡◌, ℕ, ◌+◌, ◌<◌, List, length, get_or, drop, Option, drop-cons, add-one}
use Rattle.tx_code.specs.declared.body.LineRow.{LineRow}
use Rattle.tx_code.specs.Lines.{line_after, line_from}

pub line_here : (line : Option ℕ) (ls : List LineRow) (i index : ℕ) (d : LineRow) → i < length ls
    → line_from line (drop i ls) index ≡ line_from (line_after line (get_or ls i d) index) (drop (i + 1) ls) index
line_here line ls i index d h = rw (add-one i, drop-cons ls i d)
