-- Expressions in front of what is left to write behind them.
use Rattle.std.specs.Prelude.{List}
use Rattle.unwind_lower.specs.declared.items.Item.{Item}
use Rattle.unwind_lower.specs.Settings.{Setting}
use Rattle.lowered_frames.specs.Modes.{Mode}
use Rattle.lowered_frames.specs.Expressions.{Expression}
use Rattle.lowered_frames.specs.Left.{Head, Left, before}

-- the expression, and then the rest
abbrev pub led : {g : Setting} {m n : Mode} {from to : List Item} → Expression g m from n to → Left g n to → Left g m from
led e d = before (Head.expression e) d
