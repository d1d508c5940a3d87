-- What a `return` passes on its way out of the function: frames behind which nothing is to be done first.
use Rattle.std.specs.Prelude.{Bool, true, false, not, ◌&&◌, List}
use Rattle.unwind_lower.specs.declared.items.Item.{Item}
use Rattle.unwind_lower.specs.Settings.{Setting}
use Rattle.lowered_frames.specs.Modes.{Mode}
use Rattle.lowered_frames.specs.Closings.{Closing, close_block, close_call, close_full, cleaning}
use Rattle.lowered_frames.specs.Statements.{Statement, picked_by_word, picked, block_done}
use Rattle.lowered_frames.specs.Left.{Head, closing, statement, Left, body_ends, before, other_again, leave}

module _ (g : Setting) where
  -- no objects are destroyed
  abbrev pub closing_passed : {m n : Mode} {from to : List Item} → Closing g m from n to → Bool
  closing_passed (close_block always at) = not always
  closing_passed (close_call at) = false
  closing_passed (close_full at) = false
  closing_passed (cleaning owner at) = true

  -- no block of either sort is left
  abbrev pub statement_passed : {m n : Mode} {from to : List Item} → Statement g m from n to → Bool
  statement_passed (block_done block scope end at) = false
  statement_passed (picked_by_word id ids) = false
  statement_passed (picked id ids) = false
  statement_passed h = true

  abbrev pub head_passed : {m n : Mode} {from to : List Item} → Head g m from n to → Bool
  head_passed (closing h) = closing_passed h
  head_passed (statement h) = statement_passed h
  head_passed h = true

  abbrev pub passed : {m : Mode} {items : List Item} → Left g m items → Bool
  passed (body_ends at) = true
  passed (before h d) = head_passed h && passed d
  passed (other_again o a e d) = passed d
  passed (leave x cleans origin junk at d o) = passed o
