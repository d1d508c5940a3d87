-- Frames that are passed on the way out.
use Rattle.std.specs.Prelude.{Bool, true, false, List}
use Rattle.unwind_lower.specs.declared.items.Item.{Item}
use Rattle.unwind_lower.specs.Settings.{Setting}
use Rattle.lowered_frames.specs.Modes.{Mode}
use Rattle.lowered_frames.specs.Objects.{Making, parts, part, part_made, each, element}
use Rattle.lowered_frames.specs.Closings.{Closing, cleaning}
use Rattle.lowered_frames.specs.Statements.{Statement, past_switch, picked_by_word, picked, block_done, body_done}
use Rattle.lowered_frames.specs.Throws.{Throwing, try_done}
use Rattle.lowered_frames.specs.Left.{Head, expression, calling, making, closing, statement, throwing}

module _ (g : Setting) where
  abbrev pub making_passed : {m n : Mode} {from to : List Item} → Making g m from n to → Bool
  making_passed (parts way ids at b) = false
  making_passed (part id way ids at b) = false
  making_passed (part_made id offset way ids at b is) = false
  making_passed (each id count stride built way first scope b is e) = false
  making_passed (element id count stride built way first scope b is e) = false
  making_passed h = true

  abbrev pub closing_passed : {m n : Mode} {from to : List Item} → Closing g m from n to → Bool
  closing_passed (cleaning owner at) = true
  closing_passed h = false

  abbrev pub statement_passed : {m n : Mode} {from to : List Item} → Statement g m from n to → Bool
  statement_passed (past_switch scope) = false
  statement_passed (picked_by_word id ids) = false
  statement_passed (picked id ids) = false
  statement_passed (block_done block scope end at) = false
  statement_passed (body_done turn) = false
  statement_passed h = true

  abbrev pub throwing_passed : {m n : Mode} {from to : List Item} → Throwing g m from n to → Bool
  throwing_passed (try_done id scope) = false
  throwing_passed h = true

  -- whatever leaves it goes on behind it
  abbrev pub head_passed : {m n : Mode} {from to : List Item} → Head g m from n to → Bool
  head_passed (expression h) = true
  head_passed (calling h) = true
  head_passed (making h) = making_passed h
  head_passed (closing h) = closing_passed h
  head_passed (statement h) = statement_passed h
  head_passed (throwing h) = throwing_passed h
