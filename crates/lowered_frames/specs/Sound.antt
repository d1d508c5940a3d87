-- What the source asks of the nodes of what is left to write, so that it goes on: numbers are words, and what waits has a scope.
use Rattle.std.specs.Prelude.{◌≡◌, ◌^◌, ◌&&◌, ◌||◌, nat_lt, Bool, true, false, List}
use Rattle.cpp_tree.specs.Trees.{Trees, none, more, kind_of}
use Rattle.cpp_tree.specs.declared.kinds.TKind.{TKind}
use Rattle.cpp_tree.specs.declared.kinds.TKind.TheVariants.{Literal, Elements, Destroy}
use Rattle.src_mean.specs.Frames.{Owner, of_block, of_call, same_owner}
use Rattle.src_mean.specs.Source.{case_word}
use Rattle.unwind_lower.specs.declared.items.Item.{Item}
use Rattle.unwind_lower.specs.Settings.{Setting, node_in}
use Rattle.unwind_lower.specs.Kids.{kids_from}
use Rattle.lowered_frames.specs.Modes.{Mode, tree_in, trees_in}
use Rattle.lowered_frames.specs.Expressions.{Expression, run}
use Rattle.lowered_frames.specs.Calls.{Calling, bare, bare_built_in}
use Rattle.lowered_frames.specs.Objects.{Making, argument_made, variable_made, member_made, part, due, destroying}
use Rattle.lowered_frames.specs.Closings.{Closing, close_block, close_call, close_full, cleaning}
use Rattle.lowered_frames.specs.Statements.{Statement, compares}
use Rattle.lowered_frames.specs.Left.{Head, expression, calling, making, closing, statement, throwing, Left, body_ends, before, other_again, leave}

-- its numbers are words
abbrev pub is_small : TKind → Bool
is_small (Literal w) = nat_lt w (2 ^ 64)
is_small (Elements count stride) = nat_lt count (2 ^ 64)
is_small (Destroy func offset count stride) = nat_lt count (2 ^ 64)
is_small kind = true

abbrev pub are_small : Trees → Bool
are_small none = true
are_small (more t ts) = is_small (kind_of t) && are_small ts

module _ (g : Setting) where
  abbrev pub expression_sound : {m n : Mode} {from to : List Item} → Expression g m from n to → Bool
  expression_sound (run id way a) = is_small (kind_of (tree_in g id))
  expression_sound h = true

  abbrev pub call_sound : {m n : Mode} {from to : List Item} → Calling g m from n to → Bool
  call_sound (bare id way at) = is_small (kind_of (tree_in g id))
  call_sound (bare_built_in id way) = is_small (kind_of (tree_in g id))
  call_sound h = true

  abbrev pub making_sound : {m n : Mode} {from to : List Item} → Making g m from n to → Bool
  making_sound (part id way ids at b) = is_small (kind_of (tree_in g id))
  making_sound (due id first) = are_small (trees_in g (kids_from (node_in g id) first))
  making_sound (destroying id first row func offset count stride left ids rows is) = are_small (trees_in g ids)
  making_sound h = true

  abbrev pub statement_sound : {m n : Mode} {from to : List Item} → Statement g m from n to → Bool
  statement_sound (compares id label ids word is e) = nat_lt (case_word (kind_of (tree_in g label))) (2 ^ 64)
  statement_sound h = true

  abbrev pub head_sound : {m n : Mode} {from to : List Item} → Head g m from n to → Bool
  head_sound (expression h) = expression_sound h
  head_sound (calling h) = call_sound h
  head_sound (making h) = making_sound h
  head_sound (closing h) = true
  head_sound (statement h) = statement_sound h
  head_sound (throwing h) = true

  -- the scope of an owner ends here
  abbrev pub closing_ends : {m n : Mode} {from to : List Item} → Owner → Closing g m from n to → Bool
  closing_ends owner (close_block always at) = same_owner owner of_block
  closing_ends owner (close_call at) = same_owner owner of_call
  closing_ends owner (close_full at) = false
  closing_ends owner (cleaning other at) = false

  abbrev pub head_ends : {m n : Mode} {from to : List Item} → Owner → Head g m from n to → Bool
  head_ends owner (closing h) = closing_ends owner h
  head_ends owner h = false

  abbrev pub ends : {m : Mode} {items : List Item} → Owner → Left g m items → Bool
  ends owner (body_ends at) = false
  ends owner (before h d) = head_ends owner h || ends owner d
  ends owner (other_again o a e d) = ends owner d
  ends owner (leave x cleans origin junk at d o) = ends owner o

  -- what is made waits in a scope that ends behind it
  abbrev pub Awaits : {m n k : Mode} {from to others : List Item} → Making g m from n to → Left g k others → Type 0
  Awaits (argument_made id place at is) d = ends of_call d ≡ true
  Awaits (variable_made id place is) d = ends of_block d ≡ true
  Awaits (member_made id) d = ends of_block d ≡ true
  Awaits h d = Unit {0}

  abbrev pub HasScope : {m n k : Mode} {from to others : List Item} → Head g m from n to → Left g k others → Type 0
  HasScope (making h) d = Awaits h d
  HasScope h d = Unit {0}

  abbrev pub Sound : {m : Mode} {items : List Item} → Left g m items → Type 0
  Sound (body_ends at) = Unit {0}
  Sound (before h d) = (head_sound h ≡ true) × HasScope h d × Sound d
  Sound (other_again o a e d) = Sound d
  Sound (leave x cleans origin junk at d o) = Sound o
