-- Which heads look at the scopes around them, where an object that waits is received, and where a temporary is.
use Rattle.std.specs.Prelude.{Bool, true, false, cond, ◌&&◌, ◌||◌, not, List, [], ◌∷◌}
use Rattle.low_code.specs.declared.scopes.Owner.{Owner}
use Rattle.low_code.specs.declared.scopes.Owner.TheVariants.{Block as OfBlock, Call as OfCall, Full as OfFull, Parts as OfParts}
use Rattle.low_code.specs.declared.scopes.Address.TheVariants.{Frame, Word, Node as OfNode}
use Rattle.low_code.specs.declared.scopes.Address.{Address}
use Rattle.low_code.specs.declared.scopes.ScopeKind.{ScopeKind}
use Rattle.low_code.specs.Scopes.{same_owner, is_full}
use Rattle.src_mean.specs.Frames.{of_block, of_call, of_pieces}
use Rattle.src_mean.specs.Frames as source
use Rattle.unwind_lower.specs.declared.items.Item.{Item}
use Rattle.unwind_lower.specs.Settings.{Setting}
use Rattle.lowered_frames.specs.Modes.{Mode, top, gone, nought}
use Rattle.lowered_frames.specs.Chains.{is_mark}
use Rattle.lowered_frames.specs.Calls.{Calling, words, bare_built_in}
use Rattle.lowered_frames.specs.Objects.{Making, parts, part, part_made, each, element}
use Rattle.lowered_frames.specs.Closings.{Closing, close_block, close_call, close_full, cleaning}
use Rattle.lowered_frames.specs.Statements.{Statement, rest_of_block, rest_of_switch, select, test_done}
use Rattle.lowered_frames.specs.Throws.{Throwing, throwing as throws_it, fills, filled, fills_scalar, scalar_filled}
use Rattle.lowered_frames.specs.Left.{Head, expression, calling, making, closing, statement, throwing, head_scopes, Left, body_ends, before, other_again, leave}

-- ---- heads that do not look at the scopes, and end none

module _ (g : Setting) where
  abbrev pub call_is_plain : {m n : Mode} {from to : List Item} → Calling g m from n to → Bool
  call_is_plain (words c n ids id way) = true
  call_is_plain (bare_built_in id way) = true
  call_is_plain h = false

  abbrev pub making_is_plain : {m n : Mode} {from to : List Item} → Making g m from n to → Bool
  making_is_plain (parts way ids at b) = false
  making_is_plain (part id way ids at b) = false
  making_is_plain (part_made id offset way ids at b is) = false
  making_is_plain (each id count stride built way first scope b is e) = false
  making_is_plain (element id count stride built way first scope b is e) = false
  making_is_plain h = true

  abbrev pub statement_is_plain : {m n : Mode} {from to : List Item} → Statement g m from n to → Bool
  statement_is_plain (rest_of_block ids b) = true
  statement_is_plain (rest_of_switch labels ids b) = true
  statement_is_plain (select id) = true
  statement_is_plain (test_done turn) = true
  statement_is_plain h = false

  abbrev pub throwing_is_plain : {m n : Mode} {from to : List Item} → Throwing g m from n to → Bool
  throwing_is_plain (throws_it id) = true
  throwing_is_plain (fills id done ids o) = true
  throwing_is_plain (filled id field done ids offset kind o is) = true
  throwing_is_plain (fills_scalar id o) = true
  throwing_is_plain (scalar_filled id field ids o) = true
  throwing_is_plain h = false

  abbrev pub head_is_plain : {m n : Mode} {from to : List Item} → Head g m from n to → Bool
  head_is_plain (expression h) = true
  head_is_plain (calling h) = call_is_plain h
  head_is_plain (making h) = making_is_plain h
  head_is_plain (closing h) = false
  head_is_plain (statement h) = statement_is_plain h
  head_is_plain (throwing h) = throwing_is_plain h

  -- ---- where an object that waits is received

  -- the objects of an owner end here
  abbrev pub closing_is : Owner → {m n : Mode} {from to : List Item} → Closing g m from n to → Bool
  closing_is owner (close_block always at) = same_owner owner OfBlock
  closing_is owner (close_call at) = same_owner owner OfCall
  closing_is owner (close_full at) = false
  closing_is owner (cleaning other at) = false

  -- they end behind heads that do not look at the scopes
  abbrev pub receives : Owner → {m : Mode} {items : List Item} → Left g m items → Bool
  receives owner (body_ends at) = false
  receives owner (before (closing h) d) = closing_is owner h
  receives owner (before h d) = head_is_plain h && receives owner d
  receives owner (other_again o a e d) = false
  receives owner (leave x cleans origin junk at d o) = false

-- the owner in the source
abbrev pub source_owner : Owner → source.Owner
source_owner OfBlock = of_block
source_owner OfCall = of_call
source_owner OfParts = of_pieces
source_owner OfFull = of_block

-- it lies nowhere on the stack
abbrev pub is_placed : Address → Bool
is_placed (Frame offset) = true
is_placed (Word offset) = false
is_placed (OfNode id) = true

-- a value that is kept as objects are destroyed lies on top, or nowhere
abbrev pub is_kept : Mode → Bool
is_kept top = true
is_kept gone = true
is_kept nought = true
is_kept m = false

-- ---- where a temporary is

-- a scope is put around those of the full-expression at hand
abbrev pub with_scope : ScopeKind → List ScopeKind → List ScopeKind
with_scope k [] = []
with_scope k (j ∷ chain) = cond (is_full j) (k ∷ j ∷ chain) (j ∷ with_scope k chain)

-- there is a full-expression around
abbrev pub has_full : List ScopeKind → Bool
has_full [] = false
has_full (j ∷ chain) = is_full j || has_full chain

-- the mark of an owner lies within the full-expression
abbrev pub ends_within : Owner → List ScopeKind → Bool
ends_within owner [] = false
ends_within owner (j ∷ chain) = cond (is_full j) false (cond (is_mark owner j) true (ends_within owner chain))

-- so does the scope at hand
abbrev pub is_within : List ScopeKind → Bool
is_within [] = false
is_within (j ∷ chain) = not (is_full j)

-- the scope at hand is that of the full-expression
abbrev pub is_outermost : List ScopeKind → Bool
is_outermost [] = false
is_outermost (j ∷ chain) = is_full j

module _ (g : Setting) where
  abbrev pub call_within : {m n : Mode} {from to : List Item} → Calling g m from n to → List ScopeKind → Bool
  call_within (words c n ids id way) chain = true
  call_within (bare_built_in id way) chain = true
  call_within h chain = is_within chain

  abbrev pub making_within : {m n : Mode} {from to : List Item} → Making g m from n to → List ScopeKind → Bool
  making_within (parts way ids at b) chain = ends_within OfParts chain
  making_within (part id way ids at b) chain = ends_within OfParts chain
  making_within (part_made id offset way ids at b is) chain = ends_within OfParts chain
  making_within h chain = true

  abbrev pub closing_within : {m n : Mode} {from to : List Item} → Closing g m from n to → List ScopeKind → Bool
  closing_within (close_block always at) chain = ends_within OfBlock chain
  closing_within (close_call at) chain = ends_within OfCall chain
  closing_within (close_full at) chain = false
  closing_within (cleaning owner at) chain = ends_within owner chain

  -- what ends with the head lies within the full-expression
  abbrev pub head_within : {m n : Mode} {from to : List Item} → Head g m from n to → List ScopeKind → Bool
  head_within (expression h) chain = true
  head_within (calling h) chain = call_within h chain
  head_within (making h) chain = making_within h chain
  head_within (closing h) chain = closing_within h chain
  head_within (statement h) chain = statement_is_plain g h
  head_within (throwing h) chain = throwing_is_plain g h

  -- the full-expression at hand ends here, behind heads whose scopes lie within
  abbrev pub is_in_full : {m : Mode} {items : List Item} → Left g m items → List ScopeKind → Bool
  is_in_full (body_ends at) chain = false
  is_in_full (before (closing (close_full at)) d) chain = is_outermost chain
  is_in_full (before h d) chain = head_within h chain && is_in_full d (head_scopes g h chain)
  is_in_full (other_again o a e d) chain = false
  is_in_full (leave x cleans origin junk at d o) chain = false
