-- Where objects come to wait: in the nearest scope of their owner, and temporaries right in the full-expression around.
use Rattle.std.specs.Prelude.{◌≡◌, ◌⊎◌, true, false, cond, List, [], ◌∷◌}
use Rattle.low_code.specs.declared.scopes.Owner.{Owner}
use Rattle.low_code.specs.declared.scopes.Owner.TheVariants.{Call as OfCall, Parts as OfParts}
use Rattle.low_code.specs.declared.scopes.ScopeKind.{ScopeKind}
use Rattle.low_code.specs.Scopes.{is_full}
use Rattle.unwind_lower.specs.declared.items.Item.{Item}
use Rattle.unwind_lower.specs.Settings.{Setting}
use Rattle.lowered_frames.specs.Modes.{Mode}
use Rattle.lowered_frames.specs.Chains.{is_mark}
use Rattle.lowered_frames.specs.Calls.{Calling, words, bare_built_in}
use Rattle.lowered_frames.specs.Objects.{Making, parts, part, part_made}
use Rattle.lowered_frames.specs.Closings.{Closing, close_block, close_call, close_full, cleaning}
use Rattle.lowered_frames.specs.Statements.{rest_of_block, rest_of_switch}
use Rattle.lowered_frames.specs.Left.{Head, expression, calling, making, closing, statement, throwing, head_scopes, Left, body_ends, before, other_again, leave}

module _ (g : Setting) where
  -- what is left stands in the scope of a block, or of the arguments of a call
  abbrev pub AwaitsBlock : {m : Mode} {items : List Item} → Left g m items → Type 0
  AwaitsBlock (before (closing (close_block always at)) d) = Unit {0}
  AwaitsBlock (before (statement (rest_of_block ids b)) d) = AwaitsBlock d
  AwaitsBlock (before (statement (rest_of_switch labels ids b)) d) = AwaitsBlock d
  AwaitsBlock d = ⊥

  abbrev pub AwaitsCall : {m : Mode} {items : List Item} → Left g m items → Type 0
  AwaitsCall (before (closing (close_call at)) d) = Unit {0}
  AwaitsCall (before (calling (words c n ids id way)) d) = AwaitsCall d
  AwaitsCall d = ⊥

-- ---- temporaries

-- a scope is put around those of calls and parts
abbrev pub with_full : ScopeKind → List ScopeKind → List ScopeKind
with_full new [] = new ∷ []
with_full new (k ∷ chain) = cond (is_full k) (new ∷ k ∷ chain) (k ∷ with_full new chain)

-- the first scope is one of a full-expression, or none
abbrev pub StartsFull : List ScopeKind → Type 0
StartsFull [] = ⊥
StartsFull (k ∷ chain) = is_full k ≡ true

abbrev pub StartsWithin : List ScopeKind → Type 0
StartsWithin [] = ⊥
StartsWithin (k ∷ chain) = is_full k ≡ false

-- no scope up to the mark of an owner is one of a full-expression
abbrev pub IsWithin : Owner → List ScopeKind → Type 0
IsWithin owner [] = ⊥
IsWithin owner (k ∷ chain) = (is_full k ≡ false) × ((is_mark owner k ≡ true) ⊎ ((is_mark owner k ≡ false) × IsWithin owner chain))

module _ (g : Setting) where
  -- what is closed lies within the full-expression
  abbrev pub CallWithin : {m n : Mode} {from to : List Item} → Calling g m from n to → List ScopeKind → Type 0
  CallWithin (words c n ids id way) chain = Unit {0}
  CallWithin (bare_built_in id way) chain = Unit {0}
  CallWithin h chain = StartsWithin chain

  abbrev pub MakingWithin : {m n : Mode} {from to : List Item} → Making g m from n to → List ScopeKind → Type 0
  MakingWithin (parts way ids at b) chain = IsWithin OfParts chain
  MakingWithin (part id way ids at b) chain = IsWithin OfParts chain
  MakingWithin (part_made id offset way ids at b is) chain = IsWithin OfParts chain
  MakingWithin h chain = Unit {0}

  abbrev pub ClosingWithin : {m n : Mode} {from to : List Item} → Closing g m from n to → List ScopeKind → Type 0
  ClosingWithin (close_call at) chain = IsWithin OfCall chain
  ClosingWithin (cleaning owner at) chain = IsWithin owner chain
  ClosingWithin h chain = ⊥

  abbrev pub HeadWithin : {m n : Mode} {from to : List Item} → Head g m from n to → List ScopeKind → Type 0
  HeadWithin (expression h) chain = Unit {0}
  HeadWithin (calling h) chain = CallWithin h chain
  HeadWithin (making h) chain = MakingWithin h chain
  HeadWithin (closing h) chain = ClosingWithin h chain
  HeadWithin (statement h) chain = ⊥
  HeadWithin (throwing h) chain = ⊥

  -- what is left stands in a full-expression
  abbrev pub InFull : {m : Mode} {items : List Item} → Left g m items → List ScopeKind → Type 0
  InFull (body_ends at) chain = ⊥
  InFull (before (closing (close_full at)) d) chain = StartsFull chain
  InFull (before h d) chain = HeadWithin h chain × InFull d (head_scopes g h chain)
  InFull (other_again o a e d) chain = ⊥
  InFull (leave x cleans origin junk at d o) chain = ⊥
