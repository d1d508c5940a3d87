-- The scopes around have the marks that the items close.
use Rattle.std.specs.Prelude.{◌≡◌, ◌⊎◌, Bool, true, false, List, [], ◌∷◌, Option, Some, None}
use Rattle.low_code.specs.declared.scopes.Owner.{Owner}
use Rattle.low_code.specs.declared.scopes.Owner.TheVariants.{Block as OfBlock, Call as OfCall, Parts as OfParts, Full as OfFull}
use Rattle.low_code.specs.declared.scopes.ScopeKind.{ScopeKind}
use Rattle.low_code.specs.declared.scopes.ScopeKind.TheVariants.{Function, Loop, Switch, Try, Handler, Block}
use Rattle.unwind_lower.specs.declared.items.Item.{Item}
use Rattle.unwind_lower.specs.Settings.{Setting}
use Rattle.lowered_frames.specs.Modes.{Mode}
use Rattle.lowered_frames.specs.Chains.{is_mark, scopes_behind, Closes}
use Rattle.lowered_frames.specs.Calls.{Calling, words, bare_built_in}
use Rattle.lowered_frames.specs.Objects.{Making, parts, part, part_made}
use Rattle.lowered_frames.specs.Closings.{Closing, close_block, close_call, close_full, cleaning}
use Rattle.lowered_frames.specs.Statements.{Statement, rest_of_block, rest_of_switch, past_switch, compares, picked_by_word, picked, opens, block_done, body_done}
use Rattle.lowered_frames.specs.Throws.{Throwing, try_done, handler_done, flies_cleaning, flies_parts}
use Rattle.lowered_frames.specs.Left.{Head, expression, calling, making, closing, statement, throwing, head_scopes, Left, body_ends, before, other_again, leave, scopes_out}

-- the scope at hand is such a one
abbrev pub Starts : (ScopeKind → Bool) → List ScopeKind → Type 0
Starts test [] = ⊥
Starts test (k ∷ chain) = test k ≡ true

abbrev pub is_loop : ScopeKind → Bool
is_loop Loop = true
is_loop k = false

abbrev pub is_switch : ScopeKind → Bool
is_switch Switch = true
is_switch k = false

abbrev pub is_try : ScopeKind → Bool
is_try Try = true
is_try k = false

abbrev pub is_handler : ScopeKind → Bool
is_handler Handler = true
is_handler k = false

abbrev pub is_block : ScopeKind → Bool
is_block (Block edge) = true
is_block k = false

-- the function alone
abbrev pub IsOutermost : List ScopeKind → Type 0
IsOutermost (Function ∷ []) = Unit {0}
IsOutermost chain = ⊥

-- a `switch` and the block of its items
abbrev pub IsInSwitch : List ScopeKind → Type 0
IsInSwitch chain = Starts (is_mark OfBlock) chain × Starts is_switch (scopes_behind chain)

module _ (g : Setting) where
  abbrev pub CallMatches : {m n : Mode} {from to : List Item} → Calling g m from n to → List ScopeKind → Type 0
  CallMatches (words c n ids id way) chain = Unit {0}
  CallMatches (bare_built_in id way) chain = Unit {0}
  CallMatches h chain = Starts (is_mark OfCall) chain

  abbrev pub MakingMatches : {m n : Mode} {from to : List Item} → Making g m from n to → List ScopeKind → Type 0
  MakingMatches (parts way ids at b) chain = Closes OfParts false chain
  MakingMatches (part id way ids at b) chain = Closes OfParts false chain
  MakingMatches (part_made id offset way ids at b is) chain = Closes OfParts false chain
  MakingMatches h chain = Unit {0}

  abbrev pub ClosingMatches : {m n : Mode} {from to : List Item} → Closing g m from n to → List ScopeKind → Type 0
  ClosingMatches (close_block always at) chain = Closes OfBlock always chain
  ClosingMatches (close_call at) chain = Closes OfCall true chain
  ClosingMatches (close_full at) chain = Closes OfFull true chain
  ClosingMatches (cleaning owner at) chain = Closes owner true chain

  abbrev pub StatementMatches : {m n : Mode} {from to : List Item} → Statement g m from n to → List ScopeKind → Type 0
  StatementMatches (past_switch scope) chain = Starts is_switch chain
  StatementMatches (compares id label ids word is e) chain = IsInSwitch chain
  StatementMatches (picked_by_word id ids) chain = IsInSwitch chain
  StatementMatches (picked id ids) chain = IsInSwitch chain
  StatementMatches (opens block id scope end at) chain = Starts is_block chain
  StatementMatches (block_done block scope end at) chain = Starts is_block chain
  StatementMatches (body_done turn) chain = Starts is_loop chain
  StatementMatches h chain = Unit {0}

  abbrev pub ThrowingMatches : {m n : Mode} {from to : List Item} → Throwing g m from n to → List ScopeKind → Type 0
  ThrowingMatches (try_done id scope) chain = Starts is_try chain
  ThrowingMatches (handler_done handler scope at) chain = Starts is_handler chain
  ThrowingMatches (flies_cleaning owner at next) chain = Closes owner true chain ⊎ Closes owner false chain
  ThrowingMatches (flies_parts at next) chain = Closes OfParts false chain
  ThrowingMatches h chain = Unit {0}

  abbrev pub HeadMatches : {m n : Mode} {from to : List Item} → Head g m from n to → List ScopeKind → Type 0
  HeadMatches (expression h) chain = Unit {0}
  HeadMatches (calling h) chain = CallMatches h chain
  HeadMatches (making h) chain = MakingMatches h chain
  HeadMatches (closing h) chain = ClosingMatches h chain
  HeadMatches (statement h) chain = StatementMatches h chain
  HeadMatches (throwing h) chain = ThrowingMatches h chain

  abbrev pub CleansMatch : Option Owner → List ScopeKind → Type 0
  CleansMatch None chain = Unit {0}
  CleansMatch (Some owner) chain = Closes owner true chain

  abbrev pub Matches : {m : Mode} {items : List Item} → Left g m items → List ScopeKind → Type 0
  Matches (body_ends at) chain = IsOutermost chain
  Matches (before h d) chain = HeadMatches h chain × Matches d (head_scopes g h chain)
  Matches (other_again o a e d) chain = Matches d chain
  Matches (leave x cleans origin junk at d o) chain = CleansMatch cleans chain × Matches o (scopes_out cleans chain)

  -- the block destroys what it built always, or not
  abbrev pub Always : {m : Mode} {items : List Item} → Bool → Left g m items → Type 0
  Always always (before (closing (close_block other at)) d) = always ≡ other
  Always always (before (statement (rest_of_block ids b)) d) = Always always d
  Always always (before (statement (rest_of_switch labels ids b)) d) = Always always d
  Always always d = ⊥
