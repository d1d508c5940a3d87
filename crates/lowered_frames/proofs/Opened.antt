-- The blocks and handlers of the frames are those that are open and entered in the code.
use Rattle.std.proofs.Common.{ℕ, ◌≡◌, refl, ap, ◌∙◌, true, List, ◌++◌, Option, Some, None}
use Rattle.cpp_tree.specs.tx_events.Thread.{Open}
use Rattle.low_code.specs.declared.scopes.Owner.{Owner}
use Rattle.low_code.specs.declared.scopes.ScopeKind.{ScopeKind}
use Rattle.symbolic_source.specs.Terms.{Term, Exception}
use Rattle.symbolic_source.specs.Frames.{Frame, Waiting, blocks_in, handled}
use Rattle.unwind_lower.specs.declared.items.Leaving.{Leaving}
use Rattle.unwind_lower.specs.declared.items.Item.{Item}
use Rattle.unwind_lower.specs.Settings.{Setting}
use Rattle.lowered_frames.specs.Lists.{behind, more_by, exceptions_behind, innermost}
use Rattle.lowered_frames.specs.Modes.{Mode}
use Rattle.lowered_frames.specs.Expressions.{Expression, expression_frames, drop}
use Rattle.lowered_frames.specs.Calls.{Calling, call_frames, bare}
use Rattle.lowered_frames.specs.Objects.{Making, making_frames, due}
use Rattle.lowered_frames.specs.Closings.{Closing, closing_frames, close_full}
use Rattle.lowered_frames.specs.Statements.{Statement, statement_frames, statement_opens, statement_entered, opens, block_done, Exiting, exit_count}
use Rattle.lowered_frames.specs.Throws.{Throwing, throwing_frames, throwing_handled, handler_done}
use Rattle.lowered_frames.specs.Left.{Head, expression, calling, making, closing, statement, throwing, head_frames, head_opens, head_handled, head_entered, head_scopes, head_count, head_exceptions}
use Rattle.lowered_frames.specs.Left.{Left, body_ends, before, other_again, leave, scopes_out, exit_frames, temporaries, frames, opened, caught, AreEntered}

module _ (g : Setting) (number : ℕ → ℕ) (k : List Frame) where
  -- ---- blocks

  expression_blocks : {m n : Mode} {items rest : List Item} (h : Expression g m items n rest) (ts : List Term) → blocks_in (expression_frames g h ts ++ k) ≡ blocks_in k
  expression_blocks (drop at) ts = refl
  expression_blocks h ts = refl

  call_blocks : {m n : Mode} {items rest : List Item} (h : Calling g m items n rest) (ts : List Term) → blocks_in (call_frames g number h ts ++ k) ≡ blocks_in k
  call_blocks (bare id way at) ts = refl
  call_blocks h ts = refl

  making_blocks : {m n : Mode} {items rest : List Item} (h : Making g m items n rest) (chain : List ScopeKind) (ts : List Term)
      → blocks_in (making_frames g number h chain ts ++ k) ≡ blocks_in k
  making_blocks (due id first) chain ts = refl
  making_blocks h chain ts = refl

  closing_blocks : {m n : Mode} {items rest : List Item} (h : Closing g m items n rest) (outer : List Waiting) (chain : List ScopeKind) (ts : List Term)
      → blocks_in (closing_frames g h outer chain ts ++ k) ≡ blocks_in k
  closing_blocks (close_full at) outer chain ts = refl
  closing_blocks h outer chain ts = refl

  statement_blocks : {m n : Mode} {items rest : List Item} (h : Statement g m items n rest) (ts : List Term) → statement_entered g h ≡ true
      → blocks_in (statement_frames g h ts ++ k) ≡ statement_opens g h ++ blocks_in k
  statement_blocks (opens block id scope end at) ts e = absurd cc
  statement_blocks (block_done block scope end at) ts e = refl
  statement_blocks h ts e = refl

  throwing_blocks : {m n : Mode} {items rest : List Item} (h : Throwing g m items n rest) (chain : List ScopeKind) (es : List Exception) (ts : List Term)
      → blocks_in (throwing_frames g h chain es ts ++ k) ≡ blocks_in k
  throwing_blocks (handler_done handler scope at) chain es ts = refl
  throwing_blocks h chain es ts = refl

  head_blocks : {m n : Mode} {items rest : List Item} (h : Head g m items n rest) (outer : List Waiting) (chain : List ScopeKind) (es : List Exception) (ts : List Term)
      → head_entered g h ≡ true → blocks_in (head_frames g number h outer chain es ts ++ k) ≡ head_opens g h ++ blocks_in k
  head_blocks (expression h) outer chain es ts e = expression_blocks h ts
  head_blocks (calling h) outer chain es ts e = call_blocks h ts
  head_blocks (making h) outer chain es ts e = making_blocks h chain ts
  head_blocks (closing h) outer chain es ts e = closing_blocks h outer chain ts
  head_blocks (statement h) outer chain es ts e = statement_blocks h ts e
  head_blocks (throwing h) outer chain es ts e = throwing_blocks h chain es ts

  exit_blocks : {leaving : Leaving} (x : Exiting leaving) (cleans : Option Owner) (chain : List ScopeKind) (ts : List Term)
      → blocks_in (exit_frames g x cleans chain ts ++ k) ≡ blocks_in k
  exit_blocks x None chain ts = refl
  exit_blocks x (Some owner) chain ts = refl

  -- ---- handlers

  expression_handled : {m n : Mode} {items rest : List Item} (h : Expression g m items n rest) (ts : List Term) → handled (expression_frames g h ts ++ k) ≡ handled k
  expression_handled (drop at) ts = refl
  expression_handled h ts = refl

  call_handled : {m n : Mode} {items rest : List Item} (h : Calling g m items n rest) (ts : List Term) → handled (call_frames g number h ts ++ k) ≡ handled k
  call_handled (bare id way at) ts = refl
  call_handled h ts = refl

  making_handled : {m n : Mode} {items rest : List Item} (h : Making g m items n rest) (chain : List ScopeKind) (ts : List Term)
      → handled (making_frames g number h chain ts ++ k) ≡ handled k
  making_handled (due id first) chain ts = refl
  making_handled h chain ts = refl

  closing_handled : {m n : Mode} {items rest : List Item} (h : Closing g m items n rest) (outer : List Waiting) (chain : List ScopeKind) (ts : List Term)
      → handled (closing_frames g h outer chain ts ++ k) ≡ handled k
  closing_handled (close_full at) outer chain ts = refl
  closing_handled h outer chain ts = refl

  statement_handled : {m n : Mode} {items rest : List Item} (h : Statement g m items n rest) (ts : List Term) → handled (statement_frames g h ts ++ k) ≡ handled k
  statement_handled (opens block id scope end at) ts = refl
  statement_handled h ts = refl

  -- the exceptions behind are those of these frames
  throwing_handles : {m n : Mode} {items rest : List Item} (h : Throwing g m items n rest) (chain : List ScopeKind) (es fs : List Exception) (ts : List Term)
      → handled k ≡ innermost fs → handled (throwing_frames g h chain es ts ++ k) ≡ innermost (throwing_handled g h es ++ fs)
  throwing_handles (handler_done handler scope at) chain es fs ts e = refl
  throwing_handles h chain es fs ts e = e

  head_handles : {m n : Mode} {items rest : List Item} (h : Head g m items n rest) (outer : List Waiting) (chain : List ScopeKind) (es fs : List Exception) (ts : List Term)
      → handled k ≡ innermost fs → handled (head_frames g number h outer chain es ts ++ k) ≡ innermost (head_handled g h es ++ fs)
  head_handles (expression h) outer chain es fs ts e = expression_handled h ts ∙ e
  head_handles (calling h) outer chain es fs ts e = call_handled h ts ∙ e
  head_handles (making h) outer chain es fs ts e = making_handled h chain ts ∙ e
  head_handles (closing h) outer chain es fs ts e = closing_handled h outer chain ts ∙ e
  head_handles (statement h) outer chain es fs ts e = statement_handled h ts ∙ e
  head_handles (throwing h) outer chain es fs ts e = throwing_handles h chain es fs ts e

  exit_handled : {leaving : Leaving} (x : Exiting leaving) (cleans : Option Owner) (chain : List ScopeKind) (ts : List Term)
      → handled (exit_frames g x cleans chain ts ++ k) ≡ handled k
  exit_handled x None chain ts = refl
  exit_handled x (Some owner) chain ts = refl

module _ (g : Setting) (number : ℕ → ℕ) where
  pub blocks_are : {m : Mode} {items : List Item} (d : Left g m items) (chain : List ScopeKind) (es : List Exception) (ts : List Term) → AreEntered g d
      → blocks_in (frames g number d chain es ts) ≡ opened g d
  blocks_are (body_ends at) chain es ts e = refl
  blocks_are (before h d) chain es ts e =
      head_blocks g number (frames g number d (head_scopes g h chain) (exceptions_behind (head_exceptions g h) es) (behind (head_count g h chain) ts)) h
      (temporaries g d (head_scopes g h chain) (behind (head_count g h chain) ts)) chain es ts e.0
      ∙ ap (λ (z : List Open). head_opens g h ++ z)
      (blocks_are d (head_scopes g h chain) (exceptions_behind (head_exceptions g h) es) (behind (head_count g h chain) ts) e.1)
  blocks_are (other_again o a c d) chain es ts e = blocks_are d chain es ts e
  blocks_are (leave x cleans origin junk at d o) chain es ts e =
      exit_blocks g number (frames g number o (scopes_out cleans chain) es (behind (more_by (exit_count x) junk) ts)) x cleans chain ts
      ∙ blocks_are o (scopes_out cleans chain) es (behind (more_by (exit_count x) junk) ts) e

  pub handlers_are : {m : Mode} {items : List Item} (d : Left g m items) (chain : List ScopeKind) (es : List Exception) (ts : List Term)
      → handled (frames g number d chain es ts) ≡ innermost (caught g d es)
  handlers_are (body_ends at) chain es ts = refl
  handlers_are (before h d) chain es ts =
      head_handles g number (frames g number d (head_scopes g h chain) (exceptions_behind (head_exceptions g h) es) (behind (head_count g h chain) ts)) h
      (temporaries g d (head_scopes g h chain) (behind (head_count g h chain) ts)) chain es (caught g d (exceptions_behind (head_exceptions g h) es)) ts
      (handlers_are d (head_scopes g h chain) (exceptions_behind (head_exceptions g h) es) (behind (head_count g h chain) ts))
  handlers_are (other_again o a c d) chain es ts = handlers_are d chain es ts
  handlers_are (leave x cleans origin junk at d o) chain es ts =
      exit_handled g number (frames g number o (scopes_out cleans chain) es (behind (more_by (exit_count x) junk) ts)) x cleans chain ts
      ∙ handlers_are o (scopes_out cleans chain) es (behind (more_by (exit_count x) junk) ts)
