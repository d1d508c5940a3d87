-- What leaves the frames of a head goes on behind them, where they are passed.
use Rattle.std.proofs.Common.{ℕ, ◌≡◌, refl, true, List, ◌++◌}
use Rattle.low_code.specs.declared.scopes.ScopeKind.{ScopeKind}
use Rattle.symbolic_source.specs.Terms.{Term, Exception}
use Rattle.symbolic_source.specs.Frames.{Frame, Waiting, Exit, throws}
use Rattle.symbolic_source.specs.Steps.{left}
use Rattle.unwind_lower.specs.declared.items.Item.{Item}
use Rattle.unwind_lower.specs.Settings.{Setting}
use Rattle.lowered_frames.specs.Modes.{Mode}
use Rattle.lowered_frames.specs.Expressions.{Expression, expression_frames, drop}
use Rattle.lowered_frames.specs.Calls.{Calling, call_frames, bare}
use Rattle.lowered_frames.specs.Objects.{Making, making_frames, parts, part, part_made, each, element, due}
use Rattle.lowered_frames.specs.Closings.{Closing, closing_frames, close_block, close_call, close_full, cleaning}
use Rattle.lowered_frames.specs.Statements.{Statement, statement_frames, past_switch, picked_by_word, picked, block_done, body_done, opens}
use Rattle.lowered_frames.specs.Throws.{Throwing, throwing_frames, try_done, handle}
use Rattle.lowered_frames.specs.Left.{Head, expression, calling, making, closing, statement, throwing, head_frames}
use Rattle.lowered_frames.specs.Passed.{making_passed, closing_passed, statement_passed, throwing_passed, head_passed}

module _ (g : Setting) (number : ℕ → ℕ) (ws : List Waiting) (k : List Frame) where
  passes_expression : {m n : Mode} {items rest : List Item} (h : Expression g m items n rest) (ts : List Term) (exit : Exit)
      → left ws exit (expression_frames g h ts ++ k) ≡ left ws exit k
  passes_expression (drop at) ts (throws e) = refl
  passes_expression h ts exit = refl

  passes_call : {m n : Mode} {items rest : List Item} (h : Calling g m items n rest) (ts : List Term) (exit : Exit)
      → left ws exit (call_frames g number h ts ++ k) ≡ left ws exit k
  passes_call (bare id way at) ts (throws e) = refl
  passes_call h ts exit = refl

  passes_making : {m n : Mode} {items rest : List Item} (h : Making g m items n rest) (chain : List ScopeKind) (ts : List Term) (exit : Exit) → making_passed g h ≡ true
      → left ws exit (making_frames g number h chain ts ++ k) ≡ left ws exit k
  passes_making (parts way ids at b) chain ts exit e = absurd cc
  passes_making (part id way ids at b) chain ts exit e = absurd cc
  passes_making (part_made id offset way ids at b is) chain ts exit e = absurd cc
  passes_making (each id count stride built way first scope b is i) chain ts exit e = absurd cc
  passes_making (element id count stride built way first scope b is i) chain ts exit e = absurd cc
  passes_making (due id first) chain ts (throws x) e = refl
  passes_making h chain ts exit e = refl

  passes_closing : {m n : Mode} {items rest : List Item} (h : Closing g m items n rest) (outer : List Waiting) (chain : List ScopeKind) (ts : List Term) (exit : Exit)
      → closing_passed g h ≡ true → left ws exit (closing_frames g h outer chain ts ++ k) ≡ left ws exit k
  passes_closing (close_block always at) outer chain ts exit e = absurd cc
  passes_closing (close_call at) outer chain ts exit e = absurd cc
  passes_closing (close_full at) outer chain ts exit e = absurd cc
  passes_closing (cleaning owner at) outer chain ts (throws x) e = refl
  passes_closing (cleaning owner at) outer chain ts exit e = refl

  passes_statement : {m n : Mode} {items rest : List Item} (h : Statement g m items n rest) (ts : List Term) (exit : Exit) → statement_passed g h ≡ true
      → left ws exit (statement_frames g h ts ++ k) ≡ left ws exit k
  passes_statement (past_switch scope) ts exit e = absurd cc
  passes_statement (picked_by_word id ids) ts exit e = absurd cc
  passes_statement (picked id ids) ts exit e = absurd cc
  passes_statement (block_done block scope end at) ts exit e = absurd cc
  passes_statement (body_done turn) ts exit e = absurd cc
  passes_statement (opens block id scope end at) ts (throws x) e = refl
  passes_statement h ts exit e = refl

  passes_throwing : {m n : Mode} {items rest : List Item} (h : Throwing g m items n rest) (chain : List ScopeKind) (es : List Exception) (ts : List Term) (exit : Exit)
      → throwing_passed g h ≡ true → left ws exit (throwing_frames g h chain es ts ++ k) ≡ left ws exit k
  passes_throwing (try_done id scope) chain es ts exit e = absurd cc
  passes_throwing (handle id scope live) chain es ts (throws x) e = refl
  passes_throwing h chain es ts exit e = refl

  pub passes : {m n : Mode} {items rest : List Item} (h : Head g m items n rest) (outer : List Waiting) (chain : List ScopeKind) (es : List Exception) (ts : List Term)
      (exit : Exit) → head_passed g h ≡ true → left ws exit (head_frames g number h outer chain es ts ++ k) ≡ left ws exit k
  passes (expression h) outer chain es ts exit e = passes_expression h ts exit
  passes (calling h) outer chain es ts exit e = passes_call h ts exit
  passes (making h) outer chain es ts exit e = passes_making h chain ts exit e
  passes (closing h) outer chain es ts exit e = passes_closing h outer chain ts exit e
  passes (statement h) outer chain es ts exit e = passes_statement h ts exit e
  passes (throwing h) outer chain es ts exit e = passes_throwing h chain es ts exit e
