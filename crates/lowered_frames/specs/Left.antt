-- What is left to write, read as what the source has left to do: heads, each some items and a frame of the source or none, and what is left behind them.
use Rattle.std.specs.Prelude.{ℕ, zero, ◌≡◌, Bool, true, cond, List, [], ◌∷◌, ◌++◌, Option, Some, None}
use Rattle.cpp_tree.specs.tx_events.Thread.{Open}
use Rattle.cpp_tree.specs.cpp_types.declared.classes.At.{At}
use Rattle.low_code.specs.declared.scopes.Owner.{Owner}
use Rattle.low_code.specs.declared.scopes.ScopeKind.{ScopeKind}
use Rattle.symbolic_source.specs.Terms.{Term, Exception}
use Rattle.symbolic_source.specs.Frames.{Frame, Leaves, Cleans, Waiting}
use Rattle.unwind_lower.specs.declared.items.Leaving.{Leaving}
use Rattle.unwind_lower.specs.declared.items.Other.{Other as OtherPart}
use Rattle.unwind_lower.specs.declared.items.Item.{Item}
use Rattle.unwind_lower.specs.declared.items.Item.TheVariants.{OtherAgain, Leave, BodyEnds}
use Rattle.unwind_lower.specs.Conditions.{is_end}
use Rattle.unwind_lower.specs.Settings.{Setting, node_in}
use Rattle.lowered_frames.specs.Lists.{behind, firsts, more_by, exceptions_behind}
use Rattle.lowered_frames.specs.Modes.{Mode, gone, nought, After, topped}
use Rattle.lowered_frames.specs.Chains.{before_mark, behind_mark, waitings}
use Rattle.lowered_frames.specs.Expressions.{Expression, expression_frames, expression_words, expression_count}
use Rattle.lowered_frames.specs.Calls.{Calling, call_frames, call_words, call_count, call_scopes}
use Rattle.lowered_frames.specs.Objects.{Making, making_frames, making_words_of, making_count, making_scopes}
use Rattle.lowered_frames.specs.Closings.{Closing, closing_frames, closing_words, closing_count, closing_scopes, closing_temporaries}
use Rattle.lowered_frames.specs.Statements.{Statement, statement_frames, statement_words, statement_count, statement_scopes, statement_opens, statement_entered}
use Rattle.lowered_frames.specs.Statements.{Exiting, exit_with, exit_words, exit_count}
use Rattle.lowered_frames.specs.Throws.{Throwing, throwing_frames, throwing_words, throwing_count, throwing_exceptions, throwing_handled, throwing_scopes}

-- ---- heads

pub data Head (g : Setting) : Mode → List Item → Mode → List Item → Type 0 where
  expression : {m n : Mode} {from to : List Item} → Expression g m from n to → Head g m from n to
  calling : {m n : Mode} {from to : List Item} → Calling g m from n to → Head g m from n to
  making : {m n : Mode} {from to : List Item} → Making g m from n to → Head g m from n to
  closing : {m n : Mode} {from to : List Item} → Closing g m from n to → Head g m from n to
  statement : {m n : Mode} {from to : List Item} → Statement g m from n to → Head g m from n to
  throwing : {m n : Mode} {from to : List Item} → Throwing g m from n to → Head g m from n to

module _ (g : Setting) (number : ℕ → ℕ) where
  abbrev pub head_frames : {m n : Mode} {from to : List Item} → Head g m from n to → List Waiting → List ScopeKind → List Exception → List Term → List Frame
  head_frames (expression h) outer chain es ts = expression_frames g h ts
  head_frames (calling h) outer chain es ts = call_frames g number h ts
  head_frames (making h) outer chain es ts = making_frames g number h chain ts
  head_frames (closing h) outer chain es ts = closing_frames g h outer chain ts
  head_frames (statement h) outer chain es ts = statement_frames g h ts
  head_frames (throwing h) outer chain es ts = throwing_frames g h chain es ts

module _ (g : Setting) where
  abbrev pub head_words : {m n : Mode} {from to : List Item} → Head g m from n to → List ScopeKind → List Term → List Term
  head_words (expression h) chain ts = expression_words g h ts
  head_words (calling h) chain ts = call_words g h ts
  head_words (making h) chain ts = making_words_of g h ts
  head_words (closing h) chain ts = closing_words g h chain ts
  head_words (statement h) chain ts = statement_words g h ts
  head_words (throwing h) chain ts = throwing_words g h chain ts

  abbrev pub head_count : {m n : Mode} {from to : List Item} → Head g m from n to → List ScopeKind → ℕ
  head_count (expression h) chain = expression_count g h
  head_count (calling h) chain = call_count g h
  head_count (making h) chain = making_count g h
  head_count (closing h) chain = closing_count g h chain
  head_count (statement h) chain = statement_count g h
  head_count (throwing h) chain = throwing_count g h chain

  abbrev pub head_exceptions : {m n : Mode} {from to : List Item} → Head g m from n to → ℕ
  head_exceptions (throwing h) = throwing_exceptions g h
  head_exceptions h = zero

  abbrev pub head_handled : {m n : Mode} {from to : List Item} → Head g m from n to → List Exception → List Exception
  head_handled (throwing h) es = throwing_handled g h es
  head_handled h es = []

  abbrev pub head_scopes : {m n : Mode} {from to : List Item} → Head g m from n to → List ScopeKind → List ScopeKind
  head_scopes (expression h) chain = chain
  head_scopes (calling h) chain = call_scopes g h chain
  head_scopes (making h) chain = making_scopes g h chain
  head_scopes (closing h) chain = closing_scopes g h chain
  head_scopes (statement h) chain = statement_scopes g h chain
  head_scopes (throwing h) chain = throwing_scopes g h chain

  abbrev pub head_opens : {m n : Mode} {from to : List Item} → Head g m from n to → List Open
  head_opens (statement h) = statement_opens g h
  head_opens h = []

  -- its block, if it opens one, is entered
  abbrev pub head_entered : {m n : Mode} {from to : List Item} → Head g m from n to → Bool
  head_entered (statement h) = statement_entered g h
  head_entered h = true

  abbrev pub head_temporaries : {m n : Mode} {from to : List Item} → Head g m from n to → List Waiting → List ScopeKind → List Term → List Waiting
  head_temporaries (closing h) outer chain ts = closing_temporaries g h outer chain ts
  head_temporaries h outer chain ts = outer

-- ---- what is left

-- the items behind the end of the full-expression
unfoldable pub behind_end : List Item → List Item
behind_end [] = []
behind_end (item ∷ items) = cond (is_end item) items (behind_end items)

pub data Left (g : Setting) : Mode → List Item → Type 0 where
  body_ends : (at : At) → Left g nought (BodyEnds at ∷ [])
  before : {m n : Mode} {from to : List Item} → Head g m from n to → Left g n to → Left g m from
  -- the other branch of a conditional, where what follows it up to the end of the full-expression is written again; the source goes on behind that end
  other_again : {m n : Mode} {items : List Item} (o : OtherPart) → After (node_in g o.id) o.way n → Left g n items → Left g m (behind_end items)
      → Left g m (OtherAgain o ∷ items)
  -- scopes are left, and objects of an owner are destroyed or not: the source goes on further out, and some words lie below the value that it takes along
  leave : {m n : Mode} {items outer : List Item} {leaving : Leaving} (x : Exiting leaving) (cleans : Option Owner) (origin junk : ℕ) (at : At)
      → Left g m items → Left g n outer → Left g gone (Leave leaving origin at ∷ items)

-- the scopes behind those whose objects are destroyed
abbrev pub scopes_out : Option Owner → List ScopeKind → List ScopeKind
scopes_out None chain = chain
scopes_out (Some owner) chain = behind_mark owner chain

module _ (g : Setting) where
  abbrev pub exit_frames : {leaving : Leaving} → Exiting leaving → Option Owner → List ScopeKind → List Term → List Frame
  exit_frames x None chain ts = Leaves (exit_with x ts) ∷ []
  exit_frames x (Some owner) chain ts = Cleans (waitings g (before_mark owner chain) []) ∷ Leaves (exit_with x ts) ∷ []

  -- the temporaries of the full-expression at hand
  abbrev pub temporaries : {m : Mode} {items : List Item} → Left g m items → List ScopeKind → List Term → List Waiting
  temporaries (body_ends at) chain ts = []
  temporaries (before h d) chain ts = head_temporaries g h (temporaries d (head_scopes g h chain) (behind (head_count g h chain) ts)) chain ts
  temporaries (other_again o a e d) chain ts = temporaries d chain ts
  temporaries (leave x cleans origin junk at d o) chain ts = temporaries o (scopes_out cleans chain) (behind (more_by (exit_count x) junk) ts)

  -- the operands below the value
  abbrev pub below : {m : Mode} {items : List Item} → Left g m items → List ScopeKind → List Term → List Term
  below (body_ends at) chain ts = []
  below (before h d) chain ts = head_words g h chain ts ++ below d (head_scopes g h chain) (behind (head_count g h chain) ts)
  below (other_again o a e d) chain ts = below d chain ts
  below (leave x cleans origin junk at d o) chain ts =
      exit_words x ts ++ (firsts junk (behind (exit_count x) ts) ++ below o (scopes_out cleans chain) (behind (more_by (exit_count x) junk) ts))

  -- how many terms it speaks of
  abbrev pub count : {m : Mode} {items : List Item} → Left g m items → List ScopeKind → ℕ
  count (body_ends at) chain = zero
  count (before h d) chain = more_by (head_count g h chain) (count d (head_scopes g h chain))
  count (other_again o a e d) chain = count d chain
  count (leave x cleans origin junk at d o) chain = more_by (more_by (exit_count x) junk) (count o (scopes_out cleans chain))

  -- how many exceptions it speaks of
  abbrev pub exception_count : {m : Mode} {items : List Item} → Left g m items → ℕ
  exception_count (body_ends at) = zero
  exception_count (before h d) = more_by (head_exceptions g h) (exception_count d)
  exception_count (other_again o a e d) = exception_count d
  exception_count (leave x cleans origin junk at d o) = exception_count o

  -- the exceptions of the entered handlers, the innermost first
  abbrev pub caught : {m : Mode} {items : List Item} → Left g m items → List Exception → List Exception
  caught (body_ends at) es = []
  caught (before h d) es = head_handled g h es ++ caught d (exceptions_behind (head_exceptions g h) es)
  caught (other_again o a e d) es = caught d es
  caught (leave x cleans origin junk at d o) es = caught o es

  -- the open blocks, the innermost first
  abbrev pub opened : {m : Mode} {items : List Item} → Left g m items → List Open
  opened (body_ends at) = []
  opened (before h d) = head_opens g h ++ opened d
  opened (other_again o a e d) = opened d
  opened (leave x cleans origin junk at d o) = opened o

  -- all open blocks are entered in the source too
  abbrev pub AreEntered : {m : Mode} {items : List Item} → Left g m items → Type 0
  AreEntered (body_ends at) = Unit {0}
  AreEntered (before h d) = (head_entered g h ≡ true) × AreEntered d
  AreEntered (other_again o a e d) = AreEntered d
  AreEntered (leave x cleans origin junk at d o) = AreEntered o

-- functions of the unit have these numbers in the program
module _ (g : Setting) (number : ℕ → ℕ) where
  abbrev pub frames : {m : Mode} {items : List Item} → Left g m items → List ScopeKind → List Exception → List Term → List Frame
  frames (body_ends at) chain es ts = []
  frames (before h d) chain es ts = head_frames g number h (temporaries g d (head_scopes g h chain) (behind (head_count g h chain) ts)) chain es ts
      ++ frames d (head_scopes g h chain) (exceptions_behind (head_exceptions g h) es) (behind (head_count g h chain) ts)
  frames (other_again o a e d) chain es ts = frames d chain es ts
  frames (leave x cleans origin junk at d o) chain es ts =
      exit_frames g x cleans chain ts ++ frames o (scopes_out cleans chain) es (behind (more_by (exit_count x) junk) ts)

-- the operands with the value
abbrev pub operands : (g : Setting) {m : Mode} {items : List Item} → Left g m items → List ScopeKind → Term → List Term → List Term
operands g {m} d chain v ts = topped m v (below g d chain ts)
