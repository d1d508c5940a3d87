-- Terms in the place of variables, in the frames and operands of heads.
use Rattle.std.proofs.Common.{ℕ, ◌≡◌, refl, ap, ap₂, ◌∙◌, true, List, [], ◌∷◌, ◌++◌, Option, Some, None}
use Rattle.cpp_tree.specs.Trees.{kind_of}
use Rattle.low_code.specs.declared.scopes.Owner.{Owner}
use Rattle.low_code.specs.declared.scopes.Owner.TheVariants.{Block as OfBlock, Call as OfCall, Full as OfFull}
use Rattle.low_code.specs.declared.scopes.ScopeKind.{ScopeKind}
use Rattle.src_mean.specs.Frames.{of_block, of_call}
use Rattle.symbolic_source.specs.Terms.{Term, Exception}
use Rattle.symbolic_source.specs.Frames.{value, Passes, Then, Gives, Scope, Cleans, Compares, Leaves, Exit, returns, Waiting}
use Rattle.symbolic_source.specs.Replacing.{Replacing, in_term, in_terms, in_frames, in_waitings, in_exit}
use Rattle.unwind_lower.specs.declared.items.Leaving.{Leaving}
use Rattle.unwind_lower.specs.declared.items.Item.{Item}
use Rattle.unwind_lower.specs.Settings.{Setting, node_in}
use Rattle.unwind_lower.specs.Kids.{kids_from}
use Rattle.lowered_frames.specs.Lists.{behind, firsts, in_exceptions}
use Rattle.lowered_frames.specs.Modes.{Mode, top, doubled, tripled, second, gone, nought, tree_in, trees_in}
use Rattle.lowered_frames.specs.Chains.{before_mark, waitings, words_of_all}
use Rattle.lowered_frames.specs.Closings.{kept_value, kept_words, kept_count, Closing, closing_frames, closing_words, closing_temporaries, close_block, close_call, close_full, cleaning}
use Rattle.lowered_frames.specs.Statements.{Statement, statement_frames, statement_words}
use Rattle.lowered_frames.specs.Statements.{passing, rest_of_block, rest_of_switch, past_switch, past_try, select, compares, picked_by_word, picked, opens, block_done, body_done, step_done, test_done, returning}
use Rattle.lowered_frames.specs.Statements.{Exiting, returns_word, returns_nothing, breaks_out, continues_there, exit_with, exit_words}
use Rattle.lowered_frames.specs.Left.{Head, expression, calling, making, closing, statement, throwing, head_frames, head_words, head_handled, head_temporaries, exit_frames}
use Rattle.lowered_frames.proofs.Lists.{first_in, behind_in, firsts_in, joined_in}
use Rattle.lowered_frames.proofs.Chains.{waitings_in}
use Rattle.lowered_frames.proofs.Expressions.{expression_frames_in, expression_words_in}
use Rattle.lowered_frames.proofs.Calls.{call_frames_in, call_words_in}
use Rattle.lowered_frames.proofs.Objects.{making_frames_in, making_words_in}
use Rattle.lowered_frames.proofs.Throws.{throwing_frames_in, throwing_words_in, throwing_handled_in}

-- ---- closings

module _ (r : Replacing) where
  kept_value_in : (m : Mode) (ts : List Term) → in_term r (kept_value m ts) ≡ kept_value m (in_terms r ts)
  kept_value_in nought ts = refl
  kept_value_in top ts = first_in r ts
  kept_value_in doubled ts = first_in r ts
  kept_value_in tripled ts = first_in r ts
  kept_value_in second ts = first_in r ts
  kept_value_in gone ts = first_in r ts

  kept_words_in : (m : Mode) (ts : List Term) → in_terms r (kept_words m ts) ≡ kept_words m (in_terms r ts)
  kept_words_in top ts = ap (λ (z : Term). z ∷ []) (first_in r ts)
  kept_words_in doubled ts = refl
  kept_words_in tripled ts = refl
  kept_words_in second ts = refl
  kept_words_in gone ts = refl
  kept_words_in nought ts = refl

module _ (g : Setting) (r : Replacing) where
  -- what waits behind some terms
  waitings_behind_in : (chain : List ScopeKind) (n : ℕ) (ts : List Term) → in_waitings r (waitings g chain (behind n ts)) ≡ waitings g chain (behind n (in_terms r ts))
  waitings_behind_in chain n ts = waitings_in g r chain (behind n ts) ∙ ap (λ (z : List Term). waitings g chain z) (behind_in r n ts)

  closing_frames_in : {m n : Mode} {items rest : List Item} (h : Closing g m items n rest) (outer : List Waiting) (chain : List ScopeKind) (ts : List Term)
      → in_frames r (closing_frames g h outer chain ts) ≡ closing_frames g h (in_waitings r outer) chain (in_terms r ts)
  closing_frames_in (close_block always at) outer chain ts = ap (λ (z : List Waiting). Scope of_block always z ∷ []) (waitings_in g r (before_mark OfBlock chain) ts)
  closing_frames_in (close_call at) outer chain ts = ap (λ (z : List Waiting). Scope of_call true z ∷ []) (waitings_in g r (before_mark OfCall chain) ts)
  closing_frames_in (close_full at) outer chain ts = refl
  closing_frames_in (cleaning {m} owner at) outer chain ts = ap₂ (λ (y : List Waiting) (z : Term). Cleans y ∷ Gives z ∷ [])
      (waitings_behind_in (before_mark owner chain) (kept_count m) ts) (kept_value_in r m ts)

  closing_words_in : {m n : Mode} {items rest : List Item} (h : Closing g m items n rest) (chain : List ScopeKind) (ts : List Term)
      → in_terms r (closing_words g h chain ts) ≡ closing_words g h chain (in_terms r ts)
  closing_words_in (close_block always at) chain ts = firsts_in r (words_of_all (before_mark OfBlock chain)) ts
  closing_words_in (close_call at) chain ts = firsts_in r (words_of_all (before_mark OfCall chain)) ts
  closing_words_in (close_full at) chain ts = firsts_in r (words_of_all (before_mark OfFull chain)) ts
  closing_words_in (cleaning {m} owner at) chain ts = joined_in r (kept_words m ts) (firsts (words_of_all (before_mark owner chain)) (behind (kept_count m) ts))
      ∙ ap₂ (λ (y z : List Term). y ++ z) (kept_words_in r m ts)
      (firsts_in r (words_of_all (before_mark owner chain)) (behind (kept_count m) ts)
      ∙ ap (λ (z : List Term). firsts (words_of_all (before_mark owner chain)) z) (behind_in r (kept_count m) ts))

  closing_temporaries_in : {m n : Mode} {items rest : List Item} (h : Closing g m items n rest) (outer : List Waiting) (chain : List ScopeKind) (ts : List Term)
      → in_waitings r (closing_temporaries g h outer chain ts) ≡ closing_temporaries g h (in_waitings r outer) chain (in_terms r ts)
  closing_temporaries_in (close_full at) outer chain ts = waitings_in g r (before_mark OfFull chain) ts
  closing_temporaries_in (close_block always at) outer chain ts = refl
  closing_temporaries_in (close_call at) outer chain ts = refl
  closing_temporaries_in (cleaning owner at) outer chain ts = refl

  -- ---- statements

  statement_frames_in : {m n : Mode} {items rest : List Item} (h : Statement g m items n rest) (ts : List Term)
      → in_frames r (statement_frames g h ts) ≡ statement_frames g h (in_terms r ts)
  statement_frames_in (rest_of_block ids b) ts = refl
  statement_frames_in (rest_of_switch labels ids b) ts = refl
  statement_frames_in (past_switch scope) ts = refl
  statement_frames_in (past_try scope) ts = refl
  statement_frames_in (select id) ts = refl
  statement_frames_in (compares id label ids word is e) ts =
      ap (λ (z : Term). Compares z (kind_of (tree_in g label)) (trees_in g ids) (trees_in g (kids_from (node_in g id) 1)) ∷ []) (first_in r ts)
  statement_frames_in (picked_by_word id ids) ts = refl
  statement_frames_in (picked id ids) ts = refl
  statement_frames_in (opens block id scope end at) ts = refl
  statement_frames_in (block_done block scope end at) ts = refl
  statement_frames_in (body_done turn) ts = refl
  statement_frames_in (step_done turn) ts = refl
  statement_frames_in (test_done turn) ts = refl
  statement_frames_in (passing id n places a) ts = ap (λ (z : List Term). Passes z places ∷ Then value (tree_in g id) ∷ []) (firsts_in r n ts)
  statement_frames_in (returning origin at) ts = refl

  statement_words_in : {m n : Mode} {items rest : List Item} (h : Statement g m items n rest) (ts : List Term)
      → in_terms r (statement_words g h ts) ≡ statement_words g h (in_terms r ts)
  statement_words_in (compares id label ids word is e) ts = ap (λ (z : Term). z ∷ []) (first_in r ts)
  statement_words_in (picked_by_word id ids) ts = ap (λ (z : Term). z ∷ []) (first_in r ts)
  statement_words_in (passing id n places a) ts = firsts_in r n ts
  statement_words_in h ts = refl

  -- ---- scopes that are left

  exit_in : {leaving : Leaving} (x : Exiting leaving) (ts : List Term) → in_exit r (exit_with x ts) ≡ exit_with x (in_terms r ts)
  exit_in returns_word ts = ap returns (first_in r ts)
  exit_in returns_nothing ts = refl
  exit_in breaks_out ts = refl
  exit_in continues_there ts = refl

  pub exit_words_in : {leaving : Leaving} (x : Exiting leaving) (ts : List Term) → in_terms r (exit_words x ts) ≡ exit_words x (in_terms r ts)
  exit_words_in returns_word ts = ap (λ (z : Term). z ∷ []) (first_in r ts)
  exit_words_in returns_nothing ts = refl
  exit_words_in breaks_out ts = refl
  exit_words_in continues_there ts = refl

  pub exit_frames_in : {leaving : Leaving} (x : Exiting leaving) (cleans : Option Owner) (chain : List ScopeKind) (ts : List Term)
      → in_frames r (exit_frames g x cleans chain ts) ≡ exit_frames g x cleans chain (in_terms r ts)
  exit_frames_in x None chain ts = ap (λ (z : Exit). Leaves z ∷ []) (exit_in x ts)
  exit_frames_in x (Some owner) chain ts = ap₂ (λ (y : List Waiting) (z : Exit). Cleans y ∷ Leaves z ∷ []) (waitings_in g r (before_mark owner chain) []) (exit_in x ts)

-- ---- heads

module _ (g : Setting) (number : ℕ → ℕ) (r : Replacing) where
  pub head_frames_in : {m n : Mode} {items rest : List Item} (h : Head g m items n rest) (outer : List Waiting) (chain : List ScopeKind) (es : List Exception)
      (ts : List Term) → in_frames r (head_frames g number h outer chain es ts) ≡ head_frames g number h (in_waitings r outer) chain (in_exceptions r es) (in_terms r ts)
  head_frames_in (expression h) outer chain es ts = expression_frames_in g r h ts
  head_frames_in (calling h) outer chain es ts = call_frames_in g number r h ts
  head_frames_in (making h) outer chain es ts = making_frames_in g number r h chain ts
  head_frames_in (closing h) outer chain es ts = closing_frames_in g r h outer chain ts
  head_frames_in (statement h) outer chain es ts = statement_frames_in g r h ts
  head_frames_in (throwing h) outer chain es ts = throwing_frames_in g r h chain es ts

module _ (g : Setting) (r : Replacing) where
  pub head_words_in : {m n : Mode} {items rest : List Item} (h : Head g m items n rest) (chain : List ScopeKind) (ts : List Term)
      → in_terms r (head_words g h chain ts) ≡ head_words g h chain (in_terms r ts)
  head_words_in (expression h) chain ts = expression_words_in g r h ts
  head_words_in (calling h) chain ts = call_words_in g r h ts
  head_words_in (making h) chain ts = making_words_in g r h ts
  head_words_in (closing h) chain ts = closing_words_in g r h chain ts
  head_words_in (statement h) chain ts = statement_words_in g r h ts
  head_words_in (throwing h) chain ts = throwing_words_in g r h chain ts

  pub head_handled_in : {m n : Mode} {items rest : List Item} (h : Head g m items n rest) (es : List Exception)
      → in_exceptions r (head_handled g h es) ≡ head_handled g h (in_exceptions r es)
  head_handled_in (throwing h) es = throwing_handled_in g r h es
  head_handled_in h es = refl

  pub head_temporaries_in : {m n : Mode} {items rest : List Item} (h : Head g m items n rest) (outer : List Waiting) (chain : List ScopeKind) (ts : List Term)
      → in_waitings r (head_temporaries g h outer chain ts) ≡ head_temporaries g h (in_waitings r outer) chain (in_terms r ts)
  head_temporaries_in (closing h) outer chain ts = closing_temporaries_in g r h outer chain ts
  head_temporaries_in h outer chain ts = refl
