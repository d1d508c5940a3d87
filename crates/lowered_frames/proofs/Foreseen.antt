-- The source goes on from what is left, whatever the terms are.
use Rattle.std.proofs.Common.{ℕ, ◌≡◌, ◌-◌, ◌||◌, refl, Bool, true, false, List, [], ◌∷◌, ◌++◌, Option, Some, None}
use Rattle.std.specs.Prelude.{is_some}
use Rattle.cpp_tree.specs.Trees.{Tree, Trees, none, more, kind_of}
use Rattle.low_code.specs.declared.scopes.Owner.{Owner as LowOwner}
use Rattle.low_code.specs.declared.scopes.ScopeKind.{ScopeKind}
use Rattle.low_code.specs.Nodes.{kid_in}
use Rattle.src_mean.specs.Linked.{Func, Program, WordPlace}
use Rattle.src_mean.specs.Frames.{Owner, of_block, of_call, of_pieces, same_owner}
use Rattle.src_mean.specs.Source.{from_label, is_case, case_word}
use Rattle.symbolic_source.specs.Terms.{Term, number, Exception}
use Rattle.symbolic_source.specs.Frames.{value, Passes, Spot, Waiting, pointer, Frame, Gives, Scope, Parts, Each, Waits, Then, Leaves, puts}
use Rattle.symbolic_source.specs.Steps.{Answers, given, left, first_word, same_word, compared, run_items}
use Rattle.symbolic_source.specs.Small.{is_stuck}
use Rattle.unwind_lower.specs.declared.items.Leaving.{Leaving}
use Rattle.unwind_lower.specs.declared.items.Item.{Item}
use Rattle.unwind_lower.specs.Settings.{Setting, node_in}
use Rattle.unwind_lower.specs.Kids.{kids_from}
use Rattle.lowered_frames.specs.Lists.{firsts, behind, turned, more_by, exceptions_behind}
use Rattle.lowered_frames.specs.Modes.{Mode, tree_in, trees_in}
use Rattle.lowered_frames.specs.Expressions.{Expression, expression_frames}
use Rattle.lowered_frames.specs.Expressions.{run, drop, gives, gives_local, gives_number, converts, branch, other, bind}
use Rattle.lowered_frames.specs.Calls.{called_with, Calling, call_frames, words, bare, bare_built_in, object, found, pointer_on_top, pointer_and_result, pointer_below}
use Rattle.lowered_frames.specs.Objects.{Making, making_frames}
use Rattle.lowered_frames.specs.Objects.{temporary_made, argument_made, init_plain, plain_made, init_variable, variable_made, init_member, init_doubled}
use Rattle.lowered_frames.specs.Objects.{member_made, parts, part, part_made, each, element, due, destroying}
use Rattle.lowered_frames.specs.Closings.{Closing, closing_frames, close_block, close_call, close_full, cleaning}
use Rattle.lowered_frames.specs.Statements.{Statement, statement_frames, Exiting, exit_count}
use Rattle.lowered_frames.specs.Statements.{passing, rest_of_block, rest_of_switch, past_switch, past_try, select, compares, picked_by_word, picked, opens, block_done, body_done, step_done, test_done, returning}
use Rattle.lowered_frames.specs.Throws.{Throwing, throwing_frames}
use Rattle.lowered_frames.specs.Throws.{throwing as throws_it, fills, filled, fills_scalar, scalar_filled, try_done, handle, takes, handler_done, flies, flies_cleaning, flies_parts, flies_elements}
use Rattle.lowered_frames.specs.Left.{Head, expression, calling, making, closing, statement, throwing, head_frames, head_scopes, head_count, head_exceptions}
use Rattle.lowered_frames.specs.Left.{Left, body_ends, before, other_again, leave, scopes_out, exit_frames, temporaries, frames}
use Rattle.lowered_frames.specs.Sound.{expression_sound, call_sound, making_sound, statement_sound, head_sound, closing_ends, head_ends, ends, Awaits, HasScope, Sound}
use Rattle.lowered_frames.proofs.Going.{either_goes, word_goes, left_goes, next_goes, puts_pass, own_found, waits_go, run_goes, due_goes, items_go, cleans_go, parts_go, takes_go, fills_go, compared_goes}

-- ---- scopes are found

module _ (g : Setting) (number_of : ℕ → ℕ) where
  either_one : (a b : Bool) {A : Type 0} → (a || b) ≡ true → (a ≡ true → A) → (b ≡ true → A) → A
  either_one true b e here further = here refl
  either_one false b e here further = further e

  closing_found : (owner : Owner) (w : Waiting) {m n : Mode} {items rest : List Item} (h : Closing g m items n rest) (outer : List Waiting) (chain : List ScopeKind)
      (ts : List Term) (k : List Frame) → closing_ends g owner h ≡ true → is_some (puts owner w (closing_frames g h outer chain ts ++ k)) ≡ true
  closing_found owner w (close_block always at) outer chain ts k e = own_found (same_owner owner of_block) w _ _ _ _ _ e
  closing_found owner w (close_call at) outer chain ts k e = own_found (same_owner owner of_call) w _ _ _ _ _ e
  closing_found owner w (close_full at) outer chain ts k e = absurd cc
  closing_found owner w (cleaning owned at) outer chain ts k e = absurd cc

  head_found : (owner : Owner) (w : Waiting) {m n : Mode} {items rest : List Item} (h : Head g m items n rest) (outer : List Waiting) (chain : List ScopeKind)
      (es : List Exception) (ts : List Term) (k : List Frame) → head_ends g owner h ≡ true → is_some (puts owner w (head_frames g number_of h outer chain es ts ++ k)) ≡ true
  head_found owner w (closing h) outer chain es ts k e = closing_found owner w h outer chain ts k e
  head_found owner w h outer chain es ts k e = absurd cc

  pub scope_found : (owner : Owner) {m : Mode} {items : List Item} (d : Left g m items) (chain : List ScopeKind) (es : List Exception) (ts : List Term)
      → ends g owner d ≡ true → (w : Waiting) → is_some (puts owner w (frames g number_of d chain es ts)) ≡ true
  scope_found owner (body_ends at) chain es ts e w = absurd cc
  scope_found owner (before h d) chain es ts e w = either_one (head_ends g owner h) (ends g owner d) e
      (λ i. head_found owner w h (temporaries g d (head_scopes g h chain) (behind (head_count g h chain) ts)) chain es ts
      (frames g number_of d (head_scopes g h chain) (exceptions_behind (head_exceptions g h) es) (behind (head_count g h chain) ts)) i)
      (λ i. puts_pass owner w (head_frames g number_of h (temporaries g d (head_scopes g h chain) (behind (head_count g h chain) ts)) chain es ts)
      (frames g number_of d (head_scopes g h chain) (exceptions_behind (head_exceptions g h) es) (behind (head_count g h chain) ts))
      (scope_found owner d (head_scopes g h chain) (exceptions_behind (head_exceptions g h) es) (behind (head_count g h chain) ts) i w))
  scope_found owner (other_again o a c d) chain es ts e w = scope_found owner d chain es ts e w
  scope_found owner (leave x cleans origin junk at d o) chain es ts e w = puts_pass owner w (exit_frames g x cleans chain ts)
      (frames g number_of o (scopes_out cleans chain) es (behind (more_by (exit_count x) junk) ts))
      (scope_found owner o (scopes_out cleans chain) es (behind (more_by (exit_count x) junk) ts) e w)

-- ---- heads

module _ (p : Program) (f : Func) (answers : Answers) (g : Setting) (number_of : ℕ → ℕ) (k : List Frame)
    (go : (ws : List Waiting) (v : Term) → is_stuck (given p f answers ws v k) ≡ false) where
  expression_goes : {m n : Mode} {items rest : List Item} (h : Expression g m items n rest) (ts : List Term) → expression_sound g h ≡ true
      → (ws : List Waiting) (v : Term) → is_stuck (given p f answers ws v (expression_frames g h ts ++ k)) ≡ false
  expression_goes (run id way a) ts e ws v = run_goes p f answers k go ws v _ (tree_in g id) e
  expression_goes (drop at) ts e ws v = go ws v
  expression_goes gives ts e ws v = go ws _
  expression_goes (gives_local offset at) ts e ws v = go ws _
  expression_goes (gives_number n at) ts e ws v = go ws _
  expression_goes (converts to at) ts e ws v = go ws _
  expression_goes (branch id way a b) ts e ws v = either_goes v _ _ refl refl
  expression_goes (other o a) ts e ws v = go ws v
  expression_goes (bind jump) ts e ws v = go ws v
  expression_goes h ts e ws v = refl

  call_goes : {m n : Mode} {items rest : List Item} (h : Calling g m items n rest) (ts : List Term) → call_sound g h ≡ true
      → (ws : List Waiting) (v : Term) → is_stuck (given p f answers ws v (call_frames g number_of h ts ++ k)) ≡ false
  call_goes (words c n ids id way) ts e ws v = next_goes ws (called_with number_of c (behind n ts)) (turned n ts ++ v ∷ []) (trees_in g ids) k
  call_goes (bare id way at) ts e ws v = run_goes p f answers k go ws v _ (tree_in g id) e
  call_goes (bare_built_in id way) ts e ws v = run_goes p f answers k go ws v _ (tree_in g id) e
  call_goes (object id way ids at func class slot offset is) ts e ws v = refl
  call_goes (found id way ids at func class slot offset is) ts e ws v = refl
  call_goes (pointer_on_top sig ids id way at) ts e ws v = next_goes ws (pointer v sig) [] (trees_in g ids) (Scope of_call true [] ∷ k)
  call_goes (pointer_and_result sig ids id place at) ts e ws v = next_goes ws (pointer v sig) (first_word ts ∷ []) (trees_in g ids) (Scope of_call true [] ∷ k)
  call_goes (pointer_below sig ids id at) ts e ws v = next_goes ws (pointer v sig) (first_word ts ∷ []) (trees_in g ids) (Scope of_call true [] ∷ k)

  -- a part or an element waits in the scope of its whole
  part_waits : (ws : List Waiting) (v : Term) (address : Spot) (destroys ts : Trees) (target source : Term) (us : List Waiting)
      → is_stuck (given p f answers ws v (Waits of_pieces address destroys ∷ Parts ts target source ∷ Scope of_pieces false us ∷ k)) ≡ false
  part_waits ws v address none ts target source us = refl
  part_waits ws v address (more d ds) ts target source us = refl

  element_waits : (ws : List Waiting) (v : Term) (address : Spot) (destroys : Trees) (init : Tree) (stride : ℕ) (count target source : Term) (us : List Waiting)
      → is_stuck (given p f answers ws v (Waits of_pieces address destroys ∷ Each init destroys stride count target source ∷ Scope of_pieces false us ∷ k)) ≡ false
  element_waits ws v address none init stride count target source us = refl
  element_waits ws v address (more d ds) init stride count target source us = refl

  making_goes : {m n o : Mode} {items rest others : List Item} (h : Making g m items n rest) (d : Left g o others) (chain : List ScopeKind) (ts : List Term)
      → ((owner : Owner) → ends g owner d ≡ true → (w : Waiting) → is_some (puts owner w k) ≡ true)
      → making_sound g h ≡ true → Awaits g h d → (ws : List Waiting) (v : Term) → is_stuck (given p f answers ws v (making_frames g number_of h chain ts ++ k)) ≡ false
  making_goes (temporary_made id place at is) d chain ts s e a ws v = refl
  making_goes (argument_made id place at is) d chain ts s e a ws v = waits_go p f answers ws v of_call _ (trees_in g (kids_from (node_in g id) 1)) (Gives _ ∷ k)
      (λ w. puts_pass of_call w (Gives _ ∷ []) k (s of_call a w))
  making_goes (init_plain id i) d chain ts s e a ws v = refl
  making_goes plain_made d chain ts s e a ws v = refl
  making_goes (init_variable id place is) d chain ts s e a ws v = refl
  making_goes (variable_made id place is) d chain ts s e a ws v = waits_go p f answers ws v of_block _ (trees_in g (kids_from (node_in g id) 2)) k (s of_block a)
  making_goes (init_member id at) d chain ts s e a ws v = refl
  making_goes (init_doubled id) d chain ts s e a ws v = refl
  making_goes (member_made id) d chain ts s e a ws v = waits_go p f answers ws v of_block _ (trees_in g (kids_from (node_in g id) 2)) k (s of_block a)
  making_goes (parts way ids at b) d chain ts s e a ws v = parts_go p f answers (Scope of_pieces false _ ∷ k) (λ ws v. refl) ws v (trees_in g ids) _ _
  making_goes (part id way ids at b) d chain ts s e a ws v = run_goes p f answers (Parts (trees_in g ids) _ _ ∷ Scope of_pieces false _ ∷ k)
      (λ ws v. parts_go p f answers (Scope of_pieces false _ ∷ k) (λ ws v. refl) ws v (trees_in g ids) _ _) ws v _ (tree_in g id) e
  making_goes (part_made id offset way ids at b is) d chain ts s e a ws v = part_waits ws v _ (trees_in g (kids_from (node_in g id) 1)) (trees_in g ids) _ _ _
  making_goes (each id count stride built way first scope b is i) d chain ts s e a ws v = either_goes (number (count - built)) _ _ refl refl
  making_goes (element id count stride built way first scope b is i) d chain ts s e a ws v =
      element_waits ws v _ (trees_in g (kids_from (node_in g id) 1)) (tree_in g (kid_in (node_in g id).kids 0)) stride _ _ _ _
  making_goes (due id first) d chain ts s e a ws v = due_goes p f answers k go ws v (trees_in g (kids_from (node_in g id) first)) e
  making_goes (destroying id first row func offset count stride left ids rows is) d chain ts s e a ws v =
      either_goes (number left) _ _ (due_goes p f answers k go ws _ (trees_in g ids) e) refl

  closing_goes : {m n : Mode} {items rest : List Item} (h : Closing g m items n rest) (outer : List Waiting) (chain : List ScopeKind) (ts : List Term)
      → (ws : List Waiting) (v : Term) → is_stuck (given p f answers ws v (closing_frames g h outer chain ts ++ k)) ≡ false
  closing_goes (close_block always at) outer chain ts ws v = refl
  closing_goes (close_call at) outer chain ts ws v = refl
  closing_goes (close_full at) outer chain ts ws v = refl
  closing_goes (cleaning owner at) outer chain ts ws v = cleans_go p f answers (Gives _ ∷ k) (λ ws v. go ws _) ws v _

  passes_go : (ws : List Waiting) (v : Term) (us : List Term) (places : List WordPlace) (t : Tree)
      → is_stuck (given p f answers ws v (Passes us places ∷ Then value t ∷ k)) ≡ false
  passes_go ws v [] places t = refl
  passes_go ws v (w ∷ us) [] t = refl
  passes_go ws v (w ∷ us) (place ∷ places) t = refl

  statement_goes : {m n : Mode} {items rest : List Item} (h : Statement g m items n rest) (ts : List Term) → statement_sound g h ≡ true
      → (ws : List Waiting) (v : Term) → is_stuck (given p f answers ws v (statement_frames g h ts ++ k)) ≡ false
  statement_goes (rest_of_block ids b) ts e ws v = items_go p f answers k go ws v (trees_in g ids)
  statement_goes (rest_of_switch labels ids b) ts e ws v = items_go p f answers k go ws v (trees_in g ids)
  statement_goes (past_switch scope) ts e ws v = go ws (number 0)
  statement_goes (past_try scope) ts e ws v = go ws v
  statement_goes (select id) ts e ws v = compared_goes p f answers ws v (from_label is_case (trees_in g (kids_from (node_in g id) 1))) (trees_in g (kids_from (node_in g id) 1)) k
  statement_goes (compares id label ids word is i) ts e ws v = word_goes (case_word (kind_of (tree_in g label))) _ e
      (either_goes (same_word (first_word ts) (case_word (kind_of (tree_in g label))))
      (compared ws (first_word ts) (from_label is_case (trees_in g ids)) (trees_in g (kids_from (node_in g id) 1)) k) (run_items ws (trees_in g ids) k)
      (compared_goes p f answers ws (first_word ts) (from_label is_case (trees_in g ids)) (trees_in g (kids_from (node_in g id) 1)) k) refl)
  statement_goes (picked_by_word id ids) ts e ws v = items_go p f answers _ (λ ws v. refl) ws v (trees_in g ids)
  statement_goes (picked id ids) ts e ws v = items_go p f answers _ (λ ws v. refl) ws v (trees_in g ids)
  statement_goes (opens block id scope end at) ts e ws v = refl
  statement_goes (block_done block scope end at) ts e ws v = refl
  statement_goes (body_done turn) ts e ws v = refl
  statement_goes (step_done turn) ts e ws v = refl
  statement_goes (test_done turn) ts e ws v = either_goes v _ _ refl refl
  statement_goes (passing id n places a) ts e ws v = passes_go ws v (firsts n ts) places (tree_in g id)
  statement_goes (returning origin at) ts e ws v = left_goes ws _ k

  throwing_goes : {m n : Mode} {items rest : List Item} (h : Throwing g m items n rest) (chain : List ScopeKind) (es : List Exception) (ts : List Term)
      → (ws : List Waiting) (v : Term) → is_stuck (given p f answers ws v (throwing_frames g h chain es ts ++ k)) ≡ false
  throwing_goes (throws_it id) chain es ts ws v = refl
  throwing_goes (fills id done ids o) chain es ts ws v = fills_go p f answers ws v _ _ (trees_in g ids) _ k
  throwing_goes (filled id field done ids offset kind o is) chain es ts ws v = refl
  throwing_goes (fills_scalar id o) chain es ts ws v = fills_go p f answers ws v _ _ (trees_in g (kids_from (node_in g id) 1)) _ k
  throwing_goes (scalar_filled id field ids o) chain es ts ws v = fills_go p f answers ws v _ _ (trees_in g ids) _ k
  throwing_goes (try_done id scope) chain es ts ws v = go ws (number 0)
  throwing_goes (handle id scope live) chain es ts ws v = go ws v
  throwing_goes (takes offset ids body handler scope at) chain es ts ws v = takes_go p f answers (Then _ (tree_in g body) ∷ k) (λ ws v. refl) ws v _ _ (trees_in g ids)
  throwing_goes (handler_done handler scope at) chain es ts ws v = go ws v
  throwing_goes (flies at next) chain es ts ws v = left_goes ws _ k
  throwing_goes (flies_cleaning owner at next) chain es ts ws v = cleans_go p f answers (Leaves _ ∷ k) (λ ws v. left_goes ws _ k) ws v _
  throwing_goes (flies_parts at next) chain es ts ws v = cleans_go p f answers (Leaves _ ∷ k) (λ ws v. left_goes ws _ k) ws v _
  throwing_goes (flies_elements id stride built at next) chain es ts ws v = cleans_go p f answers (Leaves _ ∷ k) (λ ws v. left_goes ws _ k) ws v _

  head_goes : {m n o : Mode} {items rest others : List Item} (h : Head g m items n rest) (d : Left g o others) (outer : List Waiting) (chain : List ScopeKind)
      (es : List Exception) (ts : List Term) → ((owner : Owner) → ends g owner d ≡ true → (w : Waiting) → is_some (puts owner w k) ≡ true)
      → head_sound g h ≡ true → HasScope g h d → (ws : List Waiting) (v : Term) → is_stuck (given p f answers ws v (head_frames g number_of h outer chain es ts ++ k)) ≡ false
  head_goes (expression h) d outer chain es ts s e a ws v = expression_goes h ts e ws v
  head_goes (calling h) d outer chain es ts s e a ws v = call_goes h ts e ws v
  head_goes (making h) d outer chain es ts s e a ws v = making_goes h d chain ts s e a ws v
  head_goes (closing h) d outer chain es ts s e a ws v = closing_goes h outer chain ts ws v
  head_goes (statement h) d outer chain es ts s e a ws v = statement_goes h ts e ws v
  head_goes (throwing h) d outer chain es ts s e a ws v = throwing_goes h chain es ts ws v

  exit_goes : {leaving : Leaving} (x : Exiting leaving) (cleans : Option LowOwner) (chain : List ScopeKind) (ts : List Term)
      → (ws : List Waiting) (v : Term) → is_stuck (given p f answers ws v (exit_frames g x cleans chain ts ++ k)) ≡ false
  exit_goes x None chain ts ws v = left_goes ws _ k
  exit_goes x (Some owner) chain ts ws v = cleans_go p f answers (Leaves _ ∷ k) (λ ws v. left_goes ws _ k) ws v _

-- ---- what is left

module _ (p : Program) (f : Func) (answers : Answers) (g : Setting) (number_of : ℕ → ℕ) where
  pub goes_on : {m : Mode} {items : List Item} (d : Left g m items) → Sound g d → (chain : List ScopeKind) (es : List Exception) (ts : List Term)
      → (ws : List Waiting) (v : Term) → is_stuck (given p f answers ws v (frames g number_of d chain es ts)) ≡ false
  goes_on (body_ends at) s chain es ts ws v = refl
  goes_on (before h d) s chain es ts ws v =
      head_goes p f answers g number_of (frames g number_of d (head_scopes g h chain) (exceptions_behind (head_exceptions g h) es) (behind (head_count g h chain) ts))
      (λ ws v. goes_on d s.2 (head_scopes g h chain) (exceptions_behind (head_exceptions g h) es) (behind (head_count g h chain) ts) ws v)
      h d (temporaries g d (head_scopes g h chain) (behind (head_count g h chain) ts)) chain es ts
      (λ owner e w. scope_found g number_of owner d (head_scopes g h chain) (exceptions_behind (head_exceptions g h) es) (behind (head_count g h chain) ts) e w)
      s.0 s.1 ws v
  goes_on (other_again o a c d) s chain es ts ws v = goes_on d s chain es ts ws v
  goes_on (leave x cleans origin junk at d o) s chain es ts ws v =
      exit_goes p f answers g number_of (frames g number_of o (scopes_out cleans chain) es (behind (more_by (exit_count x) junk) ts))
      (λ ws v. goes_on o s (scopes_out cleans chain) es (behind (more_by (exit_count x) junk) ts) ws v) x cleans chain ts ws v
