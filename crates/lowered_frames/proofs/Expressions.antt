-- Terms in the place of variables, in the frames and operands of expressions.
use Rattle.std.proofs.Common.{◌≡◌, refl, ap, ap₂, ◌∙◌, Bool, true, false, cond, List, [], ◌∷◌}
use Rattle.low_code.specs.Nodes.{kid_in}
use Rattle.symbolic_source.specs.Terms.{Term, number}
use Rattle.symbolic_source.specs.Frames.{Run, Then, Gives, StoreTo, Converts, Apply, Choose, UpdateOld, UpdateBy, CopyBy, From}
use Rattle.symbolic_source.specs.Steps.{first_word, second_word}
use Rattle.symbolic_source.specs.Replacing.{Replacing, in_term, in_terms, in_frames}
use Rattle.unwind_lower.specs.declared.items.Item.{Item}
use Rattle.unwind_lower.specs.Settings.{Setting, node_in}
use Rattle.lowered_frames.specs.Modes.{Mode, tree_in}
use Rattle.lowered_frames.specs.Expressions.{Expression, expression_frames, expression_words}
use Rattle.lowered_frames.specs.Expressions.{run, next, drop, gives, gives_local, gives_number, loads, converts, right, apply, stored, assign_to, assigned}
use Rattle.lowered_frames.specs.Expressions.{update_new, update_doubled, update_tripled, update_read, update_old, update_again, update_swap, update_over}
use Rattle.lowered_frames.specs.Expressions.{update_by, update_store, copy_to, copy_by, copy_swap, from, branch, other, bind}
use Rattle.lowered_frames.proofs.Lists.{first_in, second_in, way_in, way_words_in}

module _ (g : Setting) (r : Replacing) where
  pub expression_frames_in : {m n : Mode} {items rest : List Item} (h : Expression g m items n rest) (ts : List Term)
      → in_frames r (expression_frames g h ts) ≡ expression_frames g h (in_terms r ts)
  expression_frames_in (run id way a) ts = ap (λ z. Run z (tree_in g id) ∷ []) (way_in r way ts)
  expression_frames_in (next id way a) ts = ap (λ z. Then z (tree_in g id) ∷ []) (way_in r way ts)
  expression_frames_in (drop at) ts = refl
  expression_frames_in gives ts = ap (λ (z : Term). Gives z ∷ []) (first_in r ts)
  expression_frames_in (gives_local offset at) ts = refl
  expression_frames_in (gives_number n at) ts = refl
  expression_frames_in (loads kind volatile at) ts = refl
  expression_frames_in (converts to at) ts = refl
  expression_frames_in (right op kind id at e) ts = refl
  expression_frames_in (apply op kind at) ts = ap (λ (z : Term). Apply op kind z ∷ []) (first_in r ts)
  expression_frames_in (stored kind volatile at) ts = ap (λ (z : Term). StoreTo z kind volatile (number 0) ∷ []) (first_in r ts)
  expression_frames_in (assign_to kind volatile id at e) ts = refl
  expression_frames_in (assigned kind volatile at) ts = ap (λ (z : Term). StoreTo z kind volatile z ∷ []) (first_in r ts)
  expression_frames_in (update_new c id at o e) ts = refl
  expression_frames_in (update_doubled c id at o e) ts = refl
  expression_frames_in (update_tripled c id at o e) ts = refl
  expression_frames_in (update_read c id at o e) ts = ap (λ (z : Term). UpdateOld c z (tree_in g id) ∷ []) (first_in r ts)
  expression_frames_in (update_old c id at o e) ts = refl
  expression_frames_in (update_again c id at o e) ts = refl
  expression_frames_in (update_swap c id at o e) ts = ap (λ (z : Term). UpdateOld c z (tree_in g id) ∷ []) (first_in r ts)
  expression_frames_in (update_over c id at o e) ts = ap (λ (z : Term). UpdateOld c z (tree_in g id) ∷ []) (first_in r ts)
  expression_frames_in (update_by c at) ts = ap₂ (λ (y z : Term). UpdateBy c y z ∷ []) (second_in r ts) (first_in r ts)
  expression_frames_in (update_store kind volatile at) ts = ap₂ (λ (y z : Term). Converts kind ∷ StoreTo y kind volatile z ∷ []) (first_in r ts) (second_in r ts)
  expression_frames_in (copy_to source init at e) ts = refl
  expression_frames_in (copy_by init at) ts = ap (λ (z : Term). CopyBy z (tree_in g init) ∷ []) (first_in r ts)
  expression_frames_in (copy_swap init at) ts = ap (λ (z : Term). CopyBy z (tree_in g init) ∷ []) (first_in r ts)
  expression_frames_in (from init) ts = ap (λ (z : Term). From z (tree_in g init) ∷ []) (first_in r ts)
  expression_frames_in (branch id way a b) ts = ap (λ z. Choose z (tree_in g (kid_in (node_in g id).kids 1)) (tree_in g (kid_in (node_in g id).kids 2)) ∷ []) (way_in r way ts)
  expression_frames_in (other o a) ts = refl
  expression_frames_in (bind jump) ts = refl

  kept_in : (b : Bool) (t u : Term) → in_term r (cond b t u) ≡ cond b (in_term r t) (in_term r u)
  kept_in true t u = refl
  kept_in false t u = refl

  by_in : (b : Bool) (ts : List Term) → in_terms r (first_word ts ∷ second_word ts ∷ cond b (first_word ts) (second_word ts) ∷ [])
      ≡ first_word (in_terms r ts) ∷ second_word (in_terms r ts) ∷ cond b (first_word (in_terms r ts)) (second_word (in_terms r ts)) ∷ []
  by_in b ts = ap (λ (z : Term). in_term r (first_word ts) ∷ in_term r (second_word ts) ∷ z ∷ []) (kept_in b (first_word ts) (second_word ts))
      ∙ ap₂ (λ (y z : Term). y ∷ z ∷ cond b y z ∷ []) (first_in r ts) (second_in r ts)

  pub expression_words_in : {m n : Mode} {items rest : List Item} (h : Expression g m items n rest) (ts : List Term)
      → in_terms r (expression_words g h ts) ≡ expression_words g h (in_terms r ts)
  expression_words_in (run id way a) ts = way_words_in r way ts
  expression_words_in (next id way a) ts = way_words_in r way ts
  expression_words_in (drop at) ts = refl
  expression_words_in gives ts = ap (λ (z : Term). z ∷ []) (first_in r ts)
  expression_words_in (gives_local offset at) ts = refl
  expression_words_in (gives_number n at) ts = refl
  expression_words_in (loads kind volatile at) ts = refl
  expression_words_in (converts to at) ts = refl
  expression_words_in (right op kind id at e) ts = refl
  expression_words_in (apply op kind at) ts = ap (λ (z : Term). z ∷ []) (first_in r ts)
  expression_words_in (stored kind volatile at) ts = ap (λ (z : Term). z ∷ []) (first_in r ts)
  expression_words_in (assign_to kind volatile id at e) ts = refl
  expression_words_in (assigned kind volatile at) ts = ap (λ (z : Term). z ∷ z ∷ []) (first_in r ts)
  expression_words_in (update_new c id at o e) ts = refl
  expression_words_in (update_doubled c id at o e) ts = refl
  expression_words_in (update_tripled c id at o e) ts = refl
  expression_words_in (update_read c id at o e) ts = ap (λ (z : Term). z ∷ z ∷ []) (first_in r ts)
  expression_words_in (update_old c id at o e) ts = refl
  expression_words_in (update_again c id at o e) ts = refl
  expression_words_in (update_swap c id at o e) ts = ap (λ (z : Term). z ∷ []) (first_in r ts)
  expression_words_in (update_over c id at o e) ts = ap (λ (z : Term). z ∷ []) (first_in r ts)
  expression_words_in (update_by c at) ts = by_in c.old ts
  expression_words_in (update_store kind volatile at) ts = ap₂ (λ (y z : Term). y ∷ z ∷ []) (first_in r ts) (second_in r ts)
  expression_words_in (copy_to source init at e) ts = refl
  expression_words_in (copy_by init at) ts = ap (λ (z : Term). z ∷ []) (first_in r ts)
  expression_words_in (copy_swap init at) ts = ap (λ (z : Term). z ∷ z ∷ []) (first_in r ts)
  expression_words_in (from init) ts = ap (λ (z : Term). z ∷ []) (first_in r ts)
  expression_words_in (branch id way a b) ts = way_words_in r way ts
  expression_words_in (other o a) ts = refl
  expression_words_in (bind jump) ts = refl
