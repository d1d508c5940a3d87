-- Terms in the place of variables, in the frames and operands of calls.
use Rattle.std.proofs.Common.{ℕ, ◌≡◌, refl, ap, ap₂, ◌∙◌, List, [], ◌∷◌, ◌++◌}
use Rattle.symbolic_source.specs.Terms.{Term, slot_function}
use Rattle.symbolic_source.specs.Frames.{virtual, pointer, Callee, Run, Words, Object, Slot, Pointer}
use Rattle.symbolic_source.specs.Steps.{first_word}
use Rattle.symbolic_source.specs.Replacing.{Replacing, in_terms, in_callee, in_frames}
use Rattle.unwind_lower.specs.declared.items.Item.{Item}
use Rattle.unwind_lower.specs.declared.items.Way.{Way}
use Rattle.unwind_lower.specs.Settings.{Setting}
use Rattle.lowered_frames.specs.Lists.{others, behind, firsts}
use Rattle.lowered_frames.specs.Modes.{Mode, result_with, tree_in, trees_in}
use Rattle.lowered_frames.specs.Calls.{Called, by_name, by_slot, by_pointer, built_in, called_with, called_words, Calling, call_frames, call_words}
use Rattle.lowered_frames.specs.Calls.{words, bare, bare_built_in, object, found, pointer_on_top, pointer_and_result, pointer_below}
use Rattle.lowered_frames.proofs.Lists.{first_in, others_in, behind_in, joined_in, firsts_in, turned_in, way_in, way_words_in, result_in}

module _ (r : Replacing) where
  called_in : (number : ℕ → ℕ) (c : Called) (ts : List Term) → in_callee r (called_with number c ts) ≡ called_with number c (in_terms r ts)
  called_in number (by_name func) ts = refl
  called_in number (by_slot class slot) ts = ap (λ (z : Term). virtual class slot z) (first_in r ts)
  called_in number (by_pointer sig) ts = ap (λ (z : Term). pointer z sig) (first_in r ts)
  called_in number (built_in which) ts = refl

  called_words_in : (c : Called) (ts : List Term) → in_terms r (called_words c ts) ≡ called_words c (in_terms r ts)
  called_words_in (by_name func) ts = refl
  called_words_in (by_slot class slot) ts = ap (λ (z : Term). slot_function class slot z ∷ []) (first_in r ts)
  called_words_in (by_pointer sig) ts = ap (λ (z : Term). z ∷ []) (first_in r ts)
  called_words_in (built_in which) ts = refl

  -- the address of a class result behind an object
  results_in : (way : Way) (ts : List Term) → in_terms r (result_with way (others ts)) ≡ result_with way (others (in_terms r ts))
  results_in way ts = result_in r way (others ts) ∙ ap (λ (z : List Term). result_with way z) (others_in r ts)

module _ (g : Setting) (number : ℕ → ℕ) (r : Replacing) where
  pub call_frames_in : {m n : Mode} {items rest : List Item} (h : Calling g m items n rest) (ts : List Term)
      → in_frames r (call_frames g number h ts) ≡ call_frames g number h (in_terms r ts)
  call_frames_in (words c n ids id way) ts = ap₂ (λ (y : Callee) (z : List Term). Words y z (trees_in g ids) ∷ [])
      (called_in r number c (behind n ts) ∙ ap (λ (z : List Term). called_with number c z) (behind_in r n ts)) (turned_in r n ts)
  call_frames_in (bare id way at) ts = ap (λ z. Run z (tree_in g id) ∷ []) (way_in r way ts)
  call_frames_in (bare_built_in id way) ts = refl
  call_frames_in (object id way ids at func class slot offset is) ts = ap (λ (z : List Term). Object z class slot offset (trees_in g ids) ∷ []) (result_in r way ts)
  call_frames_in (found id way ids at func class slot offset is) ts = ap (λ (z : List Term). Slot z class slot (trees_in g ids) ∷ [])
      (joined_in r (result_with way (others ts)) (first_word ts ∷ [])
      ∙ ap₂ (λ (y : List Term) (z : Term). y ++ z ∷ []) (results_in r way ts) (first_in r ts))
  call_frames_in (pointer_on_top sig ids id way at) ts = refl
  call_frames_in (pointer_and_result sig ids id place at) ts = ap (λ (z : Term). Pointer (z ∷ []) sig (trees_in g ids) ∷ []) (first_in r ts)
  call_frames_in (pointer_below sig ids id at) ts = ap (λ (z : Term). Pointer (z ∷ []) sig (trees_in g ids) ∷ []) (first_in r ts)

module _ (g : Setting) (r : Replacing) where
  pub call_words_in : {m n : Mode} {items rest : List Item} (h : Calling g m items n rest) (ts : List Term)
      → in_terms r (call_words g h ts) ≡ call_words g h (in_terms r ts)
  call_words_in (words c n ids id way) ts = joined_in r (firsts n ts) (called_words c (behind n ts))
      ∙ ap₂ (λ (y z : List Term). y ++ z) (firsts_in r n ts)
      (called_words_in r c (behind n ts) ∙ ap (λ (z : List Term). called_words c z) (behind_in r n ts))
  call_words_in (bare id way at) ts = way_words_in r way ts
  call_words_in (bare_built_in id way) ts = refl
  call_words_in (object id way ids at func class slot offset is) ts = result_in r way ts
  call_words_in (found id way ids at func class slot offset is) ts = ap₂ (λ (y : Term) (z : List Term). y ∷ z) (first_in r ts) (results_in r way ts)
  call_words_in (pointer_on_top sig ids id way at) ts = refl
  call_words_in (pointer_and_result sig ids id place at) ts = ap (λ (z : Term). z ∷ []) (first_in r ts)
  call_words_in (pointer_below sig ids id at) ts = ap (λ (z : Term). z ∷ []) (first_in r ts)
