-- Terms in the place of variables, in the frames and operands of objects.
use Rattle.std.proofs.Common.{ℕ, suc, ◌≡◌, ◌+◌, ◌-◌, ◌*◌, refl, ap, ap₂, ◌∙◌, false, List, [], ◌∷◌}
use Rattle.cpp_tree.specs.Trees.{none}
use Rattle.cpp_tree.specs.declared.arena.TNodeId.{TNodeId}
use Rattle.low_code.specs.declared.scopes.Owner.TheVariants.{Parts as OfParts}
use Rattle.low_code.specs.declared.scopes.ScopeKind.{ScopeKind}
use Rattle.low_code.specs.Nodes.{kid_in}
use Rattle.src_mean.specs.Frames.{of_block, of_pieces}
use Rattle.symbolic_source.specs.Terms.{Term, number, plus_number}
use Rattle.symbolic_source.specs.Frames.{at_word, into, Frame, Run, Gives, Scope, Waits, Due, Destroys, Parts, Each, Waiting}
use Rattle.symbolic_source.specs.Steps.{first_word, second_word}
use Rattle.symbolic_source.specs.Replacing.{Replacing, in_term, in_terms, in_frames}
use Rattle.unwind_lower.specs.declared.items.Item.{Item}
use Rattle.unwind_lower.specs.declared.items.Way.{Way}
use Rattle.unwind_lower.specs.declared.items.Way.TheVariants.{Value, Dropped, Into, Copying}
use Rattle.unwind_lower.specs.Settings.{Setting, node_in}
use Rattle.unwind_lower.specs.Kids.{kids_from}
use Rattle.lowered_frames.specs.Modes.{Mode, tree_in, trees_in}
use Rattle.lowered_frames.specs.Chains.{before_mark, part_waitings, element_waitings}
use Rattle.lowered_frames.specs.Objects.{round_words, making_words, kept_for, Making, making_frames, making_words_of}
use Rattle.lowered_frames.specs.Objects.{temporary_made, argument_made, init_plain, plain_made, init_variable, variable_made, init_member, init_doubled}
use Rattle.lowered_frames.specs.Objects.{member_made, parts, part, part_made, each, element, due, destroying}
use Rattle.lowered_frames.proofs.Lists.{first_in, second_in, way_words_in}
use Rattle.lowered_frames.proofs.Offsets.{plus_in}
use Rattle.lowered_frames.proofs.Chains.{parts_in, elements_in}

module _ (r : Replacing) where
  -- the first and second term, with a number
  first_plus_in : (ts : List Term) (n : ℕ) → in_term r (plus_number (first_word ts) n) ≡ plus_number (first_word (in_terms r ts)) n
  first_plus_in ts n = plus_in r (first_word ts) n ∙ ap (λ (z : Term). plus_number z n) (first_in r ts)

  second_plus_in : (ts : List Term) (n : ℕ) → in_term r (plus_number (second_word ts) n) ≡ plus_number (second_word (in_terms r ts)) n
  second_plus_in ts n = plus_in r (second_word ts) n ∙ ap (λ (z : Term). plus_number z n) (second_in r ts)

  round_in : (way : Way) (left offset : ℕ) (ts : List Term) → in_terms r (round_words way left offset ts) ≡ round_words way left offset (in_terms r ts)
  round_in Into left offset ts = ap (λ (z : Term). number left ∷ z ∷ []) (first_plus_in ts offset)
  round_in Copying left offset ts = ap₂ (λ (y z : Term). number left ∷ y ∷ z ∷ []) (second_plus_in ts offset) (first_plus_in ts offset)
  round_in Value left offset ts = refl
  round_in Dropped left offset ts = refl

  making_in : (way : Way) (left offset stride : ℕ) (ts : List Term)
      → in_terms r (making_words way left offset stride ts) ≡ making_words way left offset stride (in_terms r ts)
  making_in Into left offset stride ts = round_in Into left offset ts
  making_in Copying left offset stride ts = round_in Copying (left - 1) (offset + stride) ts
  making_in Value left offset stride ts = refl
  making_in Dropped left offset stride ts = refl

  kept_for_in : (ids : List TNodeId) (t : Term) → in_terms r (kept_for ids t) ≡ kept_for ids (in_term r t)
  kept_for_in [] t = refl
  kept_for_in (id ∷ ids) t = refl

module _ (g : Setting) (r : Replacing) where
  -- the frames of parts, and of elements
  abbrev parts_frames : List TNodeId → List ScopeKind → (target source : Term) → List Frame
  parts_frames ids chain target source = Parts (trees_in g ids) target source ∷ Scope of_pieces false (part_waitings g (before_mark OfParts chain) target) ∷ []

  parts_frames_in : (ids : List TNodeId) (chain : List ScopeKind) (ts : List Term)
      → in_frames r (parts_frames ids chain (first_word ts) (second_word ts)) ≡ parts_frames ids chain (first_word (in_terms r ts)) (second_word (in_terms r ts))
  parts_frames_in ids chain ts =
      ap (λ (z : List Waiting). Parts (trees_in g ids) (in_term r (first_word ts)) (in_term r (second_word ts)) ∷ Scope of_pieces false z ∷ [])
      (parts_in g r (before_mark OfParts chain) (first_word ts))
      ∙ ap₂ (λ (y z : Term). parts_frames ids chain y z) (first_in r ts) (second_in r ts)

  abbrev each_frames : TNodeId → (stride left built next : ℕ) → (target source : Term) → Term → List Frame
  each_frames id stride left built next target source whole =
      Each (tree_in g (kid_in (node_in g id).kids 0)) (trees_in g (kids_from (node_in g id) 1)) stride (number left) target source
      ∷ Scope of_pieces false (element_waitings g id stride whole built) ∷ []

  each_frames_in : (id : TNodeId) (stride left built next : ℕ) (ts : List Term)
      → in_frames r (each_frames id stride left built next (plus_number (first_word ts) (next * stride)) (plus_number (second_word ts) (next * stride)) (first_word ts))
      ≡ each_frames id stride left built next (plus_number (first_word (in_terms r ts)) (next * stride)) (plus_number (second_word (in_terms r ts)) (next * stride))
      (first_word (in_terms r ts))
  each_frames_in id stride left built next ts =
      ap (λ (z : List Waiting). Each (tree_in g (kid_in (node_in g id).kids 0)) (trees_in g (kids_from (node_in g id) 1)) stride (number left)
      (in_term r (plus_number (first_word ts) (next * stride))) (in_term r (plus_number (second_word ts) (next * stride))) ∷ Scope of_pieces false z ∷ [])
      (elements_in g r id stride (first_word ts) built ∙ ap (λ (z : Term). element_waitings g id stride z built) (first_in r ts))
      ∙ ap₂ (λ (y z : Term). each_frames id stride left built next y z (first_word (in_terms r ts))) (first_plus_in r ts (next * stride)) (second_plus_in r ts (next * stride))

module _ (g : Setting) (number_of : ℕ → ℕ) (r : Replacing) where
  pub making_frames_in : {m n : Mode} {items rest : List Item} (h : Making g m items n rest) (chain : List ScopeKind) (ts : List Term)
      → in_frames r (making_frames g number_of h chain ts) ≡ making_frames g number_of h chain (in_terms r ts)
  making_frames_in (temporary_made id place at is) chain ts = refl
  making_frames_in (argument_made id place at is) chain ts = refl
  making_frames_in (init_plain id e) chain ts = refl
  making_frames_in plain_made chain ts = ap (λ (z : Term). Waits of_block (at_word z) none ∷ []) (first_in r ts)
  making_frames_in (init_variable id place is) chain ts = refl
  making_frames_in (variable_made id place is) chain ts = refl
  making_frames_in (init_member id at) chain ts = refl
  making_frames_in (init_doubled id) chain ts = refl
  making_frames_in (member_made id) chain ts = ap (λ (z : Term). Waits of_block (at_word z) (trees_in g (kids_from (node_in g id) 2)) ∷ []) (first_in r ts)
  making_frames_in (parts way ids at b) chain ts = parts_frames_in g r ids chain ts
  making_frames_in (part id way ids at b) chain ts = ap₂ (λ (y : Frame) (z : List Frame). y ∷ z)
      (ap₂ (λ (y z : Term). Run (into y z) (tree_in g id)) (first_in r ts) (second_in r ts)) (parts_frames_in g r ids chain ts)
  making_frames_in (part_made id offset way ids at b is) chain ts = ap₂ (λ (y : Frame) (z : List Frame). y ∷ z)
      (ap (λ (z : Term). Waits of_pieces (at_word z) (trees_in g (kids_from (node_in g id) 1))) (first_plus_in r ts offset)) (parts_frames_in g r ids chain ts)
  making_frames_in (each id count stride built way first scope b is e) chain ts = each_frames_in g r id stride (count - built) built built ts
  making_frames_in (element id count stride built way first scope b is e) chain ts = ap₂ (λ (y : Frame) (z : List Frame). y ∷ z)
      (ap (λ (z : Term). Waits of_pieces (at_word z) (trees_in g (kids_from (node_in g id) 1))) (first_plus_in r ts (built * stride)))
      (each_frames_in g r id stride (count - suc built) built (suc built) ts)
  making_frames_in (due id first) chain ts = refl
  making_frames_in (destroying id first row func offset count stride left ids rows is) chain ts =
      ap₂ (λ (y z : Term). Destroys (number_of func) y stride (number left) ∷ Gives z ∷ Due (trees_in g ids) ∷ []) (first_plus_in r ts offset) (first_in r ts)

module _ (g : Setting) (r : Replacing) where
  pub making_words_in : {m n : Mode} {items rest : List Item} (h : Making g m items n rest) (ts : List Term)
      → in_terms r (making_words_of g h ts) ≡ making_words_of g h (in_terms r ts)
  making_words_in (temporary_made id place at is) ts = refl
  making_words_in (argument_made id place at is) ts = refl
  making_words_in (init_plain id e) ts = refl
  making_words_in plain_made ts = refl
  making_words_in (init_variable id place is) ts = refl
  making_words_in (variable_made id place is) ts = refl
  making_words_in (init_member id at) ts = refl
  making_words_in (init_doubled id) ts = refl
  making_words_in (member_made id) ts = ap (λ (z : Term). z ∷ []) (first_in r ts)
  making_words_in (parts way ids at b) ts = way_words_in r way ts
  making_words_in (part id way ids at b) ts = way_words_in r way ts
  making_words_in (part_made id offset way ids at b is) ts = way_words_in r way ts
  making_words_in (each id count stride built way first scope b is e) ts = round_in r way (count - built) (built * stride) ts
  making_words_in (element id count stride built way first scope b is e) ts = making_in r way (count - built) (built * stride) stride ts
  making_words_in (due id first) ts = refl
  making_words_in (destroying id first row func offset count stride left ids rows is) ts =
      ap₂ (λ (y : Term) (z : List Term). number left ∷ y ∷ z) (first_plus_in r ts offset)
      (kept_for_in r ids (first_word ts) ∙ ap (λ (z : Term). kept_for ids z) (first_in r ts))
