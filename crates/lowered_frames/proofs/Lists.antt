-- Terms in the place of variables, in lists.
use Rattle.std.proofs.Common.{ℕ, zero, suc, ◌≡◌, refl, ap, ap₂, ◌∙◌, List, [], ◌∷◌, ◌++◌}
use Rattle.symbolic_source.specs.Terms.{Term, Exception}
use Rattle.symbolic_source.specs.Frames.{Frame, Waiting}
use Rattle.symbolic_source.specs.Frames.{into}
use Rattle.symbolic_source.specs.Steps.{first_word, second_word}
use Rattle.symbolic_source.specs.Replacing.{Replacing, in_term, in_terms, in_exception, in_frame, in_frames, in_waiting, in_waitings, in_way}
use Rattle.unwind_lower.specs.declared.items.Way.{Way}
use Rattle.unwind_lower.specs.declared.items.Way.TheVariants.{Value, Dropped, Into, Copying}
use Rattle.lowered_frames.specs.Lists.{others, behind, firsts, turned, more_by, first_exception, exceptions_behind, in_exceptions}
use Rattle.lowered_frames.specs.Modes.{Mode, top, doubled, tripled, second, gone, nought, topped, way_with, way_words, result_with}

pub behind_more : (n m : ℕ) (ts : List Term) → behind (more_by n m) ts ≡ behind m (behind n ts)
behind_more zero m ts = refl
behind_more (suc n) m ts = behind_more n m (others ts)

module _ (r : Replacing) where
  pub first_in : (ts : List Term) → in_term r (first_word ts) ≡ first_word (in_terms r ts)
  first_in [] = refl
  first_in (t ∷ ts) = refl

  pub second_in : (ts : List Term) → in_term r (second_word ts) ≡ second_word (in_terms r ts)
  second_in [] = refl
  second_in (t ∷ ts) = first_in ts

  pub others_in : (ts : List Term) → in_terms r (others ts) ≡ others (in_terms r ts)
  others_in [] = refl
  others_in (t ∷ ts) = refl

  pub behind_in : (n : ℕ) (ts : List Term) → in_terms r (behind n ts) ≡ behind n (in_terms r ts)
  behind_in zero ts = refl
  behind_in (suc n) ts = behind_in n (others ts) ∙ ap (λ (z : List Term). behind n z) (others_in ts)

  pub joined_in : (us ws : List Term) → in_terms r (us ++ ws) ≡ in_terms r us ++ in_terms r ws
  joined_in [] ws = refl
  joined_in (u ∷ us) ws = ap (λ (z : List Term). in_term r u ∷ z) (joined_in us ws)

  pub firsts_in : (n : ℕ) (ts : List Term) → in_terms r (firsts n ts) ≡ firsts n (in_terms r ts)
  firsts_in zero ts = refl
  firsts_in (suc n) ts = ap₂ (λ (y : Term) (z : List Term). y ∷ z) (first_in ts) (firsts_in n (others ts) ∙ ap (λ (z : List Term). firsts n z) (others_in ts))

  pub turned_in : (n : ℕ) (ts : List Term) → in_terms r (turned n ts) ≡ turned n (in_terms r ts)
  turned_in zero ts = refl
  turned_in (suc n) ts = joined_in (turned n (others ts)) (first_word ts ∷ [])
      ∙ ap₂ (λ (y : List Term) (z : Term). y ++ z ∷ []) (turned_in n (others ts) ∙ ap (λ (z : List Term). turned n z) (others_in ts)) (first_in ts)

  pub frames_joined_in : (j k : List Frame) → in_frames r (j ++ k) ≡ in_frames r j ++ in_frames r k
  frames_joined_in [] k = refl
  frames_joined_in (f ∷ j) k = ap (λ (z : List Frame). in_frame r f ∷ z) (frames_joined_in j k)

  pub waitings_joined_in : (us ws : List Waiting) → in_waitings r (us ++ ws) ≡ in_waitings r us ++ in_waitings r ws
  waitings_joined_in [] ws = refl
  waitings_joined_in (u ∷ us) ws = ap (λ (z : List Waiting). in_waiting r u ∷ z) (waitings_joined_in us ws)

  pub first_exception_in : (es : List Exception) → in_exception r (first_exception es) ≡ first_exception (in_exceptions r es)
  first_exception_in [] = refl
  first_exception_in (e ∷ es) = refl

  pub exceptions_behind_in : (n : ℕ) (es : List Exception) → in_exceptions r (exceptions_behind n es) ≡ exceptions_behind n (in_exceptions r es)
  exceptions_behind_in zero es = refl
  exceptions_behind_in (suc n) [] = exceptions_behind_in n []
  exceptions_behind_in (suc n) (e ∷ es) = exceptions_behind_in n es

  pub exceptions_joined_in : (es fs : List Exception) → in_exceptions r (es ++ fs) ≡ in_exceptions r es ++ in_exceptions r fs
  exceptions_joined_in [] fs = refl
  exceptions_joined_in (e ∷ es) fs = ap (λ (z : List Exception). in_exception r e ∷ z) (exceptions_joined_in es fs)

  -- ways

  pub way_in : (way : Way) (ts : List Term) → in_way r (way_with way ts) ≡ way_with way (in_terms r ts)
  way_in Value ts = refl
  way_in Dropped ts = refl
  way_in Into ts = ap₂ into (first_in ts) (second_in ts)
  way_in Copying ts = ap₂ into (first_in ts) (second_in ts)

  pub way_words_in : (way : Way) (ts : List Term) → in_terms r (way_words way ts) ≡ way_words way (in_terms r ts)
  way_words_in Value ts = refl
  way_words_in Dropped ts = refl
  way_words_in Into ts = ap (λ (z : Term). z ∷ []) (first_in ts)
  way_words_in Copying ts = ap₂ (λ (y z : Term). y ∷ z ∷ []) (second_in ts) (first_in ts)

  pub result_in : (way : Way) (ts : List Term) → in_terms r (result_with way ts) ≡ result_with way (in_terms r ts)
  result_in Value ts = refl
  result_in Dropped ts = refl
  result_in Into ts = ap (λ (z : Term). z ∷ []) (first_in ts)
  result_in Copying ts = refl

  pub topped_in : (m : Mode) (v : Term) (ws : List Term) → in_terms r (topped m v ws) ≡ topped m (in_term r v) (in_terms r ws)
  topped_in top v ws = refl
  topped_in doubled v ws = refl
  topped_in tripled v ws = refl
  topped_in second v ws = ap₂ (λ (y : Term) (z : List Term). y ∷ in_term r v ∷ z) (first_in ws) (others_in ws)
  topped_in gone v ws = refl
  topped_in nought v ws = refl
