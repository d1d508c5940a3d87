-- Terms in the place of variables, in the frames and operands where exceptions are made, caught, or on their way.
use Rattle.std.proofs.Common.{◌≡◌, ◌*◌, refl, ap, ap₂, ◌∙◌, List, [], ◌∷◌}
use Rattle.cpp_tree.specs.declared.arena.TNodeId.{TNodeId}
use Rattle.cpp_tree.specs.declared.kinds.TKind.{TKind}
use Rattle.cpp_tree.specs.declared.kinds.TKind.TheVariants.{Field}
use Rattle.low_code.specs.declared.scopes.Owner.TheVariants.{Parts as OfParts}
use Rattle.low_code.specs.declared.scopes.ScopeKind.{ScopeKind}
use Rattle.symbolic_source.specs.Terms.{Term, Exception, Puts, untouched, number, local, plus_number}
use Rattle.symbolic_source.specs.Frames.{value, throws, Then, Leaves, Cleans, Fills, Filled, Takes, Handling, Waiting}
use Rattle.symbolic_source.specs.Steps.{first_word}
use Rattle.symbolic_source.specs.Replacing.{Replacing, in_term, in_terms, in_puts, in_frames}
use Rattle.unwind_lower.specs.declared.items.Item.{Item}
use Rattle.unwind_lower.specs.Settings.{Setting, node_in}
use Rattle.unwind_lower.specs.Kids.{kids_from}
use Rattle.lowered_frames.specs.Lists.{others, in_exceptions}
use Rattle.lowered_frames.specs.Modes.{Mode, tree_in, trees_in}
use Rattle.lowered_frames.specs.Chains.{before_mark, words_of_all, part_waitings, element_waitings}
use Rattle.lowered_frames.specs.Throws.{thrown_in, put_as, puts_with, Throwing, throwing_frames, throwing_words, throwing_handled}
use Rattle.lowered_frames.specs.Throws.{throwing, fills, filled, fills_scalar, scalar_filled, try_done, handle, takes, handler_done, flies, flies_cleaning, flies_parts, flies_elements}
use Rattle.lowered_frames.proofs.Lists.{first_in, others_in, firsts_in, first_exception_in}
use Rattle.lowered_frames.proofs.Offsets.{plus_in}
use Rattle.lowered_frames.proofs.Chains.{waitings_in, parts_in, elements_in}

module _ (g : Setting) (r : Replacing) where
  pub put_in : (kind : TKind) (w : Term) (puts : Puts) → in_puts r (put_as kind w puts) ≡ put_as kind (in_term r w) (in_puts r puts)
  put_in (Field offset kind) w puts = refl
  put_in kind w puts = refl

  pub puts_in : (ids : List TNodeId) (ts : List Term) → in_puts r (puts_with g ids ts) ≡ puts_with g ids (in_terms r ts)
  puts_in [] ts = refl
  puts_in (id ∷ ids) ts = put_in (node_in g id).kind (first_word ts) (puts_with g ids (others ts))
      ∙ ap₂ (λ (y : Term) (z : Puts). put_as (node_in g id).kind y z) (first_in r ts)
      (puts_in ids (others ts) ∙ ap (λ (z : List Term). puts_with g ids z) (others_in r ts))

  pub others_puts_in : (ids : List TNodeId) (ts : List Term) → in_puts r (puts_with g ids (others ts)) ≡ puts_with g ids (others (in_terms r ts))
  others_puts_in ids ts = puts_in ids (others ts) ∙ ap (λ (z : List Term). puts_with g ids z) (others_in r ts)

  pub throwing_frames_in : {m n : Mode} {items rest : List Item} (h : Throwing g m items n rest) (chain : List ScopeKind) (es : List Exception) (ts : List Term)
      → in_frames r (throwing_frames g h chain es ts) ≡ throwing_frames g h chain (in_exceptions r es) (in_terms r ts)
  throwing_frames_in (throwing id) chain es ts = refl
  throwing_frames_in (fills id done ids o) chain es ts = ap₂ (λ (y : Term) (z : Puts). Fills (thrown_in g id) y (trees_in g ids) z ∷ [])
      (first_in r ts) (others_puts_in done ts)
  throwing_frames_in (filled id field done ids offset kind o is) chain es ts =
      ap₂ (λ (y : Term) (z : Puts). Filled (thrown_in g id) y offset kind (trees_in g ids) z ∷ []) (first_in r ts) (others_puts_in done ts)
  throwing_frames_in (fills_scalar id o) chain es ts =
      ap (λ (z : Term). Fills (thrown_in g id) z (trees_in g (kids_from (node_in g id) 1)) untouched ∷ []) (first_in r ts)
  throwing_frames_in (scalar_filled id field ids o) chain es ts =
      ap (λ (z : Puts). Fills (thrown_in g id) (in_term r (first_word ts)) (trees_in g ids) z ∷ []) (put_in (node_in g field).kind (first_word ts) untouched)
      ∙ ap (λ (z : Term). Fills (thrown_in g id) z (trees_in g ids) (put_as (node_in g field).kind z untouched) ∷ []) (first_in r ts)
  throwing_frames_in (try_done id scope) chain es ts = refl
  throwing_frames_in (handle id scope live) chain es ts = refl
  throwing_frames_in (takes offset ids body handler scope at) chain es ts =
      ap (λ (z : Exception). Takes z (local offset) (trees_in g ids) ∷ Then value (tree_in g body) ∷ []) (first_exception_in r es)
  throwing_frames_in (handler_done handler scope at) chain es ts = ap (λ (z : Exception). Handling z ∷ []) (first_exception_in r es)
  throwing_frames_in (flies at next) chain es ts = ap (λ (z : Exception). Leaves (throws z) ∷ []) (first_exception_in r es)
  throwing_frames_in (flies_cleaning owner at next) chain es ts = ap₂ (λ (y : List Waiting) (z : Exception). Cleans y ∷ Leaves (throws z) ∷ [])
      (waitings_in g r (before_mark owner chain) ts) (first_exception_in r es)
  throwing_frames_in (flies_parts at next) chain es ts = ap₂ (λ (y : List Waiting) (z : Exception). Cleans y ∷ Leaves (throws z) ∷ [])
      (parts_in g r (before_mark OfParts chain) (first_word ts) ∙ ap (λ (z : Term). part_waitings g (before_mark OfParts chain) z) (first_in r ts))
      (first_exception_in r es)
  throwing_frames_in (flies_elements id stride built at next) chain es ts = ap₂ (λ (y : List Waiting) (z : Exception). Cleans y ∷ Leaves (throws z) ∷ [])
      (elements_in g r id stride (first_word ts) built ∙ ap (λ (z : Term). element_waitings g id stride z built) (first_in r ts))
      (first_exception_in r es)

  pub throwing_words_in : {m n : Mode} {items rest : List Item} (h : Throwing g m items n rest) (chain : List ScopeKind) (ts : List Term)
      → in_terms r (throwing_words g h chain ts) ≡ throwing_words g h chain (in_terms r ts)
  throwing_words_in (throwing id) chain ts = refl
  throwing_words_in (fills id done ids o) chain ts = ap (λ (z : Term). z ∷ []) (first_in r ts)
  throwing_words_in (filled id field done ids offset kind o is) chain ts = ap (λ (z : Term). z ∷ []) (first_in r ts)
  throwing_words_in (fills_scalar id o) chain ts = ap (λ (z : Term). z ∷ []) (first_in r ts)
  throwing_words_in (scalar_filled id field ids o) chain ts = refl
  throwing_words_in (try_done id scope) chain ts = refl
  throwing_words_in (handle id scope live) chain ts = refl
  throwing_words_in (takes offset ids body handler scope at) chain ts = refl
  throwing_words_in (handler_done handler scope at) chain ts = refl
  throwing_words_in (flies at next) chain ts = refl
  throwing_words_in (flies_cleaning owner at next) chain ts = firsts_in r (words_of_all (before_mark owner chain)) ts
  throwing_words_in (flies_parts at next) chain ts = ap (λ (z : Term). z ∷ []) (first_in r ts)
  throwing_words_in (flies_elements id stride built at next) chain ts = ap (λ (z : Term). number built ∷ z ∷ [])
      (plus_in r (first_word ts) (built * stride) ∙ ap (λ (z : Term). plus_number z (built * stride)) (first_in r ts))

  pub throwing_handled_in : {m n : Mode} {items rest : List Item} (h : Throwing g m items n rest) (es : List Exception)
      → in_exceptions r (throwing_handled g h es) ≡ throwing_handled g h (in_exceptions r es)
  throwing_handled_in (handler_done handler scope at) es = ap (λ (z : Exception). z ∷ []) (first_exception_in r es)
  throwing_handled_in h es = refl
