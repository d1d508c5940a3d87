-- What is made of parts in which terms have come in the place of variables.
use Rattle.std.proofs.Common.{ℕ, ◌≡◌, ◌∙◌, List, ◌∷◌, sym, ap, Bor}
use Rattle.cpp_tree.specs.tx_ints.declared.kinds.IntKind.{IntKind}
use Rattle.cpp_tree.specs.tx_ints.declared.kinds.BinOp.{BinOp}
use Rattle.cpp_tree.specs.cpp_types.Typ.{Typ}
use Rattle.cpp_tree.specs.declared.program.Program.{Program}
use Rattle.src_mean.specs.Linked.{Func}
use Rattle.symbolic_source.specs.Terms as words
use Rattle.symbolic_source.specs.Frames as symbolic
use Rattle.symbolic_source.specs.Outcomes as outcomes
use Rattle.symbolic_source.specs.Replacing.{Replacing, in_term, in_waitings, in_frame, in_frames, in_doing, in_outcome}
use Rattle.symbolic_terms.specs.Meanings.{Meaning, word_of}
use Rattle.symbolic_terms.specs.Shown.{frame_of, frames_of, doing_of, leading_of, outcome_of}
use Rattle.symbolic_terms.specs.declared.ids.WordId.{WordId}
use Rattle.symbolic_terms.specs.declared.frames.Frame.{Frame}
use Rattle.symbolic_terms.specs.declared.frames.Frames.{Frames}
use Rattle.symbolic_terms.specs.declared.frames.Frames.TheVariants.{More}
use Rattle.symbolic_terms.specs.declared.outcomes.Doing.{Doing}
use Rattle.symbolic_terms.specs.declared.outcomes.Leading.{Leading}
use Rattle.symbolic_terms.specs.declared.outcomes.Leading.TheVariants.{Does}
use Rattle.symbolic_terms.specs.declared.outcomes.Outcome.{Outcome}
use Rattle.symbolic_terms.specs.declared.outcomes.Outcome.TheVariants.{Chooses, Results, Finds}

module _ (types : ℕ → Typ) (m : Meaning) (p : Program) (f : Func) (r : Replacing) where
  pub frames_replaced : (k : Frames) (g : Frame) (rest : Bor Frames) (h : symbolic.Frame) (j : List symbolic.Frame)
      → k ≡ More g rest → h ≡ in_frame r (frame_of types m p f g) → j ≡ in_frames r (frames_of types m p f rest.now)
      → h ∷ j ≡ in_frames r (frames_of types m p f k)
  frames_replaced k g rest h j e first others =
      ap (λ z. z ∷ j) first
      ∙ ap (λ z. in_frame r (frame_of types m p f g) ∷ z) others
      ∙ ap (λ z. in_frames r (frames_of types m p f z)) (sym e)

  pub does_replaced : (l : Leading) (d : Doing) (e : outcomes.Doing) (ws : List symbolic.Waiting) (k : List symbolic.Frame)
      → l ≡ Does d → e ≡ in_doing r (doing_of types m p f d)
      → outcomes.goes e (in_waitings r ws) (in_frames r k) ≡ in_outcome r (leading_of types m p f l ws k)
  does_replaced l d e ws k is same =
      ap (λ z. outcomes.goes z (in_waitings r ws) (in_frames r k)) same
      ∙ ap (λ z. in_outcome r (leading_of types m p f z ws k)) (sym is)

  pub chooses_replaced : (o : Outcome) (word : WordId) (zero other : Bor Outcome) (w : words.Term) (a b : outcomes.Outcome)
      → o ≡ Chooses word zero other → w ≡ in_term r (word_of m word)
      → a ≡ in_outcome r (outcome_of types m p f zero.now) → b ≡ in_outcome r (outcome_of types m p f other.now)
      → outcomes.chooses w a b ≡ in_outcome r (outcome_of types m p f o)
  chooses_replaced o word zero other w a b e h i j =
      ap (λ z. outcomes.chooses z a b) h
      ∙ ap (λ z. outcomes.chooses (in_term r (word_of m word)) z b) i
      ∙ ap (λ z. outcomes.chooses (in_term r (word_of m word)) (in_outcome r (outcome_of types m p f zero.now)) z) j
      ∙ ap (λ z. in_outcome r (outcome_of types m p f z)) (sym e)

  pub results_replaced : (o : Outcome) (op : BinOp) (kind : IntKind) (left right : WordId) (then : Bor Outcome) (v w : words.Term) (a : outcomes.Outcome)
      → o ≡ Results op kind left right then → v ≡ in_term r (word_of m left) → w ≡ in_term r (word_of m right)
      → a ≡ in_outcome r (outcome_of types m p f then.now)
      → outcomes.results op kind v w a ≡ in_outcome r (outcome_of types m p f o)
  results_replaced o op kind left right then v w a e h i j =
      ap (λ z. outcomes.results op kind z w a) h
      ∙ ap (λ z. outcomes.results op kind (in_term r (word_of m left)) z a) i
      ∙ ap (λ z. outcomes.results op kind (in_term r (word_of m left)) (in_term r (word_of m right)) z) j
      ∙ ap (λ z. in_outcome r (outcome_of types m p f z)) (sym e)

  pub finds_replaced : (o : Outcome) (class slot : ℕ) (address : WordId) (then : Bor Outcome) (w : words.Term) (a : outcomes.Outcome)
      → o ≡ Finds class slot address then → w ≡ in_term r (word_of m address)
      → a ≡ in_outcome r (outcome_of types m p f then.now)
      → outcomes.finds class slot w a ≡ in_outcome r (outcome_of types m p f o)
  finds_replaced o class slot address then w a e h i =
      ap (λ z. outcomes.finds class slot z a) h
      ∙ ap (λ z. outcomes.finds class slot (in_term r (word_of m address)) z) i
      ∙ ap (λ z. in_outcome r (outcome_of types m p f z)) (sym e)
