-- Steps that look at kids, at what stands at a root, and at objects that wait.
use Rattle.std.proofs.Common.{◌≡◌, List, ◌∷◌, refl, true, false}
use Rattle.cpp_tree.specs.Trees.{Trees, none, more, first, rest}
use Rattle.src_mean.specs.Linked.{Func, Program}
use Rattle.src_frames.specs.Trees.{are_none}
use Rattle.symbolic_source.specs.Terms.{Term, number}
use Rattle.symbolic_source.specs.Frames.{Waiting, value, returns, Callee, Frame, Run, Words, Returning}
use Rattle.symbolic_source.specs.Outcomes.{silent, goes}
use Rattle.symbolic_source.specs.Steps.{Answers, left, next_word, invoked, return_value}

pub word_more : (ws : List Waiting) (callee : Callee) (before : List Term) (ts : Trees) (k : List Frame) → are_none ts ≡ false → next_word ws callee before ts k ≡ goes silent ws (Run value (first ts) ∷ Words callee before (rest ts) ∷ k)
word_more ws callee before none k h = absurd cc
word_more ws callee before (more t us) k h = refl

pub word_none : (ws : List Waiting) (callee : Callee) (before : List Term) (ts : Trees) (k : List Frame) → are_none ts ≡ true → next_word ws callee before ts k ≡ invoked ws callee before k
word_none ws callee before none k h = refl
word_none ws callee before (more t us) k h = absurd cc

module _ (p : Program) (f : Func) (answers : Answers) where
  pub return_more : (ws : List Waiting) (ts : Trees) (k : List Frame) → are_none ts ≡ false → return_value p f answers ws ts k ≡ goes silent ws (Run value (first ts) ∷ Returning ∷ k)
  return_more ws none k h = absurd cc
  return_more ws (more t us) k h = refl

  pub return_none : (ws : List Waiting) (ts : Trees) (k : List Frame) → are_none ts ≡ true → return_value p f answers ws ts k ≡ left ws (returns (number 0)) k
  return_none ws none k h = refl
  return_none ws (more t us) k h = absurd cc
