-- An exception at handlers.
use Rattle.std.proofs.Common.{◌≡◌, List, ◌∷◌, refl, true, false}
use Rattle.cpp_tree.specs.Trees.{Trees, none, more, first, rest}
use Rattle.src_frames.specs.Trees.{are_none}
use Rattle.symbolic_source.specs.Terms.{Exception}
use Rattle.symbolic_source.specs.Frames.{Waiting, Frame, throws, Tries, Trying}
use Rattle.symbolic_source.specs.Outcomes.{silent, goes}
use Rattle.symbolic_source.specs.Steps.{left}

pub tries_more : (ws : List Waiting) (e : Exception) (ts : Trees) (k : List Frame) → are_none ts ≡ false → left ws (throws e) (Tries ts ∷ k) ≡ goes silent ws (Trying e (first ts) (rest ts) ∷ k)
tries_more ws e none k h = absurd cc
tries_more ws e (more t us) k h = refl

pub tries_none : (ws : List Waiting) (e : Exception) (ts : Trees) (k : List Frame) → are_none ts ≡ true → left ws (throws e) (Tries ts ∷ k) ≡ left ws (throws e) k
tries_none ws e none k h = refl
tries_none ws e (more t us) k h = absurd cc
