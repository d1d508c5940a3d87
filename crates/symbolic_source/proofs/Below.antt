-- What the frames of a function and of its callers have in sight: open blocks and handlers.
use Rattle.std.proofs.Common.{◌≡◌, ◌++◌, refl, ap, List, [], ◌∷◌, Option, Some, None}
use Rattle.cpp_tree.specs.tx_events.Thread.{Open}
use Rattle.src_mean.specs.Linked.{Func, Program}
use Rattle.src_mean.specs.Exceptions as exceptions
use Rattle.src_mean.specs.Frames as frames
use Rattle.symbolic_source.specs.Terms.{Exception, Values, exception_of}
use Rattle.symbolic_source.specs.Frames.{Frame, Within, Closes, Handling, below, handled, blocks_in}

module _ (p : Program) (f : Func) (x : Values) (rest : List frames.Frame) where
  -- the open blocks of a function lie on those of its callers
  pub blocks_below : (k : List Frame) → frames.blocks_of (below p f x k rest) ≡ blocks_in k ++ frames.blocks_of rest
  blocks_below [] = refl
  blocks_below (Within block ∷ k) = ap (λ (z : List Open). block ∷ z) (blocks_below k)
  blocks_below (Closes block ∷ k) = ap (λ (z : List Open). block ∷ z) (blocks_below k)
  blocks_below (g ∷ k) = blocks_below k

  -- the exception of a function's own handler, or that of a caller's
  abbrev pub or_callers : Option Exception → Option exceptions.Exception
  or_callers None = frames.handled rest
  or_callers (Some e) = Some (exception_of p f x e)

  pub handled_below : (k : List Frame) → frames.handled (below p f x k rest) ≡ or_callers (handled k)
  handled_below [] = refl
  handled_below (Handling e ∷ k) = refl
  handled_below (g ∷ k) = handled_below k
