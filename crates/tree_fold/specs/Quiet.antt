-- Steps of a run without an event.
use Rattle.std.specs.Prelude.{◌≡◌, ℕ, zero, suc, List, ◌∷◌}
use Rattle.cpp_tree.specs.tx_events.declared.Event.TheVariants.{Silent}
use Rattle.cpp_tree.specs.Trees.{Tree}
use Rattle.src_mean.specs.Linked.{Program}
use Rattle.src_mean.specs.Frames.{Here, Way, value, Frame, Run, State, at}
use Rattle.src_mean.specs.Source.{give}

-- so many states are silent, one behind the other, and then a state stands
abbrev pub Quiet : Program → ℕ → State → State → Type 0
Quiet p zero s t = s ≡ t
Quiet p (suc n) s t = (s.event ≡ Silent) × Quiet p n (give p s.here 0 s.frames) t

-- the tree, run for its value, comes to this word without an event
pub record ComesTo (p : Program) (h : Here) (tree : Tree) (w : ℕ) (k : List Frame) : Type 0 where
  -- how many steps there are but one
  pub others : ℕ
  pub quiet : Quiet p (suc others) (at Silent h (Run value tree ∷ k)) (give p h w k)

-- the tree, run in this way, goes on without an event as another one that is run in this way
pub record GoesTo (p : Program) (h : Here) (way : Way) (tree other : Tree) (k : List Frame) : Type 0 where
  pub others : ℕ
  pub quiet : Quiet p (suc others) (at Silent h (Run way tree ∷ k)) (at Silent h (Run way other ∷ k))
