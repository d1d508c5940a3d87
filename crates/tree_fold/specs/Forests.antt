-- The roots of bodies, and units that are folded one by one to forests.
use Rattle.std.specs.Prelude.{◌≡◌, ◌<◌, ℕ, List, [], ◌∷◌, ◌++◌, slice_get, Option, Some, None}
use Rattle.cpp_tree.specs.declared.arena.TNodeId.{TNodeId}
use Rattle.cpp_tree.specs.declared.program.TFunc.{TFunc}
use Rattle.cpp_tree.specs.declared.program.UnitTree.{UnitTree}
use Rattle.tree_forests.specs.Forests.{HasForest}

abbrev pub body_root : Option TNodeId → List TNodeId
body_root None = []
body_root (Some id) = id ∷ []

-- the roots of the bodies of functions
abbrev pub body_roots : List TFunc → List TNodeId
body_roots [] = []
body_roots (f ∷ fs) = body_root f.body ++ body_roots fs

-- the nodes of the units before an index are forests
pub record ForestsUpTo (i : ℕ) (units : List UnitTree) : Type 0 where
  pub each : (n : ℕ) (u : UnitTree) → n < i → slice_get units n ≡ Some u → HasForest u
