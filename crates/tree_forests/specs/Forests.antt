-- Programs whose lists of nodes are forests, with the bodies of functions as roots.
use Rattle.std.specs.Prelude.{◌≡◌, ◌<◌, ◌≤◌, ◌+◌, ℕ, List, Some, length, slice_get}
use Rattle.cpp_tree.specs.declared.arena.TNodeId.{TNodeId}
use Rattle.cpp_tree.specs.declared.program.TFunc.{TFunc}
use Rattle.cpp_tree.specs.declared.program.UnitTree.{UnitTree}
use Rattle.cpp_tree.specs.Trees.{Tree}
use Rattle.cpp_tree.specs.Arena.{IsOrdered, IsForest, times_in}
use Rattle.cpp_tree.specs.Units.{Func, Unit, TypedProgram}
use Rattle.cpp_tree.specs.Rows.{Setting}
use Rattle.cpp_tree.specs.WellFormed.{WellFormedBody, times_a_body}

-- kids stand before their nodes, and each node is a kid at most once and the body of at most one function; bodies stand among the nodes
pub record HasForest (u : UnitTree) : Type 0 where
  pub ordered : IsOrdered u.nodes.items
  pub forest : IsForest u.nodes.items
  pub roots : (id : ℕ) → times_a_body id u.funcs.items ≤ 1
  pub within : (i : ℕ) (f : TFunc) (root : TNodeId) → slice_get u.funcs.items i ≡ Some f → f.body ≡ Some root → root.0 < length u.nodes.items

pub record HaveForests (units : List UnitTree) : Type 0 where
  pub each : (i : ℕ) (u : UnitTree) → slice_get units i ≡ Some u → HasForest u

-- functions got bodies: each of these at most once
pub record GetBodies (old new : List TFunc) (roots : List TNodeId) : Type 0 where
  pub few : (id : ℕ) → times_a_body id new ≤ times_a_body id old + times_in id roots

-- What such a program shows

abbrev pub shown_setting : TypedProgram → Unit → Func → Setting
shown_setting p u f = record { classes = p.classes; slots = p.slots; funcs = u.funcs; globals = u.globals; function = f }

pub record HasWellFormedBodies (p : TypedProgram) : Type 0 where
  pub each : (i k : ℕ) (u : Unit) (f : Func) (tree : Tree) → slice_get p.units i ≡ Some u → slice_get u.funcs k ≡ Some f → f.body ≡ Some tree
      → WellFormedBody (shown_setting p u f) tree
