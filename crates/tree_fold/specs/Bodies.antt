-- Functions and units on the way to their folded bodies.
use Rattle.std.specs.Prelude.{◌≡◌, ◌≤◌, ◌++◌, ℕ, Bool, true, nat_lt, List, length, slice_get, slice_set, take, drop, map, Option, Some, None, option_map}
use Rattle.std.specs.List.{list_all}
use Rattle.cpp_tree.specs.declared.arena.TNode.{TNode}
use Rattle.cpp_tree.specs.declared.arena.TNodeId.{TNodeId}
use Rattle.cpp_tree.specs.declared.program.TFunc.{TFunc}
use Rattle.cpp_tree.specs.declared.program.UnitTree.{UnitTree}
use Rattle.cpp_tree.specs.Trees.{Tree}
use Rattle.cpp_tree.specs.Arena.{IsOrdered, tree_at, Grows}
use Rattle.cpp_tree.specs.Units.{Unit as TypedUnit, func_of, unit_of}
use Rattle.tx_unsafe.specs.Roots.{HasRoot}
use Rattle.tree_forests.specs.Forests.{HasForest}
use Rattle.tree_fold.specs.Programs.{folded_func, folded_unit}

-- a body stands in a list of so many
abbrev pub is_body_within : ℕ → Option TNodeId → Bool
is_body_within n None = true
is_body_within n (Some id) = nat_lt id.0 n

-- the body, if there is one, was added
pub record AddsBody (old new : List Tree) (body : Option TNodeId) (tree : Option Tree) : Type 0 where
  pub grows : Grows old new
  pub within : is_body_within (length new) body ≡ true
  pub is : option_map (tree_at new) body ≡ tree

abbrev pub are_bodies_within : ℕ → List TFunc → Bool
are_bodies_within n funcs = list_all (λ (f : TFunc). is_body_within n f.body) funcs

-- the bodies of functions from an index on stand in a list of nodes
pub record HaveRootsFrom (i : ℕ) (nodes : List TNode) (funcs : List TFunc) : Type 0 where
  pub each : (n : ℕ) (f : TFunc) → i ≤ n → slice_get funcs n ≡ Some f → HasRoot nodes f

-- the functions before an index have the folded bodies, those from there on the old ones
pub record FoldedUpTo (volatile : ℕ → Bool) (from now : List Tree) (i : ℕ) (start funcs : List TFunc) : Type 0 where
  pub within : are_bodies_within (length now) (take i funcs) ≡ true
  pub are : map (func_of now) (take i funcs) ++ map (folded_func volatile) (map (func_of from) (drop i funcs))
      ≡ map (folded_func volatile) (map (func_of from) start)

-- the units from an index on can be read
pub record ReadableFrom (i : ℕ) (units : List UnitTree) : Type 0 where
  pub ordered : (n : ℕ) (u : UnitTree) → i ≤ n → slice_get units n ≡ Some u → IsOrdered u.nodes.items
  pub roots : (n : ℕ) (u : UnitTree) → i ≤ n → slice_get units n ≡ Some u → HaveRootsFrom 0 u.nodes.items u.funcs.items

-- one unit is folded
pub record UnitFolded (volatile : ℕ → Bool) (i : ℕ) (old new : List UnitTree) (u : UnitTree) : Type 0 where
  pub unit : UnitTree
  pub are : new ≡ slice_set old i unit
  pub is : unit_of unit ≡ folded_unit volatile (unit_of u)
  pub own : HasForest unit

-- the units before an index are folded, those from there on are still to be
abbrev pub units_folded : (volatile : ℕ → Bool) → ℕ → List UnitTree → List TypedUnit
units_folded volatile i units = map unit_of (take i units) ++ map (folded_unit volatile) (map unit_of (drop i units))
