-- Lists of nodes whose kids have lower ids.
use Rattle.std.specs.Prelude.{◌≡◌, ℕ, ◌≤◌, nat_lt, Bool, true, List, length, Some, slice_get}
use Rattle.std.specs.List.{list_all}
use Rattle.cpp_ast.specs.declared.arena.NodeId.{NodeId}
use Rattle.cpp_ast.specs.declared.arena.Node.{Node}

-- each id is below an index
abbrev pub are_below : ℕ → List NodeId → Bool
are_below index ids = list_all (λ (id : NodeId). nat_lt id.0 index) ids

-- the kids of each node stand before it, and each id fits a u32
pub record IsOrdered (nodes : List Node) : Type 0 where
  pub few : length nodes ≤ 4294967295
  pub lower : (id : ℕ) (node : Node) → slice_get nodes id ≡ Some node → are_below id node.kids.items ≡ true
