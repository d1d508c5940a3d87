-- The bodies of a unit in one list of nodes.
use Rattle.std.specs.Prelude.{ℕ, nat_lt, Bool, List, map}
use Rattle.std.specs.List.{list_all}
use Rattle.elab_entry.specs.cpp_types.Typ.{typ_of}
use Rattle.elab_entry.specs.cpp_tree.declared.arena.TNodeId.{TNodeId}
use Rattle.elab_entry.specs.cpp_tree.Trees.{Tree}
use Rattle.elab_entry.specs.cpp_tree.Arena.{tree_at, trees_of}
use Rattle.elab_entry.specs.elab_rules.Statements.{Body}
use Rattle.elab_units.specs.declared.joining.Placed.{Placed}
use Rattle.elab_units.specs.declared.joining.Joined.{Joined}

-- a body, whose tree is one of these
abbrev pub placed_in : List Tree → Placed → Body
placed_in trees p = record { func = p.func; tree = tree_at trees p.tree; frame = map typ_of p.frame.items }

-- each body stands among so many nodes
abbrev pub are_placed : ℕ → List Placed → Bool
are_placed count bodies = list_all (λ (p : Placed). nat_lt p.tree.0 count) bodies

-- the bodies that stand in the list
abbrev pub bodies_in : Joined → List Body
bodies_in j = map (placed_in (trees_of j.nodes.items)) j.bodies.items

-- the places of their trees
abbrev pub roots_of : List Placed → List TNodeId
roots_of bodies = map (λ (p : Placed). p.tree) bodies
