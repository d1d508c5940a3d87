use Rattle.std.proofs.Common.{◌≡◌, ◌++◌, [], length, map, true}
use Rattle.std.specs.Vec.Iter.{into_iter_items, into_iter_len}
use Rattle.elab_entry.specs.cpp_tree.Arena.{trees_of}
use Rattle.elab_entry.specs.elab_scopes.States.{body_of}
use Rattle.elab_units.specs.Joined.{placed_in, are_placed, roots_of}
use Rattle.tree_forests.specs.Copies.{OwnForest}
use Rattle.elab_units.proofs.joining.joined_bodies.Given as goal

abbrev pub invariant-loop-body : goal.invariant-loop-body
invariant-loop-body l = record {
  placed : are_placed (length (trees_of l.nodes.items)) l.placed.items ≡ true;
  shown : map (placed_in (trees_of l.nodes.items)) l.placed.items ++ map body_of (into_iter_items l.body-iterator)
      ≡ map body_of (into_iter_items l.initial.body-iterator);
  forest : OwnForest [] l.nodes.items (roots_of l.placed.items);
  count : into_iter_len l.body-iterator ≡ length (into_iter_items l.body-iterator);
}
