use Rattle.std.proofs.Common.{◌≡◌, List, length, map}
use Rattle.std.specs.Vec.Iter.{into_iter_items, into_iter_len}
use Rattle.elab_entry.specs.cpp_tree.Trees.{Tree}
use Rattle.elab_entry.specs.cpp_tree.Units.{func_of as shown_of}
use Rattle.elab_units.specs.Joined.{placed_in, roots_of}
use Rattle.elab_units.specs.Made.{with_bodies}
use Rattle.tree_forests.proofs.Forests.{Getting}
use Rattle.elab_units.proofs.shown.put_bodies.Given as goal

abbrev pub invariant-loop-body : goal.invariant-loop-body
invariant-loop-body l = record {
  given : (trees : List Tree) → with_bodies 0 (map (shown_of trees) l.funcs.items) (map (placed_in trees) (into_iter_items l.body-iterator))
      ≡ with_bodies 0 (map (shown_of trees) l.initial.funcs.items) (map (placed_in trees) (into_iter_items l.initial.body-iterator));
  roots : Getting l.initial.funcs.items l.funcs.items (roots_of (into_iter_items l.body-iterator)) (roots_of (into_iter_items l.initial.body-iterator));
  count : into_iter_len l.body-iterator ≡ length (into_iter_items l.body-iterator);
}
