use Rattle.std.proofs.Common.{◌≡◌, ◌++◌, [], List, length, map, None}
use Rattle.std.specs.Vec.Iter.{into_iter_items, into_iter_len}
use Rattle.elab_entry.specs.cpp_types.Class.{classes_of}
use Rattle.elab_entry.specs.cpp_tree.Trees.{Tree}
use Rattle.elab_entry.specs.cpp_tree.Units.{func_of as shown_of}
use Rattle.elab_entry.specs.elab_ctx.Ctx.{func_of}
use Rattle.elab_entry.specs.elab_rules.Programs.{typed_func}
use Rattle.tree_forests.specs.Forests.{GetBodies}
use Rattle.elab_units.proofs.shown.typed_funcs.Given as goal

abbrev pub invariant-loop-found : goal.invariant-loop-found
invariant-loop-found l = record {
  shown : (trees : List Tree) → map (shown_of trees) l.list.items
      ++ map (λ f. typed_func (classes_of l.classes) (func_of f) None) (into_iter_items l.found-iterator)
      ≡ map (λ f. typed_func (classes_of l.classes) (func_of f) None) (into_iter_items l.initial.found-iterator);
  bare : GetBodies [] l.list.items [];
  count : into_iter_len l.found-iterator ≡ length (into_iter_items l.found-iterator);
}
