use Rattle.std.proofs.Common.{◌+◌, ◌*◌, drop}
use Rattle.elab_make.specs.cpp_types.Typ.{typ_of}
use Rattle.elab_make.specs.cpp_tree.Arena.{trees_of, trees_at}
use Rattle.elab_make.specs.elab_rules.Braces.{all_relocated}
use Rattle.elab_aggregates.specs.Relocated.{this_at}
use Rattle.elab_make.proofs.elab_init.Listing.{Adding}
use Rattle.elab_aggregates.proofs.relocating.+relocated.Given as goal

abbrev pub decreases-relocated : goal.decreases-relocated
decreases-relocated l = l.id.0 * 2 + 1

abbrev pub decreases-all_relocated : goal.decreases-all_relocated
decreases-all_relocated l = l.parent.0 * 2

abbrev pub invariant-all_relocated-loop-id : goal.invariant-all_relocated-loop-id
invariant-all_relocated-loop-id l = Adding (trees_of l.fn.nodes.items) (trees_of l.nodes.items) l.list.items
    (all_relocated l.by (this_at (trees_of l.fn.nodes.items) (typ_of l.target) l.this) (trees_at (trees_of l.from.items) (drop l.id-index l.ids)))
    (all_relocated l.by (this_at (trees_of l.fn.nodes.items) (typ_of l.target) l.this) (trees_at (trees_of l.from.items) l.ids))
