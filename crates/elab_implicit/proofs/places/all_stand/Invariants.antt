use Rattle.std.proofs.Common.{◌≡◌, drop, length}
use Rattle.elab_entry.specs.cpp_tree.Arena.{trees_of}
use Rattle.elab_entry.specs.elab_ctx.Says.{are_within}
use Rattle.elab_implicit.proofs.places.all_stand.Given as goal

abbrev pub invariant-loop-id : goal.invariant-loop-id
invariant-loop-id l = are_within (length (trees_of l.nodes.items)) (drop l.id-index l.ids) ≡ are_within (length (trees_of l.nodes.items)) l.ids
