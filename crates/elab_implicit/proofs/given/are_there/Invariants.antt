use Rattle.std.proofs.Common.{◌≡◌, drop, length}
use Rattle.elab_entry.specs.cpp_tree.Arena.{trees_of}
use Rattle.elab_implicit.specs.Written.{are_there}
use Rattle.elab_implicit.proofs.given.are_there.Given as goal

abbrev pub invariant-loop-found : goal.invariant-loop-found
invariant-loop-found l = are_there (length (trees_of l.nodes.items)) (drop l.found-index l.list) ≡ are_there (length (trees_of l.nodes.items)) l.list
