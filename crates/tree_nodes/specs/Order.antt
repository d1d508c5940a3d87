-- The order of nodes as a test.
use Rattle.std.specs.Prelude.{ℕ, ◌+◌, Bool, true, ◌&&◌, List, [], ◌∷◌}
use Rattle.cpp_tree.specs.declared.arena.TNode.{TNode}
use Rattle.cpp_tree.specs.Arena.{are_below}

-- the kids of each node stand before it, where the first node stands in a place
abbrev pub ordered_from : ℕ → List TNode → Bool
ordered_from place [] = true
ordered_from place (n ∷ ns) = are_below place n.kids.items && ordered_from (place + 1) ns
