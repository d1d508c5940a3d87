-- Kids of nodes that are to be run.
use Rattle.std.specs.Prelude.{ℕ, List, [], ◌∷◌, drop}
use Rattle.cpp_tree.specs.declared.arena.TNodeId.{TNodeId}
use Rattle.low_code.specs.Nodes.{Node, kid_in}
use Rattle.unwind_lower.specs.declared.items.Way.{Way}
use Rattle.unwind_lower.specs.declared.items.Item.{Item}
use Rattle.unwind_lower.specs.declared.items.Item.TheVariants.{Run}
use Rattle.unwind_lower.specs.States.{State, later}

-- the kid of a node is to be run next
unfoldable pub run_kid : Node → ℕ → Way → State → State
run_kid n index way s = later (Run (kid_in n.kids index) way) s

-- nodes to be run, the first one first, and then other items
unfoldable pub runs : Way → List TNodeId → List Item → List Item
runs way [] items = items
runs way (id ∷ ids) items = Run id way ∷ runs way ids items

-- they are to be run next
unfoldable pub run_all : Way → List TNodeId → State → State
run_all way ids s = record s { work = runs way ids s.work }

-- the kids of a node, from one on
abbrev pub kids_from : Node → ℕ → List TNodeId
kids_from n first = drop first n.kids

unfoldable pub run_kids : Node → ℕ → Way → State → State
run_kids n first way s = run_all way (kids_from n first) s
