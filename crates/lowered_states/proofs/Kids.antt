-- Kids that are to be run.
use Rattle.std.proofs.Common.{List, [], ℕ, ◌∷◌}
use Rattle.cpp_tree.specs.declared.arena.TNodeId.{TNodeId}
use Rattle.low_code.specs.Nodes.{Node, kid_in}
use Rattle.unwind_lower.specs.Kids as kids
use Rattle.unwind_lower.specs.Kids.{kids_from, runs}
use Rattle.unwind_lower.specs.States as states
use Rattle.unwind_lower.specs.States.{State}
use Rattle.unwind_lower.specs.declared.items.Item.TheVariants.{Run}
use Rattle.unwind_lower.specs.declared.items.Way.{Way}
use Rattle.lowered_states.specs.Claims.{Claim}
use Rattle.lowered_states.proofs.Basic.{more}
use Rattle.lowered_states.proofs.Moves.{Moves, Start}

module _ {z : Start} where
  pub run_kid : (n : Node) (index : ℕ) (way : Way) {cs : List Claim} {s : State} → Moves z cs s → Moves z cs (kids.run_kid n index way s)
  unfolding kids.run_kid
  run_kid n index way m = more (Run (kid_in n.kids index) way) tt m

  pub run_all : (way : Way) (ids : List TNodeId) {cs : List Claim} {s : State} → Moves z cs s → Moves z cs (kids.run_all way ids s)
  unfolding kids.run_all kids.runs states.later
  run_all way [] m = m
  run_all way (id ∷ ids) m = more (Run id way) tt (run_all way ids m)

  pub run_kids : (n : Node) (first : ℕ) (way : Way) {cs : List Claim} {s : State} → Moves z cs s → Moves z cs (kids.run_kids n first way s)
  unfolding kids.run_kids
  run_kids n first way m = run_all way (kids_from n first) m
