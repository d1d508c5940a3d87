-- Kids that are to be run.
use Rattle.std.proofs.Common.{◌≡◌, Bool, true, List, [], ℕ, ◌∷◌, suc}
use Rattle.cpp_tree.specs.declared.arena.TNodeId.{TNodeId}
use Rattle.low_code.specs.Nodes.{Node, kid_in}
use Rattle.unwind_lower.specs.Kids as kids
use Rattle.unwind_lower.specs.Kids.{kids_from, runs}
use Rattle.unwind_lower.specs.Settings.{node_in}
use Rattle.unwind_lower.specs.States as states
use Rattle.unwind_lower.specs.States.{State}
use Rattle.unwind_lower.specs.declared.items.Way.{Way}
use Rattle.lowered_apart.specs.Still.{kid, Nodes, lets_wait}
use Rattle.lowered_apart.specs.Waiting.{MayRun, AllRun, Below, Waiting}
use Rattle.lowered_apart.proofs.Lists.{drops}
use Rattle.lowered_apart.proofs.Basic.{run_next}

-- the kids of a node may be run where it may, but for a full-expression
pub below : (z : Nodes) (id : TNodeId) {free : Bool} → lets_wait (node_in z.setting id).kind ≡ true → MayRun z free id → Below z free id
below z id e k index = (kid id index k.0, λ h. k.1 (z.still.makes id k.0 e index h))

module _ {z : Nodes} where
  pub run_kid : (n : Node) (index : ℕ) (way : Way) {free : Bool} {s : State} → AllRun z free n.kids → Waiting z free s
      → Waiting z free (kids.run_kid n index way s)
  unfolding kids.run_kid
  run_kid n index way k m = run_next (kid_in n.kids index) way (k index) m

  pub run_all : (way : Way) (ids : List TNodeId) {free : Bool} {s : State} → AllRun z free ids → Waiting z free s → Waiting z free (kids.run_all way ids s)
  unfolding kids.run_all kids.runs states.later
  run_all way [] k m = m
  run_all way (id ∷ ids) k m = run_next id way (k 0) (run_all way ids (λ index. k (suc index)) m)

  pub run_kids : (n : Node) (first : ℕ) (way : Way) {free : Bool} {s : State} → AllRun z free n.kids → Waiting z free s
      → Waiting z free (kids.run_kids n first way s)
  unfolding kids.run_kids
  run_kids n first way k m = run_all way (kids_from n first) (drops z first n.kids k) m
