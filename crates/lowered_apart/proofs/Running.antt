-- Runs.
use Rattle.std.proofs.Common.{refl, false, ℕ, List}
use Rattle.cpp_tree.specs.cpp_types.declared.classes.At.{At}
use Rattle.cpp_tree.specs.declared.arena.TNodeId.{TNodeId}
use Rattle.unwind_lower.specs.declared.items.Item.{Item}
use Rattle.unwind_lower.specs.declared.items.Item.TheVariants.{Branch, Select, BodyEnds, Pads}
use Rattle.unwind_lower.specs.declared.items.Way.TheVariants.{Dropped}
use Rattle.unwind_lower.specs.States.{State, later}
use Rattle.unwind_lower.specs.Settings.{Setting, node_in, makes_temporaries}
use Rattle.unwind_lower.specs.Steps as steps
use Rattle.unwind_lower.specs.Steps.{Reaches, here, behind}
use Rattle.unwind_lower.specs.Functions.{begun, started, WrittenTo}
use Rattle.low_code.specs.Nodes.{kid_in}
use Rattle.lowered_states.specs.Runs.{IsApart, AreApart}
use Rattle.lowered_apart.specs.Still.{root_is, Nodes, AreStill}
use Rattle.lowered_apart.specs.Waiting.{is_free, MayRun, MayStand, Waiting}
use Rattle.lowered_apart.proofs.Lists.{free_claims, no_more, not_both}
use Rattle.lowered_apart.proofs.Basic.{more, run_next}
use Rattle.lowered_apart.proofs.Conditions.{by_either}
use Rattle.lowered_apart.proofs.Functions.{store_words}
use Rattle.lowered_apart.proofs.Steps.{written}

module _ {z : Nodes} where
  -- an item that is taken may stand before what is behind it
  taken : (item : Item) (s : State) → Waiting z false (later item s) → MayStand z (is_free s.work) item
  unfolding later
  taken item s m = m.work.0

  behind_it : (item : Item) (s : State) → Waiting z false (later item s) → Waiting z (is_free s.work) s
  unfolding later
  behind_it item s m = record { scopes = m.scopes; work = m.work.1; freed = λ e. e }

  pub step : (item : Item) (s : State) → Waiting z false (later item s) → Waiting z false (steps.written z.setting item s)
  step item s m = written item (taken item s m) (behind_it item s m)

  pub run_on : (from : State) {to : State} → Waiting z false from → Reaches z.setting from to → Waiting z false to
  run_on from m here = m
  run_on from m (behind item s r) = step item s (run_on from m r)

  pub apart : (item : Item) (s : State) → Waiting z false (later item s) → IsApart z.setting item s
  apart (Branch id way) s m = λ e. free_claims s.work (by_either (makes_temporaries z.setting (kid_in (node_in z.setting id).kids 1))
      (makes_temporaries z.setting (kid_in (node_in z.setting id).kids 2)) (taken (Branch id way) s m 1).1 (taken (Branch id way) s m 2).1 e)
  apart (Select id) s m = (taken (Select id) s m).1
  apart item s m = tt

  pub all_apart : (from : State) → Waiting z false from → AreApart z.setting from
  all_apart from m item s r = apart item s (run_on from m r)

  begun_waits : (names : List (List ℕ)) (at : At) → Waiting z false (begun z.setting names at)
  begun_waits names at = record { scopes = (tt, tt); work = tt; freed = λ e. no_more e }

  pub started_waits : (root : TNodeId) (names : List (List ℕ)) (at : At) → MayRun z false root
      → Waiting z false (started z.setting root at (begun z.setting names at))
  unfolding started
  started_waits root names at k = run_next root Dropped k (more (BodyEnds at) tt refl (store_words z.setting at (begun_waits names at)))

  pub pads_wait : (root : TNodeId) (names : List (List ℕ)) (at : At) (to : State) (w : WrittenTo z.setting root at (begun z.setting names at) to)
      → MayRun z false root → Waiting z false (later (Pads 0) w.body)
  pads_wait root names at to w k = more (Pads 0) tt refl
      (run_on (started z.setting root at (begun z.setting names at)) (started_waits root names at k) w.body_written.reaches)

abbrev nodes : (g : Setting) (root : TNodeId) → AreStill g root → Nodes
nodes g root t = record { setting = g; root = root; still = t }

root_runs : (z : Nodes) → MayRun z false z.root
root_runs z = (root_is, λ e. not_both (makes_temporaries z.setting z.root) z.still.root_makes e)

pub body_apart : (g : Setting) (root : TNodeId) (names : List (List ℕ)) (at : At) → AreStill g root → AreApart g (started g root at (begun g names at))
body_apart g root names at t = all_apart {z = nodes g root t} (started g root at (begun g names at))
    (started_waits {z = nodes g root t} root names at (root_runs (nodes g root t)))

pub ways_out_apart : (g : Setting) (root : TNodeId) (names : List (List ℕ)) (at : At) (to : State) (w : WrittenTo g root at (begun g names at) to)
    → AreStill g root → AreApart g (later (Pads 0) w.body)
ways_out_apart g root names at to w t = all_apart {z = nodes g root t} (later (Pads 0) w.body)
    (pads_wait {z = nodes g root t} root names at to w (root_runs (nodes g root t)))
