-- What holds of the states of a run: no jump is held, and no place, where temporaries may wait.
use Rattle.std.specs.Prelude.{◌≡◌, Bool, true, false, not, ◌&&◌, ◌||◌, ℕ, ◌≤◌, List, [], ◌∷◌}
use Rattle.cpp_tree.specs.declared.arena.TNodeId.{TNodeId}
use Rattle.low_code.specs.declared.scopes.Address.{Address}
use Rattle.low_code.specs.declared.scopes.Address.TheVariants.{Node as OfNode}
use Rattle.low_code.specs.declared.scopes.ScopeKind.{ScopeKind}
use Rattle.low_code.specs.declared.scopes.ScopeKind.TheVariants.{Waits}
use Rattle.low_code.specs.declared.scopes.Scope.{Scope}
use Rattle.low_code.specs.Nodes.{kid_in}
use Rattle.unwind_lower.specs.declared.items.Item.{Item}
use Rattle.unwind_lower.specs.declared.items.Item.TheVariants.{Run, Branch, Other, OtherAgain, Bind, BodyDone, StepDone, TestDone, Past, Select, Handle}
use Rattle.unwind_lower.specs.States.{State}
use Rattle.unwind_lower.specs.Settings.{makes_temporaries, node_in}
use Rattle.unwind_lower.specs.Kids.{kids_from}
use Rattle.unwind_lower.specs.Conditions.{is_end}
use Rattle.lowered_states.specs.Runs.{defaults}
use Rattle.lowered_apart.specs.Still.{IsBelow, Nodes}

-- an item holds a jump, or stands for a place
abbrev pub claims : Item → Bool
claims (Bind jump) = true
claims (Other o) = true
claims (OtherAgain o) = true
claims (BodyDone turn) = true
claims (StepDone turn) = true
claims (TestDone turn) = true
claims (Past scope) = true
claims item = false

-- the full-expression ends with one of the items, and none before holds a jump or a place
abbrev pub is_free : List Item → Bool
is_free [] = false
is_free (item ∷ items) = is_end item || not (claims item) && is_free items

-- a node may be run before items of which it is known whether they are free
abbrev pub MayRun : Nodes → Bool → TNodeId → Type 0
MayRun z free id = IsBelow z.setting z.root id × (makes_temporaries z.setting id ≡ true → free ≡ true)

abbrev pub AllRun : Nodes → Bool → List TNodeId → Type 0
AllRun z free ids = (index : ℕ) → MayRun z free (kid_in ids index)

-- the kids of a node
abbrev pub Below : Nodes → Bool → TNodeId → Type 0
Below z free id = AllRun z free (node_in z.setting id).kids

-- an item may stand before such items
abbrev pub MayStand : Nodes → Bool → Item → Type 0
MayStand z free (Run id way) = MayRun z free id
MayStand z free (Branch id way) = Below z free id
MayStand z free (Other o) = MayRun z false o.id
MayStand z free (OtherAgain o) = MayRun z free o.id
MayStand z free (BodyDone turn) = Below z false turn.id
MayStand z free (StepDone turn) = Below z false turn.id
MayStand z free (Select id) = Below z false id × (defaults z.setting (kids_from (node_in z.setting id) 1) ≤ 1)
MayStand z free (Handle id scope live) = MayRun z false id
MayStand z free item = Unit {0}

abbrev pub AllStand : Nodes → List Item → Type 0
AllStand z [] = Unit {0}
AllStand z (item ∷ items) = MayStand z (is_free items) item × AllStand z items

-- where a scope is left no temporaries are made
abbrev pub IsFound : Nodes → Address → Type 0
IsFound z (OfNode id) = MayRun z false id
IsFound z address = Unit {0}

abbrev pub IsLeft : Nodes → ScopeKind → Type 0
IsLeft z (Waits owner always address id first) = IsFound z address
IsLeft z kind = Unit {0}

abbrev pub AreLeft : Nodes → List Scope → Type 0
AreLeft z [] = Unit {0}
AreLeft z (scope ∷ scopes) = IsLeft z scope.kind × AreLeft z scopes

-- the state of a run; nodes that make temporaries may be run next if it is free
pub record Waiting (z : Nodes) (free : Bool) (s : State) : Type 0 where
  pub scopes : AreLeft z s.body.scopes
  pub work : AllStand z s.work
  pub freed : free ≡ true → is_free s.work ≡ true
