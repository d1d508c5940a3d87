-- Runs of the writing.
use Rattle.std.specs.Prelude.{◌≡◌, true, false, ℕ, ◌+◌, ◌≤◌, List, [], ◌∷◌, None}
use Rattle.cpp_tree.specs.declared.arena.TNodeId.{TNodeId}
use Rattle.low_code.specs.Writer.{aimed_instr}
use Rattle.unwind_lower.specs.declared.items.Item.{Item}
use Rattle.unwind_lower.specs.declared.items.Item.TheVariants.{Branch, Select, Bind, Other, OtherAgain, StepDone, Handle, BodyDone, TestDone, Past, Pads}
use Rattle.unwind_lower.specs.States.{State, later}
use Rattle.unwind_lower.specs.Settings.{Setting, node_in}
use Rattle.unwind_lower.specs.Kids.{kids_from}
use Rattle.unwind_lower.specs.Conditions.{up_to_end, branches_make}
use Rattle.unwind_lower.specs.Blocks.{is_default}
use Rattle.unwind_lower.specs.Steps.{Reaches, written}
use Rattle.lowered_states.specs.Claims.{one_if, claims_in}
use Rattle.lowered_states.specs.Kept.{instr_at}

-- how many of the nodes are `default`
abbrev pub defaults : Setting → List TNodeId → ℕ
defaults g [] = 0
defaults g (id ∷ ids) = one_if (is_default (node_in g id).kind) + defaults g ids

-- an item is written without two items for one jump: where what follows is written twice, nothing in it is to be led to, and a `switch` has one
-- `default` at most
abbrev pub IsApart : Setting → Item → State → Type 0
IsApart g (Branch id way) s = branches_make g (node_in g id) ≡ true → claims_in (up_to_end s.work) ≡ []
IsApart g (Select id) s = defaults g (kids_from (node_in g id) 1) ≤ 1
IsApart g item s = Unit {0}

-- so is each item that a run comes to
abbrev pub AreApart : Setting → State → Type 0
AreApart g from = (item : Item) (s : State) → Reaches g from (later item s) → IsApart g item s

-- in each state that is reached from where the item is written, the jump at an index leads to this one
abbrev pub Leads : Setting → Item → State → (index target : ℕ) → Type 0
Leads g item s index target = (to : State) → AreApart g (written g item s) → Reaches g (written g item s) to
    → instr_at index to ≡ aimed_instr target (instr_at index s)

-- an item leads to nothing that can be reached, where no instruction can be reached before
abbrev pub Sleeps : Item → Type 0
Sleeps (Bind jump) = jump ≡ None
Sleeps (Other o) = o.test ≡ None
Sleeps (OtherAgain o) = o.test ≡ None
Sleeps (StepDone turn) = turn.first ≡ None
Sleeps (Handle id scope live) = live ≡ false
Sleeps (BodyDone turn) = ⊥
Sleeps (TestDone turn) = ⊥
Sleeps (Past scope) = ⊥
Sleeps (Pads scope) = ⊥
Sleeps item = Unit {0}

-- it writes no instruction where none can be reached before
abbrev pub WritesNone : Item → Type 0
WritesNone (Handle id scope live) = live ≡ false
WritesNone (Pads scope) = ⊥
WritesNone item = Unit {0}
