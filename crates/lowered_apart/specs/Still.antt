-- Where temporaries may wait: what is asked of the nodes of a body.
use Rattle.std.specs.Prelude.{◌≡◌, Bool, true, false, ℕ, ◌≤◌}
use Rattle.cpp_tree.specs.declared.arena.TNodeId.{TNodeId}
use Rattle.cpp_tree.specs.declared.kinds.TKind.{TKind}
use Rattle.cpp_tree.specs.declared.kinds.TKind.TheVariants.{FullExpression, Loop, Switch, Try, Defer}
use Rattle.low_code.specs.Nodes.{kid_in}
use Rattle.unwind_lower.specs.Settings.{Setting, node_in, makes_temporaries}
use Rattle.unwind_lower.specs.Kids.{kids_from}
use Rattle.lowered_states.specs.Runs.{defaults}

-- temporaries of a kid wait behind a node of this kind too
abbrev pub lets_wait : TKind → Bool
lets_wait FullExpression = false
lets_wait kind = true

-- a node of this kind holds a jump or a place while a kid is written, or has a kid that is written where a scope is left
abbrev pub holds : TKind → Bool
holds (Loop test_first) = true
holds Switch = true
holds Try = true
holds Defer = true
holds kind = false

abbrev pub is_switch : TKind → Bool
is_switch Switch = true
is_switch kind = false

-- a node of a body, whose root this is
pub data IsBelow (g : Setting) (root : TNodeId) : TNodeId → Type 0 where
  root_is : IsBelow g root root
  kid : (id : TNodeId) (index : ℕ) → IsBelow g root id → IsBelow g root (kid_in (node_in g id).kids index)

-- what a kid makes its node makes, but for a full-expression; the body makes nothing, nor does a node that holds jumps or places; and a `switch` has one
-- `default` at most
pub record AreStill (g : Setting) (root : TNodeId) : Type 0 where
  pub makes : (id : TNodeId) → IsBelow g root id → lets_wait (node_in g id).kind ≡ true → (index : ℕ)
      → makes_temporaries g (kid_in (node_in g id).kids index) ≡ true → makes_temporaries g id ≡ true
  pub root_makes : makes_temporaries g root ≡ false
  pub none_made : (id : TNodeId) → IsBelow g root id → holds (node_in g id).kind ≡ true → makes_temporaries g id ≡ false
  pub one_default : (id : TNodeId) → IsBelow g root id → is_switch (node_in g id).kind ≡ true → defaults g (kids_from (node_in g id) 1) ≤ 1

-- the nodes of such a body
pub record Nodes : Type 0 where
  pub setting : Setting
  pub root : TNodeId
  pub still : AreStill setting root
