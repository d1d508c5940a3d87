-- Items for which nothing is written: the machine puts down others, which stand for what the source has left to do behind a silent step or none.
use Rattle.std.specs.Prelude.{◌≡◌, List}
use Rattle.cpp_tree.specs.Trees.{node}
use Rattle.cpp_tree.specs.cpp_types.Typ.{Typ}
use Rattle.cpp_tree.specs.cpp_types.declared.classes.At.{At}
use Rattle.cpp_tree.specs.cpp_types.declared.ranks.Cat.{Cat}
use Rattle.cpp_tree.specs.declared.arena.TNodeId.{TNodeId}
use Rattle.cpp_tree.specs.declared.kinds.TKind.{TKind}
use Rattle.low_code.specs.declared.scopes.ScopeKind.{ScopeKind}
use Rattle.src_mean.specs.Linked.{Program}
use Rattle.symbolic_source.specs.Outcomes.{Outcome}
use Rattle.body_check.specs.Notes.{Bounds}
use Rattle.body_check.specs.Calls.{Book}
use Rattle.body_check.specs.Linked.{Held}
use Rattle.unwind_lower.specs.declared.items.Item.{Item}
use Rattle.unwind_lower.specs.Settings.{Setting, node_in}
use Rattle.unwind_lower.specs.States.{State}
use Rattle.unwind_lower.specs.Steps.{written}
use Rattle.lowered_frames.specs.Modes.{Mode, tree_in, trees_in}
use Rattle.lowered_frames.specs.Left.{Left}
use Rattle.lowered_steps.specs.Ahead.{AlwaysRereads}

-- a node of a kind, with its kids and its tree
pub record IsNode (g : Setting) (id : TNodeId) (kind : TKind) (kids : List TNodeId) : Type 0 where
  pub kind_is : (node_in g id).kind ≡ kind
  pub kids_are : (node_in g id).kids ≡ kids
  pub typ : Typ
  pub cat : Cat
  pub place : At
  pub tree_is : tree_in g id ≡ node kind typ cat place (trees_in g kids)

module _ (p : Program) (b : Bounds) (book : Book) (h : Held) (g : Setting) where
  -- no code is written for the item, and what is left then is what was left before
  pub record Passes (stepped : Outcome → Outcome) {m : Mode} {items : List Item} (d : Left g m items) (chain : List ScopeKind) (item : Item) (s : State) : Type 0 where
    pub mode : Mode
    pub work : List Item
    pub next : Left g mode work
    pub outer : List ScopeKind
    pub work_is : (written g item s).work ≡ work
    pub body_is : (written g item s).body ≡ s.body
    pub reads : AlwaysRereads p b book h g d chain next outer stepped
