-- What is left to write of statements.
use Rattle.std.specs.Prelude.{ℕ, ◌≡◌, ◌<◌, ◌^◌, Bool, true, false, List, [], ◌∷◌, Option}
use Rattle.cpp_tree.specs.Trees.{kind_of}
use Rattle.cpp_tree.specs.tx_events.Thread.{Open}
use Rattle.cpp_tree.specs.cpp_types.declared.classes.At.{At}
use Rattle.cpp_tree.specs.declared.arena.TNodeId.{TNodeId}
use Rattle.cpp_tree.specs.declared.kinds.TKind.TheVariants.{Case}
use Rattle.tx_code.specs.declared.instr.Instr.{Instr}
use Rattle.low_code.specs.declared.scopes.ScopeKind.{ScopeKind}
use Rattle.low_code.specs.declared.writer.Jump.{Jump}
use Rattle.low_code.specs.Nodes.{kid_in}
use Rattle.src_mean.specs.Linked.{WordPlace}
use Rattle.src_mean.specs.Frames.{of_block}
use Rattle.symbolic_source.specs.Terms.{Term, number}
use Rattle.symbolic_source.specs.Frames.{value, Passes, Then, Frame, Scope, Items, Test, Body, Step, Picks, Compares, Switches, Returning, Opens, Within}
use Rattle.symbolic_source.specs.Frames.{Exit, returns, breaks, continues}
use Rattle.symbolic_source.specs.Steps.{first_word}
use Rattle.unwind_lower.specs.declared.items.Leaving.{Leaving}
use Rattle.unwind_lower.specs.declared.items.Leaving.TheVariants.{Return, Break, Continue}
use Rattle.unwind_lower.specs.declared.items.Turn.{Turn}
use Rattle.unwind_lower.specs.declared.items.Way.TheVariants.{Dropped}
use Rattle.unwind_lower.specs.declared.items.Item.{Item}
use Rattle.unwind_lower.specs.declared.items.Item.TheVariants.{Run, Bind, BodyDone, StepDone, TestDone, Select, Past, BlockDone, Leave}
use Rattle.unwind_lower.specs.Blocks.{first_label, other_labels, label_of}
use Rattle.unwind_lower.specs.Settings.{Setting, node_in}
use Rattle.unwind_lower.specs.Kids.{kids_from}
use Rattle.lowered_frames.specs.Lists.{firsts}
use Rattle.lowered_frames.specs.Modes.{After, Mode, top, gone, IsBare, all_run, tree_in, trees_in}
use Rattle.lowered_frames.specs.Chains.{scopes_behind}

-- the items of a `switch`, each with the jump to it
abbrev pub all_bound : List (Option Jump) → List TNodeId → List Item → List Item
all_bound labels [] items = items
all_bound labels (id ∷ ids) items = Bind (first_label labels) ∷ Run id Dropped ∷ all_bound (other_labels labels) ids items

pub data Statement (g : Setting) : Mode → List Item → Mode → List Item → Type 0 where
  -- items of a block, and of a `switch`
  rest_of_block : {m : Mode} {items : List Item} (ids : List TNodeId) → IsBare m → Statement g gone (all_run Dropped ids items) m items
  rest_of_switch : {m : Mode} {items : List Item} (labels : List (Option Jump)) (ids : List TNodeId) → IsBare m
      → Statement g gone (all_bound labels ids items) m items
  past_switch : {items : List Item} (scope : ℕ) → Statement g gone (Past scope ∷ items) gone items
  past_try : {items : List Item} (scope : ℕ) → Statement g gone (Past scope ∷ items) gone items
  -- the value of a `switch` lies on top
  select : {items : List Item} (id : TNodeId) → Statement g top (Select id ∷ items) gone items
  -- it is compared with a label, and then with those of these items
  compares : {items : List Item} (id label : TNodeId) (ids : List TNodeId) (word : ℕ) → (node_in g label).kind ≡ Case word → word < 2 ^ 64
      → Statement g gone (Select id ∷ items) gone items
  -- it is known where the items begin that are run, and the value lies there still, or no more
  picked_by_word : {items : List Item} (id : TNodeId) (ids : List TNodeId) → Statement g gone (Select id ∷ items) gone items
  picked : {items : List Item} (id : TNodeId) (ids : List TNodeId) → Statement g gone (Select id ∷ items) gone items
  -- a block has begun; its body is done
  opens : {items : List Item} (block : Open) (id : TNodeId) (scope : ℕ) (end : Instr) (at : At)
      → Statement g gone (Run id Dropped ∷ BlockDone scope end at ∷ items) gone items
  block_done : {items : List Item} (block : Open) (scope : ℕ) (end : Instr) (at : At) → Statement g gone (BlockDone scope end at ∷ items) gone items
  -- loops
  body_done : {items : List Item} (turn : Turn) → Statement g gone (BodyDone turn ∷ items) gone items
  step_done : {items : List Item} (turn : Turn) → Statement g gone (StepDone turn ∷ items) gone items
  test_done : {items : List Item} (turn : Turn) → Statement g top (TestDone turn ∷ items) gone items
  -- so many words of the call are still to be stored at these places; then the body is run
  passing : {m : Mode} {items : List Item} (id : TNodeId) (n : ℕ) (places : List WordPlace) → After (node_in g id) Dropped m
      → Statement g gone (Run id Dropped ∷ items) m items
  -- the value of a `return` lies on top
  returning : {m : Mode} {items : List Item} (origin : ℕ) (at : At) → Statement g top (Leave Return origin at ∷ items) m items

module _ (g : Setting) where
  abbrev pub statement_frames : {m n : Mode} {from to : List Item} → Statement g m from n to → List Term → List Frame
  statement_frames (rest_of_block ids b) ts = Items (trees_in g ids) ∷ []
  statement_frames (rest_of_switch labels ids b) ts = Items (trees_in g ids) ∷ []
  statement_frames (past_switch scope) ts = Switches ∷ []
  statement_frames (past_try scope) ts = []
  statement_frames (select id) ts = Picks (trees_in g (kids_from (node_in g id) 1)) ∷ []
  statement_frames (compares id label ids word is e) ts =
      Compares (first_word ts) (kind_of (tree_in g label)) (trees_in g ids) (trees_in g (kids_from (node_in g id) 1)) ∷ []
  statement_frames (picked_by_word id ids) ts = Items (trees_in g ids) ∷ Scope of_block true [] ∷ Switches ∷ []
  statement_frames (picked id ids) ts = Items (trees_in g ids) ∷ Scope of_block true [] ∷ Switches ∷ []
  statement_frames (opens block id scope end at) ts = Opens block (tree_in g id) ∷ []
  statement_frames (block_done block scope end at) ts = Within block ∷ []
  statement_frames (body_done turn) ts = Body (tree_in g (kid_in (node_in g turn.id).kids 0)) (tree_in g (kid_in (node_in g turn.id).kids 1))
      (tree_in g (kid_in (node_in g turn.id).kids 2)) ∷ []
  statement_frames (step_done turn) ts = Step (tree_in g (kid_in (node_in g turn.id).kids 0)) (tree_in g (kid_in (node_in g turn.id).kids 1))
      (tree_in g (kid_in (node_in g turn.id).kids 2)) ∷ []
  statement_frames (test_done turn) ts = Test (tree_in g (kid_in (node_in g turn.id).kids 0)) (tree_in g (kid_in (node_in g turn.id).kids 1))
      (tree_in g (kid_in (node_in g turn.id).kids 2)) ∷ []
  statement_frames (passing id n places a) ts = Passes (firsts n ts) places ∷ Then value (tree_in g id) ∷ []
  statement_frames (returning origin at) ts = Returning ∷ []

  abbrev pub statement_words : {m n : Mode} {from to : List Item} → Statement g m from n to → List Term → List Term
  statement_words (compares id label ids word is e) ts = first_word ts ∷ []
  statement_words (picked_by_word id ids) ts = first_word ts ∷ []
  statement_words (passing id n places a) ts = firsts n ts
  statement_words h ts = []

  abbrev pub statement_count : {m n : Mode} {from to : List Item} → Statement g m from n to → ℕ
  statement_count (compares id label ids word is e) = 1
  statement_count (picked_by_word id ids) = 1
  statement_count (passing id n places a) = n
  statement_count h = 0

  -- the scopes around what comes behind
  abbrev pub statement_scopes : {m n : Mode} {from to : List Item} → Statement g m from n to → List ScopeKind → List ScopeKind
  statement_scopes (past_switch scope) chain = scopes_behind chain
  statement_scopes (compares id label ids word is e) chain = scopes_behind (scopes_behind chain)
  statement_scopes (picked_by_word id ids) chain = scopes_behind (scopes_behind chain)
  statement_scopes (picked id ids) chain = scopes_behind (scopes_behind chain)
  statement_scopes (opens block id scope end at) chain = scopes_behind chain
  statement_scopes (block_done block scope end at) chain = scopes_behind chain
  statement_scopes (body_done turn) chain = scopes_behind chain
  statement_scopes h chain = chain

  -- the block that is open
  abbrev pub statement_opens : {m n : Mode} {from to : List Item} → Statement g m from n to → List Open
  statement_opens (opens block id scope end at) = block ∷ []
  statement_opens (block_done block scope end at) = block ∷ []
  statement_opens h = []

  -- it is entered in the source too
  abbrev pub statement_entered : {m n : Mode} {from to : List Item} → Statement g m from n to → Bool
  statement_entered (opens block id scope end at) = false
  statement_entered h = true

-- ---- scopes that are left

-- what leaves them: a value on the stack, or nothing that lies there
pub data Exiting : Leaving → Type 0 where
  returns_word : Exiting Return
  returns_nothing : Exiting Return
  breaks_out : Exiting Break
  continues_there : Exiting Continue

abbrev pub exit_with : {leaving : Leaving} → Exiting leaving → List Term → Exit
exit_with returns_word ts = returns (first_word ts)
exit_with returns_nothing ts = returns (number 0)
exit_with breaks_out ts = breaks
exit_with continues_there ts = continues

abbrev pub exit_words : {leaving : Leaving} → Exiting leaving → List Term → List Term
exit_words returns_word ts = first_word ts ∷ []
exit_words returns_nothing ts = []
exit_words breaks_out ts = []
exit_words continues_there ts = []

abbrev pub exit_count : {leaving : Leaving} → Exiting leaving → ℕ
exit_count returns_word = 1
exit_count returns_nothing = 0
exit_count breaks_out = 0
exit_count continues_there = 0

-- the jumps to the items of a `switch`, where the machine has these labels
abbrev pub all_labels : Setting → Option Jump → List TNodeId → List (Option Jump) → List (Option Jump)
all_labels g otherwise [] labels = []
all_labels g otherwise (id ∷ ids) labels = label_of (node_in g id).kind (first_label labels) otherwise ∷ all_labels g otherwise ids (other_labels labels)
