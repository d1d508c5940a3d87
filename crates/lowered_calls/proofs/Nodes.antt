-- What the nodes of calls put on the list of items, and the scope that they enter.
use Rattle.std.proofs.Common.{ℕ, ◌≡◌, refl, ap, ◌∙◌, List, ◌∷◌}
use Rattle.cpp_tree.specs.declared.arena.TNodeId.{TNodeId}
use Rattle.cpp_tree.specs.declared.kinds.Builtin.{Builtin}
use Rattle.cpp_tree.specs.declared.kinds.TKind.{TKind}
use Rattle.cpp_tree.specs.declared.kinds.TKind.TheVariants.{Call as CallOf, VirtualCall, PointerCall, Builtin as BuiltinCall}
use Rattle.tx_code.specs.declared.instr.Instr.TheVariants.{Swap}
use Rattle.low_code.specs.declared.scopes.Owner.TheVariants.{Call as OfCall}
use Rattle.low_code.specs.declared.scopes.ScopeKind.TheVariants.{Mark}
use Rattle.low_code.specs.Nodes.{Node, kid_in}
use Rattle.unwind_lower.specs.declared.items.Way.{Way}
use Rattle.unwind_lower.specs.declared.items.Way.TheVariants.{Value, Dropped, Into, Copying}
use Rattle.unwind_lower.specs.declared.items.Item.{Item}
use Rattle.unwind_lower.specs.declared.items.Item.TheVariants.{Run, Put, Slot, Invoke, Close}
use Rattle.unwind_lower.specs.Settings.{Setting, node_in}
use Rattle.unwind_lower.specs.States.{State, later, entered}
use Rattle.unwind_lower.specs.Kids.{run_all, run_kid, run_kids, kids_from}
use Rattle.unwind_lower.specs.Calls.{call_with, virtual_call, pointer_call, swap_into, builtin_call}
use Rattle.unwind_lower.specs.Steps.{written, run, run_kind, drop_value}
use Rattle.lowered_frames.specs.Modes.{all_run}
use Rattle.lowered_frames.specs.Calls.{call_items}
use Rattle.lowered_frames.proofs.Items.{runs_so}

-- the node is run for its value, or into an object
abbrev pub IsKept : Way → Type 0
IsKept Value = Unit {0}
IsKept Into = Unit {0}
IsKept way = ⊥

-- the words of a call and the call
pub call_work : (id : TNodeId) (n : Node) (first : ℕ) (way : Way) (s : State)
    → (call_with id n first way s).work ≡ call_items (kids_from n first) id way n.at s.work
unfolding call_with run_kids run_all later entered
call_work id n first way s = runs_so Value (kids_from n first) (Invoke id way ∷ Close OfCall n.at ∷ s.work)

pub call_body : (id : TNodeId) (n : Node) (first : ℕ) (way : Way) (s : State) → (call_with id n first way s).body ≡ (entered (Mark OfCall) n.at s).body
unfolding call_with run_kids run_all later entered
call_body id n first way s = refl

module _ (g : Setting) (id : TNodeId) (s : State) where
  abbrev n : Node
  n = node_in g id

  -- a node whose kind is known
  run_is : (way : Way) → IsKept way → (kind : TKind) → n.kind ≡ kind → written g (Run id way) s ≡ run_kind g kind id n way s
  unfolding written run drop_value
  run_is Value e kind is = ap (λ (z : TKind). run_kind g z id n Value s) is
  run_is Into e kind is = ap (λ (z : TKind). run_kind g z id n Into s) is
  run_is Dropped e kind is = absurd e
  run_is Copying e kind is = absurd e

  pub call_put : (way : Way) → IsKept way → (func : ℕ) → n.kind ≡ CallOf func → (written g (Run id way) s).work ≡ call_items n.kids id way n.at s.work
  unfolding run_kind
  call_put way e func is = ap (λ (z : State). z.work) (run_is way e (CallOf func) is) ∙ call_work id n 0 way s

  pub call_scope : (way : Way) → IsKept way → (func : ℕ) → n.kind ≡ CallOf func → (written g (Run id way) s).body ≡ (entered (Mark OfCall) n.at s).body
  unfolding run_kind
  call_scope way e func is = ap (λ (z : State). z.body) (run_is way e (CallOf func) is) ∙ call_body id n 0 way s

  pub virtual_put : (way : Way) → IsKept way → (func class slot offset : ℕ) → n.kind ≡ VirtualCall func class slot offset
      → (written g (Run id way) s).work ≡ Run (kid_in n.kids 0) Value ∷ Slot id way ∷ call_items (kids_from n 1) id way n.at s.work
  unfolding run_kind virtual_call run_kid later
  virtual_put way e func class slot offset is = ap (λ (z : State). z.work) (run_is way e (VirtualCall func class slot offset) is)
      ∙ ap (λ (z : List Item). Run (kid_in n.kids 0) Value ∷ Slot id way ∷ z) (call_work id n 1 way s)

  pub virtual_scope : (way : Way) → IsKept way → (func class slot offset : ℕ) → n.kind ≡ VirtualCall func class slot offset
      → (written g (Run id way) s).body ≡ (entered (Mark OfCall) n.at s).body
  unfolding run_kind virtual_call run_kid later
  virtual_scope way e func class slot offset is = ap (λ (z : State). z.body) (run_is way e (VirtualCall func class slot offset) is) ∙ call_body id n 1 way s

  pub pointer_put : n.kind ≡ PointerCall
      → (written g (Run id Value) s).work ≡ Run (kid_in n.kids 0) Value ∷ call_items (kids_from n 1) id Value n.at s.work
  unfolding run_kind pointer_call swap_into run_kid later
  pointer_put is = ap (λ (z : State). z.work) (run_is Value tt PointerCall is)
      ∙ ap (λ (z : List Item). Run (kid_in n.kids 0) Value ∷ z) (call_work id n 1 Value s)

  pub class_pointer_put : n.kind ≡ PointerCall
      → (written g (Run id Into) s).work ≡ Run (kid_in n.kids 0) Value ∷ Put Swap n.at ∷ call_items (kids_from n 1) id Into n.at s.work
  unfolding run_kind pointer_call swap_into run_kid later
  class_pointer_put is = ap (λ (z : State). z.work) (run_is Into tt PointerCall is)
      ∙ ap (λ (z : List Item). Run (kid_in n.kids 0) Value ∷ Put Swap n.at ∷ z) (call_work id n 1 Into s)

  pub built_in_put : (way : Way) → IsKept way → (which : Builtin) → n.kind ≡ BuiltinCall which
      → (written g (Run id way) s).work ≡ all_run Value n.kids (Invoke id way ∷ s.work)
  unfolding run_kind builtin_call run_kids run_all later
  built_in_put way e which is = ap (λ (z : State). z.work) (run_is way e (BuiltinCall which) is) ∙ runs_so Value n.kids (Invoke id way ∷ s.work)

  pub built_in_body : (way : Way) → IsKept way → (which : Builtin) → n.kind ≡ BuiltinCall which → (written g (Run id way) s).body ≡ s.body
  unfolding run_kind builtin_call run_kids run_all later
  built_in_body way e which is = ap (λ (z : State). z.body) (run_is way e (BuiltinCall which) is)
