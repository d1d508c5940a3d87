-- What is left to write after an expression's item, where the kind of its node is known, and what code is added.
use Rattle.std.proofs.Common.{ℕ, ◌≡◌, refl, ap, Bool, true, false, cond, [], ◌∷◌, ◌++◌, Option}
use Rattle.cpp_tree.specs.tx_ints.declared.kinds.IntKind.{IntKind}
use Rattle.cpp_tree.specs.tx_ints.declared.kinds.BinOp.{BinOp}
use Rattle.cpp_tree.specs.cpp_types.declared.classes.At.{At}
use Rattle.cpp_tree.specs.declared.arena.TNodeId.{TNodeId}
use Rattle.cpp_tree.specs.declared.kinds.TKind.{TKind}
use Rattle.cpp_tree.specs.declared.kinds.TKind.TheVariants.{Literal, Local, Global, Function, ClassTable, Load, Convert, Retype, Binary, Conditional, Comma, Assign, Update, CopyAssign}
use Rattle.tx_code.specs.declared.instr.Instr.{Instr}
use Rattle.tx_code.specs.declared.instr.Instr.TheVariants.{Push, Dup, Pop, Swap, Over, FrameAddr, GlobalAddr, FuncAddr, ClassAddr, Bin, Conv}
use Rattle.low_code.specs.declared.numbers.TheConstants.{ADDRESS}
use Rattle.low_code.specs.declared.writer.Jump.{Jump}
use Rattle.low_code.specs.Nodes.{Node, kid_in}
use Rattle.low_code.specs.Numbers.{kind_number, operator_number, load, store, store_converted}
use Rattle.low_code.specs.Types.{is_void}
use Rattle.low_code.specs.Writer.{innermost}
use Rattle.unwind_lower.specs.declared.items.Item.TheVariants.{Run, Put, Branch, Other, OtherAgain, Bind}
use Rattle.unwind_lower.specs.declared.items.Other.{Other as OtherPart}
use Rattle.unwind_lower.specs.declared.items.Way.{Way}
use Rattle.unwind_lower.specs.declared.items.Way.TheVariants.{Value, Dropped, Copying}
use Rattle.unwind_lower.specs.Settings.{Setting, node_in, place_in, callee_in, global_symbol, class_name}
use Rattle.unwind_lower.specs.States.{State, later, put, named, number_of, is_live, jumped, jump_from, jumped_if_zero, bound, at_scope}
use Rattle.unwind_lower.specs.Kids.{run_kid}
use Rattle.unwind_lower.specs.Conditions.{branches_make, repeat_rest, other_of, branch, other, other_again, start_other, bind_behind}
use Rattle.unwind_lower.specs.Expressions.{way_of, branch_way, local, global, function, class_table, operate, convert, binary, assign, read_old, update, conditional, comma, copy_assign}
use Rattle.unwind_lower.specs.Steps.{written, run, run_kind, drop_value, for_value}

-- an instruction that can be reached is added to the code
pub put_written : (g : Setting) (instr : Instr) (at : At) (s : State) → is_live s ≡ true
    → (written g (Put instr at) s).body.code ≡ s.body.code ++ record { instr = instr; at = at; scope = (innermost s.body).rows } ∷ []
unfolding written put is_live
put_written g instr at s live = ap (λ (z : Bool). cond z (s.body.code ++ record { instr = instr; at = at; scope = (innermost s.body).rows } ∷ []) s.body.code) live

pub item_put : (g : Setting) (instr : Instr) (at : At) (s : State) → written g (Put instr at) s ≡ put instr at s
unfolding written
item_put g instr at s = refl

module _ (g : Setting) (id : TNodeId) (s : State) where
  abbrev n : Node
  n = node_in g id

  -- the item of a node whose kind is known
  node_written : (way : Way) (kind : TKind) → n.kind ≡ kind → written g (Run id way) s ≡ run_kind g kind id n (for_value way) (drop_value n way s)
  unfolding written run
  node_written way kind is = ap (λ (z : TKind). run_kind g z id n (for_value way) (drop_value n way s)) is

  -- what is run for what it does is run for its value, which is dropped
  pub dropped_written : is_void n.typ ≡ false → written g (Run id Dropped) s ≡ written g (Run id Value) (later (Put Pop n.at) s)
  unfolding written run drop_value
  dropped_written e = ap (λ (z : Bool). run_kind g n.kind id n Value (cond z s (later (Put Pop n.at) s))) e

  pub void_written : is_void n.typ ≡ true → written g (Run id Dropped) s ≡ written g (Run id Value) s
  unfolding written run drop_value
  void_written e = ap (λ (z : Bool). run_kind g n.kind id n Value (cond z s (later (Put Pop n.at) s))) e

  -- ---- leaves

  pub literal_written : (word : ℕ) → n.kind ≡ Literal word → written g (Run id Value) s ≡ put (Push word) n.at s
  unfolding run_kind drop_value
  literal_written word is = node_written Value (Literal word) is

  pub local_written : (place : ℕ) → n.kind ≡ Local place → written g (Run id Value) s ≡ put (FrameAddr (place_in g place)) n.at s
  unfolding run_kind drop_value local
  local_written place is = node_written Value (Local place) is

  pub global_written : (place : ℕ) → n.kind ≡ Global place
      → written g (Run id Value) s ≡ put (GlobalAddr (number_of (global_symbol g place) s)) n.at (named (global_symbol g place) s)
  unfolding run_kind drop_value global
  global_written place is = node_written Value (Global place) is

  pub function_written : (func : ℕ) → n.kind ≡ Function func
      → written g (Run id Value) s ≡ put (FuncAddr (number_of (callee_in g func).symbol s)) n.at (named (callee_in g func).symbol s)
  unfolding run_kind drop_value function
  function_written func is = node_written Value (Function func) is

  pub class_written : (class : ℕ) → n.kind ≡ ClassTable class
      → written g (Run id Value) s ≡ put (ClassAddr (number_of (class_name g class) s)) n.at (named (class_name g class) s)
  unfolding run_kind drop_value class_table
  class_written class is = node_written Value (ClassTable class) is

  -- ---- operators

  pub load_written : (kind : IntKind) (volatile : Bool) → n.kind ≡ Load kind volatile
      → written g (Run id Value) s ≡ later (Run (kid_in n.kids 0) Value) (later (Put (load kind volatile) n.at) s)
  unfolding run_kind drop_value operate run_kid
  load_written kind volatile is = node_written Value (Load kind volatile) is

  pub convert_written : (to : IntKind) → n.kind ≡ Convert to
      → written g (Run id Value) s ≡ later (Run (kid_in n.kids 0) Value) (later (Put (Conv ADDRESS (kind_number to)) n.at) s)
  unfolding run_kind drop_value convert operate run_kid
  convert_written to is = node_written Value (Convert to) is

  pub retype_written : n.kind ≡ Retype → written g (Run id Value) s ≡ later (Run (kid_in n.kids 0) (way_of n)) s
  unfolding run_kind drop_value run_kid
  retype_written is = node_written Value Retype is

  pub binary_written : (op : BinOp) (kind : IntKind) → n.kind ≡ Binary op kind
      → written g (Run id Value) s ≡ later (Run (kid_in n.kids 0) Value) (later (Run (kid_in n.kids 1) Value)
      (later (Put (Bin (operator_number op) (kind_number kind)) n.at) s))
  unfolding run_kind drop_value binary run_kid
  binary_written op kind is = node_written Value (Binary op kind) is

  pub assign_written : (kind : IntKind) (volatile : Bool) → n.kind ≡ Assign kind volatile
      → written g (Run id Value) s ≡ later (Run (kid_in n.kids 0) Value) (later (Put Dup n.at) (later (Run (kid_in n.kids 1) Value)
      (later (Put (store kind volatile) n.at) s)))
  unfolding run_kind drop_value assign run_kid
  assign_written kind volatile is = node_written Value (Assign kind volatile) is

  -- the right operand of an update, its operator and its store
  abbrev pub updated : BinOp → IntKind → IntKind → Bool → State
  updated op stored operation volatile = later (Run (kid_in n.kids 1) Value) (later (Put (Bin (operator_number op) (kind_number operation)) n.at)
      (later (Put (store_converted stored volatile) n.at) s))

  pub update_written : (op : BinOp) (stored operation : IntKind) (volatile : Bool) → n.kind ≡ Update op stored operation volatile false
      → written g (Run id Value) s ≡ later (Run (kid_in n.kids 0) Value) (later (Put Dup n.at) (later (Put Dup n.at) (later (Put (load stored volatile) n.at)
      (updated op stored operation volatile))))
  unfolding run_kind drop_value update read_old run_kid
  update_written op stored operation volatile is = node_written Value (Update op stored operation volatile false) is

  pub old_update_written : (op : BinOp) (stored operation : IntKind) (volatile : Bool) → n.kind ≡ Update op stored operation volatile true
      → written g (Run id Value) s ≡ later (Run (kid_in n.kids 0) Value) (later (Put Dup n.at) (later (Put (load stored volatile) n.at) (later (Put Swap n.at)
      (later (Put Over n.at) (updated op stored operation volatile)))))
  unfolding run_kind drop_value update read_old run_kid
  old_update_written op stored operation volatile is = node_written Value (Update op stored operation volatile true) is

  pub copy_assign_written : n.kind ≡ CopyAssign
      → written g (Run id Value) s ≡ later (Run (kid_in n.kids 0) Value) (later (Run (kid_in n.kids 1) Value) (later (Put Over n.at) (later (Put Swap n.at)
      (later (Run (kid_in n.kids 2) Copying) s))))
  unfolding run_kind drop_value copy_assign run_kid
  copy_assign_written is = node_written Value CopyAssign is

  -- ---- several ways

  pub comma_written : (way : Way) → n.kind ≡ Comma
      → written g (Run id way) s ≡ later (Run (kid_in n.kids 0) Dropped) (later (Run (kid_in n.kids 1) (for_value way)) (drop_value n way s))
  unfolding run_kind comma run_kid
  comma_written way is = node_written way Comma is

  pub conditional_written : (way : Way) → n.kind ≡ Conditional
      → written g (Run id way) s ≡ later (Run (kid_in n.kids 0) Value) (later (Branch id (branch_way n (for_value way))) (drop_value n way s))
  unfolding run_kind conditional run_kid
  conditional_written way is = node_written way Conditional is

-- ---- jumps

-- the jump to the second branch; where a branch makes temporaries, the rest of the full-expression is written behind each
pub branch_written : (g : Setting) (id : TNodeId) (way : Way) (s : State)
    → written g (Branch id way) s ≡ later (Run (kid_in (node_in g id).kids 1) way) (cond (branches_make g (node_in g id))
    (repeat_rest (OtherAgain (other_of (node_in g id) way s)) (jumped_if_zero (node_in g id).at s))
    (later (Other (other_of (node_in g id) way s)) (jumped_if_zero (node_in g id).at s)))
unfolding written branch
branch_written g id way s = refl

-- the jump over the second branch, which begins where the first jump leads to
pub other_written : (g : Setting) (o : OtherPart) (s : State)
    → written g (Other o) s ≡ later (Run o.id o.way) (later (Bind (jump_from s)) (bound o.test (at_scope o.scope (jumped o.at s))))
unfolding written other start_other
other_written g o s = refl

pub other_again_written : (g : Setting) (o : OtherPart) (s : State)
    → written g (OtherAgain o) s ≡ later (Run o.id o.way) (bind_behind (jump_from s) (bound o.test (at_scope o.scope (jumped o.at s))))
unfolding written other_again start_other
other_again_written g o s = refl

pub bind_written : (g : Setting) (jump : Option Jump) (s : State) → written g (Bind jump) s ≡ bound jump s
unfolding written
bind_written g jump s = refl
