-- Expressions without objects.
use Rattle.std.proofs.Common.{Bool, List, false, refl, true, ℕ}
use Rattle.cpp_tree.specs.cpp_types.declared.classes.At.{At}
use Rattle.cpp_tree.specs.declared.arena.TNodeId.{TNodeId}
use Rattle.cpp_tree.specs.tx_ints.declared.kinds.BinOp.{BinOp}
use Rattle.cpp_tree.specs.tx_ints.declared.kinds.IntKind.{IntKind}
use Rattle.tx_code.specs.declared.instr.Instr.TheVariants.{Bin, ClassAddr, Conv, Dup, FrameAddr, FuncAddr, GlobalAddr, Over, Swap}
use Rattle.tx_code.specs.declared.instr.Instr.{Instr}
use Rattle.low_code.specs.Nodes.{Node}
use Rattle.low_code.specs.Numbers.{kind_number, load, operator_number, store_converted}
use Rattle.low_code.specs.declared.numbers.TheConstants.{ADDRESS}
use Rattle.low_code.specs.declared.scopes.Owner.TheVariants.{Full}
use Rattle.low_code.specs.declared.scopes.ScopeKind.TheVariants.{Mark}
use Rattle.unwind_lower.specs.Expressions as expressions
use Rattle.unwind_lower.specs.Expressions.{branch_way}
use Rattle.unwind_lower.specs.Settings.{Setting, callee_in, class_name, global_symbol, place_in}
use Rattle.unwind_lower.specs.States.{State, number_of}
use Rattle.unwind_lower.specs.declared.items.Item.TheVariants.{Branch, Close, Made, Put}
use Rattle.unwind_lower.specs.declared.items.Way.TheVariants.{Copying, Dropped, Into, Value}
use Rattle.unwind_lower.specs.declared.items.Way.{Way}
use Rattle.lowered_states.specs.Claims.{Claim}
use Rattle.lowered_states.proofs.Basic.{entered, more, named, put}
use Rattle.lowered_states.proofs.Kids.{run_kid}
use Rattle.lowered_states.proofs.Moves.{Moves, Start}

module _ {z : Start} where
  pub local : (g : Setting) (place : ℕ) (at : At) {cs : List Claim} {s : State} → Moves z cs s → Moves z cs (expressions.local g place at s)
  unfolding expressions.local
  local g place at m = put (FrameAddr (place_in g place)) at m

  pub global : (g : Setting) (place : ℕ) (at : At) {cs : List Claim} {s : State} → Moves z cs s → Moves z cs (expressions.global g place at s)
  unfolding expressions.global
  global g place at {s} m = put (GlobalAddr (number_of (global_symbol g place) s)) at (named (global_symbol g place) m)

  pub function : (g : Setting) (func : ℕ) (at : At) {cs : List Claim} {s : State} → Moves z cs s → Moves z cs (expressions.function g func at s)
  unfolding expressions.function
  function g func at {s} m = put (FuncAddr (number_of (callee_in g func).symbol s)) at (named (callee_in g func).symbol m)

  pub class_table : (g : Setting) (class : ℕ) (at : At) {cs : List Claim} {s : State} → Moves z cs s → Moves z cs (expressions.class_table g class at s)
  unfolding expressions.class_table
  class_table g class at {s} m = put (ClassAddr (number_of (class_name g class) s)) at (named (class_name g class) m)

  pub operate : (n : Node) (instr : Instr) {cs : List Claim} {s : State} → Moves z cs s → Moves z cs (expressions.operate n instr s)
  unfolding expressions.operate
  operate n instr m = run_kid n 0 Value (more (Put instr n.at) tt m)

  pub convert : (n : Node) (to : IntKind) {cs : List Claim} {s : State} → Moves z cs s → Moves z cs (expressions.convert n to s)
  unfolding expressions.convert
  convert n to m = operate n (Conv ADDRESS (kind_number to)) m

  pub binary : (n : Node) (op : BinOp) (kind : IntKind) {cs : List Claim} {s : State} → Moves z cs s → Moves z cs (expressions.binary n op kind s)
  unfolding expressions.binary
  binary n op kind m = run_kid n 0 Value (run_kid n 1 Value (more (Put (Bin (operator_number op) (kind_number kind)) n.at) tt m))

  pub assign : (n : Node) (store : Instr) {cs : List Claim} {s : State} → Moves z cs s → Moves z cs (expressions.assign n store s)
  unfolding expressions.assign
  assign n store m = run_kid n 0 Value (more (Put Dup n.at) tt (run_kid n 1 Value (more (Put store n.at) tt m)))

  pub read_old : (load : Instr) (b : Bool) (at : At) {cs : List Claim} {s : State} → Moves z cs s → Moves z cs (expressions.read_old load b at s)
  unfolding expressions.read_old
  read_old load true at m = more (Put load at) tt (more (Put Swap at) tt (more (Put Over at) tt m))
  read_old load false at m = more (Put Dup at) tt (more (Put load at) tt m)

  pub update : (n : Node) (op : BinOp) (stored : IntKind) (operation : IntKind) (volatile : Bool) (old : Bool) {cs : List Claim} {s : State} → Moves z cs s
      → Moves z cs (expressions.update n op stored operation volatile old s)
  unfolding expressions.update
  update n op stored operation volatile old m = run_kid n 0 Value (more (Put Dup n.at) tt (read_old (load stored volatile) old n.at (run_kid n 1 Value (more
      (Put (Bin (operator_number op) (kind_number operation)) n.at) tt (more (Put (store_converted stored volatile) n.at) tt m)))))

  pub conditional : (id : TNodeId) (n : Node) (way : Way) {cs : List Claim} {s : State} → Moves z cs s → Moves z cs (expressions.conditional id n way s)
  unfolding expressions.conditional
  conditional id n way m = run_kid n 0 Value (more (Branch id (branch_way n way)) tt m)

  pub comma : (n : Node) (way : Way) {cs : List Claim} {s : State} → Moves z cs s → Moves z cs (expressions.comma n way s)
  unfolding expressions.comma
  comma n way m = run_kid n 0 Dropped (run_kid n 1 way m)

  pub full : (n : Node) (way : Way) {cs : List Claim} {s : State} → Moves z cs s → Moves z cs (expressions.full n way s)
  unfolding expressions.full
  full n way m = run_kid n 0 way (more (Close Full n.at) tt (entered (Mark Full) n.at refl m))

  pub copy_assign : (n : Node) {cs : List Claim} {s : State} → Moves z cs s → Moves z cs (expressions.copy_assign n s)
  unfolding expressions.copy_assign
  copy_assign n m = run_kid n 0 Value (run_kid n 1 Value (more (Put Over n.at) tt (more (Put Swap n.at) tt (run_kid n 2 Copying m))))

  pub materialize : (g : Setting) (id : TNodeId) (n : Node) (place : ℕ) {cs : List Claim} {s : State} → Moves z cs s
      → Moves z cs (expressions.materialize g id n place s)
  unfolding expressions.materialize
  materialize g id n place m = put (FrameAddr (place_in g place)) n.at (run_kid n 0 Into (more (Made id) tt (more (Put (FrameAddr (place_in g place)) n.at) tt m)))
