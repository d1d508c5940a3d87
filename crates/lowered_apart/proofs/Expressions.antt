-- Expressions without objects.
use Rattle.std.proofs.Common.{Bool, false, refl, true, ℕ}
use Rattle.cpp_tree.specs.cpp_types.declared.classes.At.{At}
use Rattle.cpp_tree.specs.declared.arena.TNodeId.{TNodeId}
use Rattle.cpp_tree.specs.tx_ints.declared.kinds.BinOp.{BinOp}
use Rattle.cpp_tree.specs.tx_ints.declared.kinds.IntKind.{IntKind}
use Rattle.tx_code.specs.declared.instr.Instr.TheVariants.{Bin, ClassAddr, Conv, Dup, FrameAddr, FuncAddr, GlobalAddr, Over, Swap}
use Rattle.tx_code.specs.declared.instr.Instr.{Instr}
use Rattle.low_code.specs.Nodes.{Node}
use Rattle.low_code.specs.Numbers.{kind_number, load, operator_number, store_converted}
use Rattle.low_code.specs.declared.numbers.TheConstants.{ADDRESS}
use Rattle.low_code.specs.declared.scopes.Owner.TheVariants.{Full}
use Rattle.low_code.specs.declared.scopes.ScopeKind.TheVariants.{Mark}
use Rattle.unwind_lower.specs.Expressions as expressions
use Rattle.unwind_lower.specs.Expressions.{branch_way}
use Rattle.unwind_lower.specs.Settings.{Setting, node_in, callee_in, class_name, global_symbol, place_in}
use Rattle.unwind_lower.specs.States.{State, number_of}
use Rattle.unwind_lower.specs.declared.items.Item.TheVariants.{Branch, Made, Put}
use Rattle.unwind_lower.specs.declared.items.Way.TheVariants.{Copying, Dropped, Into, Value}
use Rattle.unwind_lower.specs.declared.items.Way.{Way}
use Rattle.lowered_apart.specs.Still.{Nodes}
use Rattle.lowered_apart.specs.Waiting.{AllRun, Below, Waiting}
use Rattle.lowered_apart.proofs.Basic.{end_full, entered, more, named, put}
use Rattle.lowered_apart.proofs.Kids.{run_kid}

module _ {z : Nodes} where
  pub local : (g : Setting) (place : ℕ) (at : At) {free : Bool} {s : State} → Waiting z free s → Waiting z free (expressions.local g place at s)
  unfolding expressions.local
  local g place at m = put (FrameAddr (place_in g place)) at m

  pub global : (g : Setting) (place : ℕ) (at : At) {free : Bool} {s : State} → Waiting z free s → Waiting z free (expressions.global g place at s)
  unfolding expressions.global
  global g place at {s} m = put (GlobalAddr (number_of (global_symbol g place) s)) at (named (global_symbol g place) m)

  pub function : (g : Setting) (func : ℕ) (at : At) {free : Bool} {s : State} → Waiting z free s → Waiting z free (expressions.function g func at s)
  unfolding expressions.function
  function g func at {s} m = put (FuncAddr (number_of (callee_in g func).symbol s)) at (named (callee_in g func).symbol m)

  pub class_table : (g : Setting) (class : ℕ) (at : At) {free : Bool} {s : State} → Waiting z free s → Waiting z free (expressions.class_table g class at s)
  unfolding expressions.class_table
  class_table g class at {s} m = put (ClassAddr (number_of (class_name g class) s)) at (named (class_name g class) m)

  pub operate : (n : Node) (instr : Instr) {free : Bool} {s : State} → AllRun z free n.kids → Waiting z free s → Waiting z free (expressions.operate n instr s)
  unfolding expressions.operate
  operate n instr k m = run_kid n 0 Value k (more (Put instr n.at) tt refl m)

  pub convert : (n : Node) (to : IntKind) {free : Bool} {s : State} → AllRun z free n.kids → Waiting z free s → Waiting z free (expressions.convert n to s)
  unfolding expressions.convert
  convert n to k m = operate n (Conv ADDRESS (kind_number to)) k m

  pub binary : (n : Node) (op : BinOp) (kind : IntKind) {free : Bool} {s : State} → AllRun z free n.kids → Waiting z free s → Waiting z free (expressions.binary n op kind s)
  unfolding expressions.binary
  binary n op kind k m = run_kid n 0 Value k (run_kid n 1 Value k (more (Put (Bin (operator_number op) (kind_number kind)) n.at) tt refl m))

  pub assign : (n : Node) (store : Instr) {free : Bool} {s : State} → AllRun z free n.kids → Waiting z free s → Waiting z free (expressions.assign n store s)
  unfolding expressions.assign
  assign n store k m = run_kid n 0 Value k (more (Put Dup n.at) tt refl (run_kid n 1 Value k (more (Put store n.at) tt refl m)))

  pub read_old : (load : Instr) (b : Bool) (at : At) {free : Bool} {s : State} → Waiting z free s → Waiting z free (expressions.read_old load b at s)
  unfolding expressions.read_old
  read_old load true at m = more (Put load at) tt refl (more (Put Swap at) tt refl (more (Put Over at) tt refl m))
  read_old load false at m = more (Put Dup at) tt refl (more (Put load at) tt refl m)

  pub update : (n : Node) (op : BinOp) (stored : IntKind) (operation : IntKind) (volatile : Bool) (old : Bool) {free : Bool} {s : State} → AllRun z free n.kids → Waiting z free s
      → Waiting z free (expressions.update n op stored operation volatile old s)
  unfolding expressions.update
  update n op stored operation volatile old k m = run_kid n 0 Value k (more (Put Dup n.at) tt refl (read_old (load stored volatile) old n.at (run_kid n 1 Value k (more
      (Put (Bin (operator_number op) (kind_number operation)) n.at) tt refl (more (Put (store_converted stored volatile) n.at) tt refl m)))))

  pub conditional : (id : TNodeId) (way : Way) {free : Bool} {s : State} → Below z free id → Waiting z free s
      → Waiting z free (expressions.conditional id (node_in z.setting id) way s)
  unfolding expressions.conditional
  conditional id way k m = run_kid (node_in z.setting id) 0 Value k (more (Branch id (branch_way (node_in z.setting id) way))
      (λ index. ((k index).0, λ e. m.freed ((k index).1 e))) refl m)

  pub comma : (n : Node) (way : Way) {free : Bool} {s : State} → AllRun z free n.kids → Waiting z free s → Waiting z free (expressions.comma n way s)
  unfolding expressions.comma
  comma n way k m = run_kid n 0 Dropped k (run_kid n 1 way k m)

  pub full : (n : Node) (way : Way) {free : Bool} {s : State} → AllRun z true n.kids → Waiting z free s → Waiting z true (expressions.full n way s)
  unfolding expressions.full
  full n way k m = run_kid n 0 way k (end_full n.at (entered (Mark Full) n.at tt m))

  pub copy_assign : (n : Node) {free : Bool} {s : State} → AllRun z free n.kids → Waiting z free s → Waiting z free (expressions.copy_assign n s)
  unfolding expressions.copy_assign
  copy_assign n k m = run_kid n 0 Value k (run_kid n 1 Value k (more (Put Over n.at) tt refl (more (Put Swap n.at) tt refl (run_kid n 2 Copying k m))))

  pub materialize : (g : Setting) (id : TNodeId) (n : Node) (place : ℕ) {free : Bool} {s : State} → AllRun z free n.kids → Waiting z free s
      → Waiting z free (expressions.materialize g id n place s)
  unfolding expressions.materialize
  materialize g id n place k m = put (FrameAddr (place_in g place)) n.at (run_kid n 0 Into k (more (Made id) tt refl (more (Put (FrameAddr (place_in g place)) n.at) tt refl m)))
