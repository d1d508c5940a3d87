-- Expressions without objects.
use Rattle.std.specs.Prelude.{Bool, true, false, ℕ, cond}
use Rattle.cpp_tree.specs.cpp_types.declared.classes.At.{At}
use Rattle.cpp_tree.specs.tx_ints.declared.kinds.IntKind.{IntKind}
use Rattle.cpp_tree.specs.tx_ints.declared.kinds.BinOp.{BinOp}
use Rattle.cpp_tree.specs.declared.arena.TNodeId.{TNodeId}
use Rattle.tx_code.specs.declared.instr.Instr.{Instr}
use Rattle.tx_code.specs.declared.instr.Instr.TheVariants.{Dup, Swap, Over, FrameAddr, GlobalAddr, FuncAddr, ClassAddr, Conv, Bin}
use Rattle.low_code.specs.declared.numbers.TheConstants.{ADDRESS}
use Rattle.low_code.specs.declared.scopes.Owner.TheVariants.{Full}
use Rattle.low_code.specs.declared.scopes.ScopeKind.TheVariants.{Mark}
use Rattle.low_code.specs.Nodes.{Node}
use Rattle.low_code.specs.Numbers.{kind_number, operator_number, load, store_converted}
use Rattle.low_code.specs.Types.{is_void}
use Rattle.unwind_lower.specs.declared.items.Way.{Way}
use Rattle.unwind_lower.specs.declared.items.Way.TheVariants.{Value, Dropped, Into, Copying}
use Rattle.unwind_lower.specs.declared.items.Item.TheVariants.{Put, Branch, Made, Close}
use Rattle.unwind_lower.specs.States.{State, later, put, entered, named, number_of}
use Rattle.unwind_lower.specs.Settings.{Setting, place_in, callee_in, global_symbol, class_name}
use Rattle.unwind_lower.specs.Kids.{run_kid}

-- how an expression of a type is run whose value is its kid's, or nothing
abbrev pub way_of : Node → Way
way_of n = cond (is_void n.typ) Dropped Value

-- how the branches of a conditional are run
abbrev pub branch_way : Node → Way → Way
branch_way n Value = way_of n
branch_way n Dropped = Dropped
branch_way n Into = Into
branch_way n Copying = Copying

-- ---- leaves

unfoldable pub local : Setting → ℕ → At → State → State
local g place at s = put (FrameAddr (place_in g place)) at s

unfoldable pub global : Setting → ℕ → At → State → State
global g place at s = put (GlobalAddr (number_of (global_symbol g place) s)) at (named (global_symbol g place) s)

unfoldable pub function : Setting → ℕ → At → State → State
function g func at s = put (FuncAddr (number_of (callee_in g func).symbol s)) at (named (callee_in g func).symbol s)

unfoldable pub class_table : Setting → ℕ → At → State → State
class_table g class at s = put (ClassAddr (number_of (class_name g class) s)) at (named (class_name g class) s)

-- ---- operators

-- an instruction on the value of the first kid
unfoldable pub operate : Node → Instr → State → State
operate n instr s = run_kid n 0 Value (later (Put instr n.at) s)

unfoldable pub convert : Node → IntKind → State → State
convert n to s = operate n (Conv ADDRESS (kind_number to)) s

unfoldable pub binary : Node → BinOp → IntKind → State → State
binary n op kind s = run_kid n 0 Value (run_kid n 1 Value (later (Put (Bin (operator_number op) (kind_number kind)) n.at) s))

unfoldable pub assign : Node → Instr → State → State
assign n store s = run_kid n 0 Value (later (Put Dup n.at) (run_kid n 1 Value (later (Put store n.at) s)))

-- the old value is read, and stays below where it is the whole's
unfoldable pub read_old : Instr → Bool → At → State → State
read_old load true at s = later (Put load at) (later (Put Swap at) (later (Put Over at) s))
read_old load false at s = later (Put Dup at) (later (Put load at) s)

unfoldable pub update : Node → BinOp → IntKind → IntKind → Bool → Bool → State → State
update n op stored operation volatile old s = run_kid n 0 Value (later (Put Dup n.at) (read_old (load stored volatile) old n.at (run_kid n 1 Value
    (later (Put (Bin (operator_number op) (kind_number operation)) n.at) (later (Put (store_converted stored volatile) n.at) s)))))

-- ---- what runs its kids on several ways

unfoldable pub conditional : TNodeId → Node → Way → State → State
conditional id n way s = run_kid n 0 Value (later (Branch id (branch_way n way)) s)

unfoldable pub comma : Node → Way → State → State
comma n way s = run_kid n 0 Dropped (run_kid n 1 way s)

unfoldable pub full : Node → Way → State → State
full n way s = run_kid n 0 way (later (Close Full n.at) (entered (Mark Full) n.at s))

unfoldable pub copy_assign : Node → State → State
copy_assign n s = run_kid n 0 Value (run_kid n 1 Value (later (Put Over n.at) (later (Put Swap n.at) (run_kid n 2 Copying s))))

unfoldable pub materialize : Setting → TNodeId → Node → ℕ → State → State
materialize g id n place s = put (FrameAddr (place_in g place)) n.at (run_kid n 0 Into (later (Made id)
    (later (Put (FrameAddr (place_in g place)) n.at) s)))
