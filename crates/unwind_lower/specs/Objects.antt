-- Objects: initialisers, what waits for its destruction, and destructions.
use Rattle.std.specs.Prelude.{Bool, true, false, ℕ, zero, suc, cond, nat_lt, List, [], ◌∷◌, length}
use Rattle.cpp_tree.specs.cpp_types.declared.classes.At.{At}
use Rattle.cpp_tree.specs.tx_ints.declared.kinds.IntKind.{IntKind}
use Rattle.cpp_tree.specs.declared.arena.TNodeId.{TNodeId}
use Rattle.cpp_tree.specs.declared.kinds.TKind.{TKind}
use Rattle.cpp_tree.specs.declared.kinds.TKind.TheVariants.{Local, Materialize, Destroy as DestroyRow}
use Rattle.tx_code.specs.declared.instr.Instr.{Instr}
use Rattle.tx_code.specs.declared.instr.Instr.TheVariants.{Push, Dup, Pop, Over, FrameAddr, Bin}
use Rattle.low_code.specs.declared.numbers.TheConstants.{ADDRESS}
use Rattle.low_code.specs.declared.scopes.Owner.{Owner}
use Rattle.low_code.specs.declared.scopes.Owner.TheVariants.{Block as OfBlock, Call as OfCall, Full}
use Rattle.low_code.specs.declared.scopes.Address.{Address}
use Rattle.low_code.specs.declared.scopes.Address.TheVariants.{Frame, Word, Node as OfNode}
use Rattle.low_code.specs.declared.scopes.ScopeKind.{ScopeKind}
use Rattle.low_code.specs.declared.scopes.ScopeKind.TheVariants.{Waits}
use Rattle.low_code.specs.Nodes.{Node, kid_in}
use Rattle.low_code.specs.Numbers.{load, store}
use Rattle.unwind_lower.specs.declared.items.Way.{Way}
use Rattle.unwind_lower.specs.declared.items.Way.TheVariants.{Value, Dropped, Into, Copying}
use Rattle.unwind_lower.specs.declared.items.Item.TheVariants.{Run, Put, VariableMade, MemberMade}
use Rattle.unwind_lower.specs.States.{State, later, put, put_sum, put_offset, put_less, repeated, entered_at, entered, with_temporary, here, depth_of}
use Rattle.unwind_lower.specs.Settings.{Setting, node_in, place_in}
use Rattle.unwind_lower.specs.Kids.{run_kid, kids_from}
use Rattle.unwind_lower.specs.Expressions.{operate}
use Rattle.unwind_lower.specs.Calls.{call_with, call_known}

-- ---- initialisers

-- an initialiser that does not look at what is copied drops its address
unfoldable pub without_source : Way → At → State → State
without_source Copying at s = put Pop at s
without_source Value at s = s
without_source Dropped at s = s
without_source Into at s = s

unfoldable pub store_value : Node → Instr → Way → State → State
store_value n store way s = operate n store (without_source way n.at s)

unfoldable pub copy_scalar : IntKind → Bool → At → State → State
copy_scalar kind volatile at s = put (store kind volatile) at (put (load kind volatile) at s)

unfoldable pub construct : TNodeId → Node → Way → State → State
construct id n way s = call_with id n 0 Into (without_source way n.at s)

unfoldable pub copy_construct : Setting → ℕ → At → State → State
copy_construct g func at s = call_known g func 2 at s

unfoldable pub copy_from : Node → Way → State → State
copy_from n way s = run_kid n 0 Value (run_kid n 1 Copying (without_source way n.at s))

-- ---- objects that wait

-- an object at an offset of the frame waits for the `Destroy`s of a node from a kid on
abbrev pub frame_object : Owner → ℕ → TNodeId → ℕ → ScopeKind
frame_object owner offset id first = Waits owner true (Frame offset) id first

-- a temporary or an argument object waits
unfoldable pub waits_in_full : Bool → ℕ → TNodeId → At → State → State
waits_in_full true offset id at s = entered (frame_object OfCall offset id 1) at s
waits_in_full false offset id at s = with_temporary (frame_object Full offset id 1) at s

-- it is made
unfoldable pub made : Setting → TKind → TNodeId → Node → State → State
made g (Materialize place argument) id n s = cond (nat_lt (length n.kids) 2) s (waits_in_full argument (place_in g place) id n.at s)
made g kind id n s = s

unfoldable pub init_variable : TNodeId → Node → State → State
init_variable id n s = run_kid n 1 Into (later (VariableMade id) s)

unfoldable pub init_member : TNodeId → Node → State → State
init_member id n s = later (Put Dup n.at) (run_kid n 1 Into (later (MemberMade id) s))

-- it is the address of an item of the frame
abbrev pub is_local : TKind → Bool
is_local (Local place) = true
is_local kind = false

-- the object at such an address is initialised
unfoldable pub init_at : TKind → TNodeId → Node → State → State
init_at address id n s = cond (nat_lt (length n.kids) 3) (run_kid n 1 Into s) (cond (is_local address) (init_variable id n s) (init_member id n s))

unfoldable pub init : Setting → TNodeId → Node → State → State
init g id n s = run_kid n 0 Value (init_at (node_in g (kid_in n.kids 0)).kind id n s)

-- a variable at such an address waits
unfoldable pub variable_waits : Setting → TKind → TNodeId → At → State → State
variable_waits g (Local place) id at s = entered (frame_object OfBlock (place_in g place) id 2) at s
variable_waits g address id at s = s

unfoldable pub variable_made : Setting → TNodeId → Node → State → State
variable_made g id n s = variable_waits g (node_in g (kid_in n.kids 0)).kind id n.at s

unfoldable pub member_made : TNodeId → At → State → State
member_made id at s = entered_at (Waits OfBlock false (Word 0) id 2) (depth_of s) at s

unfoldable pub defer : TNodeId → Node → State → State
defer id n s = entered (Waits OfBlock true (OfNode (kid_in n.kids 0)) id 1) n.at s

-- the address of a waiting object comes on top, at once or when the node is run
unfoldable pub put_address : Address → At → State → State
put_address (Frame offset) at s = put (FrameAddr offset) at s
put_address (Word offset) at s = put_offset offset at (put Dup at s)
put_address (OfNode id) at s = later (Run id Value) s

-- ---- destructions

-- the elements of an array, the last one first
unfoldable pub destroy_elements : Setting → ℕ → ℕ → ℕ → At → State → State
destroy_elements g func count stride at s = put Pop at (put Pop at (repeated (here (put (Push count) at s)) at (call_known g func 1 at (put_sum at
    (put (Bin 2 ADDRESS) at (put (Push stride) at (put Over at (put Over at (put_less 1 at (put (Push count) at s))))))))))

-- so many objects
unfoldable pub destroy_some : Setting → ℕ → ℕ → ℕ → At → State → State
destroy_some g func zero stride at s = put Pop at s
destroy_some g func (suc zero) stride at s = call_known g func 1 at s
destroy_some g func (suc (suc more)) stride at s = destroy_elements g func (suc (suc more)) stride at s

-- one `Destroy`, at the address on top, which is taken
unfoldable pub destroy_row : Setting → TKind → At → State → State
destroy_row g (DestroyRow func offset count stride) at s = destroy_some g func count stride at (put_offset offset at s)
destroy_row g kind at s = s

-- the address stays for the `Destroy`s that come behind
unfoldable pub keep_address : List TNodeId → At → State → State
keep_address [] at s = s
keep_address (id ∷ ids) at s = put Dup at s

unfoldable pub destroy_each : Setting → List TNodeId → State → State
destroy_each g [] s = s
destroy_each g (id ∷ ids) s = destroy_each g ids (destroy_row g (node_in g id).kind (node_in g id).at (keep_address ids (node_in g id).at s))

-- the `Destroy`s of a node, from a kid on
unfoldable pub destroy : Setting → Node → ℕ → State → State
destroy g n first s = destroy_each g (kids_from n first) s
