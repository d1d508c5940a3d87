-- Objects.
use Rattle.std.proofs.Common.{Bool, List, [], false, length, nat_lt, refl, suc, true, zero, ℕ, ◌∷◌}
use Rattle.cpp_tree.specs.cpp_types.declared.classes.At.{At}
use Rattle.cpp_tree.specs.declared.arena.TNodeId.{TNodeId}
use Rattle.cpp_tree.specs.declared.kinds.TKind.TheVariants.{Destroy as DestroyRow, Local, Materialize}
use Rattle.cpp_tree.specs.declared.kinds.TKind.{TKind}
use Rattle.cpp_tree.specs.tx_ints.declared.kinds.IntKind.{IntKind}
use Rattle.tx_code.specs.declared.instr.Instr.TheVariants.{Bin, Dup, FrameAddr, Over, Pop, Push}
use Rattle.tx_code.specs.declared.instr.Instr.{Instr}
use Rattle.low_code.specs.Nodes.{Node, kid_in}
use Rattle.low_code.specs.Numbers.{load, store}
use Rattle.low_code.specs.declared.numbers.TheConstants.{ADDRESS}
use Rattle.low_code.specs.declared.scopes.Address.TheVariants.{Frame, Node as OfNode, Word}
use Rattle.low_code.specs.declared.scopes.Address.{Address}
use Rattle.low_code.specs.declared.scopes.Owner.TheVariants.{Block as OfBlock, Call as OfCall, Full}
use Rattle.low_code.specs.declared.scopes.ScopeKind.TheVariants.{Waits}
use Rattle.unwind_lower.specs.Kids.{kids_from}
use Rattle.unwind_lower.specs.Objects as objects
use Rattle.unwind_lower.specs.Objects.{frame_object, is_local}
use Rattle.unwind_lower.specs.Settings.{Setting, node_in, place_in}
use Rattle.unwind_lower.specs.States as states
use Rattle.unwind_lower.specs.States.{State, depth_of, here}
use Rattle.unwind_lower.specs.declared.items.Item.TheVariants.{MemberMade, Put, VariableMade}
use Rattle.unwind_lower.specs.declared.items.Way.TheVariants.{Copying, Dropped, Into, Value}
use Rattle.unwind_lower.specs.declared.items.Way.{Way}
use Rattle.lowered_apart.specs.Still.{Nodes}
use Rattle.lowered_apart.specs.Waiting.{AllRun, IsFound, Waiting}
use Rattle.lowered_apart.proofs.Basic.{either, entered, entered_at, more, put, put_less, put_offset, put_sum, repeated, run_next, with_temporary}
use Rattle.lowered_apart.proofs.Kids.{run_kid}
use Rattle.lowered_apart.proofs.Expressions.{operate}
use Rattle.lowered_apart.proofs.Calls.{call_known, call_with}

module _ {z : Nodes} where
  pub without_source : (way : Way) (at : At) {free : Bool} {s : State} → Waiting z free s → Waiting z free (objects.without_source way at s)
  unfolding objects.without_source
  without_source Copying at m = put Pop at m
  without_source Value at m = m
  without_source Dropped at m = m
  without_source Into at m = m

  pub store_value : (n : Node) (store : Instr) (way : Way) {free : Bool} {s : State} → AllRun z free n.kids → Waiting z free s → Waiting z free (objects.store_value n store way s)
  unfolding objects.store_value
  store_value n store way k m = operate n store k (without_source way n.at m)

  pub copy_scalar : (kind : IntKind) (volatile : Bool) (at : At) {free : Bool} {s : State} → Waiting z free s → Waiting z free (objects.copy_scalar kind volatile at s)
  unfolding objects.copy_scalar
  copy_scalar kind volatile at m = put (store kind volatile) at (put (load kind volatile) at m)

  pub construct : (id : TNodeId) (n : Node) (way : Way) {free : Bool} {s : State} → AllRun z free n.kids → Waiting z free s → Waiting z free (objects.construct id n way s)
  unfolding objects.construct
  construct id n way k m = call_with id n 0 Into k (without_source way n.at m)

  pub copy_construct : (g : Setting) (func : ℕ) (at : At) {free : Bool} {s : State} → Waiting z free s → Waiting z free (objects.copy_construct g func at s)
  unfolding objects.copy_construct
  copy_construct g func at m = call_known g func 2 at m

  pub copy_from : (n : Node) (way : Way) {free : Bool} {s : State} → AllRun z free n.kids → Waiting z free s → Waiting z free (objects.copy_from n way s)
  unfolding objects.copy_from
  copy_from n way k m = run_kid n 0 Value k (run_kid n 1 Copying k (without_source way n.at m))

  pub waits_in_full : (b : Bool) (offset : ℕ) (id : TNodeId) (at : At) {free : Bool} {s : State} → Waiting z free s
      → Waiting z free (objects.waits_in_full b offset id at s)
  unfolding objects.waits_in_full
  waits_in_full true offset id at m = entered (frame_object OfCall offset id 1) at tt m
  waits_in_full false offset id at m = with_temporary (frame_object Full offset id 1) at tt m

  pub made : (g : Setting) (kind : TKind) (id : TNodeId) (n : Node) {free : Bool} {s : State} → Waiting z free s → Waiting z free (objects.made g kind id n s)
  unfolding objects.made
  made g (Materialize place argument) id n m = either (nat_lt (length n.kids) 2) m (waits_in_full argument (place_in g place) id n.at m)
  made g kind id n m = m

  pub init_variable : (id : TNodeId) (n : Node) {free : Bool} {s : State} → AllRun z free n.kids → Waiting z free s → Waiting z free (objects.init_variable id n s)
  unfolding objects.init_variable
  init_variable id n k m = run_kid n 1 Into k (more (VariableMade id) tt refl m)

  pub init_member : (id : TNodeId) (n : Node) {free : Bool} {s : State} → AllRun z free n.kids → Waiting z free s → Waiting z free (objects.init_member id n s)
  unfolding objects.init_member
  init_member id n k m = more (Put Dup n.at) tt refl (run_kid n 1 Into k (more (MemberMade id) tt refl m))

  pub init_at : (address : TKind) (id : TNodeId) (n : Node) {free : Bool} {s : State} → AllRun z free n.kids → Waiting z free s → Waiting z free (objects.init_at address id n s)
  unfolding objects.init_at
  init_at address id n k m = either (nat_lt (length n.kids) 3) (run_kid n 1 Into k m) (either (is_local address) (init_variable id n k m) (init_member id n k m))

  pub init : (g : Setting) (id : TNodeId) (n : Node) {free : Bool} {s : State} → AllRun z free n.kids → Waiting z free s → Waiting z free (objects.init g id n s)
  unfolding objects.init
  init g id n k m = run_kid n 0 Value k (init_at (node_in g (kid_in n.kids 0)).kind id n k m)

  pub variable_waits : (g : Setting) (address : TKind) (id : TNodeId) (at : At) {free : Bool} {s : State} → Waiting z free s
      → Waiting z free (objects.variable_waits g address id at s)
  unfolding objects.variable_waits
  variable_waits g (Local place) id at m = entered (frame_object OfBlock (place_in g place) id 2) at tt m
  variable_waits g address id at m = m

  pub variable_made : (g : Setting) (id : TNodeId) (n : Node) {free : Bool} {s : State} → Waiting z free s → Waiting z free (objects.variable_made g id n s)
  unfolding objects.variable_made
  variable_made g id n m = variable_waits g (node_in g (kid_in n.kids 0)).kind id n.at m

  pub member_made : (id : TNodeId) (at : At) {free : Bool} {s : State} → Waiting z free s → Waiting z free (objects.member_made id at s)
  unfolding objects.member_made
  member_made id at {s} m = entered_at (Waits OfBlock false (Word 0) id 2) (depth_of s) at tt m

  pub defer : (id : TNodeId) (n : Node) {free : Bool} {s : State} → AllRun z false n.kids → Waiting z free s → Waiting z free (objects.defer id n s)
  unfolding objects.defer
  defer id n k m = entered (Waits OfBlock true (OfNode (kid_in n.kids 0)) id 1) n.at (k 0) m

  pub put_address : (address : Address) (at : At) {s : State} → IsFound z address → Waiting z false s → Waiting z false (objects.put_address address at s)
  unfolding objects.put_address
  put_address (Frame offset) at k m = put (FrameAddr offset) at m
  put_address (Word offset) at k m = put_offset offset at (put Dup at m)
  put_address (OfNode id) at k m = run_next id Value k m

  pub destroy_elements : (g : Setting) (func : ℕ) (count : ℕ) (stride : ℕ) (at : At) {free : Bool} {s : State} → Waiting z free s
      → Waiting z free (objects.destroy_elements g func count stride at s)
  unfolding objects.destroy_elements
  destroy_elements g func count stride at {s} m = put Pop at (put Pop at (repeated (here (states.put (Push count) at s)) at (call_known g func 1 at
      (put_sum at (put (Bin 2 ADDRESS) at (put (Push stride) at (put Over at (put Over at (put_less 1 at (put (Push count) at m))))))))))

  pub destroy_some : (g : Setting) (func : ℕ) (n : ℕ) (stride : ℕ) (at : At) {free : Bool} {s : State} → Waiting z free s
      → Waiting z free (objects.destroy_some g func n stride at s)
  unfolding objects.destroy_some
  destroy_some g func zero stride at m = put Pop at m
  destroy_some g func (suc zero) stride at m = call_known g func 1 at m
  destroy_some g func (suc (suc more)) stride at m = destroy_elements g func (suc (suc more)) stride at m

  pub destroy_row : (g : Setting) (kind : TKind) (at : At) {free : Bool} {s : State} → Waiting z free s → Waiting z free (objects.destroy_row g kind at s)
  unfolding objects.destroy_row
  destroy_row g (DestroyRow func offset count stride) at m = destroy_some g func count stride at (put_offset offset at m)
  destroy_row g kind at m = m

  pub keep_address : (ids : List TNodeId) (at : At) {free : Bool} {s : State} → Waiting z free s → Waiting z free (objects.keep_address ids at s)
  unfolding objects.keep_address
  keep_address [] at m = m
  keep_address (id ∷ ids) at m = put Dup at m

  pub destroy_each : (g : Setting) (ids : List TNodeId) {free : Bool} {s : State} → Waiting z free s → Waiting z free (objects.destroy_each g ids s)
  unfolding objects.destroy_each
  destroy_each g [] m = m
  destroy_each g (id ∷ ids) m = destroy_each g ids (destroy_row g (node_in g id).kind (node_in g id).at (keep_address ids (node_in g id).at m))

  pub destroy : (g : Setting) (n : Node) (first : ℕ) {free : Bool} {s : State} → Waiting z free s → Waiting z free (objects.destroy g n first s)
  unfolding objects.destroy
  destroy g n first m = destroy_each g (kids_from n first) m
