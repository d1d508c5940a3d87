-- Which instruction is written for a call.
use Rattle.std.proofs.Common.{ℕ, ◌≡◌, ◌-◌, ap, ◌∙◌, Bool, true, cond, List, [], ◌∷◌, ◌++◌, length}
use Rattle.cpp_tree.specs.cpp_types.declared.classes.At.{At}
use Rattle.cpp_tree.specs.declared.arena.TNodeId.{TNodeId}
use Rattle.cpp_tree.specs.declared.kinds.Builtin.TheVariants.{PutChar, GetChar, Spawn as SpawnThread, Abort as AbortProgram}
use Rattle.cpp_tree.specs.declared.kinds.TKind.{TKind}
use Rattle.cpp_tree.specs.declared.kinds.TKind.TheVariants.{Call as CallOf, Construct, VirtualCall, PointerCall, Builtin as BuiltinCall}
use Rattle.tx_code.specs.declared.instr.Instr.{Instr}
use Rattle.tx_code.specs.declared.instr.Instr.TheVariants.{Call, CallIndirect, Out, Inp, Spawn, Abort}
use Rattle.low_code.specs.declared.writer.LowInstr.{LowInstr}
use Rattle.low_code.specs.Writer.{innermost}
use Rattle.unwind_lower.specs.declared.items.Way.{Way}
use Rattle.unwind_lower.specs.declared.items.Item.TheVariants.{Invoke}
use Rattle.unwind_lower.specs.Settings.{Setting, node_in, callee_in, text_of, function_text}
use Rattle.unwind_lower.specs.States.{State, named, number_of, put, put_call, is_live}
use Rattle.unwind_lower.specs.Calls.{operand, invoke, call_known, call_found, call_virtual, call_signature, call_pointed, called_by, built_in}
use Rattle.unwind_lower.specs.Steps.{written}

-- the code with one instruction more
abbrev pub with_instr : State → Instr → At → List LowInstr
with_instr s instr at = s.body.code ++ record { instr = instr; at = at; scope = (innermost s.body).rows } ∷ []

module _ (g : Setting) (id : TNodeId) (way : Way) (s : State) (live : is_live s ≡ true) where
  -- where the next index can be reached, it is written
  is_written : (code : List LowInstr) → cond (is_live s) code s.body.code ≡ code
  is_written code = ap (λ (z : Bool). cond z code s.body.code) live

  abbrev invoked : TKind → List LowInstr
  invoked kind = (invoke g kind (node_in g id) way s).body.code

  -- the words of the call
  abbrev pub count : ℕ
  count = operand (length (node_in g id).kids) way

  module _ (func : ℕ) where
    abbrev pub known_call : Instr
    known_call = Call (number_of (callee_in g func).symbol s) count

    pub call_written : (node_in g id).kind ≡ CallOf func → (written g (Invoke id way) s).body.code ≡ with_instr s known_call (node_in g id).at
    unfolding written invoke call_known put_call named is_live
    call_written is = ap (λ (z : TKind). invoked z) is ∙ is_written (with_instr s known_call (node_in g id).at)

    pub construct_written : (node_in g id).kind ≡ Construct func → (written g (Invoke id way) s).body.code ≡ with_instr s known_call (node_in g id).at
    unfolding written invoke call_known put_call named is_live
    construct_written is = ap (λ (z : TKind). invoked z) is ∙ is_written (with_instr s known_call (node_in g id).at)

    abbrev pub virtual_call : Instr
    virtual_call = CallIndirect (number_of (text_of g (callee_in g func)) s) count

    pub virtual_written : (class slot offset : ℕ) → (node_in g id).kind ≡ VirtualCall func class slot offset
        → (written g (Invoke id way) s).body.code ≡ with_instr s virtual_call (node_in g id).at
    unfolding written invoke call_virtual call_found put_call named is_live
    virtual_written class slot offset is = ap (λ (z : TKind). invoked z) is ∙ is_written (with_instr s virtual_call (node_in g id).at)

  abbrev pub pointed_call : Instr
  pointed_call = CallIndirect (number_of (function_text g (called_by g (node_in g id))) s) (count - 1)

  pub pointer_written : (node_in g id).kind ≡ PointerCall → (written g (Invoke id way) s).body.code ≡ with_instr s pointed_call (node_in g id).at
  unfolding written invoke call_pointed call_signature call_found put_call named is_live
  pointer_written is = ap (λ (z : TKind). invoked z) is ∙ is_written (with_instr s pointed_call (node_in g id).at)

  pub output_written : (node_in g id).kind ≡ BuiltinCall PutChar → (written g (Invoke id way) s).body.code ≡ with_instr s Out (node_in g id).at
  unfolding written invoke built_in put is_live
  output_written is = ap (λ (z : TKind). invoked z) is ∙ is_written (with_instr s Out (node_in g id).at)

  pub input_written : (node_in g id).kind ≡ BuiltinCall GetChar → (written g (Invoke id way) s).body.code ≡ with_instr s Inp (node_in g id).at
  unfolding written invoke built_in put is_live
  input_written is = ap (λ (z : TKind). invoked z) is ∙ is_written (with_instr s Inp (node_in g id).at)

  pub spawn_written : (node_in g id).kind ≡ BuiltinCall SpawnThread → (written g (Invoke id way) s).body.code ≡ with_instr s Spawn (node_in g id).at
  unfolding written invoke built_in put is_live
  spawn_written is = ap (λ (z : TKind). invoked z) is ∙ is_written (with_instr s Spawn (node_in g id).at)

  pub abort_written : (node_in g id).kind ≡ BuiltinCall AbortProgram → (written g (Invoke id way) s).body.code ≡ with_instr s Abort (node_in g id).at
  unfolding written invoke built_in put is_live
  abort_written is = ap (λ (z : TKind). invoked z) is ∙ is_written (with_instr s Abort (node_in g id).at)
