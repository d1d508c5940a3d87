-- Frames that mind nothing that goes outward.
use Rattle.std.proofs.Common.{ℕ, ◌≡◌, List, ◌∷◌, refl}
use Rattle.cpp_tree.specs.cpp_types.Typ.{Typ}
use Rattle.cpp_tree.specs.declared.program.Program.{Program}
use Rattle.src_mean.specs.Linked.{Func}
use Rattle.symbolic_source.specs.Frames as frames
use Rattle.symbolic_source.specs.Steps.{left}
use Rattle.symbolic_terms.specs.declared.frames.ValueFrame.{ValueFrame}
use Rattle.symbolic_terms.specs.declared.frames.ValueFrame.TheVariants.{Loads, Loaded, Replied, StoreTo, Converts, Right, Apply, Choose, AssignTo, UpdateAt, UpdateOld, UpdateBy, CopyTo, CopyBy, From}
use Rattle.symbolic_terms.specs.declared.frames.CallFrame.{CallFrame}
use Rattle.symbolic_terms.specs.declared.frames.CallFrame.TheVariants.{Words, Object, Slot, Pointer, Passes}
use Rattle.symbolic_terms.specs.Meanings.{Meaning}
use Rattle.symbolic_terms.specs.Shown.{value_of, call_of}

pub skip_value : (types : ℕ → Typ) (m : Meaning) (p : Program) (g : ValueFrame) (ws : List frames.Waiting) (x : frames.Exit) (k : List frames.Frame) → left ws x (value_of types m p g ∷ k) ≡ left ws x k
skip_value types m p (Loads kind volatile) ws x k = refl
skip_value types m p (Loaded kind) ws x k = refl
skip_value types m p Replied ws x k = refl
skip_value types m p (StoreTo address kind volatile answer) ws x k = refl
skip_value types m p (Converts kind) ws x k = refl
skip_value types m p (Right op kind t) ws x k = refl
skip_value types m p (Apply op kind left) ws x k = refl
skip_value types m p (Choose way chosen other) ws x k = refl
skip_value types m p (AssignTo kind volatile t) ws x k = refl
skip_value types m p (UpdateAt c t) ws x k = refl
skip_value types m p (UpdateOld c address t) ws x k = refl
skip_value types m p (UpdateBy c address old) ws x k = refl
skip_value types m p (CopyTo source init) ws x k = refl
skip_value types m p (CopyBy target init) ws x k = refl
skip_value types m p (From target init) ws x k = refl

pub skip_call : (types : ℕ → Typ) (m : Meaning) (p : Program) (f : Func) (g : CallFrame) (ws : List frames.Waiting) (x : frames.Exit) (k : List frames.Frame) → left ws x (call_of types m p f g ∷ k) ≡ left ws x k
skip_call types m p f (Words callee before rest) ws x k = refl
skip_call types m p f (Object before class slot pointer rest) ws x k = refl
skip_call types m p f (Slot before class slot rest) ws x k = refl
skip_call types m p f (Pointer before t rest) ws x k = refl
skip_call types m p f (Passes words from) ws x k = refl
