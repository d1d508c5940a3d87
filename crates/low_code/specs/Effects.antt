-- How many operands an instruction takes and leaves.
use Rattle.std.specs.Prelude.{Bool, true, false, ℕ}
use Rattle.tx_code.specs.declared.instr.Instr.{Instr}
use Rattle.tx_code.specs.declared.instr.Instr.TheVariants.{Push, Dup, Pop, Swap, FrameAddr, GlobalAddr, FuncAddr, ClassAddr, Load, Store, TLoad, TStore, VLoad}
use Rattle.tx_code.specs.declared.instr.Instr.TheVariants.{VStore, Bin, Neg, Conv, Jump, JumpZero, Call, TCall, CallIndirect, TCallIndirect, Slot, Ret}
use Rattle.tx_code.specs.declared.instr.Instr.TheVariants.{Out, Inp, Spawn, Join, Abort, PutException, Throw, Rethrow, GetException, Resume, Over}

-- how many operands an instruction takes that is no call
abbrev pub takes_of : Instr → ℕ
takes_of Dup = 1
takes_of Pop = 1
takes_of (JumpZero target) = 1
takes_of Join = 1
takes_of (PutException offset kind) = 1
takes_of Swap = 2
takes_of Over = 2
takes_of (Load kind) = 1
takes_of (TLoad kind) = 1
takes_of (VLoad kind) = 1
takes_of (Neg kind) = 1
takes_of (Conv from to) = 1
takes_of (Slot class slot) = 1
takes_of Out = 1
takes_of (Store kind) = 2
takes_of (TStore kind) = 2
takes_of (VStore kind) = 2
takes_of (Bin op kind) = 2
takes_of Spawn = 2
takes_of instr = 0

-- how many it leaves
abbrev pub leaves_of : Instr → ℕ
leaves_of (Push word) = 1
leaves_of (FrameAddr offset) = 1
leaves_of (GlobalAddr name) = 1
leaves_of (FuncAddr name) = 1
leaves_of (ClassAddr name) = 1
leaves_of Inp = 1
leaves_of (GetException offset kind) = 1
leaves_of Dup = 2
leaves_of Swap = 2
leaves_of Over = 3
leaves_of (Load kind) = 1
leaves_of (TLoad kind) = 1
leaves_of (VLoad kind) = 1
leaves_of (Neg kind) = 1
leaves_of (Conv from to) = 1
leaves_of (Slot class slot) = 1
leaves_of Out = 1
leaves_of (Bin op kind) = 1
leaves_of Spawn = 1
leaves_of instr = 0

-- no instruction follows it
abbrev pub ends : Instr → Bool
ends (Jump target) = true
ends (Ret words) = true
ends Throw = true
ends Rethrow = true
ends Resume = true
ends Abort = true
ends instr = false

-- what it is in a safe body and where an atomic block is open
abbrev pub in_transaction : Instr → Instr
in_transaction (Load kind) = TLoad kind
in_transaction (Store kind) = TStore kind
in_transaction (Call func words) = TCall func words
in_transaction (CallIndirect ty words) = TCallIndirect ty words
in_transaction instr = instr
