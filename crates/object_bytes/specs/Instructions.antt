-- Reading an instruction: its op byte, and the operands that the op byte asks for.
use Rattle.std.specs.Prelude.{ℕ, List, [], ◌∷◌, Option, Some, None, is_some, slice_get}
use Rattle.tx_code.specs.declared.instr.Instr.{Instr}
use Rattle.tx_code.specs.declared.instr.Instr.TheVariants as instrs
use Rattle.tx_code.specs.WellFormed.{is_name}
use Rattle.object_bytes.specs.declared.op.Op.{Op}
use Rattle.object_bytes.specs.declared.op.Op.TheVariants.{Push, Dup, Pop, Swap, FrameAddr, GlobalAddr, FuncAddr, ClassAddr, Load, Store, TLoad, TStore, VLoad}
use Rattle.object_bytes.specs.declared.op.Op.TheVariants.{VStore, Bin, Neg, Conv, Jump, JumpZero, Call, TCall, CallIndirect, TCallIndirect, Slot, Ret, Begin}
use Rattle.object_bytes.specs.declared.op.Op.TheVariants.{End, BeginSync, EndSync, Out, Inp, Spawn, Join, Abort, NewException, PutException, Throw, Rethrow}
use Rattle.object_bytes.specs.declared.op.Op.TheVariants.{GetException, EndHandler, Resume, Over}
use Rattle.object_bytes.specs.Decoder.{Decoder, done, fail, ◌>>=◌, such_that, u8, u32, u64}

-- the number of a name, where there are n
abbrev pub name : (n : ℕ) → Decoder ℕ
name n = such_that u32 (is_name n)

-- in the order of their op bytes
abbrev pub ops : List Op
ops = Push ∷ Dup ∷ Pop ∷ Swap ∷ FrameAddr ∷ GlobalAddr ∷ FuncAddr ∷ ClassAddr ∷ Load ∷ Store ∷ TLoad ∷ TStore ∷ VLoad ∷ VStore ∷ Bin ∷ Neg ∷ Conv ∷ Jump
    ∷ JumpZero ∷ Call ∷ TCall ∷ CallIndirect ∷ TCallIndirect ∷ Slot ∷ Ret ∷ Begin ∷ End ∷ BeginSync ∷ EndSync ∷ Out ∷ Inp ∷ Spawn ∷ Join ∷ Abort ∷ NewException
    ∷ PutException ∷ Throw ∷ Rethrow ∷ GetException ∷ EndHandler ∷ Resume ∷ Over ∷ []

-- the operands of an instruction
unfoldable pub operands : (n : ℕ) → Op → Decoder Instr
operands n Push = u64 >>= λ v. done (instrs.Push v)
operands n Dup = done instrs.Dup
operands n Pop = done instrs.Pop
operands n Swap = done instrs.Swap
operands n FrameAddr = u32 >>= λ at. done (instrs.FrameAddr at)
operands n GlobalAddr = name n >>= λ s. done (instrs.GlobalAddr s)
operands n FuncAddr = name n >>= λ s. done (instrs.FuncAddr s)
operands n ClassAddr = name n >>= λ s. done (instrs.ClassAddr s)
operands n Load = u8 >>= λ k. done (instrs.Load k)
operands n Store = u8 >>= λ k. done (instrs.Store k)
operands n TLoad = u8 >>= λ k. done (instrs.TLoad k)
operands n TStore = u8 >>= λ k. done (instrs.TStore k)
operands n VLoad = u8 >>= λ k. done (instrs.VLoad k)
operands n VStore = u8 >>= λ k. done (instrs.VStore k)
operands n Bin = u8 >>= λ operator. u8 >>= λ k. done (instrs.Bin operator k)
operands n Neg = u8 >>= λ k. done (instrs.Neg k)
operands n Conv = u8 >>= λ k. u8 >>= λ to. done (instrs.Conv k to)
operands n Jump = u32 >>= λ at. done (instrs.Jump at)
operands n JumpZero = u32 >>= λ at. done (instrs.JumpZero at)
operands n Call = name n >>= λ s. u8 >>= λ words. done (instrs.Call s words)
operands n TCall = name n >>= λ s. u8 >>= λ words. done (instrs.TCall s words)
operands n CallIndirect = name n >>= λ ty. u8 >>= λ words. done (instrs.CallIndirect ty words)
operands n TCallIndirect = name n >>= λ ty. u8 >>= λ words. done (instrs.TCallIndirect ty words)
operands n Slot = name n >>= λ c. u32 >>= λ at. done (instrs.Slot c at)
operands n Ret = u8 >>= λ words. done (instrs.Ret words)
operands n Begin = u8 >>= λ kind. done (instrs.Begin kind)
operands n End = done instrs.End
operands n BeginSync = done instrs.BeginSync
operands n EndSync = done instrs.EndSync
operands n Out = done instrs.Out
operands n Inp = done instrs.Inp
operands n Spawn = done instrs.Spawn
operands n Join = done instrs.Join
operands n Abort = done instrs.Abort
operands n NewException = name n >>= λ ty. done (instrs.NewException ty)
operands n PutException = u8 >>= λ at. u8 >>= λ k. done (instrs.PutException at k)
operands n Throw = done instrs.Throw
operands n Rethrow = done instrs.Rethrow
operands n GetException = u8 >>= λ at. u8 >>= λ k. done (instrs.GetException at k)
operands n EndHandler = done instrs.EndHandler
operands n Resume = done instrs.Resume
operands n Over = done instrs.Over

abbrev pub op_or_fail : Option Op → Decoder Op
op_or_fail (Some op) = done op
op_or_fail None = fail

unfoldable pub op : Decoder Op
op = such_that u8 (λ b. is_some (slice_get ops b)) >>= λ b. op_or_fail (slice_get ops b)

unfoldable pub instr : (n : ℕ) → Decoder Instr
instr n = op >>= operands n
