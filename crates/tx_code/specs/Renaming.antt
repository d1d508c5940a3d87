-- Names by other numbers.
use Rattle.std.specs.Prelude.{ℕ, map, nat_eq, if◌then◌else◌}
use Rattle.tx_code.specs.declared.instr.Instr.{Instr}
use Rattle.tx_code.specs.declared.instr.Instr.TheVariants.{GlobalAddr, FuncAddr, ClassAddr, Call, TCall, CallIndirect, TCallIndirect, Slot, NewException}
use Rattle.tx_code.specs.declared.body.Row.{Row}
use Rattle.tx_code.specs.Objects.{BodyView}

-- the number that a name of each sort stands for
pub record Numbering : Type 0 where
  pub global : ℕ → ℕ
  pub func : ℕ → ℕ
  pub class : ℕ → ℕ
  pub ty : ℕ → ℕ

-- each number stands for itself
abbrev pub itself : Numbering
itself = record { global = λ n. n; func = λ n. n; class = λ n. n; ty = λ n. n }

abbrev pub renamed : Numbering → Instr → Instr
renamed x (GlobalAddr s) = GlobalAddr (x.global s)
renamed x (FuncAddr s) = FuncAddr (x.func s)
renamed x (ClassAddr s) = ClassAddr (x.class s)
renamed x (Call s n) = Call (x.func s) n
renamed x (TCall s n) = TCall (x.func s) n
renamed x (CallIndirect ty n) = CallIndirect (x.ty ty) n
renamed x (TCallIndirect ty n) = TCallIndirect (x.ty ty) n
renamed x (Slot c n) = Slot (x.class c) n
renamed x (NewException ty) = NewException (x.ty ty)
renamed x i = i

-- a row names a type where it handles one
abbrev pub renamed_row : Numbering → Row → Row
renamed_row x r = record { from = r.from; to = r.to; target = r.target; what = r.what; ty = if nat_eq r.what 1 then x.ty r.ty else r.ty; depth = r.depth }

abbrev pub renamed_body : Numbering → BodyView → BodyView
renamed_body x b = record { code = map (renamed x) b.code; rows = map (renamed_row x) b.rows; lines = b.lines }
