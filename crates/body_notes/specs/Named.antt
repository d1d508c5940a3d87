-- What the names of one instruction stand for.
use Rattle.std.specs.Prelude.{ℕ, Bool, ◌≡◌}
use Rattle.tx_code.specs.declared.instr.Instr.{Instr}
use Rattle.tx_code.specs.declared.instr.Instr.TheVariants.{GlobalAddr, FuncAddr, ClassAddr, NewException, Slot}
use Rattle.cpp_tree.specs.cpp_types.Typ.{Typ, Signature}
use Rattle.symbolic_code.specs.Following.{Table}
use Rattle.code_follows.specs.declared.names.NameTable.{NameTable}
use Rattle.code_follows.specs.Names.{table_of}

-- two tables say the same of the names of an instruction
abbrev pub AgreeAt : Table → Table → Instr → Type 0
AgreeAt t u (GlobalAddr s) = t.global_of s ≡ u.global_of s
AgreeAt t u (FuncAddr s) = t.function_of s ≡ u.function_of s
AgreeAt t u (ClassAddr s) = t.class_of s ≡ u.class_of s
AgreeAt t u (NewException ty) = t.type_of ty ≡ u.type_of ty
AgreeAt t u (Slot c slot) = t.class_of c ≡ u.class_of c
AgreeAt t u a = Unit {0}

abbrev pub IsTableAt : (types : ℕ → Typ) → NameTable → Table → Instr → Type 0
IsTableAt types t u a = (sigs : ℕ → Signature → Bool) (slots : (name class slot : ℕ) → Bool) → AgreeAt (table_of types t sigs slots) u a
