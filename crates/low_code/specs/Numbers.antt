-- The numbers of kinds and operators.
use Rattle.std.specs.Prelude.{Bool, ℕ, cond}
use Rattle.cpp_tree.specs.tx_ints.declared.kinds.IntKind.{IntKind}
use Rattle.cpp_tree.specs.tx_ints.declared.kinds.IntKind.TheVariants.{Bool as BoolKind, Char, SChar, UChar, Short, UShort, Int, UInt, Long, ULong, LLong, ULLong}
use Rattle.cpp_tree.specs.tx_ints.declared.kinds.BinOp.{BinOp}
use Rattle.cpp_tree.specs.tx_ints.declared.kinds.BinOp.TheVariants.{Add, Sub, Mul, Div, Rem, Shl, Shr, And, Xor, Or, Lt, Gt, Le, Ge, Eq, Ne}
use Rattle.cpp_tree.specs.tx_events.declared.BlockKind.{BlockKind}
use Rattle.cpp_tree.specs.tx_events.declared.BlockKind.TheVariants.{NoExcept, Commit, Cancel}
use Rattle.tx_code.specs.declared.instr.Instr.{Instr}
use Rattle.tx_code.specs.declared.instr.Instr.TheVariants.{Load, Store, VLoad, VStore, Bin}
use Rattle.low_code.specs.declared.numbers.TheConstants.{ADDRESS}

abbrev pub kind_number : IntKind → ℕ
kind_number BoolKind = 0
kind_number Char = 1
kind_number SChar = 2
kind_number UChar = 3
kind_number Short = 4
kind_number UShort = 5
kind_number Int = 6
kind_number UInt = 7
kind_number Long = 8
kind_number ULong = 9
kind_number LLong = 10
kind_number ULLong = 11

abbrev pub operator_number : BinOp → ℕ
operator_number Add = 0
operator_number Sub = 1
operator_number Mul = 2
operator_number Div = 3
operator_number Rem = 4
operator_number Shl = 5
operator_number Shr = 6
operator_number And = 7
operator_number Xor = 8
operator_number Or = 9
operator_number Lt = 10
operator_number Gt = 11
operator_number Le = 12
operator_number Ge = 13
operator_number Eq = 14
operator_number Ne = 15

abbrev pub block_number : BlockKind → ℕ
block_number NoExcept = 0
block_number Commit = 1
block_number Cancel = 2

-- reads a scalar of a kind
abbrev pub load : IntKind → Bool → Instr
load kind volatile = cond volatile (VLoad (kind_number kind)) (Load (kind_number kind))

-- the kind that tells which bytes of a word a scalar of a kind is
abbrev pub bytes_kind : IntKind → IntKind
bytes_kind BoolKind = UChar
bytes_kind kind = kind

abbrev pub bytes_number : IntKind → ℕ
bytes_number kind = kind_number (bytes_kind kind)

-- writes a scalar of the kind of a number
abbrev pub store_number : ℕ → Bool → Instr
store_number number volatile = cond volatile (VStore number) (Store number)

-- writes the bytes of a word that a scalar of a kind is
abbrev pub store : IntKind → Bool → Instr
store kind volatile = store_number (bytes_number kind) volatile

-- converts a word to a kind and writes it
abbrev pub store_converted : IntKind → Bool → Instr
store_converted kind volatile = store_number (kind_number kind) volatile

-- the sum and the difference of two words as addresses
abbrev pub address_sum : Instr
address_sum = Bin 0 ADDRESS

abbrev pub address_difference : Instr
address_difference = Bin 1 ADDRESS
