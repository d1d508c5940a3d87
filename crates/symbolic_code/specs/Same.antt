-- Whether two terms are the same.
use Rattle.std.specs.Prelude.{ℕ, ◌==◌, Bool, false, ◌&&◌}
use Rattle.tx_ints.specs.declared.kinds.IntKind.{IntKind}
use Rattle.tx_ints.specs.declared.kinds.IntKind.TheVariants.{Bool as BoolKind, Char, SChar, UChar, Short, UShort, Int, UInt, Long, ULong, LLong, ULLong}
use Rattle.tx_ints.specs.declared.kinds.BinOp.{BinOp}
use Rattle.tx_ints.specs.declared.kinds.BinOp.TheVariants.{Add, Sub, Mul, Div, Rem, Shl, Shr, And, Xor, Or, Lt, Gt, Le, Ge, Eq, Ne}
use Rattle.symbolic_source.specs.Terms.{Term, number, variable, local, global, function, table, slot_function, sum, product, before, low_byte, converted_to}
use Rattle.symbolic_source.specs.Terms.{result, field, Exception, unknown}

-- the places of kinds and operators in their lists
abbrev pub kind_place : IntKind → ℕ
kind_place BoolKind = 0
kind_place Char = 1
kind_place SChar = 2
kind_place UChar = 3
kind_place Short = 4
kind_place UShort = 5
kind_place Int = 6
kind_place UInt = 7
kind_place Long = 8
kind_place ULong = 9
kind_place LLong = 10
kind_place ULLong = 11

abbrev pub operator_place : BinOp → ℕ
operator_place Add = 0
operator_place Sub = 1
operator_place Mul = 2
operator_place Div = 3
operator_place Rem = 4
operator_place Shl = 5
operator_place Shr = 6
operator_place And = 7
operator_place Xor = 8
operator_place Or = 9
operator_place Lt = 10
operator_place Gt = 11
operator_place Le = 12
operator_place Ge = 13
operator_place Eq = 14
operator_place Ne = 15

abbrev pub same_number : IntKind → IntKind → Bool
same_number j k = kind_place j == kind_place k

abbrev pub same_operator : BinOp → BinOp → Bool
same_operator o q = operator_place o == operator_place q

-- exceptions that were made here are not compared
abbrev pub same_exception : Exception → Exception → Bool
same_exception (unknown m) (unknown n) = m == n
same_exception e g = false

abbrev pub same_term : Term → Term → Bool
same_term (number m) (number n) = m == n
same_term (variable m) (variable n) = m == n
same_term (local m) (local n) = m == n
same_term (global m) (global n) = m == n
same_term (function m) (function n) = m == n
same_term (table m) (table n) = m == n
same_term (slot_function c s a) (slot_function d t b) = (c == d) && (s == t) && same_term a b
same_term (sum a b) (sum c d) = same_term a c && same_term b d
same_term (product a b) (product c d) = same_term a c && same_term b d
same_term (before a) (before c) = same_term a c
same_term (low_byte a) (low_byte c) = same_term a c
same_term (converted_to j a) (converted_to k c) = same_number j k && same_term a c
same_term (result o j a b) (result q k c d) = same_operator o q && same_number j k && (same_term a c && same_term b d)
same_term (field e m n) (field g i j) = same_exception e g && (m == i) && (n == j)
same_term a b = false
