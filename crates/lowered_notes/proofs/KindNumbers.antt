-- The numbers of kinds and operators find them.
use Rattle.std.proofs.Common.{ℕ, ◌≡◌, refl, Bool, true, false, Some, ◌==◌, ◌&&◌, arith}
use Rattle.std.specs.Prelude.{slice_get, nat_le}
use Rattle.tx_ints.specs.declared.kinds.IntKind.{IntKind}
use Rattle.tx_ints.specs.declared.kinds.IntKind.TheVariants.{Bool as BoolKind, Char, SChar, UChar, Short, UShort, Int, UInt, Long, ULong, LLong, ULLong}
use Rattle.tx_ints.specs.declared.kinds.BinOp.{BinOp}
use Rattle.tx_ints.specs.declared.kinds.BinOp.TheVariants.{Add, Sub, Mul, Div, Rem, Shl, Shr, And, Xor, Or, Lt, Gt, Le, Ge, Eq, Ne}
use Rattle.tx_code.specs.Meaning.{kinds, operators, size_of}
use Rattle.cpp_tree.specs.cpp_layout.Layout.{kind_size}
use Rattle.symbolic_source.specs.Terms.{variable}
use Rattle.symbolic_code.specs.Same.{same_number, same_operator}
use Rattle.symbolic_code.specs.Following.{same_flag, stored_term}
use Rattle.low_code.specs.Numbers.{kind_number, operator_number, bytes_kind}

pub kind_found : (k : IntKind) → slice_get kinds (kind_number k) ≡ Some k
kind_found BoolKind = refl
kind_found Char = refl
kind_found SChar = refl
kind_found UChar = refl
kind_found Short = refl
kind_found UShort = refl
kind_found Int = refl
kind_found UInt = refl
kind_found Long = refl
kind_found ULong = refl
kind_found LLong = refl
kind_found ULLong = refl

pub operator_found : (op : BinOp) → slice_get operators (operator_number op) ≡ Some op
operator_found Add = refl
operator_found Sub = refl
operator_found Mul = refl
operator_found Div = refl
operator_found Rem = refl
operator_found Shl = refl
operator_found Shr = refl
operator_found And = refl
operator_found Xor = refl
operator_found Or = refl
operator_found Lt = refl
operator_found Gt = refl
operator_found Le = refl
operator_found Ge = refl
operator_found Eq = refl
operator_found Ne = refl

pub same_sizes : (k : IntKind) → (kind_size k == size_of k) ≡ true
same_sizes BoolKind = refl
same_sizes Char = refl
same_sizes SChar = refl
same_sizes UChar = refl
same_sizes Short = refl
same_sizes UShort = refl
same_sizes Int = refl
same_sizes UInt = refl
same_sizes Long = refl
same_sizes ULong = refl
same_sizes LLong = refl
same_sizes ULLong = refl

pub small_sizes : (k : IntKind) → nat_le (kind_size k) 8 ≡ true
small_sizes BoolKind = refl
small_sizes Char = refl
small_sizes SChar = refl
small_sizes UChar = refl
small_sizes Short = refl
small_sizes UShort = refl
small_sizes Int = refl
small_sizes UInt = refl
small_sizes Long = refl
small_sizes ULong = refl
small_sizes LLong = refl
small_sizes ULLong = refl

pub one_number : (k : IntKind) → same_number k k ≡ true
one_number BoolKind = refl
one_number Char = refl
one_number SChar = refl
one_number UChar = refl
one_number Short = refl
one_number UShort = refl
one_number Int = refl
one_number UInt = refl
one_number Long = refl
one_number ULong = refl
one_number LLong = refl
one_number ULLong = refl

pub one_operator : (op : BinOp) → same_operator op op ≡ true
one_operator Add = refl
one_operator Sub = refl
one_operator Mul = refl
one_operator Div = refl
one_operator Rem = refl
one_operator Shl = refl
one_operator Shr = refl
one_operator And = refl
one_operator Xor = refl
one_operator Or = refl
one_operator Lt = refl
one_operator Gt = refl
one_operator Le = refl
one_operator Ge = refl
one_operator Eq = refl
one_operator Ne = refl

pub bytes_sizes : (k : IntKind) → (kind_size (bytes_kind k) == kind_size k) ≡ true
bytes_sizes BoolKind = refl
bytes_sizes Char = refl
bytes_sizes SChar = refl
bytes_sizes UChar = refl
bytes_sizes Short = refl
bytes_sizes UShort = refl
bytes_sizes Int = refl
bytes_sizes UInt = refl
bytes_sizes Long = refl
bytes_sizes ULong = refl
bytes_sizes LLong = refl
bytes_sizes ULLong = refl

pub bytes_stored : (k : IntKind) (n : ℕ) → stored_term (bytes_kind k) (variable n) ≡ variable n
bytes_stored BoolKind n = refl
bytes_stored Char n = refl
bytes_stored SChar n = refl
bytes_stored UChar n = refl
bytes_stored Short n = refl
bytes_stored UShort n = refl
bytes_stored Int n = refl
bytes_stored UInt n = refl
bytes_stored Long n = refl
bytes_stored ULong n = refl
bytes_stored LLong n = refl
bytes_stored ULLong n = refl

pub one_flag : (v : Bool) → same_flag v v ≡ true
one_flag true = refl
one_flag false = refl

pub both : (a b : Bool) → a ≡ true → b ≡ true → (a && b) ≡ true
both true true c d = refl
both true false c d = d
both false b c d = c

pub same_itself : (n : ℕ) → (n == n) ≡ true
same_itself n = grind arith
