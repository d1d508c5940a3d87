-- Integer literals, and what conversions and operators make of them, by the same definitions as in a run.
use Rattle.std.specs.Prelude.{ℕ, ℤ, Bool, true, false, ◌&&◌, Option, Some, None, option_map, Result, Ok, Err, cond}
use Rattle.tx_ints.specs.declared.kinds.IntKind.{IntKind}
use Rattle.tx_ints.specs.declared.kinds.BinOp.{BinOp}
use Rattle.tx_ints.specs.declared.kinds.ArithTrap.{ArithTrap}
use Rattle.tx_ints.specs.Words.{word_of}
use Rattle.cpp_tree.specs.cpp_types.Typ.{Typ, typ, int}
use Rattle.cpp_tree.specs.cpp_types.declared.ranks.Cat.{Cat}
use Rattle.cpp_tree.specs.declared.kinds.TKind.{TKind}
use Rattle.cpp_tree.specs.declared.kinds.TKind.TheVariants.{Literal, Convert, Binary, Comma}
use Rattle.cpp_tree.specs.Trees.{Tree, node, Trees, none, more}
use Rattle.cpp_tree.specs.Typing.{is_prvalue}
use Rattle.src_mean.specs.Source.{converted, applied}
use Rattle.tree_fold.specs.declared.words.Operands.{Operands}

-- Literals

-- no enum, and no pointer
abbrev pub is_integer : Typ → Bool
is_integer (typ (int kind) c v) = true
is_integer t = false

abbrev pub is_none : Trees → Bool
is_none none = true
is_none (more t ts) = false

-- the word of a literal, where the test says that it is one of an integer type
abbrev pub literal_word : TKind → Bool → Option ℕ
literal_word (Literal w) test = cond test (Some w) None
literal_word kind test = None

abbrev pub integer_word : Tree → Option ℕ
integer_word (node kind t cat at kids) = literal_word kind (is_integer t && is_none kids)

-- Operands

-- the word of an only operand, and the words of two, where they are integer literals
abbrev pub one_word : Trees → Option ℕ
one_word (more t none) = integer_word t
one_word ts = None

abbrev pub both_words : Option ℕ → Option ℕ → Option Operands
both_words None right = None
both_words (Some left) None = None
both_words (Some left) (Some right) = Some (record { left = left; right = right })

abbrev pub two_words : Trees → Option Operands
two_words (more t (more u none)) = both_words (integer_word t) (integer_word u)
two_words ts = None

-- Values

-- that of an operator, where it does not trap
abbrev pub value_word : Result ℤ ArithTrap → Option ℕ
value_word (Ok z) = Some (word_of z)
value_word (Err trap) = None

abbrev pub operator_word : BinOp → IntKind → Option Operands → Option ℕ
operator_word op kind None = None
operator_word op kind (Some o) = value_word (applied op kind o.left o.right)

abbrev pub comma_word : Option Operands → Option ℕ
comma_word None = None
comma_word (Some o) = Some o.right

-- nodes of other types are not folded
abbrev pub of_integer : Typ → Cat → Option ℕ → Option ℕ
of_integer t cat word = cond (is_integer t && is_prvalue cat) word None

-- the value of a conversion, an operator or a comma whose operands are integer literals (C++14 4.7, 4.12, 5.6 to 5.13, 5.18)
abbrev pub constant : TKind → Typ → Cat → Trees → Option ℕ
constant (Convert to) t cat kids = of_integer t cat (option_map (converted to) (one_word kids))
constant (Binary op kind) t cat kids = of_integer t cat (operator_word op kind (two_words kids))
constant Comma t cat kids = of_integer t cat (comma_word (two_words kids))
constant kind t cat kids = None
