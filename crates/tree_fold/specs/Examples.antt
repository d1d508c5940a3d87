-- Trees that are folded, and the nearest that are not, in C++ beside each.
use Rattle.std.specs.Prelude.{ℕ, true, false, [], ◌∷◌}
use Rattle.tx_ints.specs.declared.kinds.IntKind.{IntKind}
use Rattle.tx_ints.specs.declared.kinds.IntKind.TheVariants.{Bool as BoolKind, Int}
use Rattle.tx_ints.specs.declared.kinds.BinOp.{BinOp}
use Rattle.tx_ints.specs.declared.kinds.BinOp.TheVariants.{Div}
use Rattle.cpp_tree.specs.cpp_types.Typ.{Typ, int, ptr, enum}
use Rattle.cpp_tree.specs.declared.kinds.TKind.TheVariants.{Literal, Local, Global, Load, Convert, Binary, Conditional, Comma, Call, Throw}
use Rattle.cpp_tree.specs.Trees.{Tree}
use Rattle.cpp_tree.specs.Notation.{plain, prvalue, lvalue}
use Rattle.tree_fold.specs.Folding.{folded}

-- no class has a volatile part
abbrev pub fold : Tree → Tree
fold t = folded (λ (n : ℕ). false) t

abbrev pub number : IntKind → ℕ → Tree
number k w = prvalue (Literal w) (plain (int k)) []

-- an operator on two integers of a kind
abbrev pub operated : BinOp → IntKind → Tree → Tree → Tree
operated op k a b = prvalue (Binary op k) (plain (int k)) (a ∷ b ∷ [])

abbrev pub converted : IntKind → Tree → Tree
converted k t = prvalue (Convert k) (plain (int k)) (t ∷ [])

-- `test ? chosen : other` of type int
abbrev pub choice : Tree → Tree → Tree → Tree
choice test chosen other = prvalue Conditional (plain (int Int)) (test ∷ chosen ∷ other ∷ [])

abbrev pub comma : Tree → Tree → Tree
comma a b = prvalue Comma (plain (int Int)) (a ∷ b ∷ [])

abbrev pub yes : Tree
yes = number BoolKind 1

abbrev pub no : Tree
no = number BoolKind 0

-- `x`, `v` of volatile type, `f()`, `1 / 0`, `throw 1`
abbrev pub variable : Tree
variable = prvalue (Load Int false) (plain (int Int)) (lvalue (Local 0) (plain (int Int)) [] ∷ [])

abbrev pub volatile_variable : Tree
volatile_variable = prvalue (Load Int true) (plain (int Int)) (lvalue (Local 0) (plain (int Int)) [] ∷ [])

abbrev pub global : Tree
global = prvalue (Load Int false) (plain (int Int)) (lvalue (Global 0) (plain (int Int)) [] ∷ [])

abbrev pub call : Tree
call = prvalue (Call 0) (plain (int Int)) []

abbrev pub trap : Tree
trap = operated Div Int (number Int 1) (number Int 0)

abbrev pub thrown : Tree
thrown = prvalue Throw (plain (int Int)) (number Int 1 ∷ [])

-- `test ? chosen : other` of pointer and of enum type
abbrev pub choice_of : Typ → Tree → Tree
choice_of t test = prvalue Conditional t (test ∷ prvalue (Literal 1) t [] ∷ prvalue (Literal 2) t [] ∷ [])

abbrev pub pointer : Typ
pointer = plain (ptr (plain (int Int)))

abbrev pub colour : Typ
colour = plain (enum [] false)
