-- Arithmetic on two operands: `*` `/` `%` (C++14 5.6), `+` `-` (5.7), `<<` `>>` (5.8), `&` `^` `|` (5.11 to 5.13).
use Rattle.std.specs.Prelude.{◌≡◌, ℕ, false, List, [], ◌∷◌, Option, Some, None, codes}
use Rattle.elab_rules.specs.tx_ints.declared.kinds.IntKind.{IntKind}
use Rattle.elab_rules.specs.tx_ints.declared.kinds.IntKind.TheVariants.{Int, Long}
use Rattle.elab_rules.specs.tx_ints.Integers.{usual_of, promote_of}
use Rattle.elab_rules.specs.cpp_types.Typ.{Typ, Form, int, enum, ptr}
use Rattle.elab_rules.specs.cpp_ast.declared.kinds.NodeKind.TheVariants as k
use Rattle.elab_rules.specs.cpp_tree.Trees.{Tree, kids_of, two}
use Rattle.elab_rules.specs.cpp_tree.Notation.{plain}
use Rattle.elab_rules.specs.elab_ctx.Ctx.{Ctx}
use Rattle.elab_rules.specs.elab_ctx.Steps.{Operand}
use Rattle.elab_laws.specs.Reading.{IsPrvalue, value_type, EachTwo}

-- the kind of a value of arithmetic or unscoped enumeration type; an enum's is that of its underlying type, `int`
abbrev pub number_kind : Form → Option IntKind
number_kind (int k) = Some k
number_kind (enum name false) = Some Int
number_kind f = None

pub record IsNumber (x : Operand) (kind : IntKind) : Type 0 where
  pub is : number_kind (value_type x) ≡ Some kind

pub record PointsTo (x : Operand) (t : Typ) : Type 0 where
  pub is : value_type x ≡ ptr t

-- an operation on values of these types: the operands, each converted
pub record Operates (t u : Typ) (e : Tree) : Type 0 where
  pub left : Tree
  pub right : Tree
  pub kids : kids_of e ≡ two left right
  pub left_is : IsPrvalue t left
  pub right_is : IsPrvalue u right

-- the usual arithmetic conversions (5 p10) bring both operands to one type, which the result has too
pub record Usual (x y : Operand) (e : Tree) : Type 0 where
  pub left_kind : IntKind
  pub left : IsNumber x left_kind
  pub right_kind : IntKind
  pub right : IsNumber y right_kind
  pub operands : Operates (plain (int (usual_of left_kind right_kind))) (plain (int (usual_of left_kind right_kind))) e
  pub result : IsPrvalue (plain (int (usual_of left_kind right_kind))) e

-- both operands are promoted, and the result has the type of the left one (5.8 p1)
pub record Shifted (x y : Operand) (e : Tree) : Type 0 where
  pub left_kind : IntKind
  pub left : IsNumber x left_kind
  pub right_kind : IntKind
  pub right : IsNumber y right_kind
  pub operands : Operates (plain (int (promote_of left_kind))) (plain (int (promote_of right_kind))) e
  pub result : IsPrvalue (plain (int (promote_of left_kind))) e

-- a pointer moved by a number has the type of the pointer (5.7 p5)
pub record Moved (x y : Operand) (e : Tree) : Type 0 where
  pub target : Typ
  pub pointer : PointsTo x target
  pub kind : IntKind
  pub number : IsNumber y kind
  pub result : IsPrvalue (plain (ptr target)) e

-- two pointers to one type have a difference of type `std::ptrdiff_t`, which is `long` (5.7 p6)
pub record Apart (x y : Operand) (e : Tree) : Type 0 where
  pub target : Typ
  pub left : PointsTo x target
  pub right : PointsTo y target
  pub result : IsPrvalue (plain (int Long)) e

pub data Sum (x y : Operand) (e : Tree) : Type 0 where
  numbers_added : Usual x y e → Sum x y e
  pointer_and_number : Moved x y e → Sum x y e
  number_and_pointer : Moved y x e → Sum x y e

pub data Difference (x y : Operand) (e : Tree) : Type 0 where
  numbers_subtracted : Usual x y e → Difference x y e
  pointer_less_number : Moved x y e → Difference x y e
  pointer_less_pointer : Apart x y e → Difference x y e

-- How they are spelled

abbrev pub multiplicative_words : List (List ℕ)
multiplicative_words = codes "*" ∷ codes "/" ∷ codes "%" ∷ []

abbrev pub bitwise_words : List (List ℕ)
bitwise_words = codes "&" ∷ codes "^" ∷ codes "|" ∷ []

abbrev pub shift_words : List (List ℕ)
shift_words = codes "<<" ∷ codes ">>" ∷ []

abbrev pub sum_words : List (List ℕ)
sum_words = codes "+" ∷ []

abbrev pub difference_words : List (List ℕ)
difference_words = codes "-" ∷ []

-- The laws

abbrev pub Multiplicative : Type 0
Multiplicative = EachTwo k.BinaryExpression multiplicative_words (λ (c : Ctx). Usual)

abbrev pub Bitwise : Type 0
Bitwise = EachTwo k.BinaryExpression bitwise_words (λ (c : Ctx). Usual)

abbrev pub Shifts : Type 0
Shifts = EachTwo k.BinaryExpression shift_words (λ (c : Ctx). Shifted)

abbrev pub Sums : Type 0
Sums = EachTwo k.BinaryExpression sum_words (λ (c : Ctx). Sum)

abbrev pub Differences : Type 0
Differences = EachTwo k.BinaryExpression difference_words (λ (c : Ctx). Difference)
