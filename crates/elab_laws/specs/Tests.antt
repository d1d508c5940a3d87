-- What gives a truth: comparisons (C++14 5.9, 5.10), `&&` and `||` (5.14, 5.15), `!` (5.3.1 p9). Each is a prvalue of type `bool`.
use Rattle.std.specs.Prelude.{◌≡◌, ℕ, true, List, [], ◌∷◌, is_some, codes}
use Rattle.elab_rules.specs.tx_ints.declared.kinds.IntKind.{IntKind}
use Rattle.elab_rules.specs.tx_ints.declared.kinds.IntKind.TheVariants.{Bool}
use Rattle.elab_rules.specs.cpp_types.Typ.{Typ, int, enum, null}
use Rattle.elab_rules.specs.cpp_ast.declared.kinds.NodeKind.TheVariants as k
use Rattle.elab_rules.specs.cpp_types.Conversion.{conversion_of}
use Rattle.elab_rules.specs.cpp_tree.Trees.{Tree, typ_in, cat_of}
use Rattle.elab_rules.specs.elab_ctx.Ctx.{Ctx}
use Rattle.elab_rules.specs.cpp_tree.Notation.{plain}
use Rattle.elab_rules.specs.elab_ctx.Steps.{Operand}
use Rattle.elab_laws.specs.Reading.{IsPrvalue, value_type, EachOne, EachTwo}
use Rattle.elab_laws.specs.Arithmetic.{IsNumber, PointsTo}

-- a null pointer constant: the literal 0, or a value of type `std::nullptr_t` (4.10)
pub data IsNull (x : Operand) : Type 0 where
  zero : x.zero ≡ true → IsNull x
  nullptr : value_type x ≡ null → IsNull x

-- what may be compared: two numbers, two pointers to one type, a pointer with a null pointer constant, two values of one scoped enum
pub data AreComparable (x y : Operand) : Type 0 where
  numbers : (i j : IntKind) → IsNumber x i → IsNumber y j → AreComparable x y
  pointers : (t : Typ) → PointsTo x t → PointsTo y t → AreComparable x y
  null_second : (t : Typ) → PointsTo x t → IsNull y → AreComparable x y
  null_first : (t : Typ) → IsNull x → PointsTo y t → AreComparable x y
  enums : (name : List ℕ) → value_type x ≡ enum name true → value_type y ≡ enum name true → AreComparable x y

pub record Comparison (x y : Operand) (e : Tree) : Type 0 where
  pub operands : AreComparable x y
  pub result : IsPrvalue (plain (int Bool)) e

-- it converts to `bool` (4.12)
pub record IsTruth (c : Ctx) (x : Operand) : Type 0 where
  pub converts : is_some (conversion_of c.classes (typ_in x.tree) (cat_of x.tree) x.zero (plain (int Bool))) ≡ true

pub record Both (c : Ctx) (x y : Operand) (e : Tree) : Type 0 where
  pub left : IsTruth c x
  pub right : IsTruth c y
  pub result : IsPrvalue (plain (int Bool)) e

pub record Not (c : Ctx) (x : Operand) (e : Tree) : Type 0 where
  pub operand : IsTruth c x
  pub result : IsPrvalue (plain (int Bool)) e

-- How they are spelled

abbrev pub comparison_words : List (List ℕ)
comparison_words = codes "<" ∷ codes ">" ∷ codes "<=" ∷ codes ">=" ∷ codes "==" ∷ codes "!=" ∷ []

abbrev pub logical_words : List (List ℕ)
logical_words = codes "&&" ∷ codes "||" ∷ []

abbrev pub negation_words : List (List ℕ)
negation_words = codes "!" ∷ []

-- The laws

abbrev pub Comparisons : Type 0
Comparisons = EachTwo k.BinaryExpression comparison_words (λ (c : Ctx). Comparison)

abbrev pub Logical : Type 0
Logical = EachTwo k.BinaryExpression logical_words Both

abbrev pub Negation : Type 0
Negation = EachOne k.UnaryExpression negation_words Not
