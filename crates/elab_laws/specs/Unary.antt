-- Operators on one operand (C++14 5.3.1), increments and decrements (5.2.6, 5.3.2), and `[]` (5.2.1).
use Rattle.std.specs.Prelude.{◌≡◌, ℕ, false, List, [], ◌∷◌, codes}
use Rattle.elab_rules.specs.tx_ints.declared.kinds.IntKind.{IntKind}
use Rattle.elab_rules.specs.tx_ints.Integers.{promote_of}
use Rattle.elab_rules.specs.cpp_types.Typ.{Typ, int, ptr}
use Rattle.elab_rules.specs.cpp_types.Conversion.{const_of}
use Rattle.elab_rules.specs.cpp_ast.declared.kinds.NodeKind.TheVariants as k
use Rattle.elab_rules.specs.cpp_tree.Trees.{Tree}
use Rattle.elab_rules.specs.cpp_tree.Typing.{unqualified}
use Rattle.elab_rules.specs.cpp_tree.Notation.{plain}
use Rattle.elab_rules.specs.elab_ctx.Ctx.{Ctx}
use Rattle.elab_rules.specs.elab_ctx.Steps.{Operand}
use Rattle.elab_laws.specs.Reading.{IsPrvalue, IsLvalue, EachOne, AnyOne, AnyTwo}
use Rattle.elab_laws.specs.Arithmetic.{IsNumber, PointsTo}

-- `+`, `-`, `~`: a number of the promoted type (5.3.1 p7, p8, p10)
pub record Promoted (x : Operand) (e : Tree) : Type 0 where
  pub kind : IntKind
  pub number : IsNumber x kind
  pub result : IsPrvalue (plain (int (promote_of kind))) e

-- `*`: the object or function to which a pointer points, an lvalue (5.3.1 p1)
pub record Pointed (x : Operand) (e : Tree) : Type 0 where
  pub target : Typ
  pub pointer : PointsTo x target
  pub result : IsLvalue target e

-- `&`: a pointer to the type of an lvalue (5.3.1 p3)
pub record Address (x : Operand) (e : Tree) : Type 0 where
  pub target : Typ
  pub operand : IsLvalue target x.tree
  pub result : IsPrvalue (plain (ptr target)) e

-- an lvalue that may be changed (3.10 p6)
pub record IsModifiable (t : Typ) (e : Tree) : Type 0 where
  pub lvalue : IsLvalue t e
  pub not_const : const_of t ≡ false

-- `++x`, `--x`: the updated operand, an lvalue of its type (5.3.2)
pub record Before (x : Operand) (e : Tree) : Type 0 where
  pub typ : Typ
  pub operand : IsModifiable typ x.tree
  pub result : IsLvalue typ e

-- `x++`, `x--`: the old value, of the type without its qualifiers (5.2.6)
pub record Behind (x : Operand) (e : Tree) : Type 0 where
  pub typ : Typ
  pub operand : IsModifiable typ x.tree
  pub result : IsPrvalue (unqualified typ) e

-- `x[y]` is `*(x + y)`: one is a pointer, the other a number, in either order
pub data Element (x y : Operand) (e : Tree) : Type 0 where
  pointer_first : (t : Typ) (i : IntKind) → PointsTo x t → IsNumber y i → IsLvalue t e → Element x y e
  pointer_second : (t : Typ) (i : IntKind) → IsNumber x i → PointsTo y t → IsLvalue t e → Element x y e

-- How they are spelled

abbrev pub promotion_words : List (List ℕ)
promotion_words = codes "+" ∷ codes "-" ∷ codes "~" ∷ []

abbrev pub indirection_words : List (List ℕ)
indirection_words = codes "*" ∷ []

abbrev pub address_words : List (List ℕ)
address_words = codes "&" ∷ []

abbrev pub prefix_words : List (List ℕ)
prefix_words = codes "++" ∷ codes "--" ∷ []

-- The laws

abbrev pub Promotions : Type 0
Promotions = EachOne k.UnaryExpression promotion_words (λ (c : Ctx). Promoted)

abbrev pub Indirection : Type 0
Indirection = EachOne k.UnaryExpression indirection_words (λ (c : Ctx). Pointed)

abbrev pub Addresses : Type 0
Addresses = EachOne k.UnaryExpression address_words (λ (c : Ctx). Address)

abbrev pub Prefix : Type 0
Prefix = EachOne k.UnaryExpression prefix_words (λ (c : Ctx). Before)

abbrev pub Postfix : Type 0
Postfix = AnyOne k.PostfixIncrement (λ (c : Ctx). Behind)

abbrev pub Subscripts : Type 0
Subscripts = AnyTwo k.Subscript (λ (c : Ctx). Element)
