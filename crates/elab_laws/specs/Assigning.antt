-- Assignments (C++14 5.17), `a, b` (5.18) and `? :` (5.16).
use Rattle.std.specs.Prelude.{◌≡◌, ℕ, true, false, ◌||◌, List, [], ◌∷◌, is_some, codes}
use Rattle.elab_rules.specs.tx_ints.declared.kinds.IntKind.{IntKind}
use Rattle.elab_rules.specs.tx_ints.Integers.{usual_of}
use Rattle.elab_rules.specs.cpp_types.Typ.{Typ, typ, Form, void, int, ptr}
use Rattle.elab_rules.specs.cpp_types.Conversion.{is_object_form, conversion_of}
use Rattle.elab_rules.specs.cpp_types.declared.ranks.Cat.TheVariants.{Lvalue}
use Rattle.elab_rules.specs.cpp_ast.declared.kinds.NodeKind.TheVariants as k
use Rattle.elab_rules.specs.cpp_tree.declared.kinds.TKind.TheVariants.{Retype, Throw, Rethrow}
use Rattle.elab_rules.specs.cpp_tree.Trees.{Tree, one, kind_of, typ_in, cat_of, kids_of}
use Rattle.elab_rules.specs.cpp_tree.Typing.{form_in, unqualified, is_volatile_typ}
use Rattle.elab_rules.specs.cpp_tree.Notation.{plain}
use Rattle.elab_rules.specs.elab_ctx.Ctx.{Ctx}
use Rattle.elab_rules.specs.elab_ctx.Steps.{Operand}
use Rattle.elab_rules.specs.Values.{place_of}
use Rattle.elab_rules.specs.Names.{is_const_typ}
use Rattle.elab_laws.specs.Reading.{IsPrvalue, IsLvalue, value_type, EachTwo, AnyTwo, AnyThree}
use Rattle.elab_laws.specs.Arithmetic.{IsNumber, PointsTo}
use Rattle.elab_laws.specs.Unary.{IsModifiable}
use Rattle.elab_laws.specs.Tests.{IsNull, IsTruth}

-- the left operand may be changed, and the result is that operand: an lvalue of its type (5.17 p1)
pub record Assigned (x y : Operand) (e : Tree) : Type 0 where
  pub typ : Typ
  pub target : IsModifiable typ x.tree
  pub result : IsLvalue typ e

-- `=`: but for an object of a class, the right operand converts to the type of the left one without its qualifiers (5.17 p3)
pub record Simple (c : Ctx) (x y : Operand) (e : Tree) : Type 0 where
  pub assigned : Assigned x y e
  pub converts : is_object_form (form_in (typ_in x.tree)) ≡ false
      → is_some (conversion_of c.classes (typ_in y.tree) (cat_of y.tree) y.zero (unqualified (typ_in x.tree))) ≡ true

-- `+=` and the like: an integer or a pointer, and a number (5.17 p7)
pub data MayCount (t : Typ) : Type 0 where
  integer : (j : IntKind) → form_in t ≡ int j → MayCount t
  pointer : (u : Typ) → form_in t ≡ ptr u → MayCount t

pub record Compound (c : Ctx) (x y : Operand) (e : Tree) : Type 0 where
  pub assigned : Assigned x y e
  pub left : MayCount (typ_in x.tree)
  pub kind : IntKind
  pub number : IsNumber y kind

-- the result has the type and category of another expression
pub record IsAs (x e : Tree) : Type 0 where
  pub same_type : typ_in e ≡ typ_in x
  pub same_category : cat_of e ≡ cat_of x

abbrev pub Second : Operand → Operand → Tree → Type 0
Second x y e = IsAs y.tree e

pub data IsThrow (e : Tree) : Type 0 where
  throws : kind_of e ≡ Throw → IsThrow e
  throws_again : kind_of e ≡ Rethrow → IsThrow e

-- a `throw`, which has no value (5.16 p2): by itself, or with the node at its own place that says so
pub data Throws (x : Operand) : Type 0 where
  bare : IsThrow x.tree → Throws x
  without_value : (e : Tree) → kind_of x.tree ≡ Retype → kids_of x.tree ≡ one e → place_of e ≡ place_of x.tree → IsThrow e → Throws x

-- a type with the qualifiers of both operands
abbrev pub joined : Form → Operand → Operand → Typ
joined f x y = typ f (is_const_typ (typ_in x.tree) || is_const_typ (typ_in y.tree)) (is_volatile_typ (typ_in x.tree) || is_volatile_typ (typ_in y.tree))

-- what `? :` gives of its second and third operand
pub data Either (x y : Operand) (e : Tree) : Type 0 where
  -- p2: of two that throw, nothing; else the other one, whatever it is; both may be `void`
  both_throw : Throws x → Throws y → IsPrvalue (plain void) e → Either x y e
  first_throws : Throws x → IsAs y.tree e → Either x y e
  second_throws : Throws y → IsAs x.tree e → Either x y e
  both_void : form_in (typ_in x.tree) ≡ void → form_in (typ_in y.tree) ≡ void → IsAs x.tree e → Either x y e
  -- p4: lvalues of one type
  lvalues : (t : Typ) → IsLvalue t x.tree → IsLvalue t y.tree → IsLvalue t e → Either x y e
  -- p3: lvalues of one class, of which one has all qualifiers of the other
  shared : (f : Form) → is_object_form f ≡ true → form_in (typ_in x.tree) ≡ f → form_in (typ_in y.tree) ≡ f → cat_of x.tree ≡ Lvalue → cat_of y.tree ≡ Lvalue
      → IsLvalue (joined f x y) e → Either x y e
  -- p3, p6: objects of one class, with the qualifiers of both, or values of one type
  objects : (f : Form) → is_object_form f ≡ true → form_in (typ_in x.tree) ≡ f → form_in (typ_in y.tree) ≡ f
      → IsPrvalue (joined f x y) e → Either x y e
  values : (f : Form) → value_type x ≡ f → value_type y ≡ f → IsPrvalue (plain f) e → Either x y e
  -- p6: numbers as the usual arithmetic conversions say, a pointer with a null pointer constant as the pointer
  numbers_of : (i j : IntKind) → IsNumber x i → IsNumber y j → IsPrvalue (plain (int (usual_of i j))) e → Either x y e
  or_null : (t : Typ) → PointsTo x t → IsNull y → IsPrvalue (plain (ptr t)) e → Either x y e
  null_or : (t : Typ) → IsNull x → PointsTo y t → IsPrvalue (plain (ptr t)) e → Either x y e

-- the first operand converts to `bool` (p1)
pub record Chosen (c : Ctx) (test x y : Operand) (e : Tree) : Type 0 where
  pub truth : IsTruth c test
  pub result : Either x y e

-- How they are spelled

abbrev pub simple_words : List (List ℕ)
simple_words = codes "=" ∷ []

abbrev pub compound_words : List (List ℕ)
compound_words = codes "+=" ∷ codes "-=" ∷ codes "*=" ∷ codes "/=" ∷ codes "%=" ∷ codes "<<=" ∷ codes ">>=" ∷ codes "&=" ∷ codes "^=" ∷ codes "|=" ∷ []

-- The laws

abbrev pub Assignments : Type 0
Assignments = EachTwo k.AssignmentExpression simple_words Simple

abbrev pub Compounds : Type 0
Compounds = EachTwo k.AssignmentExpression compound_words Compound

abbrev pub Commas : Type 0
Commas = AnyTwo k.CommaExpression (λ (c : Ctx). Second)

abbrev pub Conditionals : Type 0
Conditionals = AnyThree k.ConditionalExpression Chosen
