-- Scalars that elaboration makes: what is said of their trees, and the laws of them.
use Rattle.std.specs.Prelude.{◌≡◌, ℕ, Bool, true, false, Some, Ok}
use Rattle.elab_rules.specs.tx_ints.declared.kinds.IntKind.{IntKind}
use Rattle.elab_rules.specs.tx_ints.declared.kinds.IntKind.TheVariants.{Bool as BoolKind, ULong}
use Rattle.elab_rules.specs.tx_ints.declared.kinds.BinOp.{BinOp}
use Rattle.elab_rules.specs.tx_ints.declared.kinds.BinOp.TheVariants.{Add}
use Rattle.elab_rules.specs.tx_ints.Integers.{is_shift}
use Rattle.elab_rules.specs.cpp_types.Typ.{Typ, typ, Form, int, enum, null, ptr, ref}
use Rattle.elab_rules.specs.cpp_types.declared.classes.At.{At}
use Rattle.elab_rules.specs.cpp_types.declared.ranks.Cat.TheVariants.{Lvalue, Prvalue}
use Rattle.elab_rules.specs.cpp_tree.declared.roles.Role.TheVariants.{Value}
use Rattle.elab_rules.specs.cpp_tree.Trees.{Tree, typ_in, cat_of}
use Rattle.elab_rules.specs.cpp_tree.Notation.{plain}
use Rattle.elab_rules.specs.cpp_tree.Typing.{head_of, form_in, is_class_typ, is_void, is_class_prvalue, initialises, word_kind, is_word_of}
use Rattle.elab_rules.specs.cpp_tree.Rows.{Setting}
use Rattle.elab_rules.specs.elab_ctx.Ctx.{Ctx, Work}
use Rattle.elab_rules.specs.elab_ctx.Steps.{Operand, Made}
use Rattle.elab_rules.specs.Values.{number, part_at, valued, converted, stored}
use Rattle.elab_rules.specs.Initialising.{initial}
use Rattle.elab_rules.specs.Operators.{value_form, pointed, sum_of, binary, logical, negation, minus, complement, plus, address_of, indirection, subscript}
use Rattle.elab_rules.specs.Operators.{assignment, compound, step, both_of_class, is_shared, conditional, comma}
use Rattle.elab_fits.specs.Standing.{FitsAs, IsExpressionType, Stands, BuildsOne, Reaches, On}

-- a form of numbers and addresses; a reference has an address, but is no value
abbrev pub is_scalar : Form → Bool
is_scalar (int k) = true
is_scalar (enum n s) = true
is_scalar null = true
is_scalar (ptr t) = true
is_scalar f = false

-- the value of a scalar of this form, without qualifiers
pub record Gives (s : Setting) (f : Form) (e : Tree) : Type 0 where
  pub scalar : is_scalar f ≡ true
  pub fits : FitsAs s Value e
  pub typed : typ_in e ≡ plain f
  pub category : cat_of e ≡ Prvalue

-- what initialises an object or a reference of a type that is no class
pub record Initialises (s : Setting) (t : Typ) (e : Tree) : Type 0 where
  pub fits : FitsAs s Value e
  pub initialises : initialises t (head_of e) ≡ true

-- the literal 0 (C++14 4.10)
pub record IsZero (e : Tree) : Type 0 where
  pub kind : IntKind
  pub place : At
  pub is : e ≡ number kind 0 place

-- an operand as elaboration makes it
pub record IsOperand (s : Setting) (o : Operand) : Type 0 where
  pub stands : Stands s o.tree
  pub zero : o.zero ≡ true → IsZero o.tree

-- the value of a scalar of some form
pub record IsValue (s : Setting) (e : Tree) : Type 0 where
  pub form : Form
  pub gives : Gives s form e

-- Values and conversions (C++14 clause 4)

-- the value of an expression that stands, stands
abbrev pub ValuesStand : Type 0
ValuesStand = (s : Setting) (at : At) (e : Tree) → Stands s e → Stands s (valued at e)

-- that of a scalar, an array or a function is a scalar without qualifiers
abbrev pub ValuesGive : Type 0
ValuesGive = (s : Setting) (at : At) (e : Tree) → Stands s e → is_scalar (form_in (typ_in (valued at e))) ≡ true
    → Gives s (form_in (typ_in (valued at e))) (valued at e)

abbrev pub ConversionsGive : Type 0
ConversionsGive = (s : Setting) (at : At) (f g : Form) (c v : Bool) (e : Tree) → Gives s f e → is_scalar g ≡ true → Gives s g (converted at (typ g c v) e)

-- what has a scalar's value stands as an expression
abbrev pub ScalarsStand : Type 0
ScalarsStand = (s : Setting) (f : Form) (e : Tree) → Gives s f e → Stands s e

-- and builds an object of its form, with any qualifiers
abbrev pub StoresBuild : Type 0
StoresBuild = (s : Setting) (at : At) (f : Form) (c v : Bool) (e : Tree) → Gives s f e → BuildsOne s (typ f c v) (stored at (typ f c v) e)

-- Initialisation (C++14 8.5)

abbrev pub InitialsGive : Type 0
InitialsGive = (s : Setting) (c : Ctx) (w : Work) (f : Form) (q v : Bool) (o : Operand) → IsOperand s o → is_scalar f ≡ true
    → On (λ (m : Made). Gives s f m.tree) (initial c w (typ f q v) o)

-- a reference is bound to what stands, where the temporary that is made for it has its place in the frame
abbrev pub ReferencesBind : Type 0
ReferencesBind = (s : Setting) (c : Ctx) (w : Work) (t : Typ) (q v : Bool) (o : Operand) → IsOperand s o → IsExpressionType t Lvalue
    → is_class_prvalue (typ_in o.tree) (cat_of o.tree) ≡ false
    → On (λ (m : Made). Reaches s m.work → Initialises s (typ (ref t) q v) m.tree) (initial c w (typ (ref t) q v) o)

-- Operators (C++14 clause 5)

-- what lies at an offset from an address
abbrev pub PartsStand : Type 0
PartsStand = (s : Setting) (offset : ℕ) (t : Typ) (at : At) (e : Tree) → word_kind (typ_in e) (cat_of e) ≡ Some ULong → FitsAs s Value e
    → is_word_of ULong offset ≡ true → IsExpressionType t Lvalue → Stands s (part_at offset t at e)

abbrev pub BinariesGive : Type 0
BinariesGive = (s : Setting) (c : Ctx) (op : BinOp) (at : At) (a b : Operand) → IsOperand s a → IsOperand s b → On (IsValue s) (binary c op at a b)

-- `&&` and `||`
abbrev pub LogicalsGive : Type 0
LogicalsGive = (s : Setting) (c : Ctx) (w : Work) (is_and : Bool) (at : At) (a b : Operand) → IsOperand s a → IsOperand s b
    → On (Gives s (int BoolKind)) (logical c w is_and at a b)

abbrev pub NegationsGive : Type 0
NegationsGive = (s : Setting) (c : Ctx) (w : Work) (at : At) (a : Operand) → IsOperand s a → On (Gives s (int BoolKind)) (negation c w at a)

abbrev pub UnariesGive : Type 0
UnariesGive = (s : Setting) (at : At) (a : Operand) → IsOperand s a → On (IsValue s) (minus at a) × On (IsValue s) (complement at a)
    × On (IsValue s) (plus at a)

abbrev pub AddressesGive : Type 0
AddressesGive = (s : Setting) (at : At) (a : Operand) → IsOperand s a → On (IsValue s) (address_of at a)

-- `*a`, where what the pointer points to is no reference (and, as no void is qualified, not `void` with qualifiers)
abbrev pub IndirectionsStand : Type 0
IndirectionsStand = (s : Setting) (at : At) (a : Operand) → IsOperand s a → ((t : Typ) → value_form a ≡ ptr t → IsExpressionType t Lvalue)
    → On (Stands s) (indirection at a)

abbrev pub SubscriptsStand : Type 0
SubscriptsStand = (s : Setting) (c : Ctx) (at : At) (a b : Operand) → IsOperand s a → IsOperand s b
    → ((e : Tree) (t : Typ) → sum_of c Add at (pointed (value_form a)) (pointed (value_form b)) a b ≡ Ok e → form_in (typ_in e) ≡ ptr t
    → IsExpressionType t Lvalue)
    → On (Stands s) (subscript c at a b)

-- assignments to what is no object of a class
abbrev pub AssignmentsStand : Type 0
AssignmentsStand = (s : Setting) (c : Ctx) (w : Work) (at : At) (a b : Operand) → IsOperand s a → IsOperand s b → is_class_typ (typ_in a.tree) ≡ false
    → On (λ (m : Made). Stands s m.tree) (assignment c w at a b)

abbrev pub CompoundsStand : Type 0
CompoundsStand = (s : Setting) (c : Ctx) (op : BinOp) (at : At) (a b : Operand) → IsOperand s a → IsOperand s b → On (Stands s) (compound c op at a b)

-- `++` and `--`, whose operators are no shifts
abbrev pub StepsStand : Type 0
StepsStand = (s : Setting) (c : Ctx) (op : BinOp) (old : Bool) (at : At) (a : Operand) → is_shift op ≡ false → IsOperand s a
    → On (Stands s) (step c op old at a)

-- `?:` where no operand is a prvalue of a class, two objects of a class are lvalues that share a type, and nothing of type void is an lvalue
abbrev pub ConditionalsStand : Type 0
ConditionalsStand = (s : Setting) (c : Ctx) (w : Work) (at : At) (test a b : Operand) → IsOperand s test → IsOperand s a → IsOperand s b
    → is_class_prvalue (typ_in a.tree) (cat_of a.tree) ≡ false → is_class_prvalue (typ_in b.tree) (cat_of b.tree) ≡ false
    → (is_void (typ_in a.tree) ≡ true → cat_of a.tree ≡ Prvalue) → (both_of_class a b ≡ true → is_shared a b ≡ true)
    → On (λ (m : Made). Stands s m.tree) (conditional c w at test a b)

-- `,` where neither is a prvalue of a class
abbrev pub CommasStand : Type 0
CommasStand = (s : Setting) (c : Ctx) (w : Work) (at : At) (a b : Operand) → IsOperand s a → IsOperand s b
    → is_class_prvalue (typ_in a.tree) (cat_of a.tree) ≡ false → is_class_prvalue (typ_in b.tree) (cat_of b.tree) ≡ false
    → Stands s (comma c w at a b).tree
