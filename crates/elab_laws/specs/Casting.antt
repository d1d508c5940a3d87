-- Casts (C++14 5.2.3, 5.2.9, 5.4), `sizeof` (5.3.3) and `throw` (15.1).
use Rattle.std.specs.Prelude.{◌≡◌, ℕ, Bool, true, false, not, ◌&&◌, ◌||◌, List, [], ◌∷◌, is_some, Option, Some, None, Result, Ok, if◌then◌else◌}
use Rattle.elab_rules.specs.tx_ints.declared.kinds.IntKind.TheVariants.{ULong}
use Rattle.elab_rules.specs.cpp_types.Typ.{Typ, typ, Form, void, int, enum, ref, class, closure, tx_ex}
use Rattle.elab_rules.specs.cpp_types.Equal.{typ_eq}
use Rattle.elab_rules.specs.cpp_types.Conversion.{referred}
use Rattle.elab_rules.specs.cpp_lex.Tokens.{Lexeme}
use Rattle.elab_rules.specs.cpp_ast.Trees as syntax
use Rattle.elab_rules.specs.cpp_ast.declared.arena.At.{At as SyntaxAt}
use Rattle.elab_rules.specs.cpp_ast.declared.kinds.NodeKind.{NodeKind}
use Rattle.elab_rules.specs.cpp_ast.declared.kinds.NodeKind.TheVariants as k
use Rattle.elab_rules.specs.cpp_tree.declared.kinds.TKind.TheVariants.{Literal, Retype, Throw, Rethrow, Construct, CopyFrom, Store, Pieces}
use Rattle.elab_rules.specs.cpp_tree.Trees.{Tree, node, more, one, kind_of, typ_in, cat_of, kids_of}
use Rattle.elab_rules.specs.cpp_tree.Typing.{form_in, unqualified, kind_in, is_reference, is_class_prvalue}
use Rattle.elab_rules.specs.cpp_tree.Notation.{plain}
use Rattle.elab_rules.specs.elab_ctx.Ctx.{Ctx, Work}
use Rattle.elab_rules.specs.elab_ctx.Steps.{and_then, Operand, Typed, TypedAll, at_of}
use Rattle.elab_rules.specs.Values.{place_of, builder, is_exception_form}
use Rattle.elab_rules.specs.Objects.{size_of}
use Rattle.elab_rules.specs.Initialising.{class_number, makers, constructor_at, arguments, is_prvalue_itself, is_prvalue_of_class}
use Rattle.elab_rules.specs.Initialising.{is_closure_itself, is_exception_itself}
use Rattle.elab_rules.specs.cpp_overload.Overload.{Argument, IsChosen}
use Rattle.elab_rules.specs.cpp_overload.declared.calls.NoBest.{NoBest}
use Rattle.elab_rules.specs.Names.{is_tx_exception}
use Rattle.elab_rules.specs.Expressions.{expression_of, expression_with, operands_of, specified_with, chosen_operand, type_id_of, type_id_with}
use Rattle.elab_rules.specs.Types.{has_auto, is_bounded, no_specifiers, specified_type}
use Rattle.elab_laws.specs.Reading.{On, IsPrvalue, IsLvalue, value_type, operand_of, AnyOne}

-- what builds an object in its place; a class prvalue that is called, chosen or stands behind a `,` does not
abbrev pub is_built : Tree → Bool
is_built (node (Construct k) t cat at kids) = true
is_built (node (Store kind marked) t cat at kids) = true
is_built (node Pieces t cat at kids) = true
is_built (node CopyFrom t cat at (more source copies)) = true
is_built e = false

-- the operand that is the object already (8.5 p17): a prvalue of the class that has the type named, or is not built where it stands. One of a
-- `std::tx_exception` that is written with its value is no such operand, and a lambda's object of another type is copied
abbrev pub own_object : Typ → List Operand → Option Tree
own_object (typ (class n) c v) (o ∷ []) = if is_prvalue_of_class n o.tree && (typ_eq (typ (class n) c v) (typ_in o.tree) || not (is_built o.tree)) then
    Some o.tree else None
own_object (typ (closure n) c v) (o ∷ []) = if is_closure_itself n c v o.tree then Some o.tree else None
own_object (typ (tx_ex u) c v) (o ∷ []) = if is_exception_itself u (o ∷ []) && (is_class_prvalue (typ_in o.tree) (cat_of o.tree)
    && (is_exception_form (form_in (typ_in (builder o.tree))) && (typ_eq (typ (tx_ex u) c v) (typ_in (builder o.tree)) || not (is_built (builder o.tree))))) then
    Some (builder o.tree) else None
own_object t os = None

-- it stays as it is, with its own qualifiers; every other object has the type that is named, with its qualifiers (5.2.3 p1, 5.2.9 p4)
abbrev pub IsObject : Typ → Option Tree → Tree → Type 0
IsObject t (Some own) e = e ≡ own
IsObject t None e = IsPrvalue t e

-- what a `std::tx_exception` holds (profile)
abbrev pub is_held : Form → Bool
is_held (int k) = true
is_held (enum n s) = true
is_held (class n) = true
is_held f = false

-- what is cast to a type has that type: an lvalue exactly for a reference (5.4 p1), and else a prvalue, without qualifiers where it is no object (5 p6)
pub data CastTo (t : Typ) (os : List Operand) (e : Tree) : Type 0 where
  to_void : form_in t ≡ void → IsPrvalue (plain void) e → CastTo t os e
  to_reference : (u : Typ) → form_in t ≡ ref u → IsLvalue u e → CastTo t os e
  to_scalar : is_some (kind_in (form_in t)) ≡ true → IsPrvalue (unqualified t) e → CastTo t os e
  -- an object of the class, which is initialised by the operands
  to_class : (n : ℕ) → class_number t ≡ Some n → class_number (typ_in e) ≡ Some n → IsObject t (own_object t os) e → CastTo t os e
  to_exception : (u : Typ) → form_in t ≡ tx_ex u → is_tx_exception (typ_in e) ≡ true → (is_held (form_in u) ≡ true → IsObject t (own_object t os) e) → CastTo t os e

-- the type is read, then the operand; `auto` stands for no type there (7.1.6.4 p5)
pub record OfCast (s : List Lexeme) (c : Ctx) (w : Work) (a b : syntax.Tree) (r : Typed) : Type 0 where
  pub typ : Typ
  pub typ_is : type_id_of s c w a ≡ Ok typ
  pub no_auto : has_auto typ ≡ false
  pub operand : Typed
  pub operand_is : operand_of s c w b ≡ Ok operand
  pub holds : CastTo typ (operand.operand ∷ []) r.operand.tree

-- of the constructors of a class, and its trivial copy behind them, these arguments mean the one with this index: whatever is the answer of overload resolution
-- (13.3.1.3)
pub record Makes (c : Ctx) (n : ℕ) (args : List Argument) (i : ℕ) : Type 0 where
  pub each : (r : Result ℕ NoBest) → IsChosen c.classes (makers c n) args r → r ≡ Ok i

-- an object is made by a constructor, or by the trivial copy
pub data MadeBy (e : Tree) : Option ℕ → Type 0 where
  by_constructor : (k : ℕ) → kind_of e ≡ Construct k → MadeBy e (Some k)
  by_copy : kind_of e ≡ CopyFrom → MadeBy e None

pub record Built (c : Ctx) (n : ℕ) (args : List Argument) (e : Tree) : Type 0 where
  pub index : ℕ
  pub means : Makes c n args index
  pub made : MadeBy e (constructor_at c n index)

-- `T(a, ..)`: the type of a specifier (5.2.3). With one operand it is a cast; an object of a class is made by a constructor, but for a prvalue of that class.
-- There is no `T()` of a reference (8.5 p9)
pub record OfFunctional (s : List Lexeme) (c : Ctx) (w : Work) (p : SyntaxAt) (base : syntax.Tree) (es : syntax.Trees) (r : Typed) : Type 0 where
  pub typ : Typ
  pub typ_is : and_then (specified_with s c c.closures w no_specifiers base) (specified_type (at_of p)) ≡ Ok typ
  pub no_auto : has_auto typ ≡ false
  pub args : TypedAll
  pub args_are : operands_of s c w es ≡ Ok args
  pub holds : CastTo typ args.operands r.operand.tree
  pub of_none : args.operands ≡ [] → is_reference typ ≡ false
  pub of_class : (n : ℕ) (x : Operand) (xs : List Operand) → form_in typ ≡ class n → args.operands ≡ x ∷ xs → is_prvalue_itself n (x ∷ xs) ≡ false
      → Built c n (arguments (x ∷ xs)) r.operand.tree

-- the size of objects of a type, or of the type to which it refers (p2), a prvalue of type `std::size_t`, which is `unsigned long` (p6)
pub record SizeOf (c : Ctx) (w : Work) (t : Typ) (r : Typed) : Type 0 where
  pub value : kind_of r.operand.tree ≡ Literal (size_of c.classes (referred t))
  pub result : IsPrvalue (plain (int ULong)) r.operand.tree
  -- an array has a bound (p1)
  pub bounded : is_bounded (referred t) ≡ true
  -- the operand is not evaluated (p1): nothing is made for it
  pub nothing_made : r.work ≡ w

pub record OfSizeType (s : List Lexeme) (c : Ctx) (w : Work) (a : syntax.Tree) (r : Typed) : Type 0 where
  pub typ : Typ
  pub typ_is : type_id_with s c [] w a ≡ Ok typ
  pub no_auto : has_auto typ ≡ false
  pub size : SizeOf c w typ r

pub record OfSizeExpression (s : List Lexeme) (c : Ctx) (w : Work) (a : syntax.Tree) (r : Typed) : Type 0 where
  pub operand : Typed
  pub operand_is : and_then (expression_with s c [] w a) (chosen_operand c) ≡ Ok operand
  pub size : SizeOf c w (typ_in operand.operand.tree) r

-- what is thrown is an object of the type of the value, without qualifiers (15.1 p3)
pub record ThrownObject (x : Operand) (e : Tree) : Type 0 where
  pub is : kind_of e ≡ Throw
  pub result : IsPrvalue (plain (value_type x)) e

-- a `throw` has type `void` (15.1 p1): its node says that there is no value, and has the one that throws as its only kid, at its own place
pub record Thrown (c : Ctx) (x : Operand) (e : Tree) : Type 0 where
  pub is : kind_of e ≡ Retype
  pub result : IsPrvalue (plain void) e
  pub thrown : Tree
  pub only : kids_of e ≡ one thrown
  pub place : place_of thrown ≡ place_of e
  pub object : ThrownObject x thrown

pub record IsAgain (e : Tree) : Type 0 where
  pub is : kind_of e ≡ Rethrow
  pub result : IsPrvalue (plain void) e

-- The laws

abbrev pub EachCast : NodeKind → Type 0
EachCast kind = (s : List Lexeme) (c : Ctx) (w : Work) (p : SyntaxAt) (t : Option ℕ) (a b : syntax.Tree)
    → On (OfCast s c w a b) (expression_of s c w (syntax.node kind p t (syntax.more a (syntax.more b syntax.none))))

abbrev pub StaticCasts : Type 0
StaticCasts = EachCast k.StaticCast

abbrev pub Casts : Type 0
Casts = EachCast k.CastExpression

abbrev pub FunctionalCasts : Type 0
FunctionalCasts = (s : List Lexeme) (c : Ctx) (w : Work) (p : SyntaxAt) (t : Option ℕ) (base : syntax.Tree) (es : syntax.Trees)
    → On (OfFunctional s c w p base es) (expression_of s c w (syntax.node k.FunctionalCast p t (syntax.more base es)))

abbrev pub SizesOfTypes : Type 0
SizesOfTypes = (s : List Lexeme) (c : Ctx) (w : Work) (p : SyntaxAt) (t : Option ℕ) (a : syntax.Tree)
    → On (OfSizeType s c w a) (expression_of s c w (syntax.node k.SizeofType p t (syntax.more a syntax.none)))

abbrev pub SizesOfExpressions : Type 0
SizesOfExpressions = (s : List Lexeme) (c : Ctx) (w : Work) (p : SyntaxAt) (t : Option ℕ) (a : syntax.Tree)
    → On (OfSizeExpression s c w a) (expression_of s c w (syntax.node k.SizeofExpression p t (syntax.more a syntax.none)))

abbrev pub Throws : Type 0
Throws = AnyOne k.ThrowExpression Thrown

-- `throw;`
abbrev pub Rethrows : Type 0
Rethrows = (s : List Lexeme) (c : Ctx) (w : Work) (p : SyntaxAt) (t : ℕ)
    → On (λ (r : Typed). IsAgain r.operand.tree) (expression_of s c w (syntax.node k.ThrowExpression p (Some t) syntax.none))
