-- Casts, `sizeof` and `throw`.
use Rattle.std.proofs.Common.{◌≡◌, refl, sym, ap, ◌∙◌, subst, ℕ, Bool, true, false, ◌&&◌, List, [], ◌∷◌, cond, Option, Some, None}
use Rattle.std.proofs.Common.{is_some, Result, Ok, Err}
use Rattle.std.proofs.lemmas.Bool.{and_parts}
use Rattle.std.specs.Prelude.{not}
use Rattle.elab_rules.specs.tx_ints.declared.kinds.IntKind.{IntKind}
use Rattle.elab_rules.specs.tx_ints.declared.kinds.IntKind.TheVariants.{Int, ULong}
use Rattle.elab_rules.specs.cpp_types.Typ.{Typ, typ, Form, void, int, enum, null, ptr, ref, array, func, class, closure, tx_ex}
use Rattle.elab_rules.specs.cpp_types.Equal.{form_eq}
use Rattle.elab_rules.specs.cpp_types.Class.{Class}
use Rattle.elab_rules.specs.cpp_types.Conversion.{step_of, other_step, bound, has_value, decayed, referred, is_object_form}
use Rattle.elab_rules.specs.cpp_types.declared.classes.At.{At}
use Rattle.elab_rules.specs.cpp_types.declared.ranks.Cat.TheVariants.{Lvalue, Prvalue}
use Rattle.elab_rules.specs.cpp_types.declared.ranks.Step.{Step}
use Rattle.elab_rules.specs.cpp_types.declared.ranks.Step.TheVariants.{Identity, NullPointer}
use Rattle.elab_rules.specs.cpp_types.declared.ranks.Conversion.{Conversion}
use Rattle.elab_rules.specs.cpp_types.declared.ranks.Binding.TheVariants.{Value}
use Rattle.elab_rules.specs.cpp_lex.Tokens.{Lexeme}
use Rattle.elab_rules.specs.cpp_ast.Trees as syntax
use Rattle.elab_rules.specs.cpp_ast.declared.kinds.NodeKind.TheVariants as k
use Rattle.elab_rules.specs.cpp_tree.declared.kinds.TKind.TheVariants.{Retype}
use Rattle.elab_rules.specs.cpp_tree.declared.faults.ElabFault.{ElabFault}
use Rattle.elab_rules.specs.cpp_tree.declared.faults.IllRule.TheVariants.{NoConversion, NoCopy, BadOperand, Incomplete, OutOfProfile, BadThrow, NotTriviallyCopyable}
use Rattle.elab_rules.specs.cpp_tree.Trees.{Tree, node, typ_in, cat_of}
use Rattle.elab_rules.specs.cpp_tree.Typing.{form_in, is_reference, unqualified, is_void, is_volatile_typ, kind_in}
use Rattle.elab_rules.specs.cpp_tree.Notation.{plain}
use Rattle.elab_rules.specs.elab_ctx.Ctx.{Ctx, Work}
use Rattle.elab_rules.specs.elab_ctx.Steps.{and_then, expect, check, Operand, Made, Typed, TypedAll, at_of}
use Rattle.elab_rules.specs.Values.{place_of, number, valued, converted, stepped}
use Rattle.elab_rules.specs.Initialising.{initial, bound_by}
use Rattle.elab_rules.specs.Initialising.{parameters_at, meant, makers, arguments, constructor_at, constructed_by, words}
use Rattle.elab_rules.specs.Initialising.{constructed, makeable, is_prvalue_itself, class_from, from_values, with_tree}
use Rattle.elab_rules.specs.Objects.{traits_at, size_of}
use Rattle.elab_rules.specs.cpp_overload.Choosing.{chosen}
use Rattle.elab_rules.specs.Operators.{value, measurable, is_function}
use Rattle.elab_rules.specs.Casts.{is_numeric, scalar_cast, reference_cast, cast, functional, as_expression, size_literal}
use Rattle.elab_rules.specs.Casts.{throw_object, throw_in, throw_node, throw, within_exception, is_thrown_scalar}
use Rattle.elab_rules.specs.Expressions.{an_operand, a_tree, row_of, expression_with, chosen_operand, type_id_of, type_id_with, operands_of, specified_with, written_type}
use Rattle.elab_rules.specs.Types.{has_auto, is_bounded, no_specifiers, specified_type}
use Rattle.elab_laws.specs.Reading.{On, IsPrvalue, IsLvalue, operand_of}
use Rattle.elab_rules.specs.cpp_overload.Overload.{Argument}
use Rattle.elab_rules.specs.cpp_overload.Choosing.{choice_of}
use Rattle.elab_rules.specs.cpp_overload.declared.calls.NoBest.{NoBest}
use Rattle.elab_rules.specs.cpp_overload.declared.calls.NoBest.TheVariants.{NoViable as NoneViable, Ambiguous}
use Rattle.elab_rules.proofs.cpp_overload.Choosing.{chosen_is_meant}
use Rattle.elab_laws.specs.Casting.{Makes, MadeBy, by_constructor, by_copy, Built, CastTo, to_void, to_reference, to_scalar, to_class, to_exception, OfCast}
use Rattle.elab_laws.specs.Casting.{OfFunctional, FunctionalCasts, SizeOf, OfSizeType, OfSizeExpression, ThrownObject, Thrown, StaticCasts, Casts, SizesOfTypes}
use Rattle.elab_laws.specs.Casting.{SizesOfExpressions, Throws, Rethrows}
use Rattle.elab_laws.proofs.Reading.{bind, skip, after, checked, weaken, either, of_one, made_in}
use Rattle.elab_laws.proofs.Equal.{form_same}
use Rattle.elab_laws.proofs.Arithmetic.{tree_value}
use Rattle.elab_laws.proofs.Converting.{between_is, between_prvalue, tree_cat}
use Rattle.elab_laws.proofs.Parts.{InMade}
use Rattle.elab_laws.proofs.CastObjects.{ClassObject, LambdaObject, ExceptionObject, constructed_law, lambda_law, exception_law}

-- Scalars

converted_is : (at : At) (t : Typ) (v : Tree) (i j : IntKind) → kind_in (form_in (typ_in v)) ≡ Some i → kind_in (form_in t) ≡ Some j → cat_of v ≡ Prvalue
    → IsPrvalue (unqualified t) (converted at t v)
converted_is at t v i j h g p = record {
  has_type = between_is at (kind_in (form_in (typ_in v))) (kind_in (form_in t)) (unqualified t) v i j h g;
  category = between_prvalue at (kind_in (form_in (typ_in v))) (kind_in (form_in t)) (unqualified t) v p;
}

stepped_is : (at : At) (step : Step) (t : Typ) (v : Tree) (i j : IntKind) → kind_in (form_in (typ_in v)) ≡ Some i → kind_in (form_in t) ≡ Some j
    → cat_of v ≡ Prvalue → IsPrvalue (unqualified t) (stepped at step t v)
stepped_is at NullPointer t v i j h g p = record { has_type = refl; category = refl }
stepped_is at step t v i j h g p = converted_is at t v i j h g p

-- a scalar is converted from a scalar alone
by_other : (classes : List Class) (literal : Bool) (g f : Form) (j : IntKind) → kind_in f ≡ Some j → is_some (other_step classes literal g f) ≡ true
    → is_some (kind_in g) ≡ true
by_other classes literal (int i) f j h s = refl
by_other classes literal (enum n b) f j h s = refl
by_other classes literal null f j h s = refl
by_other classes literal (ptr t) f j h s = refl
by_other classes literal (ref t) f j h s = refl
by_other classes literal (class m) (class n) j h s = absurd cc
by_other classes literal (class m) void j h s = absurd cc
by_other classes literal (class m) (int i) j h s = absurd cc
by_other classes literal (class m) (enum n b) j h s = absurd cc
by_other classes literal (class m) null j h s = absurd cc
by_other classes literal (class m) (ptr t) j h s = absurd cc
by_other classes literal (class m) (ref t) j h s = absurd cc
by_other classes literal (class m) (array t n) j h s = absurd cc
by_other classes literal (class m) (func t) j h s = absurd cc
by_other classes literal (class m) (closure n) j h s = absurd cc
by_other classes literal (class m) (tx_ex t) j h s = absurd cc
by_other classes literal void f j h s = absurd cc
by_other classes literal (array t n) f j h s = absurd cc
by_other classes literal (func t) f j h s = absurd cc
by_other classes literal (closure n) f j h s = absurd cc
by_other classes literal (tx_ex t) f j h s = absurd cc

by_value : (classes : List Class) (literal : Bool) (g f : Form) (j : IntKind) (b : Bool) → form_eq g f ≡ b → kind_in f ≡ Some j
    → is_some (cond b (Some Identity) (other_step classes literal g f)) ≡ true → is_some (kind_in g) ≡ true
by_value classes literal g f j true e h s = ap (λ (z : Form). is_some (kind_in z)) (form_same g f e) ∙ ap is_some h
by_value classes literal g f j false e h s = by_other classes literal g f j h s

from_scalar : (classes : List Class) (literal : Bool) (g f : Form) (j : IntKind) → kind_in f ≡ Some j → is_some (step_of classes literal g f) ≡ true
    → is_some (kind_in g) ≡ true
from_scalar classes literal (ptr t) f j h s = refl
from_scalar classes literal g f j h s = by_value classes literal g f j (form_eq g f) refl h s

some_kind : (A : Type 0) (x : Option IntKind) → is_some x ≡ true → ((i : IntKind) → x ≡ Some i → A) → A
some_kind A (Some i) h k = k i refl
some_kind A None h k = absurd cc

abbrev Scalar : Form → Tree → Type 0
Scalar f e = IsPrvalue (typ f false false) e

step_law : (c : Ctx) (w : Work) (f : Form) (o : Operand) (j : IntKind) (x : Option Step) → kind_in f ≡ Some j
    → step_of c.classes o.zero (decayed (typ_in o.tree)) f ≡ x
    → On (InMade (Scalar f)) (and_then (expect o.at NoConversion (bound Value x))
    (λ (v : Conversion). Ok (bound_by c w v.binding v.step (typ f false false) o.at o.tree)))
step_law c w f o j None h s = tt
step_law c w f o j (Some step) h s = some_kind (Scalar f (stepped o.at step (typ f false false) (valued o.at o.tree)))
    (kind_in (form_in (typ_in (valued o.at o.tree))))
    (ap (λ (z : Form). is_some (kind_in z)) (tree_value o.at o.tree) ∙ from_scalar c.classes o.zero (decayed (typ_in o.tree)) f j h (ap is_some s))
    (λ i e. stepped_is o.at step (typ f false false) (valued o.at o.tree) i j e h (tree_cat o.at o.tree i e))

value_law : (c : Ctx) (w : Work) (f : Form) (o : Operand) (j : IntKind) (b : Bool) → kind_in f ≡ Some j
    → On (InMade (Scalar f)) (and_then (expect o.at NoConversion (cond b (bound Value (step_of c.classes o.zero (decayed (typ_in o.tree)) f)) None))
    (λ (v : Conversion). Ok (bound_by c w v.binding v.step (typ f false false) o.at o.tree)))
value_law c w f o j true h = step_law c w f o j (step_of c.classes o.zero (decayed (typ_in o.tree)) f) h refl
value_law c w f o j false h = tt

-- no reference
abbrev is_referring : Form → Bool
is_referring (ref t) = true
is_referring f = false

initial_law : (c : Ctx) (w : Work) (f : Form) (o : Operand) (j : IntKind) → kind_in f ≡ Some j → is_referring f ≡ false
    → On (InMade (Scalar f)) (initial c w (typ f false false) o)
initial_law c w (int i) o j h n = value_law c w (int i) o j (has_value (typ_in o.tree)) h
initial_law c w (enum m s) o j h n = value_law c w (enum m s) o j (has_value (typ_in o.tree)) h
initial_law c w null o j h n = value_law c w null o j (has_value (typ_in o.tree)) h
initial_law c w (ptr t) o j h n = value_law c w (ptr t) o j (has_value (typ_in o.tree)) h
initial_law c w (ref t) o j h n = absurd cc
initial_law c w void o j h n = absurd cc
initial_law c w (array t m) o j h n = absurd cc
initial_law c w (func s) o j h n = absurd cc
initial_law c w (class m) o j h n = absurd cc
initial_law c w (closure m) o j h n = absurd cc
initial_law c w (tx_ex t) o j h n = absurd cc

numeric_is : (f : Form) → is_numeric f ≡ true → is_some (kind_in f) ≡ true
numeric_is (int j) h = refl
numeric_is (enum n s) h = refl
numeric_is void h = absurd cc
numeric_is null h = absurd cc
numeric_is (ptr t) h = absurd cc
numeric_is (ref t) h = absurd cc
numeric_is (array t n) h = absurd cc
numeric_is (func s) h = absurd cc
numeric_is (class n) h = absurd cc
numeric_is (closure n) h = absurd cc
numeric_is (tx_ex t) h = absurd cc

scalar_law : (c : Ctx) (w : Work) (at : At) (f : Form) (d v : Bool) (o : Operand) (j : IntKind) → kind_in f ≡ Some j → is_referring f ≡ false
    → On (InMade (Scalar f)) (scalar_cast c w at (typ f d v) o)
scalar_law c w at f d v o j h n = either (InMade (Scalar f)) (is_numeric (form_in (typ_in (value o))) && is_numeric f) _ _
    (λ b. let p = and_parts (is_numeric (form_in (typ_in (value o)))) (is_numeric f) b in
    some_kind (Scalar f (converted at (typ f d v) (value o))) (kind_in (form_in (typ_in (value o)))) (numeric_is (form_in (typ_in (value o))) p.0)
    (λ i e. converted_is at (typ f d v) (value o) i j e h (tree_cat o.at o.tree i e)))
    (λ b. initial_law c w f (record { tree = value o; at = at; zero = o.zero }) j h n)

-- Casts

reference_is : (at : At) (u : Typ) (e : Tree) → IsLvalue u (reference_cast at u e)
reference_is at u (node Retype t Lvalue p kids) = record { has_type = refl; category = refl }
reference_is at u e = record { has_type = refl; category = refl }

abbrev Casts_to : Typ → List Operand → Made → Type 0
Casts_to t os m = CastTo t os m.tree

scalar_case : (c : Ctx) (w : Work) (at : At) (f : Form) (d v : Bool) (o : Operand) (j : IntKind) → kind_in f ≡ Some j → is_referring f ≡ false
    → On (Casts_to (typ f d v) (o ∷ [])) (scalar_cast c w at (typ f d v) o)
scalar_case c w at f d v o j h n = weaken (InMade (Scalar f)) (Casts_to (typ f d v) (o ∷ [])) (scalar_cast c w at (typ f d v) o)
    (λ m g. to_scalar (ap is_some h) g) (scalar_law c w at f d v o j h n)

objects_case : (c : Ctx) (w : Work) (at : At) (f : Form) (d v : Bool) (os : List Operand) → is_object_form f ≡ true
    → On (Casts_to (typ f d v) os) (and_then (from_values c w (typ f d v) at os) (λ (m : Made). Ok (with_tree (as_expression at (typ f d v)) m)))
objects_case c w at (class n) d v os h = bind (InMade (ClassObject n d v os)) (Casts_to (typ (class n) d v) os) (constructed c w n (typ (class n) d v) at os) _
    (constructed_law c w n d v at os) (λ m g. to_class n refl g.0 g.1)
objects_case c w at (closure n) d v [] h = tt
objects_case c w at (closure n) d v (o ∷ os) h = bind (InMade (LambdaObject n d v (o ∷ os))) (Casts_to (typ (closure n) d v) (o ∷ os))
    (class_from c w (typ (closure n) d v) at o) _ (lambda_law c w n d v at o os) (λ m g. to_class n refl g.0 g.1)
objects_case c w at (tx_ex u) d v os h = weaken (InMade (ExceptionObject u d v os)) (Casts_to (typ (tx_ex u) d v) os)
    (and_then (from_values c w (typ (tx_ex u) d v) at os) (λ (m : Made). Ok (with_tree (as_expression at (typ (tx_ex u) d v)) m)))
    (λ m g. to_exception u refl g.0 g.1) (exception_law c w u d v at os)
objects_case c w at void d v os h = absurd cc
objects_case c w at (int j) d v os h = absurd cc
objects_case c w at (enum n s) d v os h = absurd cc
objects_case c w at null d v os h = absurd cc
objects_case c w at (ptr t) d v os h = absurd cc
objects_case c w at (ref t) d v os h = absurd cc
objects_case c w at (array t n) d v os h = absurd cc
objects_case c w at (func s) d v os h = absurd cc

cast_law : (c : Ctx) (w : Work) (at : At) (t : Typ) (o : Operand) → On (Casts_to t (o ∷ [])) (cast c w at t o)
cast_law c w at (typ void d v) o = to_void refl (record { has_type = refl; category = refl })
cast_law c w at (typ (ref u) d v) o = skip (Casts_to (typ (ref u) d v) (o ∷ [])) (initial c w (typ (ref u) d v) o) _
    (λ m. to_reference u refl (reference_is at u m.tree))
cast_law c w at (typ (func s) d v) o = tt
cast_law c w at (typ (array u n) d v) o = tt
cast_law c w at (typ (class n) d v) o = objects_case c w at (class n) d v (o ∷ []) refl
cast_law c w at (typ (closure n) d v) o = objects_case c w at (closure n) d v (o ∷ []) refl
cast_law c w at (typ (tx_ex u) d v) o = objects_case c w at (tx_ex u) d v (o ∷ []) refl
cast_law c w at (typ (int j) d v) o = scalar_case c w at (int j) d v o j refl refl
cast_law c w at (typ (enum n s) d v) o = scalar_case c w at (enum n s) d v o Int refl refl
cast_law c w at (typ null d v) o = scalar_case c w at null d v o ULong refl refl
cast_law c w at (typ (ptr t) d v) o = scalar_case c w at (ptr t) d v o ULong refl refl

-- behind a type that an expression names
written_by : {B : Type 0} (Q : B → Type 0) (at : At) (u : Typ) (b : Bool) (f : Typ → Result B ElabFault) → (b ≡ false → On Q (f u))
    → On Q (and_then (and_then (check at OutOfProfile (not b)) (λ y. Ok u)) f)
written_by Q at u true f h = tt
written_by Q at u false f h = h refl

written : {B : Type 0} (Q : B → Type 0) (at : At) (x : Result Typ ElabFault) (f : Typ → Result B ElabFault)
    → ((u : Typ) → x ≡ Ok u → has_auto u ≡ false → On Q (f u)) → On Q (and_then (and_then x (written_type at)) f)
written Q at (Ok u) f h = written_by Q at u (has_auto u) f (h u refl)
written Q at (Err e) f h = tt

cast_in_form : (s : List Lexeme) (c : Ctx) (w : Work) (at : At) (a b : syntax.Tree)
    → On (OfCast s c w a b) (and_then (and_then (type_id_of s c w a) (written_type at))
    (λ (u : Typ). and_then (operand_of s c w b) (λ (x : Typed). an_operand at (cast c x.work at u x.operand))))
cast_in_form s c w at a b = written (OfCast s c w a b) at (type_id_of s c w a) _
    (λ u h n. after (OfCast s c w a b) (operand_of s c w b) _
    (λ x g. weaken (λ (r : Typed). CastTo u (x.operand ∷ []) r.operand.tree) (OfCast s c w a b) (an_operand at (cast c x.work at u x.operand))
    (λ r m. record { typ = u; typ_is = h; no_auto = n; operand = x; operand_is = g; holds = m })
    (made_in (CastTo u (x.operand ∷ [])) at (cast c x.work at u x.operand) (cast_law c x.work at u x.operand))))

pub static_casts_law : StaticCasts
static_casts_law s c w p t a b = cast_in_form s c w (at_of p) a b

pub casts_law : Casts
casts_law s c w p t a b = cast_in_form s c w (at_of p) a b

-- `T(a, ..)`

none_law : (c : Ctx) (w : Work) (at : At) (f : Form) (d v : Bool) → On (Casts_to (typ f d v) []) (functional c w at (typ f d v) [])
none_law c w at (class n) d v = objects_case c w at (class n) d v [] refl
none_law c w at (closure n) d v = objects_case c w at (closure n) d v [] refl
none_law c w at (tx_ex u) d v = objects_case c w at (tx_ex u) d v [] refl
none_law c w at void d v = to_void refl (record { has_type = refl; category = refl })
none_law c w at (int j) d v = to_scalar refl (record { has_type = refl; category = refl })
none_law c w at (enum n s) d v = to_scalar refl (record { has_type = refl; category = refl })
none_law c w at null d v = to_scalar refl (record { has_type = refl; category = refl })
none_law c w at (ptr t) d v = to_scalar refl (record { has_type = refl; category = refl })
none_law c w at (array t n) d v = tt
none_law c w at (func s) d v = tt
none_law c w at (ref t) d v = tt

many_law : (c : Ctx) (w : Work) (at : At) (f : Form) (d v : Bool) (o p : Operand) (os : List Operand)
    → On (Casts_to (typ f d v) (o ∷ p ∷ os)) (functional c w at (typ f d v) (o ∷ p ∷ os))
many_law c w at f d v o p os = either (Casts_to (typ f d v) (o ∷ p ∷ os)) (is_object_form f) _ _ (λ h. objects_case c w at f d v (o ∷ p ∷ os) h) (λ h. tt)

functional_law : (c : Ctx) (w : Work) (at : At) (t : Typ) (os : List Operand) → On (Casts_to t os) (functional c w at t os)
functional_law c w at t (o ∷ []) = cast_law c w at t o
functional_law c w at (typ f d v) [] = none_law c w at f d v
functional_law c w at (typ f d v) (o ∷ p ∷ os) = many_law c w at f d v o p os

-- what holds whatever the answer
always : {A : Type 0} (P : Type 0) (r : Result A ElabFault) → P → On (λ (a : A). P) r
always P (Ok a) h = h
always P (Err e) h = tt

-- there is no `T()` of a reference
abbrev NoReference : Typ → Type 0
NoReference t = is_reference t ≡ false

no_reference : (c : Ctx) (w : Work) (at : At) (t : Typ) → On (λ (m : Made). NoReference t) (functional c w at t [])
no_reference c w at (typ (ref u) d v) = tt
no_reference c w at (typ f d v) = always (NoReference (typ f d v)) (functional c w at (typ f d v) []) refl

both_on : {A : Type 0} (P Q : A → Type 0) (r : Result A ElabFault) → On P r → On Q r → On (λ (a : A). P a × Q a) r
both_on P Q (Ok a) h g = (h, g)
both_on P Q (Err e) h g = tt

abbrev FromNone : Typ → TypedAll → Typed → Type 0
FromNone t xs r = xs.operands ≡ [] → NoReference t

none_in : (at : At) (t : Typ) (xs : TypedAll) (r : Result Made ElabFault) → (xs.operands ≡ [] → On (λ (m : Made). NoReference t) r)
    → On (FromNone t xs) (an_operand at r)
none_in at t xs (Ok m) h = h
none_in at t xs (Err e) h = tt

-- two steps that give a type, which an expression names
nested : {A D : Type 0} (Q : D → Type 0) (at : At) (x : Result A ElabFault) (f : A → Result Typ ElabFault) (g : Typ → Result D ElabFault)
    → ((u : Typ) → and_then x f ≡ Ok u → has_auto u ≡ false → On Q (g u)) → On Q (and_then x (λ (a : A). and_then (and_then (f a) (written_type at)) g))
nested Q at (Ok a) f g h = written Q at (f a) g h
nested Q at (Err e) f g h = tt

-- constructors

chosen_is : (at : At) (i : ℕ) (r : Result ℕ NoBest) → meant at (choice_of r) ≡ Ok i → r ≡ Ok i
chosen_is at i (Ok j) h = cc
chosen_is at i (Err NoneViable) h = absurd cc
chosen_is at i (Err (Ambiguous a b)) h = absurd cc

makes_law : (c : Ctx) (at : At) (n : ℕ) (args : List Argument) (i : ℕ) → meant at (chosen c.classes (makers c n) args) ≡ Ok i → Makes c n args i
makes_law c at n args i h = record { each = λ r g. chosen_is at i r (subst (λ z. meant at z ≡ Ok i) (chosen_is_meant c.classes (makers c n) args r g) h) }

abbrev IsMade : Option ℕ → Made → Type 0
IsMade k m = MadeBy m.tree k

made_law : (c : Ctx) (w : Work) (n : ℕ) (t : Typ) (at : At) (os : List Operand) (k : Option ℕ) → On (IsMade k) (constructed_by c w n t at os k)
made_law c w n t at os (Some k) = skip (IsMade (Some k)) (words c w (parameters_at c.funcs k) os) _ (λ m. by_constructor k refl)
made_law c w n t at (o ∷ []) None = skip (IsMade None) (check o.at NoCopy (not (is_volatile_typ (typ_in o.tree)))) _ (λ y. by_copy refl)
made_law c w n t at os None = tt

built_law : (c : Ctx) (w : Work) (n : ℕ) (d v : Bool) (at : At) (o : Operand) (os : List Operand) → is_prvalue_itself n (o ∷ os) ≡ false
    → On (InMade (Built c n (arguments (o ∷ os)))) (constructed c w n (typ (class n) d v) at (o ∷ os))
built_law c w n d v at o os h = skip (InMade (Built c n (arguments (o ∷ os)))) (makeable c at n) _
    (λ k. either (InMade (Built c n (arguments (o ∷ os)))) (is_prvalue_itself n (o ∷ os)) _ _ (λ b. absurd cc)
    (λ b. after (InMade (Built c n (arguments (o ∷ os)))) (meant at (chosen c.classes (makers c n) (arguments (o ∷ os)))) _
    (λ i e. weaken (IsMade (constructor_at c n i)) (InMade (Built c n (arguments (o ∷ os))))
    (constructed_by c w n (typ (class n) d v) at (o ∷ os) (constructor_at c n i))
    (λ m g. record { index = i; means = makes_law c at n (arguments (o ∷ os)) i e; made = g })
    (made_law c w n (typ (class n) d v) at (o ∷ os) (constructor_at c n i)))))

class_case : (c : Ctx) (w : Work) (at : At) (n : ℕ) (d v : Bool) (o : Operand) (os : List Operand) → is_prvalue_itself n (o ∷ os) ≡ false
    → On (InMade (Built c n (arguments (o ∷ os)))) (functional c w at (typ (class n) d v) (o ∷ os))
class_case c w at n d v o [] h = bind (InMade (Built c n (arguments (o ∷ [])))) (InMade (Built c n (arguments (o ∷ []))))
    (constructed c w n (typ (class n) d v) at (o ∷ [])) _ (built_law c w n d v at o [] h) (λ m g. g)
class_case c w at n d v o (p ∷ os) h = bind (InMade (Built c n (arguments (o ∷ p ∷ os)))) (InMade (Built c n (arguments (o ∷ p ∷ os))))
    (constructed c w n (typ (class n) d v) at (o ∷ p ∷ os)) _ (built_law c w n d v at o (p ∷ os) h) (λ m g. g)

class_of_form : (c : Ctx) (w : Work) (at : At) (f : Form) (d v : Bool) (n : ℕ) (ps : List Operand) (o : Operand) (os : List Operand) → f ≡ class n → ps ≡ o ∷ os
    → is_prvalue_itself n (o ∷ os) ≡ false → On (InMade (Built c n (arguments (o ∷ os)))) (functional c w at (typ f d v) ps)
class_of_form c w at f d v n ps o os h g i = rw (h, g) (class_case c w at n d v o os i)

class_law : (c : Ctx) (w : Work) (at : At) (t : Typ) (n : ℕ) (ps : List Operand) (o : Operand) (os : List Operand) → form_in t ≡ class n → ps ≡ o ∷ os
    → is_prvalue_itself n (o ∷ os) ≡ false → On (InMade (Built c n (arguments (o ∷ os)))) (functional c w at t ps)
class_law c w at (typ f d v) n ps o os h g i = class_of_form c w at f d v n ps o os h g i

abbrev FromClass : Ctx → Typ → TypedAll → Typed → Type 0
FromClass c t xs r = (n : ℕ) (x : Operand) (ys : List Operand) → form_in t ≡ class n → xs.operands ≡ x ∷ ys → is_prvalue_itself n (x ∷ ys) ≡ false
    → Built c n (arguments (x ∷ ys)) r.operand.tree

class_in : (c : Ctx) (at : At) (t : Typ) (xs : TypedAll) (r : Result Made ElabFault)
    → ((n : ℕ) (x : Operand) (ys : List Operand) → form_in t ≡ class n → xs.operands ≡ x ∷ ys → is_prvalue_itself n (x ∷ ys) ≡ false
    → On (InMade (Built c n (arguments (x ∷ ys)))) r) → On (FromClass c t xs) (an_operand at r)
class_in c at t xs (Ok m) h = h
class_in c at t xs (Err e) h = tt

class_on : (c : Ctx) (at : At) (t : Typ) (xs : TypedAll) → On (FromClass c t xs) (an_operand at (functional c xs.work at t xs.operands))
class_on c at t xs = class_in c at t xs (functional c xs.work at t xs.operands) (λ n x ys h g i. class_law c xs.work at t n xs.operands x ys h g i)

none_on : (c : Ctx) (at : At) (t : Typ) (xs : TypedAll) → On (FromNone t xs) (an_operand at (functional c xs.work at t xs.operands))
none_on c at t xs = none_in at t xs (functional c xs.work at t xs.operands)
    (λ h. subst (λ (z : List Operand). On (λ (m : Made). NoReference t) (functional c xs.work at t z)) (sym h) (no_reference c xs.work at t))

any_on : (c : Ctx) (at : At) (t : Typ) (xs : TypedAll) → On (λ (r : Typed). CastTo t xs.operands r.operand.tree) (an_operand at (functional c xs.work at t xs.operands))
any_on c at t xs = made_in (CastTo t xs.operands) at (functional c xs.work at t xs.operands) (functional_law c xs.work at t xs.operands)

abbrev FromNoneOrAny : Typ → TypedAll → Typed → Type 0
FromNoneOrAny t xs r = FromNone t xs r × CastTo t xs.operands r.operand.tree

pub functional_casts_law : FunctionalCasts
functional_casts_law s c w p t base es =
    nested (OfFunctional s c w p base es) (at_of p) (specified_with s c c.closures w no_specifiers base) (specified_type (at_of p)) _
    (λ u h n. after (OfFunctional s c w p base es) (operands_of s c w es) _ (λ xs g.
    weaken (λ (r : Typed). FromNoneOrAny u xs r × FromClass c u xs r) (OfFunctional s c w p base es)
    (an_operand (at_of p) (functional c xs.work (at_of p) u xs.operands))
    (λ r m. record { typ = u; typ_is = h; no_auto = n; args = xs; args_are = g; holds = m.0.1; of_none = m.0.0; of_class = m.1 })
    (both_on (FromNoneOrAny u xs) (FromClass c u xs) (an_operand (at_of p) (functional c xs.work (at_of p) u xs.operands))
    (both_on (FromNone u xs) (λ (r : Typed). CastTo u xs.operands r.operand.tree) (an_operand (at_of p) (functional c xs.work (at_of p) u xs.operands))
    (none_on c (at_of p) u xs) (any_on c (at_of p) u xs)) (class_on c (at_of p) u xs))))

-- `sizeof`

size_in : (c : Ctx) (w : Work) (at : At) (t : Typ) (b d : Bool) (r : Result Bool ElabFault) → is_bounded (referred t) ≡ d
    → On (SizeOf c w t) (a_tree at w (and_then (check at BadOperand b)
    (λ y. and_then (check at Incomplete d) (λ x. and_then r (λ z. Ok (number ULong (size_of c.classes (referred t)) at))))))
size_in c w at t true true (Ok y) e = record { value = refl; result = record { has_type = refl; category = refl }; bounded = e; nothing_made = refl }
size_in c w at t true true (Err f) e = tt
size_in c w at t true false r e = tt
size_in c w at t false d r e = tt

size_law : (c : Ctx) (w : Work) (at place : At) (t : Typ) → On (SizeOf c w t) (a_tree at w (size_literal c at place t))
size_law c w at place t = size_in c w at t (not (is_function (referred t)) && not (is_void (referred t))) (is_bounded (referred t)) (measurable c at (referred t)) refl

pub sizes_of_types_law : SizesOfTypes
sizes_of_types_law s c w p t a = written (OfSizeType s c w a) (at_of p) (type_id_with s c [] w a) _
    (λ u h n. weaken (SizeOf c w u) (OfSizeType s c w a) (a_tree (at_of p) w (size_literal c (at_of p) (at_of p) u))
    (λ r g. record { typ = u; typ_is = h; no_auto = n; size = g }) (size_law c w (at_of p) (at_of p) u))

pub sizes_of_expressions_law : SizesOfExpressions
sizes_of_expressions_law s c w p t a = after (OfSizeExpression s c w a) (and_then (expression_with s c [] w a) (chosen_operand c)) _
    (λ x h. weaken (SizeOf c w (typ_in x.operand.tree)) (OfSizeExpression s c w a)
    (a_tree (at_of p) w (size_literal c (at_of p) x.operand.at (typ_in x.operand.tree))) (λ r g. record { operand = x; operand_is = h; size = g })
    (size_law c w (at_of p) x.operand.at (typ_in x.operand.tree)))

-- `throw`

object_plain : (t : Typ) → is_object_form (form_in t) ≡ true → unqualified t ≡ plain (decayed t)
object_plain (typ (class n) d v) h = refl
object_plain (typ (closure n) d v) h = refl
object_plain (typ (tx_ex u) d v) h = refl
object_plain (typ void d v) h = absurd cc
object_plain (typ (int j) d v) h = absurd cc
object_plain (typ (enum n s) d v) h = absurd cc
object_plain (typ null d v) h = absurd cc
object_plain (typ (ptr t) d v) h = absurd cc
object_plain (typ (ref t) d v) h = absurd cc
object_plain (typ (array t n) d v) h = absurd cc
object_plain (typ (func s) d v) h = absurd cc

plain_form : (t : Typ) (f : Form) → form_in t ≡ f → unqualified t ≡ plain f
plain_form (typ g d v) f h = ap plain h

-- what throws stands where the expression does
abbrev ThrownAt : At → Operand → Tree → Type 0
ThrownAt at o e = ThrownObject o e × (place_of e ≡ at)

thrown_scalar : (c : Ctx) (w : Work) (at : At) (o : Operand)
    → On (InMade (ThrownAt at o)) (and_then (check at BadThrow (is_thrown_scalar (form_in (typ_in (value o)))))
    (λ y. Ok (record { tree = throw_node c at (typ_in (value o)) (value o); work = w })))
thrown_scalar c w at o = checked (InMade (ThrownAt at o)) at BadThrow (is_thrown_scalar (form_in (typ_in (value o)))) _
    (λ y. (
      record {
        is = refl;
        result = record {
          has_type = plain_form (typ_in (value o)) (decayed (typ_in o.tree)) (tree_value o.at o.tree);
          category =
              refl;
        };
      },
      refl,
    ))

thrown_object : (c : Ctx) (w : Work) (at : At) (o : Operand) → is_object_form (form_in (typ_in o.tree)) ≡ true
    → On (InMade (ThrownAt at o)) (throw_object c w at o)
thrown_object c w at o h = skip (InMade (ThrownAt at o)) (check o.at NoCopy (not (is_volatile_typ (typ_in o.tree)))) _
    (λ y. skip (InMade (ThrownAt at o)) (within_exception c at (typ_in o.tree)) _
    (λ z. (record { is = refl; result = record { has_type = object_plain (typ_in o.tree) h; category = refl } }, refl)))

throw_in_law : (c : Ctx) (w : Work) (at : At) (f : Form) (o : Operand) → form_in (typ_in o.tree) ≡ f → On (InMade (ThrownAt at o)) (throw_in c w at f o)
throw_in_law c w at (class n) o h = skip (InMade (ThrownAt at o)) (check at NotTriviallyCopyable (traits_at c n).is_trivially_copyable) _
    (λ y. thrown_object c w at o (ap is_object_form h))
throw_in_law c w at (tx_ex t) o h = thrown_object c w at o (ap is_object_form h)
throw_in_law c w at f o h = thrown_scalar c w at o

throw_law : (c : Ctx) (w : Work) (at : At) (o : Operand) → On (InMade (Thrown c o)) (throw c w at (o ∷ []))
throw_law c w at o = bind (InMade (ThrownAt at o)) (InMade (Thrown c o)) (throw_in c w at (form_in (typ_in o.tree)) o) _
    (throw_in_law c w at (form_in (typ_in o.tree)) o refl)
    (λ m g. record { is = refl; result = record { has_type = refl; category = refl }; thrown = m.tree; only = refl; place = g.1; object = g.0 })

pub throws_law : Throws
throws_law s c w p t a = of_one s c w a (Thrown c) (λ (xs : TypedAll). row_of s c xs.work k.ThrowExpression (at_of p) t xs.operands)
    (λ x. made_in (Thrown c x.operand) (at_of p) (throw c x.work (at_of p) (x.operand ∷ [])) (throw_law c x.work (at_of p) x.operand))

pub rethrows_law : Rethrows
rethrows_law s c w p t = record { is = refl; result = record { has_type = refl; category = refl } }
