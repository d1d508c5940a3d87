-- Operators give what has the type of an expression.
use Rattle.std.proofs.Common.{◌≡◌, refl, ap, ◌∙◌, subst, Bool, true, false, not, ◌&&◌, ◌||◌, List, Option, Some, None, is_some, Result, Ok}
use Rattle.std.specs.Prelude.{if◌then◌else◌}
use Rattle.std.proofs.lemmas.Bool.{and_parts}
use Rattle.elab_rules.specs.tx_ints.declared.kinds.IntKind.{IntKind}
use Rattle.elab_rules.specs.tx_ints.declared.kinds.IntKind.TheVariants.{Bool as BoolKind, Int, ULong}
use Rattle.elab_rules.specs.tx_ints.declared.kinds.BinOp.{BinOp}
use Rattle.elab_rules.specs.tx_ints.declared.kinds.BinOp.TheVariants.{Add, Sub}
use Rattle.elab_rules.specs.tx_ints.Integers.{usual_of, promote_of, is_shift}
use Rattle.elab_rules.specs.cpp_types.Typ.{Typ, typ, Form, void, int, enum, null, ptr, ref, array, func, class, closure, tx_ex}
use Rattle.elab_rules.specs.cpp_types.Class.{Class}
use Rattle.elab_rules.specs.cpp_types.Equal.{kind_eq, typ_eq, form_eq}
use Rattle.elab_rules.specs.cpp_types.Conversion.{is_lvalue, const_of}
use Rattle.elab_rules.specs.cpp_types.declared.classes.At.{At}
use Rattle.elab_rules.specs.cpp_types.declared.ranks.Cat.{Cat}
use Rattle.elab_rules.specs.cpp_types.declared.ranks.Cat.TheVariants.{Lvalue, Prvalue}
use Rattle.elab_rules.specs.cpp_tree.declared.kinds.TKind.TheVariants.{Retype}
use Rattle.elab_rules.specs.cpp_tree.declared.faults.ElabFault.{ElabFault}
use Rattle.elab_rules.specs.cpp_tree.declared.faults.IllRule.{IllRule}
use Rattle.elab_rules.specs.cpp_tree.declared.faults.IllRule.TheVariants.{NoConversion, BadOperand, NotLvalue, ConstTarget, NoCopy}
use Rattle.elab_rules.specs.cpp_tree.Trees.{Tree, node, typ_in, cat_of}
use Rattle.elab_rules.specs.cpp_tree.Notation.{plain}
use Rattle.elab_rules.specs.cpp_tree.Typing.{form_in, unqualified, kind_in, is_class_typ, is_void, is_volatile_typ}
use Rattle.elab_rules.specs.elab_ctx.Ctx.{Ctx, Work}
use Rattle.elab_rules.specs.elab_ctx.Steps.{and_then, expect, check, Operand, Made}
use Rattle.elab_rules.specs.Objects.{traits_at}
use Rattle.elab_rules.specs.Initialising.{initial, is_written_exception, class_number, is_same_or_base, exact_object}
use Rattle.elab_rules.specs.Operators as operators
use Rattle.elab_rules.specs.Operators.{value, value_form, pointed, arithmetic, as_kind}
use Rattle.elab_fits.specs.Standing.{On}
use Rattle.elab_fits.proofs.Steps.{bind, skip, checked, expected, either_way as either}
use Rattle.elab_sound_types.specs.Types.{target, is_sound, is_head, IsExpression}
use Rattle.elab_sound_types.proofs.Sound.{both}
use Rattle.elab_sound_types.proofs.Trees.{some_same, class_head, class_sound, scalar_head, lvalue_retyped, valued_sound, in_kind_sound}
use Rattle.elab_sound_types.proofs.Initial.{made, made_if}
use Rattle.elab_sound_types.proofs.Pointers.{pointers_law}

-- Parts of operands

pub value_sound : (cs : List Class) (o : Operand) → IsExpression cs o.tree → IsExpression cs (value o)
value_sound cs o h = valued_sound cs o.at o.tree h

pub as_kind_sound : (cs : List Class) (k : IntKind) (o : Operand) → IsExpression cs o.tree → IsExpression cs (as_kind k o)
as_kind_sound cs k o h = in_kind_sound cs o.at k (value o) (value_sound cs o h)

pub lvalue_target : (cs : List Class) (t : Typ) (cat : Cat) → is_lvalue cat ≡ true → is_head cs t cat ≡ true → is_sound cs target t ≡ true
lvalue_target cs t Lvalue i h = h
lvalue_target cs t Prvalue i h = absurd cc

pub pointed_is : (f : Form) (t : Typ) → pointed f ≡ Some t → f ≡ ptr t
pointed_is (ptr u) t h = ap ptr (some_same u t h)
pointed_is void t h = absurd cc
pointed_is (int k) t h = absurd cc
pointed_is (enum m s) t h = absurd cc
pointed_is null t h = absurd cc
pointed_is (ref u) t h = absurd cc
pointed_is (array u k) t h = absurd cc
pointed_is (func s) t h = absurd cc
pointed_is (class k) t h = absurd cc
pointed_is (closure k) t h = absurd cc
pointed_is (tx_ex u) t h = absurd cc

-- a pointer without its qualifiers
pointer_head : (cs : List Class) (e : Tree) (t : Typ) → pointed (form_in (typ_in e)) ≡ Some t → IsExpression cs e → is_head cs (unqualified (typ_in e)) Prvalue ≡ true
pointer_head cs e t i h = scalar_head cs (typ_in e) (cat_of e) h.head (ap (λ (f : Form). is_some (kind_in f)) (pointed_is (form_in (typ_in e)) t i))

-- what lies behind it
pub pointed_target : (cs : List Class) (e : Tree) (t : Typ) → pointed (form_in (typ_in e)) ≡ Some t → IsExpression cs e → is_sound cs target t ≡ true
pointed_target cs e t i h = pointers_law cs (typ_in e) t (cat_of e) h.head (pointed_is (form_in (typ_in e)) t i)

-- Arithmetic (C++14 5.6 to 5.13)

arithmetic_of : (cs : List Class) (op : BinOp) (at : At) (x y : Option IntKind) (a b : Operand) → On (IsExpression cs) (operators.arithmetic_of op at x y a b)
arithmetic_of cs op at (Some j) (Some k) a b = either (IsExpression cs) (is_shift op) _ _ (record { head = refl; chosen = refl; written = refl })
    (record { head = refl; chosen = refl; written = refl })
arithmetic_of cs op at None y a b = tt
arithmetic_of cs op at (Some j) None a b = tt

pub sum_of : (cs : List Class) (c : Ctx) (op : BinOp) (at : At) (x y : Option Typ) (a b : Operand) → pointed (value_form a) ≡ x → pointed (value_form b) ≡ y
    → IsExpression cs a.tree → IsExpression cs b.tree → On (IsExpression cs) (operators.sum_of c op at x y a b)
sum_of cs c Sub at (Some t) (Some u) a b i j h g = skip (IsExpression cs) (check at BadOperand (typ_eq t u)) _
    (λ y. skip (IsExpression cs) (operators.movable c at a.at t) _ (λ z. record { head = refl; chosen = refl; written = refl }))
sum_of cs c op at (Some t) None a b i j h g = skip (IsExpression cs) (check at BadOperand (is_some (arithmetic (value_form b)))) _
    (λ y. skip (IsExpression cs) (operators.movable c at a.at t) _
    (λ z. record { head = pointer_head cs (value a) t i (value_sound cs a h); chosen = refl; written = refl }))
sum_of cs c Add at None (Some t) a b i j h g = skip (IsExpression cs) (check at BadOperand (is_some (arithmetic (value_form a)))) _
    (λ y. skip (IsExpression cs) (operators.movable c at b.at t) _
    (λ z. record { head = pointer_head cs (value b) t j (value_sound cs b g); chosen = refl; written = refl }))
sum_of cs c op at x y a b i j h g = arithmetic_of cs op at (arithmetic (value_form a)) (arithmetic (value_form b)) a b

-- Comparisons (5.9, 5.10)

comparison_by : (cs : List Class) (op : BinOp) (at : At) (x y : Option IntKind) (a b : Operand) → On (IsExpression cs) (operators.comparison_by op at x y a b)
comparison_by cs op at (Some j) (Some k) a b = record { head = refl; chosen = refl; written = refl }
comparison_by cs op at None y a b = tt
comparison_by cs op at (Some j) None a b = tt

compared : (cs : List Class) (op : BinOp) (k : IntKind) (at : At) (x y : Tree) → IsExpression cs (operators.compared op k at x y)
compared cs op k at x y = record { head = refl; chosen = refl; written = refl }

comparison_in : (cs : List Class) (op : BinOp) (at : At) (f g : Form) (a b : Operand) → On (IsExpression cs) (operators.comparison_in op at f g a b)
comparison_in cs op at (ptr t) (ptr u) a b = skip (IsExpression cs) (check at BadOperand (typ_eq t u)) _ (λ y. compared cs op ULong at (value a) (value b))
comparison_in cs op at (ptr t) f a b = skip (IsExpression cs) (check at BadOperand (operators.is_null b)) _
    (λ y. compared cs op ULong at (value a) (operators.as_pointer t b))
comparison_in cs op at f (ptr t) a b = skip (IsExpression cs) (check at BadOperand (operators.is_null a)) _
    (λ y. compared cs op ULong at (operators.as_pointer t a) (value b))
comparison_in cs op at (enum m true) f a b = skip (IsExpression cs) (check at BadOperand (form_eq (enum m true) f))
    (λ y. Ok (operators.compared op Int at (value a) (value b))) (λ y. compared cs op Int at (value a) (value b))
comparison_in cs op at f g a b = comparison_by cs op at (arithmetic f) (arithmetic g) a b

pub binary : (cs : List Class) (c : Ctx) (op : BinOp) (at : At) (a b : Operand) → IsExpression cs a.tree → IsExpression cs b.tree
    → On (IsExpression cs) (operators.binary c op at a b)
binary cs c op at a b h g = either (IsExpression cs) (operators.is_comparison op) _ _ (comparison_in cs op at (value_form a) (value_form b) a b)
    (either (IsExpression cs) (operators.is_sum op) _ _ (sum_of cs c op at (pointed (value_form a)) (pointed (value_form b)) a b refl refl h g)
    (arithmetic_of cs op at (arithmetic (value_form a)) (arithmetic (value_form b)) a b))

-- Truth (5.3.1, 5.14, 5.15)

pub logical : (cs : List Class) (c : Ctx) (w : Work) (is_and : Bool) (at : At) (a b : Operand) → On (IsExpression cs) (operators.logical c w is_and at a b)
logical cs c w is_and at a b = skip (IsExpression cs) (operators.truth c w a) _
    (λ x. skip (IsExpression cs) (operators.truth c w b) _ (λ y. record { head = refl; chosen = refl; written = refl }))

pub negation : (cs : List Class) (c : Ctx) (w : Work) (at : At) (a : Operand) → On (IsExpression cs) (operators.negation c w at a)
negation cs c w at a = skip (IsExpression cs) (operators.truth c w a) _ (λ x. record { head = refl; chosen = refl; written = refl })

-- Unary operators (5.3.1)

pub minus : (cs : List Class) (at : At) (a : Operand) → On (IsExpression cs) (operators.minus at a)
minus cs at a = skip (IsExpression cs) (expect at BadOperand (arithmetic (value_form a))) _ (λ k. record { head = refl; chosen = refl; written = refl })

pub complement : (cs : List Class) (at : At) (a : Operand) → On (IsExpression cs) (operators.complement at a)
complement cs at a = skip (IsExpression cs) (expect at BadOperand (arithmetic (value_form a))) _ (λ k. record { head = refl; chosen = refl; written = refl })

pub plus : (cs : List Class) (at : At) (a : Operand) → IsExpression cs a.tree → On (IsExpression cs) (operators.plus at a)
plus cs at a h = skip (IsExpression cs) (expect at BadOperand (arithmetic (value_form a))) _ (λ k. as_kind_sound cs (promote_of k) a h)

pub indirection : (cs : List Class) (at : At) (a : Operand) → IsExpression cs a.tree → On (IsExpression cs) (operators.indirection at a)
indirection cs at a h = expected (IsExpression cs) at BadOperand (pointed (value_form a)) _
    (λ t i. lvalue_retyped cs at t (value a) (pointed_target cs (value a) t i (value_sound cs a h)))

pub address_of : (cs : List Class) (at : At) (a : Operand) → IsExpression cs a.tree → On (IsExpression cs) (operators.address_of at a)
address_of cs at a h = checked (IsExpression cs) at NotLvalue (is_lvalue (cat_of a.tree)) _
    (λ i. record { head = both (lvalue_target cs (typ_in a.tree) (cat_of a.tree) i h.head) refl; chosen = refl; written = refl })

pub subscript : (cs : List Class) (c : Ctx) (at : At) (a b : Operand) → IsExpression cs a.tree → IsExpression cs b.tree
    → On (IsExpression cs) (operators.subscript c at a b)
subscript cs c at a b h g = bind (IsExpression cs) (IsExpression cs) (operators.sum_of c Add at (pointed (value_form a)) (pointed (value_form b)) a b) _
    (sum_of cs c Add at (pointed (value_form a)) (pointed (value_form b)) a b refl refl h g)
    (λ s k. expected (IsExpression cs) at BadOperand (pointed (form_in (typ_in s))) _ (λ t i. lvalue_retyped cs at t s (pointed_target cs s t i k)))

-- Assignments (5.17)

targeted_by : {B : Type 0} (Q : B → Type 0) (at : At) (x y : IllRule) (a b : Bool) (f : Bool → Result B ElabFault) → (a ≡ true → On Q (f true))
    → On Q (and_then (and_then (check at x a) (λ z. check at y b)) f)
targeted_by Q at x y true true f h = h refl
targeted_by Q at x y true false f h = tt
targeted_by Q at x y false b f h = tt

-- what is assigned to is an lvalue
targeted : {B : Type 0} (cs : List Class) (Q : B → Type 0) (at : At) (a : Operand) (f : Bool → Result B ElabFault) → IsExpression cs a.tree
    → (is_sound cs target (typ_in a.tree) ≡ true → On Q (f true)) → On Q (and_then (operators.target at a) f)
targeted cs Q at a f h g = targeted_by Q at NotLvalue ConstTarget (is_lvalue (cat_of a.tree)) (not (const_of (typ_in a.tree))) f
    (λ i. g (lvalue_target cs (typ_in a.tree) (cat_of a.tree) i h.head))

class_assigned_in : (cs : List Class) (c : Ctx) (w : Work) (at : At) (a b : Operand) (f : Form) → is_sound cs target (typ_in a.tree) ≡ true
    → On (made cs) (operators.class_assigned_in c w at a b f)
class_assigned_in cs c w at a b (class k) h = skip (made cs) (check b.at NoConversion (is_same_or_base c.classes (class_number (typ_in b.tree)) (Some k))) _
    (λ x. skip (made cs) (check at NoCopy ((traits_at c k).is_assignable && not (is_volatile_typ (typ_in a.tree)))) _
    (λ y. skip (made cs) (check b.at NoCopy (not (is_volatile_typ (typ_in b.tree)))) _ (λ z. record { head = h; chosen = refl; written = refl })))
class_assigned_in cs c w at a b (tx_ex t) h = skip (made cs) (check b.at NoConversion (form_eq (form_in (typ_in b.tree)) (tx_ex t))) _
    (λ x. skip (made cs) (check at NoCopy (operators.is_assignable_form c (form_in t) && not (is_volatile_typ (typ_in a.tree)))) _
    (λ y. skip (made cs) (check b.at NoCopy (not (is_volatile_typ (typ_in b.tree)))) _ (λ z. record { head = h; chosen = refl; written = refl })))
class_assigned_in cs c w at a b f h = tt

assigned : (cs : List Class) (at : At) (x : Option IntKind) (a : Operand) (v : Tree) → is_sound cs target (typ_in a.tree) ≡ true
    → On (IsExpression cs) (operators.assigned at x a v)
assigned cs at (Some k) a v h = record { head = h; chosen = refl; written = refl }
assigned cs at None a v h = tt

pub assignment : (cs : List Class) (c : Ctx) (w : Work) (at : At) (a b : Operand) → IsExpression cs a.tree → On (made cs) (operators.assignment c w at a b)
assignment cs c w at a b h = targeted cs (made cs) at a _ h (λ i. either (made cs) (is_class_typ (typ_in a.tree)) _ _
    (class_assigned_in cs c w at a b (form_in (typ_in a.tree)) i)
    (skip (made cs) (check at BadOperand (is_some (kind_in (form_in (typ_in a.tree))))) _
    (λ x. skip (made cs) (initial c w (unqualified (typ_in a.tree)) b) _
    (λ m. bind (IsExpression cs) (made cs) (operators.assigned at (kind_in (form_in (typ_in a.tree))) a m.tree) _
    (assigned cs at (kind_in (form_in (typ_in a.tree))) a m.tree i) (λ t k. k)))))

updated : (cs : List Class) (op : BinOp) (j k : IntKind) (old : Bool) (at : At) (a : Operand) (r : Tree) → is_sound cs target (typ_in a.tree) ≡ true
    → is_some (kind_in (form_in (typ_in a.tree))) ≡ true → IsExpression cs (operators.updated op j k old at a r)
updated cs op j k true at a r h i = record { head = scalar_head cs (typ_in a.tree) Lvalue h i; chosen = refl; written = refl }
updated cs op j k false at a r h i = record { head = h; chosen = refl; written = refl }

-- the form has a kind
has_kind : (e : Tree) (f : Form) → form_in (typ_in e) ≡ f → is_some (kind_in f) ≡ true → is_some (kind_in (form_in (typ_in e))) ≡ true
has_kind e f i h = ap (λ (g : Form). is_some (kind_in g)) i ∙ h

compound_in : (cs : List Class) (c : Ctx) (op : BinOp) (at : At) (f : Form) (a b : Operand) → form_in (typ_in a.tree) ≡ f → is_sound cs target (typ_in a.tree) ≡ true
    → On (IsExpression cs) (operators.compound_in c op at f a b)
compound_in cs c op at (ptr t) a b i h = skip (IsExpression cs) (check at BadOperand (operators.is_sum op && is_some (arithmetic (value_form b)))) _
    (λ y. skip (IsExpression cs) (operators.movable c at a.at t) _ (λ z. updated cs op ULong ULong false at a _ h (has_kind a.tree (ptr t) i refl)))
compound_in cs c op at (int j) a b i h = skip (IsExpression cs) (expect at BadOperand (arithmetic (value_form b))) _ (λ k. tree_by k (is_shift op))
  where
    tree_by : (k : IntKind) (x : Bool) → IsExpression cs (if x then operators.updated op j (promote_of j) false at a (as_kind (promote_of k) b)
        else operators.updated op j (usual_of j k) false at a (as_kind (usual_of j k) b))
    tree_by k true = updated cs op j (promote_of j) false at a _ h (has_kind a.tree (int j) i refl)
    tree_by k false = updated cs op j (usual_of j k) false at a _ h (has_kind a.tree (int j) i refl)
compound_in cs c op at f a b i h = tt

pub compound : (cs : List Class) (c : Ctx) (op : BinOp) (at : At) (a b : Operand) → IsExpression cs a.tree → On (IsExpression cs) (operators.compound c op at a b)
compound cs c op at a b h = targeted cs (IsExpression cs) at a _ h (λ i. compound_in cs c op at (form_in (typ_in a.tree)) a b refl i)

step_in : (cs : List Class) (c : Ctx) (op : BinOp) (old : Bool) (at : At) (f : Form) (a : Operand) → form_in (typ_in a.tree) ≡ f
    → is_sound cs target (typ_in a.tree) ≡ true → On (IsExpression cs) (operators.step_in c op old at f a)
step_in cs c op old at (ptr t) a i h = skip (IsExpression cs) (operators.movable c at a.at t) _
    (λ z. updated cs op ULong ULong old at a _ h (has_kind a.tree (ptr t) i refl))
step_in cs c op old at (int j) a i h = skip (IsExpression cs) (check at BadOperand (not (kind_eq j BoolKind))) _
    (λ y. updated cs op j (promote_of j) old at a _ h (has_kind a.tree (int j) i refl))
step_in cs c op old at f a i h = tt

pub step : (cs : List Class) (c : Ctx) (op : BinOp) (old : Bool) (at : At) (a : Operand) → IsExpression cs a.tree → On (IsExpression cs) (operators.step c op old at a)
step cs c op old at a h = targeted cs (IsExpression cs) at a _ h (λ i. step_in cs c op old at (form_in (typ_in a.tree)) a refl i)

-- `,` and `?:` (5.16, 5.18)

written_prvalue : (e : Tree) → is_written_exception e ≡ true → cat_of e ≡ Prvalue
written_prvalue (node Retype (typ (tx_ex t) d v) Prvalue at kids) h = refl
written_prvalue (node kind t cat at kids) h = absurd cc

settled : (cs : List Class) (c : Ctx) (w : Work) (o : Operand) → IsExpression cs o.tree → made cs (operators.settled c w o)
settled cs c w o h = made_if cs (is_written_exception o.tree) _ _
    (λ i. record { head = subst (λ (x : Cat). is_head cs (typ_in o.tree) x ≡ true) (written_prvalue o.tree i) h.head; chosen = refl; written = refl })
    (λ i. h)

pub comma : (cs : List Class) (c : Ctx) (w : Work) (at : At) (a b : Operand) → IsExpression cs b.tree → made cs (operators.comma c w at a b)
comma cs c w at a b h = record { head = (settled cs c (operators.dropped c w a).work b h).head; chosen = refl; written = refl }

-- objects of one class

joined_head : (cs : List Class) (s t : Typ) (cat : Cat) → is_class_typ s ≡ true → is_sound cs target s ≡ true → is_head cs (operators.joined_type s t) cat ≡ true
joined_head cs (typ f c v) (typ g d w) cat i h = class_head cs target f (c || v) (c || d) (v || w) cat i h

two_objects : (cs : List Class) (c : Ctx) (w : Work) (at : At) (test : Tree) (a b : Operand) → is_class_typ (typ_in a.tree) ≡ true → IsExpression cs a.tree
    → On (made cs) (operators.two_objects c w at test a b)
two_objects cs c w at test a b i h = skip (made cs) (exact_object c w (operators.joined_class a b) a.at a) _
    (λ x. skip (made cs) (exact_object c x.work (operators.joined_class a b) b.at b) _ (λ y. record {
      head = joined_head cs (typ_in a.tree) (typ_in b.tree) Prvalue i (class_sound cs (typ_in a.tree) (cat_of a.tree) i h.head);
      chosen = refl;
      written = refl;
    }))

-- two values

two_numbers : (cs : List Class) (at : At) (test : Tree) (x y : Option IntKind) (a b : Operand) → On (IsExpression cs) (operators.two_numbers at test x y a b)
two_numbers cs at test (Some j) (Some k) a b = record { head = refl; chosen = refl; written = refl }
two_numbers cs at test None y a b = tt
two_numbers cs at test (Some j) None a b = tt

-- a scalar's form is that of a value
abbrev OfValue : List Class → Form → Type 0
OfValue cs f = is_some (kind_in f) ≡ true → is_head cs (plain f) Prvalue ≡ true

scalar_plain : (cs : List Class) (t : Typ) (cat : Cat) → is_head cs t cat ≡ true → OfValue cs (form_in t)
scalar_plain cs (typ f c v) cat h i = scalar_head cs (typ f c v) cat h i

two_values : (cs : List Class) (at : At) (test : Tree) (f g : Form) (a b : Operand) → OfValue cs f → OfValue cs g
    → On (IsExpression cs) (operators.two_values at test f g a b)
two_values cs at test (ptr t) (ptr u) a b h k = skip (IsExpression cs) (check at BadOperand (typ_eq t u)) _
    (λ y. record { head = h refl; chosen = refl; written = refl })
two_values cs at test (ptr t) f a b h k = skip (IsExpression cs) (check at BadOperand (operators.is_null b)) _
    (λ y. record { head = h refl; chosen = refl; written = refl })
two_values cs at test f (ptr t) a b h k = skip (IsExpression cs) (check at BadOperand (operators.is_null a)) _
    (λ y. record { head = k refl; chosen = refl; written = refl })
two_values cs at test f g a b h k = values_if (form_eq f g && is_some (kind_in f)) refl
  where
    values_if : (x : Bool) → (form_eq f g && is_some (kind_in f)) ≡ x → On (IsExpression cs) (if x then Ok
        (operators.conditional_node at (plain f) Prvalue test (value a) (value b)) else operators.two_numbers at test (arithmetic f) (arithmetic g) a b)
    values_if true e = record { head = h (and_parts (form_eq f g) (is_some (kind_in f)) e).1; chosen = refl; written = refl }
    values_if false e = two_numbers cs at test (arithmetic f) (arithmetic g) a b

both_class : (a b : Operand) → operators.both_of_class a b ≡ true → is_class_typ (typ_in a.tree) ≡ true
both_class a b h = (and_parts (is_class_typ (typ_in a.tree)) (form_eq (form_in (typ_in a.tree)) (form_in (typ_in b.tree))) h).0

shared_class : (a b : Operand) → operators.is_shared a b ≡ true → is_class_typ (typ_in a.tree) ≡ true
shared_class a b h = let d = and_parts (is_lvalue (cat_of a.tree) && is_lvalue (cat_of b.tree) && operators.both_of_class a b)
    (typ_eq (operators.joined_class a b) (typ_in a.tree) || typ_eq (operators.joined_class a b) (typ_in b.tree)) h in
    both_class a b (and_parts (is_lvalue (cat_of a.tree) && is_lvalue (cat_of b.tree)) (operators.both_of_class a b) d.0).1

branch : (cs : List Class) (b : Bool) (x y : Result Made ElabFault) → (b ≡ true → On (made cs) x) → (b ≡ false → On (made cs) y) → On (made cs) (if b then x else y)
branch cs true x y h k = h refl
branch cs false x y h k = k refl

branches : (cs : List Class) (c : Ctx) (w : Work) (at : At) (test : Tree) (a b : Operand) → IsExpression cs a.tree → IsExpression cs b.tree
    → On (made cs) (operators.branches c w at test a b)
branches cs c w at test a b h g =
    branch cs (operators.throws a.tree && operators.throws b.tree) _ _ (λ i. record { head = refl; chosen = refl; written = refl })
    (λ i. branch cs (operators.throws b.tree) _ _ (λ j. record { head = (settled cs c w a h).head; chosen = refl; written = refl })
    (λ j. branch cs (operators.throws a.tree) _ _ (λ k. record { head = (settled cs c w b g).head; chosen = refl; written = refl })
    (λ k. branch cs (operators.same_lvalues a b || (is_void (typ_in a.tree) && is_void (typ_in b.tree))) _ _
    (λ l. record { head = h.head; chosen = refl; written = refl })
    (λ l. branch cs (operators.is_shared a b) _ _ (λ m. record {
      head = joined_head cs (typ_in a.tree) (typ_in b.tree) Lvalue (shared_class a b m)
          (class_sound cs (typ_in a.tree) (cat_of a.tree) (shared_class a b m) h.head);
      chosen = refl;
      written = refl;
    })
    (λ m. branch cs (operators.both_of_class a b) _ _ (λ o. two_objects cs c w at test a b (both_class a b o) h)
    (λ o. bind (IsExpression cs) (made cs) (operators.two_values at test (value_form a) (value_form b) a b) _
    (two_values cs at test (value_form a) (value_form b) a b
    (scalar_plain cs (typ_in (value a)) (cat_of (value a)) (value_sound cs a h).head)
    (scalar_plain cs (typ_in (value b)) (cat_of (value b)) (value_sound cs b g).head)) (λ t x. x)))))))

pub conditional : (cs : List Class) (c : Ctx) (w : Work) (at : At) (test a b : Operand) → IsExpression cs a.tree → IsExpression cs b.tree
    → On (made cs) (operators.conditional c w at test a b)
conditional cs c w at test a b h g = skip (made cs) (operators.truth c w test) _ (λ t. branches cs c w at t a b h g)
