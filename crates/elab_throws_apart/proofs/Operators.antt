-- Operators give no `throw` of an object.
use Rattle.std.proofs.Common.{refl, Bool, true, false, not, ◌&&◌, ◌||◌, Option, Some, None, is_some, Ok, if◌then◌else◌}
use Rattle.elab_rules.specs.tx_ints.declared.kinds.IntKind.{IntKind}
use Rattle.elab_rules.specs.tx_ints.declared.kinds.IntKind.TheVariants.{Bool as BoolKind, Int, ULong}
use Rattle.elab_rules.specs.tx_ints.declared.kinds.BinOp.{BinOp}
use Rattle.elab_rules.specs.tx_ints.declared.kinds.BinOp.TheVariants.{Add, Sub}
use Rattle.elab_rules.specs.tx_ints.Integers.{promote_of, is_shift}
use Rattle.elab_rules.specs.cpp_types.Typ.{Typ, Form, int, enum, ptr, class, tx_ex}
use Rattle.elab_rules.specs.cpp_types.Equal.{kind_eq, typ_eq, form_eq}
use Rattle.elab_rules.specs.cpp_types.Conversion.{is_lvalue}
use Rattle.elab_rules.specs.cpp_types.declared.classes.At.{At}
use Rattle.elab_rules.specs.cpp_types.declared.ranks.Cat.TheVariants.{Prvalue}
use Rattle.elab_rules.specs.cpp_tree.declared.faults.IllRule.TheVariants.{NoConversion, BadOperand, NotLvalue, NoCopy}
use Rattle.elab_rules.specs.cpp_tree.Trees.{Tree, one, typ_in, cat_of}
use Rattle.elab_rules.specs.cpp_tree.Notation.{plain}
use Rattle.elab_rules.specs.cpp_tree.Typing.{form_in, unqualified, kind_in, is_class_typ, is_void, is_volatile_typ}
use Rattle.elab_rules.specs.elab_ctx.Ctx.{Ctx, Work}
use Rattle.elab_rules.specs.elab_ctx.Steps.{expect, check, Operand}
use Rattle.elab_rules.specs.Objects.{traits_at}
use Rattle.elab_rules.specs.Initialising.{initial, class_number, is_same_or_base, exact_object}
use Rattle.elab_rules.specs.Operators as operators
use Rattle.elab_rules.specs.Operators.{value, value_form, pointed, arithmetic, as_kind}
use Rattle.elab_fits.specs.Standing.{On}
use Rattle.elab_fits.proofs.Steps.{bind, skip, either}
use Rattle.elab_throws_apart.proofs.Trees.{Apart, MadeApart, tree_if, lvalue_apart, valued_apart, converted_apart}

pub value_of : (o : Operand) → Apart o.tree → Apart (value o)
value_of o h = valued_apart o.at o.tree h

-- Arithmetic (C++14 5.6 to 5.13)

arithmetic_of : (op : BinOp) (at : At) (x y : Option IntKind) (a b : Operand) → On Apart (operators.arithmetic_of op at x y a b)
arithmetic_of op at (Some j) (Some k) a b = either Apart (is_shift op) _ _ (λ h. refl) (λ h. refl)
arithmetic_of op at None y a b = tt
arithmetic_of op at (Some j) None a b = tt

sum_of : (c : Ctx) (op : BinOp) (at : At) (x y : Option Typ) (a b : Operand) → On Apart (operators.sum_of c op at x y a b)
sum_of c Sub at (Some t) (Some u) a b = skip Apart (check at BadOperand (typ_eq t u)) _ (λ y. skip Apart (operators.movable c at a.at t) _ (λ z. refl))
sum_of c op at (Some t) None a b = skip Apart (check at BadOperand (is_some (arithmetic (value_form b)))) _
    (λ y. skip Apart (operators.movable c at a.at t) _ (λ z. refl))
sum_of c Add at None (Some t) a b = skip Apart (check at BadOperand (is_some (arithmetic (value_form a)))) _
    (λ y. skip Apart (operators.movable c at b.at t) _ (λ z. refl))
sum_of c op at x y a b = arithmetic_of op at (arithmetic (value_form a)) (arithmetic (value_form b)) a b

-- Comparisons (5.9, 5.10)

comparison_by : (op : BinOp) (at : At) (x y : Option IntKind) (a b : Operand) → On Apart (operators.comparison_by op at x y a b)
comparison_by op at (Some j) (Some k) a b = refl
comparison_by op at None y a b = tt
comparison_by op at (Some j) None a b = tt

comparison_in : (op : BinOp) (at : At) (f g : Form) (a b : Operand) → On Apart (operators.comparison_in op at f g a b)
comparison_in op at (ptr t) (ptr u) a b = skip Apart (check at BadOperand (typ_eq t u)) _ (λ y. refl)
comparison_in op at (ptr t) f a b = skip Apart (check at BadOperand (operators.is_null b))
    (λ y. Ok (operators.compared op ULong at (value a) (operators.as_pointer t b))) (λ y. refl)
comparison_in op at f (ptr t) a b = skip Apart (check at BadOperand (operators.is_null a))
    (λ y. Ok (operators.compared op ULong at (operators.as_pointer t a) (value b))) (λ y. refl)
comparison_in op at (enum m true) f a b = skip Apart (check at BadOperand (form_eq (enum m true) f))
    (λ y. Ok (operators.compared op Int at (value a) (value b))) (λ y. refl)
comparison_in op at f g a b = comparison_by op at (arithmetic f) (arithmetic g) a b

pub binary : (c : Ctx) (op : BinOp) (at : At) (a b : Operand) → On Apart (operators.binary c op at a b)
binary c op at a b = either Apart (operators.is_comparison op) _ _ (λ h. comparison_in op at (value_form a) (value_form b) a b)
    (λ h. either Apart (operators.is_sum op) _ _ (λ i. sum_of c op at (pointed (value_form a)) (pointed (value_form b)) a b)
    (λ i. arithmetic_of op at (arithmetic (value_form a)) (arithmetic (value_form b)) a b))

-- Truth (5.3.1, 5.14, 5.15)

pub logical : (c : Ctx) (w : Work) (is_and : Bool) (at : At) (a b : Operand) → On Apart (operators.logical c w is_and at a b)
logical c w is_and at a b = skip Apart (operators.truth c w a) _ (λ x. skip Apart (operators.truth c w b) _ (λ y. refl))

pub negation : (c : Ctx) (w : Work) (at : At) (a : Operand) → On Apart (operators.negation c w at a)
negation c w at a = skip Apart (operators.truth c w a) _ (λ x. refl)

-- Unary operators (5.3.1)

pub minus : (at : At) (a : Operand) → On Apart (operators.minus at a)
minus at a = skip Apart (expect at BadOperand (arithmetic (value_form a))) _ (λ k. refl)

pub complement : (at : At) (a : Operand) → On Apart (operators.complement at a)
complement at a = skip Apart (expect at BadOperand (arithmetic (value_form a))) _ (λ k. refl)

pub plus : (at : At) (a : Operand) → Apart a.tree → On Apart (operators.plus at a)
plus at a h = skip Apart (expect at BadOperand (arithmetic (value_form a))) _
    (λ k. converted_apart a.at (plain (int (promote_of k))) (value a) (value_of a h))

pub indirection : (at : At) (a : Operand) → On Apart (operators.indirection at a)
indirection at a = skip Apart (expect at BadOperand (pointed (value_form a))) _ (λ t. lvalue_apart at t (one (value a)))

pub address_of : (at : At) (a : Operand) → On Apart (operators.address_of at a)
address_of at a = skip Apart (check at NotLvalue (is_lvalue (cat_of a.tree))) _ (λ y. refl)

pub subscript : (c : Ctx) (at : At) (a b : Operand) → On Apart (operators.subscript c at a b)
subscript c at a b = skip Apart (operators.sum_of c Add at (pointed (value_form a)) (pointed (value_form b)) a b) _
    (λ s. skip Apart (expect at BadOperand (pointed (form_in (typ_in s)))) _ (λ t. lvalue_apart at t (one s)))

-- Assignments (5.17)

class_assigned_in : (c : Ctx) (w : Work) (at : At) (a b : Operand) (f : Form) → On MadeApart (operators.class_assigned_in c w at a b f)
class_assigned_in c w at a b (class k) = skip MadeApart (check b.at NoConversion (is_same_or_base c.classes (class_number (typ_in b.tree)) (Some k))) _
    (λ x. skip MadeApart (check at NoCopy ((traits_at c k).is_assignable && not (is_volatile_typ (typ_in a.tree)))) _
    (λ y. skip MadeApart (check b.at NoCopy (not (is_volatile_typ (typ_in b.tree)))) _ (λ z. refl)))
class_assigned_in c w at a b (tx_ex t) = skip MadeApart (check b.at NoConversion (form_eq (form_in (typ_in b.tree)) (tx_ex t))) _
    (λ x. skip MadeApart (check at NoCopy (operators.is_assignable_form c (form_in t) && not (is_volatile_typ (typ_in a.tree)))) _
    (λ y. skip MadeApart (check b.at NoCopy (not (is_volatile_typ (typ_in b.tree)))) _ (λ z. refl)))
class_assigned_in c w at a b f = tt

assigned : (at : At) (x : Option IntKind) (a : Operand) (v : Tree) → On Apart (operators.assigned at x a v)
assigned at (Some k) a v = refl
assigned at None a v = tt

pub assignment : (c : Ctx) (w : Work) (at : At) (a b : Operand) → On MadeApart (operators.assignment c w at a b)
assignment c w at a b = skip MadeApart (operators.target at a) _ (λ i. either MadeApart (is_class_typ (typ_in a.tree)) _ _
    (λ h. class_assigned_in c w at a b (form_in (typ_in a.tree)))
    (λ h. skip MadeApart (check at BadOperand (is_some (kind_in (form_in (typ_in a.tree))))) _
    (λ x. skip MadeApart (initial c w (unqualified (typ_in a.tree)) b) _
    (λ m. bind Apart MadeApart (operators.assigned at (kind_in (form_in (typ_in a.tree))) a m.tree) _
    (assigned at (kind_in (form_in (typ_in a.tree))) a m.tree) (λ t k. k)))))

compound_in : (c : Ctx) (op : BinOp) (at : At) (f : Form) (a b : Operand) → On Apart (operators.compound_in c op at f a b)
compound_in c op at (ptr t) a b = skip Apart (check at BadOperand (operators.is_sum op && is_some (arithmetic (value_form b)))) _
    (λ y. skip Apart (operators.movable c at a.at t) _ (λ z. refl))
compound_in c op at (int j) a b = skip Apart (expect at BadOperand (arithmetic (value_form b))) _ (λ k. tree_if (is_shift op) _ _ refl refl)
compound_in c op at f a b = tt

pub compound : (c : Ctx) (op : BinOp) (at : At) (a b : Operand) → On Apart (operators.compound c op at a b)
compound c op at a b = skip Apart (operators.target at a) _ (λ y. compound_in c op at (form_in (typ_in a.tree)) a b)

step_in : (c : Ctx) (op : BinOp) (old : Bool) (at : At) (f : Form) (a : Operand) → On Apart (operators.step_in c op old at f a)
step_in c op old at (ptr t) a = skip Apart (operators.movable c at a.at t) _ (λ z. refl)
step_in c op old at (int j) a = skip Apart (check at BadOperand (not (kind_eq j BoolKind))) _ (λ y. refl)
step_in c op old at f a = tt

pub step : (c : Ctx) (op : BinOp) (old : Bool) (at : At) (a : Operand) → On Apart (operators.step c op old at a)
step c op old at a = skip Apart (operators.target at a) _ (λ y. step_in c op old at (form_in (typ_in a.tree)) a)

-- `?:` (5.16)

two_numbers : (at : At) (test : Tree) (x y : Option IntKind) (a b : Operand) → On Apart (operators.two_numbers at test x y a b)
two_numbers at test (Some j) (Some k) a b = refl
two_numbers at test None y a b = tt
two_numbers at test (Some j) None a b = tt

two_values : (at : At) (test : Tree) (f g : Form) (a b : Operand) → On Apart (operators.two_values at test f g a b)
two_values at test (ptr t) (ptr u) a b = skip Apart (check at BadOperand (typ_eq t u)) _ (λ y. refl)
two_values at test (ptr t) f a b = skip Apart (check at BadOperand (operators.is_null b))
    (λ y. Ok (operators.conditional_node at (plain (ptr t)) Prvalue test (value a) (operators.as_pointer t b))) (λ y. refl)
two_values at test f (ptr t) a b = skip Apart (check at BadOperand (operators.is_null a))
    (λ y. Ok (operators.conditional_node at (plain (ptr t)) Prvalue test (operators.as_pointer t a) (value b))) (λ y. refl)
two_values at test f g a b = values_if (form_eq f g && is_some (kind_in f))
  where
    values_if : (x : Bool) → On Apart (if x then Ok (operators.conditional_node at (plain f) Prvalue test (value a) (value b))
        else operators.two_numbers at test (arithmetic f) (arithmetic g) a b)
    values_if true = refl
    values_if false = two_numbers at test (arithmetic f) (arithmetic g) a b

two_objects : (c : Ctx) (w : Work) (at : At) (test : Tree) (a b : Operand) → On MadeApart (operators.two_objects c w at test a b)
two_objects c w at test a b = skip MadeApart (exact_object c w (operators.joined_class a b) a.at a) _
    (λ x. skip MadeApart (exact_object c x.work (operators.joined_class a b) b.at b) _ (λ y. refl))

branches : (c : Ctx) (w : Work) (at : At) (test : Tree) (a b : Operand) → On MadeApart (operators.branches c w at test a b)
branches c w at test a b = either MadeApart (operators.throws a.tree && operators.throws b.tree) _ _ (λ i. refl)
    (λ i. either MadeApart (operators.throws b.tree) _ _ (λ j. refl)
    (λ j. either MadeApart (operators.throws a.tree) _ _ (λ k. refl)
    (λ k. either MadeApart (operators.same_lvalues a b || (is_void (typ_in a.tree) && is_void (typ_in b.tree))) _ _ (λ l. refl)
    (λ l. either MadeApart (operators.is_shared a b) _ _ (λ m. refl)
    (λ m. either MadeApart (operators.both_of_class a b) _ _ (λ o. two_objects c w at test a b)
    (λ o. bind Apart MadeApart (operators.two_values at test (value_form a) (value_form b) a b) _
    (two_values at test (value_form a) (value_form b) a b) (λ t x. x)))))))

pub conditional : (c : Ctx) (w : Work) (at : At) (test a b : Operand) → On MadeApart (operators.conditional c w at test a b)
conditional c w at test a b = skip MadeApart (operators.truth c w test) _ (λ t. branches c w at t a b)
