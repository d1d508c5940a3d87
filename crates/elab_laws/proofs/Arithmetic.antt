-- Arithmetic on two operands.
use Rattle.std.proofs.Common.{◌≡◌, refl, sym, ap, ◌∙◌, ℕ, Bool, true, false, List, Option, Some, None, Ok, is_some}
use Rattle.elab_rules.specs.tx_ints.declared.kinds.IntKind.{IntKind}
use Rattle.elab_rules.specs.tx_ints.declared.kinds.BinOp.{BinOp}
use Rattle.elab_rules.specs.tx_ints.declared.kinds.BinOp.TheVariants.{Add, Sub, Mul, Div, Rem, Shl, Shr, And, Xor, Or}
use Rattle.elab_rules.specs.tx_ints.Integers.{is_shift, usual_of, promote_of}
use Rattle.elab_rules.specs.cpp_types.Typ.{Typ, typ, Form, void, int, enum, null, ptr, ref, array, func, class, closure, tx_ex}
use Rattle.elab_rules.specs.cpp_types.Conversion.{decayed}
use Rattle.elab_rules.specs.cpp_types.declared.classes.At.{At}
use Rattle.elab_rules.specs.cpp_types.declared.ranks.Cat.{Cat}
use Rattle.elab_rules.specs.cpp_types.declared.ranks.Cat.TheVariants.{Lvalue, Prvalue}
use Rattle.elab_rules.specs.cpp_ast.declared.kinds.NodeKind.TheVariants as k
use Rattle.elab_rules.specs.cpp_tree.declared.kinds.TKind.{TKind}
use Rattle.elab_rules.specs.cpp_tree.Trees.{Tree, node, Trees, typ_in}
use Rattle.elab_rules.specs.cpp_tree.Typing.{form_in, unqualified}
use Rattle.elab_rules.specs.elab_ctx.Ctx.{Ctx, Work}
use Rattle.elab_rules.specs.elab_ctx.Steps.{and_then, check, Operand, TypedAll, at_of, spelling}
use Rattle.elab_rules.specs.Values.{valued}
use Rattle.elab_rules.specs.cpp_types.Equal.{typ_eq}
use Rattle.elab_rules.specs.cpp_tree.declared.faults.IllRule.TheVariants.{BadOperand}
use Rattle.elab_rules.specs.cpp_tree.Notation.{plain}
use Rattle.elab_rules.specs.Operators.{as_kind, in_usual, shifted, value, value_form, arithmetic, arithmetic_of, pointed, movable, moved, moved_back, sum_of}
use Rattle.elab_rules.specs.Expressions.{operator_of, unary_of, row_of}
use Rattle.elab_laws.specs.Reading.{On, value_type, EachOne, EachTwo}
use Rattle.elab_laws.specs.Arithmetic.{number_kind, Operates, IsNumber, PointsTo, Usual, Shifted, Moved, Sum, numbers_added, pointer_and_number}
use Rattle.elab_laws.specs.Arithmetic.{number_and_pointer, Difference, numbers_subtracted, pointer_less_number, pointer_less_pointer, Multiplicative}
use Rattle.elab_laws.specs.Arithmetic.{multiplicative_words, Bitwise, bitwise_words, Shifts, shift_words, Sums, sum_words, Differences, difference_words}
use Rattle.elab_laws.proofs.Reading.{of_one, of_two, tree_in, each_word, ForAll, skip, checked, weaken}
use Rattle.elab_laws.proofs.Equal.{typ_same}
use Rattle.elab_laws.proofs.Converting.{as_kind_is}

-- the form of the value of an operand is what the language says
value_is : (at : At) (kind : TKind) (f : Form) (d v : Bool) (cat : Cat) (p : At) (kids : Trees)
    → form_in (typ_in (valued at (node kind (typ f d v) cat p kids))) ≡ decayed (typ f d v)
value_is at kind (func s) d v cat p kids = refl
value_is at kind (array (typ e q u) n) d v cat p kids = refl
value_is at kind void d v Lvalue p kids = refl
value_is at kind void d v Prvalue p kids = refl
value_is at kind (int j) d v Lvalue p kids = refl
value_is at kind (int j) d v Prvalue p kids = refl
value_is at kind (enum n s) d v Lvalue p kids = refl
value_is at kind (enum n s) d v Prvalue p kids = refl
value_is at kind null d v Lvalue p kids = refl
value_is at kind null d v Prvalue p kids = refl
value_is at kind (ptr t) d v Lvalue p kids = refl
value_is at kind (ptr t) d v Prvalue p kids = refl
value_is at kind (ref t) d v Lvalue p kids = refl
value_is at kind (ref t) d v Prvalue p kids = refl
value_is at kind (class n) d v Lvalue p kids = refl
value_is at kind (class n) d v Prvalue p kids = refl
value_is at kind (closure n) d v Lvalue p kids = refl
value_is at kind (closure n) d v Prvalue p kids = refl
value_is at kind (tx_ex t) d v Lvalue p kids = refl
value_is at kind (tx_ex t) d v Prvalue p kids = refl

pub tree_value : (at : At) (e : Tree) → form_in (typ_in (valued at e)) ≡ decayed (typ_in e)
tree_value at (node kind (typ f d v) cat p kids) = value_is at kind f d v cat p kids

pub form_is : (x : Operand) → value_form x ≡ value_type x
form_is x = tree_value x.at x.tree

number_is : (f : Form) → arithmetic f ≡ number_kind f
number_is void = refl
number_is (int j) = refl
number_is (enum n false) = refl
number_is (enum n true) = refl
number_is null = refl
number_is (ptr t) = refl
number_is (ref t) = refl
number_is (array t n) = refl
number_is (func s) = refl
number_is (class n) = refl
number_is (closure n) = refl
number_is (tx_ex t) = refl

pub number_from : (x : Operand) (kind : IntKind) → arithmetic (value_form x) ≡ Some kind → IsNumber x kind
number_from x kind h = record { is = ap number_kind (sym (form_is x)) ∙ sym (number_is (value_form x)) ∙ h }

pub points_from : (x : Operand) (t : Typ) → value_form x ≡ ptr t → PointsTo x t
points_from x t h = record { is = sym (form_is x) ∙ h }

-- Numbers

usual_operands : (op : BinOp) (at : At) (k : IntKind) (x y : Operand) (i j : IntKind) → arithmetic (value_form x) ≡ Some i → arithmetic (value_form y) ≡ Some j
    → Operates (plain (int k)) (plain (int k)) (in_usual op at k x y)
usual_operands op at k x y i j e f = record {
  left = as_kind k x;
  right = as_kind k y;
  kids = refl;
  left_is = as_kind_is x i k e;
  right_is =
      as_kind_is y j k f;
}

shift_operands : (op : BinOp) (at : At) (x y : Operand) (i j : IntKind) → arithmetic (value_form x) ≡ Some i → arithmetic (value_form y) ≡ Some j
    → Operates (plain (int (promote_of i))) (plain (int (promote_of j))) (shifted op at i j x y)
shift_operands op at x y i j e f = record {
  left = as_kind (promote_of i) x;
  right = as_kind (promote_of j) y;
  kids = refl;
  left_is = as_kind_is x i
      (promote_of i) e;
  right_is = as_kind_is y j (promote_of j) f;
}

in_kinds : (op : BinOp) (at : At) (x y : Operand) (i j : Option IntKind) → is_shift op ≡ false → arithmetic (value_form x) ≡ i → arithmetic (value_form y) ≡ j
    → On (Usual x y) (arithmetic_of op at i j x y)
in_kinds op at x y (Some i) (Some j) h e f = rw h (record {
  left_kind = i;
  left = number_from x i e;
  right_kind = j;
  right = number_from y j f;
  operands =
      usual_operands op at (usual_of i j) x y i j e f;
  result = record { has_type = refl; category = refl };
})
in_kinds op at x y (Some i) None h e f = tt
in_kinds op at x y None j h e f = tt

pub usual_law : (op : BinOp) (at : At) (x y : Operand) → is_shift op ≡ false
    → On (Usual x y) (arithmetic_of op at (arithmetic (value_form x)) (arithmetic (value_form y)) x y)
usual_law op at x y h = in_kinds op at x y (arithmetic (value_form x)) (arithmetic (value_form y)) h refl refl

in_shift : (op : BinOp) (at : At) (x y : Operand) (i j : Option IntKind) → is_shift op ≡ true → arithmetic (value_form x) ≡ i → arithmetic (value_form y) ≡ j
    → On (Shifted x y) (arithmetic_of op at i j x y)
in_shift op at x y (Some i) (Some j) h e f = rw h (record {
  left_kind = i;
  left = number_from x i e;
  right_kind = j;
  right = number_from y j f;
  operands =
      shift_operands op at x y i j e f;
  result = record { has_type = refl; category = refl };
})
in_shift op at x y (Some i) None h e f = tt
in_shift op at x y None j h e f = tt

shift_law : (op : BinOp) (at : At) (x y : Operand) → is_shift op ≡ true
    → On (Shifted x y) (arithmetic_of op at (arithmetic (value_form x)) (arithmetic (value_form y)) x y)
shift_law op at x y h = in_shift op at x y (arithmetic (value_form x)) (arithmetic (value_form y)) h refl refl

-- Pointers

pointer_is : (f : Form) (t : Typ) → pointed f ≡ Some t → f ≡ ptr t
pointer_is (ptr u) t h = cc
pointer_is void t h = absurd cc
pointer_is (int j) t h = absurd cc
pointer_is (enum n s) t h = absurd cc
pointer_is null t h = absurd cc
pointer_is (ref u) t h = absurd cc
pointer_is (array u n) t h = absurd cc
pointer_is (func s) t h = absurd cc
pointer_is (class n) t h = absurd cc
pointer_is (closure n) t h = absurd cc
pointer_is (tx_ex u) t h = absurd cc

pub pointed_from : (x : Operand) (t : Typ) → pointed (value_form x) ≡ Some t → PointsTo x t
pointed_from x t h = points_from x t (pointer_is (value_form x) t h)

-- a value that is some kind of number
pub some_number : (A : Type 0) (x : Operand) (i : Option IntKind) → arithmetic (value_form x) ≡ i → is_some i ≡ true → ((kind : IntKind) → IsNumber x kind → A)
    → A
some_number A x (Some i) e h f = f i (number_from x i e)
some_number A x None e h f = absurd cc

-- the pointer's own type, without qualifiers
plain_is : (u : Typ) (t : Typ) → form_in u ≡ ptr t → unqualified u ≡ plain (ptr t)
plain_is (typ f d v) t h = ap (λ (g : Form). typ g false false) h

moved_law : (c : Ctx) (op : BinOp) (at : At) (x y : Operand) (t : Typ) → pointed (value_form x) ≡ Some t
    → On (Moved x y) (and_then (check at BadOperand (is_some (arithmetic (value_form y))))
    (λ z. and_then (movable c at x.at t) (λ u. Ok (moved c op at t x y))))
moved_law c op at x y t h = checked (Moved x y) at BadOperand (is_some (arithmetic (value_form y))) _
    (λ z. skip (Moved x y) (movable c at x.at t) _ (λ u. some_number (Moved x y (moved c op at t x y)) y (arithmetic (value_form y)) refl z (λ i n.
    record {
      target = t;
      pointer = pointed_from x t h;
      kind = i;
      number = n;
      result =
          record { has_type = plain_is (typ_in (value x)) t (pointer_is (value_form x) t h); category = refl };
    })))

moved_back_law : (c : Ctx) (at : At) (x y : Operand) (t : Typ) → pointed (value_form y) ≡ Some t
    → On (Moved y x) (and_then (check at BadOperand (is_some (arithmetic (value_form x))))
    (λ z. and_then (movable c at y.at t) (λ u. Ok (moved_back c at t x y))))
moved_back_law c at x y t h = checked (Moved y x) at BadOperand (is_some (arithmetic (value_form x))) _
    (λ z. skip (Moved y x) (movable c at y.at t) _ (λ u. some_number (Moved y x (moved_back c at t x y)) x (arithmetic (value_form x)) refl z (λ i n.
    record {
      target = t;
      pointer = pointed_from y t h;
      kind = i;
      number = n;
      result =
          record { has_type = plain_is (typ_in (value y)) t (pointer_is (value_form y) t h); category = refl };
    })))

sum_in : (c : Ctx) (at : At) (x y : Operand) (i j : Option Typ) → pointed (value_form x) ≡ i → pointed (value_form y) ≡ j
    → On (Sum x y) (sum_of c Add at i j x y)
sum_in c at x y (Some t) (Some u) e f = weaken (Usual x y) (Sum x y) (arithmetic_of Add at (arithmetic (value_form x)) (arithmetic (value_form y)) x y)
    (λ z g. numbers_added g) (usual_law Add at x y refl)
sum_in c at x y (Some t) None e f = weaken (Moved x y) (Sum x y)
    (and_then (check at BadOperand (is_some (arithmetic (value_form y)))) (λ z. and_then (movable c at x.at t) (λ u. Ok (moved c Add at t x y))))
    (λ z g. pointer_and_number g) (moved_law c Add at x y t e)
sum_in c at x y None (Some u) e f = weaken (Moved y x) (Sum x y)
    (and_then (check at BadOperand (is_some (arithmetic (value_form x)))) (λ z. and_then (movable c at y.at u) (λ v. Ok (moved_back c at u x y))))
    (λ z g. number_and_pointer g) (moved_back_law c at x y u f)
sum_in c at x y None None e f = weaken (Usual x y) (Sum x y) (arithmetic_of Add at (arithmetic (value_form x)) (arithmetic (value_form y)) x y)
    (λ z g. numbers_added g) (usual_law Add at x y refl)

pub sum_law : (c : Ctx) (at : At) (x y : Operand) → On (Sum x y) (sum_of c Add at (pointed (value_form x)) (pointed (value_form y)) x y)
sum_law c at x y = sum_in c at x y (pointed (value_form x)) (pointed (value_form y)) refl refl

apart_law : (c : Ctx) (at : At) (x y : Operand) (t u : Typ) → pointed (value_form x) ≡ Some t → pointed (value_form y) ≡ Some u
    → On (Difference x y) (sum_of c Sub at (Some t) (Some u) x y)
apart_law c at x y t u e f = checked (Difference x y) at BadOperand (typ_eq t u) _
    (λ z. skip (Difference x y) (movable c at x.at t) _
    (λ w. pointer_less_pointer (record {
      target = t;
      left = pointed_from x t e;
      right = pointed_from y t (f ∙ ap Some (sym (typ_same t u z)));
      result =
          record { has_type = refl; category = refl };
    })))

difference_in : (c : Ctx) (at : At) (x y : Operand) (i j : Option Typ) → pointed (value_form x) ≡ i → pointed (value_form y) ≡ j
    → On (Difference x y) (sum_of c Sub at i j x y)
difference_in c at x y (Some t) (Some u) e f = apart_law c at x y t u e f
difference_in c at x y (Some t) None e f = weaken (Moved x y) (Difference x y)
    (and_then (check at BadOperand (is_some (arithmetic (value_form y)))) (λ z. and_then (movable c at x.at t) (λ u. Ok (moved c Sub at t x y))))
    (λ z g. pointer_less_number g) (moved_law c Sub at x y t e)
difference_in c at x y None (Some u) e f = weaken (Usual x y) (Difference x y)
    (arithmetic_of Sub at (arithmetic (value_form x)) (arithmetic (value_form y)) x y) (λ z g. numbers_subtracted g) (usual_law Sub at x y refl)
difference_in c at x y None None e f = weaken (Usual x y) (Difference x y) (arithmetic_of Sub at (arithmetic (value_form x)) (arithmetic (value_form y)) x y)
    (λ z g. numbers_subtracted g) (usual_law Sub at x y refl)

difference_law : (c : Ctx) (at : At) (x y : Operand) → On (Difference x y) (sum_of c Sub at (pointed (value_form x)) (pointed (value_form y)) x y)
difference_law c at x y = difference_in c at x y (pointed (value_form x)) (pointed (value_form y)) refl refl

-- Forms

-- a rule of `a OP b` holds of each form where it holds for each word
abbrev pub ForBinary : (Ctx → Operand → Operand → Tree → Type 0) → List ℕ → Type 0
ForBinary rule name = (c : Ctx) (w : Work) (at : At) (x y : Operand) → On (rule c x y) (operator_of c w at name x y)

pub binary_law : (words : List (List ℕ)) (rule : Ctx → Operand → Operand → Tree → Type 0) → ForAll (ForBinary rule) words
    → EachTwo k.BinaryExpression words rule
binary_law words rule h s c w p t a b i = of_two s c w a b (rule c) (λ (xs : TypedAll). row_of s c xs.work k.BinaryExpression (at_of p) t xs.operands)
    (λ x y. tree_in (rule c x.operand y.operand) (at_of p) y.work (operator_of c y.work (at_of p) (spelling s t) x.operand y.operand)
    (each_word (ForBinary rule) words (spelling s t) h i c y.work (at_of p) x.operand y.operand))

abbrev pub ForUnary : (Ctx → Operand → Tree → Type 0) → List ℕ → Type 0
ForUnary rule name = (c : Ctx) (w : Work) (at : At) (x : Operand) → On (rule c x) (unary_of c w at name x)

pub unary_law : (words : List (List ℕ)) (rule : Ctx → Operand → Tree → Type 0) → ForAll (ForUnary rule) words → EachOne k.UnaryExpression words rule
unary_law words rule h s c w p t a i = of_one s c w a (rule c) (λ (xs : TypedAll). row_of s c xs.work k.UnaryExpression (at_of p) t xs.operands)
    (λ x. tree_in (rule c x.operand) (at_of p) x.work (unary_of c x.work (at_of p) (spelling s t) x.operand)
    (each_word (ForUnary rule) words (spelling s t) h i c x.work (at_of p) x.operand))

-- Laws

pub multiplicative_law : Multiplicative
multiplicative_law = binary_law multiplicative_words (λ (c : Ctx). Usual)
    ((λ c w at x y. usual_law Mul at x y refl), ((λ c w at x y. usual_law Div at x y refl), ((λ c w at x y. usual_law Rem at x y refl), tt)))

pub bitwise_law : Bitwise
bitwise_law = binary_law bitwise_words (λ (c : Ctx). Usual)
    ((λ c w at x y. usual_law And at x y refl), ((λ c w at x y. usual_law Xor at x y refl), ((λ c w at x y. usual_law Or at x y refl), tt)))

pub shifts_law : Shifts
shifts_law = binary_law shift_words (λ (c : Ctx). Shifted) ((λ c w at x y. shift_law Shl at x y refl), ((λ c w at x y. shift_law Shr at x y refl), tt))

pub sums_law : Sums
sums_law = binary_law sum_words (λ (c : Ctx). Sum) ((λ c w at x y. sum_law c at x y), tt)

pub differences_law : Differences
differences_law = binary_law difference_words (λ (c : Ctx). Difference) ((λ c w at x y. difference_law c at x y), tt)
