-- Comparisons, comparison_words, `&&`, `||` and `!`.
use Rattle.std.proofs.Common.{◌≡◌, refl, sym, ap, ◌∙◌, ℕ, Bool, true, false, ◌||◌, List, Option, Some, None, is_some, Result, Ok}
use Rattle.elab_rules.specs.tx_ints.declared.kinds.IntKind.{IntKind}
use Rattle.elab_rules.specs.tx_ints.declared.kinds.BinOp.{BinOp}
use Rattle.elab_rules.specs.tx_ints.declared.kinds.BinOp.TheVariants.{Lt, Gt, Le, Ge, Eq, Ne}
use Rattle.elab_rules.specs.tx_ints.declared.kinds.IntKind.TheVariants.{Bool as BoolKind, Int, ULong}
use Rattle.elab_rules.specs.cpp_tree.Trees.{Tree}
use Rattle.elab_rules.specs.cpp_tree.Notation.{plain}
use Rattle.elab_rules.specs.cpp_types.Typ.{Typ, Form, int, enum, null, ptr}
use Rattle.elab_rules.specs.cpp_types.Equal.{typ_eq, form_eq}
use Rattle.elab_rules.specs.cpp_types.declared.classes.At.{At}
use Rattle.elab_rules.specs.cpp_tree.declared.faults.IllRule.TheVariants.{BadOperand, NoConversion}
use Rattle.elab_rules.specs.cpp_tree.declared.faults.IllRule.{IllRule}
use Rattle.elab_rules.specs.cpp_tree.declared.faults.ElabFault.{ElabFault}
use Rattle.elab_rules.specs.cpp_types.declared.ranks.Conversion.{Conversion}
use Rattle.elab_rules.specs.elab_ctx.Ctx.{Ctx, Work}
use Rattle.elab_rules.specs.elab_ctx.Steps.{and_then, check, expect, Operand, Made}
use Rattle.elab_rules.specs.Operators.{value, compared, as_pointer, value_form, arithmetic, is_null, comparison_in, comparison_by, logical, negation, truth}
use Rattle.elab_rules.specs.Values.{bool_type}
use Rattle.elab_rules.specs.Initialising.{conversion}
use Rattle.elab_laws.specs.Reading.{On, IsPrvalue}
use Rattle.elab_laws.specs.Tests.{IsTruth, IsNull, zero, nullptr, numbers, pointers, null_second, null_first, enums, Comparison, Both, Not, Comparisons}
use Rattle.elab_laws.specs.Tests.{comparison_words, Logical, logical_words, Negation, negation_words}
use Rattle.elab_laws.proofs.Reading.{after, checked}
use Rattle.elab_laws.proofs.Equal.{typ_same, form_same}
use Rattle.elab_laws.proofs.Arithmetic.{form_is, number_from, points_from, binary_law, unary_law}

or_of : (a b : Bool) (A : Type 0) → (a || b) ≡ true → (a ≡ true → A) → (b ≡ true → A) → A
or_of true b A h f g = f refl
or_of false b A h f g = g h

pub null_from : (x : Operand) → is_null x ≡ true → IsNull x
null_from x h = or_of (x.zero) (form_eq (value_form x) null) (IsNull x) h (λ e. zero e) (λ e. nullptr (sym (form_is x) ∙ form_same (value_form x) null e))

by_numbers : (op : BinOp) (at : At) (x y : Operand) (i j : Option IntKind) → arithmetic (value_form x) ≡ i → arithmetic (value_form y) ≡ j
    → On (Comparison x y) (comparison_by op at i j x y)
by_numbers op at x y (Some i) (Some j) e f = record {
  operands = numbers i j (number_from x i e) (number_from y j f);
  result =
      record { has_type = refl; category = refl };
}
by_numbers op at x y (Some i) None e f = tt
by_numbers op at x y None j e f = tt

number_case : (op : BinOp) (at : At) (x y : Operand) (f g : Form) → value_form x ≡ f → value_form y ≡ g
    → On (Comparison x y) (comparison_by op at (arithmetic f) (arithmetic g) x y)
number_case op at x y f g i j = by_numbers op at x y (arithmetic f) (arithmetic g) (ap arithmetic i) (ap arithmetic j)

abbrev pub IsBool : Tree → Type 0
IsBool e = IsPrvalue (plain (int BoolKind)) e

pointers_case : (op : BinOp) (at : At) (x y : Operand) (t u : Typ) → value_form x ≡ ptr t → value_form y ≡ ptr u
    → On (Comparison x y) (comparison_in op at (ptr t) (ptr u) x y)
pointers_case op at x y t u i j = checked (Comparison x y) at BadOperand (typ_eq t u) _
    (λ z. record {
      operands = pointers t (points_from x t i) (points_from y t (j ∙ ap ptr (sym (typ_same t u z))));
      result =
          record { has_type = refl; category = refl };
    })

second_null : (op : BinOp) (at : At) (x y : Operand) (t : Typ) → value_form x ≡ ptr t
    → On (Comparison x y) (and_then (check at BadOperand (is_null y)) (λ z. Ok (compared op ULong at (value x) (as_pointer t y))))
second_null op at x y t i = checked (Comparison x y) at BadOperand (is_null y) _
    (λ z. record { operands = null_second t (points_from x t i) (null_from y z); result = record { has_type = refl; category = refl } })

first_null : (op : BinOp) (at : At) (x y : Operand) (t : Typ) → value_form y ≡ ptr t
    → On (Comparison x y) (and_then (check at BadOperand (is_null x)) (λ z. Ok (compared op ULong at (as_pointer t x) (value y))))
first_null op at x y t i = checked (Comparison x y) at BadOperand (is_null x) _
    (λ z. record { operands = null_first t (null_from x z) (points_from y t i); result = record { has_type = refl; category = refl } })

enum_case : (op : BinOp) (at : At) (x y : Operand) (m : List ℕ) (f : Form) → value_form x ≡ enum m true → value_form y ≡ f
    → On (Comparison x y) (and_then (check at BadOperand (form_eq (enum m true) f)) (λ z. Ok (compared op Int at (value x) (value y))))
enum_case op at x y m f i j = checked (Comparison x y) at BadOperand (form_eq (enum m true) f) _
    (λ z. record {
      operands = enums m (sym (form_is x) ∙ i) (sym (form_is y) ∙ j ∙ sym (form_same (enum m true) f z));
      result =
          record { has_type = refl; category = refl };
    })

comparison_in_law : (op : BinOp) (at : At) (x y : Operand) (f g : Form) → value_form x ≡ f → value_form y ≡ g
    → On (Comparison x y) (comparison_in op at f g x y)
comparison_in_law op at x y (ptr t) (ptr u) i j = pointers_case op at x y t u i j
comparison_in_law op at x y (ptr t) f i j = second_null op at x y t i
comparison_in_law op at x y f (ptr t) i j = first_null op at x y t j
comparison_in_law op at x y (enum m true) f i j = enum_case op at x y m f i j
comparison_in_law op at x y f g i j = number_case op at x y f g i j

comparison_law : (op : BinOp) (at : At) (x y : Operand) → On (Comparison x y) (comparison_in op at (value_form x) (value_form y) x y)
comparison_law op at x y = comparison_in_law op at x y (value_form x) (value_form y) refl refl

pub comparisons_law : Comparisons
comparisons_law = binary_law comparison_words (λ (c : Ctx). Comparison) (
  (λ c w at x y. comparison_law Lt at x y),
  (
    (λ c w at x y. comparison_law Gt at x y),
    (
      (λ c w at x y. comparison_law Le at x y),
      (
        (λ c w at x y. comparison_law Ge at x y),
        ((λ c w at x y. comparison_law Eq at x y), ((λ c w at x y. comparison_law Ne at x y), tt)),
      ),
    ),
  ),
)

-- Truths

converted_in : {A : Type 0} (at : At) (rule : IllRule) (v : Option Conversion) (f : Conversion → Result Made ElabFault) (g : Made → Result A ElabFault) (a : A)
    → and_then (and_then (expect at rule v) f) g ≡ Ok a → is_some v ≡ true
converted_in at rule (Some v) f g a h = refl
converted_in at rule None f g a h = absurd cc

pub truth_is : (c : Ctx) (w : Work) (x : Operand) (e : Tree) → truth c w x ≡ Ok e → IsTruth c x
truth_is c w x e h = record { converts = converted_in x.at NoConversion (conversion c bool_type x) _ _ e h }

logical_in : (c : Ctx) (w : Work) (b : Bool) (at : At) (x y : Operand) → On (Both c x y) (logical c w b at x y)
logical_in c w b at x y = after (Both c x y) (truth c w x) _
    (λ u i. after (Both c x y) (truth c w y) _ (λ v j.
    record { left = truth_is c w x u i; right = truth_is c w y v j; result = record { has_type = refl; category = refl } }))

pub logical_law : Logical
logical_law = binary_law logical_words Both ((λ c w at x y. logical_in c w true at x y), ((λ c w at x y. logical_in c w false at x y), tt))

negation_in : (c : Ctx) (w : Work) (at : At) (x : Operand) → On (Not c x) (negation c w at x)
negation_in c w at x = after (Not c x) (truth c w x) _ (λ u i. record { operand = truth_is c w x u i; result = record { has_type = refl; category = refl } })

pub negation_law : Negation
negation_law = unary_law negation_words Not ((λ c w at x. negation_in c w at x), tt)
