-- Truth, operators of one operand, and what a pointer points to.
use Rattle.std.proofs.Common.{◌≡◌, refl, sym, ap, ◌∙◌, subst, Bool, true, false, ◌||◌, not, [], ◌∷◌, Some, Result, Ok, Err}
use Rattle.std.specs.Prelude.{if◌then◌else◌}
use Rattle.elab_rules.specs.tx_ints.declared.kinds.IntKind.{IntKind}
use Rattle.elab_rules.specs.tx_ints.declared.kinds.IntKind.TheVariants.{Bool as BoolKind, Int, ULong}
use Rattle.elab_rules.specs.tx_ints.declared.kinds.BinOp.TheVariants.{Add, Sub, Xor, Eq}
use Rattle.elab_rules.specs.tx_ints.Integers.{promote_of}
use Rattle.elab_rules.specs.cpp_types.Typ.{Typ, Form, void, int, ptr}
use Rattle.elab_rules.specs.cpp_types.Equal.{typ_eq}
use Rattle.elab_rules.specs.cpp_types.Conversion.{is_lvalue}
use Rattle.elab_rules.specs.cpp_types.declared.classes.At.{At}
use Rattle.elab_rules.specs.cpp_types.declared.ranks.Cat.{Cat}
use Rattle.elab_rules.specs.cpp_types.declared.ranks.Cat.TheVariants.{Lvalue, Prvalue}
use Rattle.elab_rules.specs.cpp_tree.declared.kinds.TKind.TheVariants.{Conditional}
use Rattle.elab_rules.specs.cpp_tree.declared.roles.Role.TheVariants.{Value}
use Rattle.elab_rules.specs.cpp_tree.declared.faults.ElabFault.{ElabFault}
use Rattle.elab_rules.specs.cpp_tree.declared.faults.IllRule.TheVariants.{BadOperand, NotLvalue}
use Rattle.elab_rules.specs.cpp_tree.Trees.{Tree, node, three, typ_in, cat_of}
use Rattle.elab_rules.specs.cpp_tree.Notation.{plain}
use Rattle.elab_rules.specs.cpp_tree.Typing.{head_of, form_in, is_prvalue, is_bool, is_void, is_class_prvalue, word_kind}
use Rattle.elab_rules.specs.cpp_tree.Roles.{only, is_throw}
use Rattle.elab_rules.specs.cpp_tree.Rows.{Setting, is_branch}
use Rattle.elab_rules.specs.elab_ctx.Ctx.{Ctx, Work}
use Rattle.elab_rules.specs.elab_ctx.Steps.{and_then, expect, Operand}
use Rattle.elab_rules.specs.Values.{bool_type, number, operated, retyped, in_kind}
use Rattle.elab_rules.specs.Initialising.{initial}
use Rattle.elab_rules.specs.Operators.{value, value_form, arithmetic, as_kind, pointed, sum_of, truth, logical, negation, false_at, true_at, ones}
use Rattle.elab_rules.specs.Operators.{with_arithmetic, minus, complement, plus, indirection, address_of, subscript}
use Rattle.elab_fits.specs.Standing.{FitsAs, IsExpressionType, Stands, On}
use Rattle.elab_fits.specs.Scalars.{is_scalar, Gives, IsValue, IsOperand}
use Rattle.elab_fits.proofs.Equal.{typ_refl}
use Rattle.elab_fits.proofs.Nodes.{both, or_left, or_right, node_fits, three_values}
use Rattle.elab_fits.proofs.Steps.{bind, checked, expected}
use Rattle.elab_fits.proofs.Numbers.{promoted_kind, zero_word, one_word, ones_word}
use Rattle.elab_fits.proofs.Values.{no_class, given_typ, given_cat, number_gives, in_kind_gives, address_gives, lvalue_stands}
use Rattle.elab_fits.proofs.Initials.{MadeGives, initial_gives}
use Rattle.elab_fits.proofs.Arithmetic.{IsTruth, as_kind_gives, pointed_form, pointer_of, right_row, operated_gives, compared_gives, add_gives}

-- Choices between scalars

pub no_void : (f : Form) → is_scalar f ≡ true → is_void (plain f) ≡ false
no_void void h = absurd cc
no_void f h = refl

pub bool_row : (s : Setting) (e : Tree) → Gives s (int BoolKind) e → is_bool (head_of e) ≡ true
bool_row s e g = both (ap is_prvalue (given_cat s (int BoolKind) e g)) (ap (λ (t : Typ). typ_eq t bool_type) (given_typ s (int BoolKind) e g))

branch_row : (s : Setting) (f : Form) (e : Tree) → Gives s f e → is_branch (plain f) Prvalue (head_of e) ≡ true
branch_row s f e g = or_right (is_throw (head_of e).kind || is_void (plain f)) (both (ap is_prvalue (given_cat s f e g))
    (ap (λ (t : Typ). typ_eq (plain f) t) (given_typ s f e g) ∙ typ_refl (plain f)))

pub choice_gives : (s : Setting) (f : Form) (at : At) (x y z : Tree) → Gives s (int BoolKind) x → Gives s f y → Gives s f z
    → Gives s f (node Conditional (plain f) Prvalue at (three x y z))
choice_gives s f at x y z g h k = record {
  scalar = h.scalar;
  fits = λ p full. node_fits s p Value Conditional (plain f) Prvalue at (three x y z) (only (Value ∷ Value ∷ Value ∷ [])) refl
      (ap not (no_class f false false h.scalar)) refl (or_left _ (ap not (no_void f h.scalar)))
      (both (both (bool_row s x g) (branch_row s f y h)) (branch_row s f z k)) refl refl refl
      (three_values s p x y z (g.fits p full) (h.fits p full) (k.fits p full));
  typed = refl;
  category = refl;
}

-- Truth (C++14 4.12, 5.3.1, 5.14, 5.15)

pub truth_gives : (s : Setting) (c : Ctx) (w : Work) (o : Operand) → IsOperand s o → On (IsTruth s) (truth c w o)
truth_gives s c w o h = bind (MadeGives s (int BoolKind)) (IsTruth s) (initial c w bool_type o) _ (initial_gives s c w (int BoolKind) false false o h refl)
    (λ m g. g)

choose : (s : Setting) (at : At) (is_and : Bool) (x y : Tree) → IsTruth s x → IsTruth s y
    → IsTruth s (node Conditional bool_type Prvalue at (if is_and then three x y (false_at at) else three x (true_at at) y))
choose s at true x y g h = choice_gives s (int BoolKind) at x y (false_at at) g h (number_gives s BoolKind 0 at (zero_word BoolKind))
choose s at false x y g h = choice_gives s (int BoolKind) at x (true_at at) y g (number_gives s BoolKind 1 at (one_word BoolKind)) h

pub logical_gives : (s : Setting) (c : Ctx) (w : Work) (is_and : Bool) (at : At) (a b : Operand) → IsOperand s a → IsOperand s b
    → On (IsTruth s) (logical c w is_and at a b)
logical_gives s c w is_and at a b x y = bind (IsTruth s) (IsTruth s) (truth c w a) _ (truth_gives s c w a x)
    (λ d g. bind (IsTruth s) (IsTruth s) (truth c w b) _ (truth_gives s c w b y) (λ e h. choose s at is_and d e g h))

pub negation_gives : (s : Setting) (c : Ctx) (w : Work) (at : At) (a : Operand) → IsOperand s a → On (IsTruth s) (negation c w at a)
negation_gives s c w at a x = bind (IsTruth s) (IsTruth s) (truth c w a) _ (truth_gives s c w a x)
    (λ e g. compared_gives s Eq Int (int Int) (int Int) at (in_kind a.at Int e) (number Int 0 at) refl refl
    (in_kind_gives s a.at (int BoolKind) Int e g) refl (number_gives s Int 0 at (zero_word Int)) refl)

-- Unary operators (C++14 5.3.1)

with_number : (s : Setting) (at : At) (a : Operand) (f : IntKind → Tree)
    → ((i : IntKind) → arithmetic (value_form a) ≡ Some i → Gives s (int (promote_of i)) (f (promote_of i))) → On (IsValue s) (with_arithmetic at a f)
with_number s at a f h = expected (IsValue s) at BadOperand (arithmetic (value_form a)) _ (λ i e. record { form = int (promote_of i); gives = h i e })

pub minus_gives : (s : Setting) (at : At) (a : Operand) → IsOperand s a → On (IsValue s) (minus at a)
minus_gives s at a x = with_number s at a (λ k. operated Sub k (plain (int k)) at (number k 0 at) (as_kind k a)) (λ i e.
    operated_gives s Sub (promote_of i) (int (promote_of i)) (int (promote_of i)) (int (promote_of i)) at (number (promote_of i) 0 at)
    (as_kind (promote_of i) a) refl (promoted_kind i)
    (number_gives s (promote_of i) 0 at (zero_word (promote_of i))) refl refl refl (as_kind_gives s a i (promote_of i) x e)
    (right_row s Sub (int (promote_of i)) (promote_of i) (as_kind (promote_of i) a) refl (as_kind_gives s a i (promote_of i) x e) refl))

pub complement_gives : (s : Setting) (at : At) (a : Operand) → IsOperand s a → On (IsValue s) (complement at a)
complement_gives s at a x = with_number s at a (λ k. operated Xor k (plain (int k)) at (as_kind k a) (number k (ones k) at)) (λ i e.
    operated_gives s Xor (promote_of i) (int (promote_of i)) (int (promote_of i)) (int (promote_of i)) at (as_kind (promote_of i) a)
    (number (promote_of i) (ones (promote_of i)) at) refl (promoted_kind i) (as_kind_gives s a i (promote_of i) x e) refl refl refl
    (number_gives s (promote_of i) (ones (promote_of i)) at (ones_word (promote_of i)))
    (right_row s Xor (int (promote_of i)) (promote_of i) (number (promote_of i) (ones (promote_of i)) at) refl
    (number_gives s (promote_of i) (ones (promote_of i)) at (ones_word (promote_of i))) refl))

pub plus_gives : (s : Setting) (at : At) (a : Operand) → IsOperand s a → On (IsValue s) (plus at a)
plus_gives s at a x = with_number s at a (λ k. as_kind k a) (λ i e. as_kind_gives s a i (promote_of i) x e)

pub unary_gives : (s : Setting) (at : At) (a : Operand) → IsOperand s a
    → On (IsValue s) (minus at a) × On (IsValue s) (complement at a) × On (IsValue s) (plus at a)
unary_gives s at a x = (minus_gives s at a x, complement_gives s at a x, plus_gives s at a x)

-- Addresses and what lies there

address_word : (s : Setting) (t : Typ) (e : Tree) → Gives s (ptr t) e → word_kind (typ_in e) (cat_of e) ≡ Some ULong
address_word s t e g = ap (λ (u : Typ). word_kind u (cat_of e)) g.typed ∙ ap (λ (c : Cat). word_kind (plain (ptr t)) c) g.category

pub pointed_stands : (s : Setting) (at : At) (t : Typ) (e : Tree) → Gives s (ptr t) e → IsExpressionType t Lvalue → Stands s (retyped at t Lvalue e)
pointed_stands s at t e g i = lvalue_stands s at t e (address_word s t e g) g.fits i

pub indirection_stands : (s : Setting) (at : At) (a : Operand) → IsOperand s a
    → ((t : Typ) → value_form a ≡ ptr t → IsExpressionType t Lvalue) → On (Stands s) (indirection at a)
indirection_stands s at a x i = expected (Stands s) at BadOperand (pointed (value_form a)) _ (λ t e. pointed_stands s at t (value a)
    (pointer_of s a t x (pointed_form (value_form a) t e)) (i t (pointed_form (value_form a) t e)))

pub lvalue_is : (cat : Cat) → is_lvalue cat ≡ true → cat ≡ Lvalue
lvalue_is Lvalue h = refl
lvalue_is Prvalue h = absurd cc

-- an lvalue is a value wherever it stands
pub lvalue_fits : (s : Setting) (e : Tree) → Stands s e → cat_of e ≡ Lvalue → FitsAs s Value e
lvalue_fits s e h l = h.value (ap (λ (c : Cat). is_class_prvalue (typ_in e) c) l)

pub address_stands : (s : Setting) (at : At) (a : Operand) → IsOperand s a → On (IsValue s) (address_of at a)
address_stands s at a x = checked (IsValue s) at NotLvalue (is_lvalue (cat_of a.tree)) _ (λ h. record {
  form = ptr (typ_in a.tree);
  gives = address_gives s at (typ_in a.tree) a.tree (lvalue_is (cat_of a.tree) h) (lvalue_fits s a.tree x.stands (lvalue_is (cat_of a.tree) h));
})

subscripted : (s : Setting) (at : At) (e : Tree) → IsValue s e → ((t : Typ) → form_in (typ_in e) ≡ ptr t → IsExpressionType t Lvalue)
    → On (Stands s) (and_then (expect at BadOperand (pointed (form_in (typ_in e)))) (λ t. Ok (retyped at t Lvalue e)))
subscripted s at e g i = expected (Stands s) at BadOperand (pointed (form_in (typ_in e))) _ (λ t d. pointed_stands s at t e
    (subst (λ (f : Form). Gives s f e) (sym (ap form_in g.gives.typed) ∙ pointed_form (form_in (typ_in e)) t d) g.gives)
    (i t (pointed_form (form_in (typ_in e)) t d)))

pub subscript_stands : (s : Setting) (c : Ctx) (at : At) (a b : Operand) → IsOperand s a → IsOperand s b
    → ((e : Tree) (t : Typ) → sum_of c Add at (pointed (value_form a)) (pointed (value_form b)) a b ≡ Ok e
    → form_in (typ_in e) ≡ ptr t → IsExpressionType t Lvalue)
    → On (Stands s) (subscript c at a b)
subscript_stands s c at a b x y i = by (sum_of c Add at (pointed (value_form a)) (pointed (value_form b)) a b) refl
    (add_gives s c at a b (pointed (value_form a)) (pointed (value_form b)) x y refl refl)
  where
    by : (r : Result Tree ElabFault) → sum_of c Add at (pointed (value_form a)) (pointed (value_form b)) a b ≡ r → On (IsValue s) r
        → On (Stands s) (and_then r (λ (e : Tree). and_then (expect at BadOperand (pointed (form_in (typ_in e)))) (λ t. Ok (retyped at t Lvalue e))))
    by (Ok e) d g = subscripted s at e g (λ t h. i e t d h)
    by (Err f) d g = tt
