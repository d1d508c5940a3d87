-- Operators on one operand, increments and `[]`.
use Rattle.std.proofs.Common.{◌≡◌, refl, sym, ap, ◌∙◌, subst, Bool, true, false, Some, None, Result}
use Rattle.std.specs.Prelude.{not}
use Rattle.elab_rules.specs.tx_ints.declared.kinds.IntKind.{IntKind}
use Rattle.elab_rules.specs.tx_ints.declared.kinds.IntKind.TheVariants.{Bool as BoolKind, ULong}
use Rattle.elab_rules.specs.tx_ints.declared.kinds.BinOp.{BinOp}
use Rattle.elab_rules.specs.tx_ints.declared.kinds.BinOp.TheVariants.{Add, Sub, Xor}
use Rattle.elab_rules.specs.tx_ints.Integers.{promote_of, usual_of}
use Rattle.elab_rules.specs.cpp_types.Typ.{Typ, Form, int, ptr}
use Rattle.elab_rules.specs.cpp_types.Equal.{kind_eq}
use Rattle.elab_rules.specs.cpp_types.Conversion.{is_lvalue, const_of}
use Rattle.elab_rules.specs.cpp_types.declared.classes.At.{At}
use Rattle.elab_rules.specs.cpp_types.declared.ranks.Cat.{Cat}
use Rattle.elab_rules.specs.cpp_types.declared.ranks.Cat.TheVariants.{Lvalue, Prvalue}
use Rattle.elab_rules.specs.cpp_ast.declared.kinds.NodeKind.TheVariants as k
use Rattle.elab_rules.specs.cpp_tree.declared.faults.IllRule.TheVariants.{BadOperand, NotLvalue, ConstTarget}
use Rattle.elab_rules.specs.cpp_tree.declared.faults.ElabFault.{ElabFault}
use Rattle.elab_rules.specs.cpp_tree.Trees.{Tree, typ_in, cat_of}
use Rattle.elab_rules.specs.cpp_tree.Typing.{form_in}
use Rattle.elab_rules.specs.cpp_tree.Notation.{plain}
use Rattle.elab_rules.specs.elab_ctx.Ctx.{Ctx}
use Rattle.elab_rules.specs.elab_ctx.Steps.{and_then, check, Operand, TypedAll, at_of, spelling}
use Rattle.elab_rules.specs.Objects.{size_of}
use Rattle.elab_rules.specs.Values.{retyped, number, operated}
use Rattle.elab_rules.specs.Operators.{value_form, arithmetic, as_kind, ones, with_arithmetic, plus, minus, complement, pointed, indirection, address_of}
use Rattle.elab_rules.specs.Operators.{subscript, sum_of, target, updated, step, step_in, movable}
use Rattle.elab_rules.specs.Expressions.{row_of, postfix_operator}
use Rattle.elab_laws.specs.Reading.{On, IsPrvalue}
use Rattle.elab_laws.specs.Arithmetic.{PointsTo, Sum, numbers_added, pointer_and_number, number_and_pointer}
use Rattle.elab_laws.specs.Unary.{Promoted, Pointed, Address, IsModifiable, Before, Behind, Element, pointer_first, pointer_second, Promotions, promotion_words}
use Rattle.elab_laws.specs.Unary.{Indirection, indirection_words, Addresses, address_words, Prefix, prefix_words, Postfix, Subscripts}
use Rattle.elab_laws.proofs.Reading.{bind, skip, checked, expected, of_one, of_two, tree_in}
use Rattle.elab_laws.proofs.Arithmetic.{number_from, pointed_from, sum_law, unary_law}
use Rattle.elab_laws.proofs.Converting.{as_kind_is}

-- Promotions

promoted_in : (at : At) (x : Operand) (f : IntKind → Tree)
    → ((j : IntKind) → arithmetic (value_form x) ≡ Some j → IsPrvalue (plain (int (promote_of j))) (f (promote_of j)))
    → On (Promoted x) (with_arithmetic at x f)
promoted_in at x f h = expected (Promoted x) at BadOperand (arithmetic (value_form x)) _
    (λ j e. record { kind = j; number = number_from x j e; result = h j e })

plus_law : (at : At) (x : Operand) → On (Promoted x) (plus at x)
plus_law at x = promoted_in at x (λ k. as_kind k x) (λ j e. as_kind_is x j (promote_of j) e)

minus_law : (at : At) (x : Operand) → On (Promoted x) (minus at x)
minus_law at x = promoted_in at x (λ k. operated Sub k (plain (int k)) at (number k 0 at) (as_kind k x)) (λ j e. record { has_type = refl; category = refl })

complement_law : (at : At) (x : Operand) → On (Promoted x) (complement at x)
complement_law at x = promoted_in at x (λ k. operated Xor k (plain (int k)) at (as_kind k x) (number k (ones k) at))
    (λ j e. record { has_type = refl; category = refl })

pub promotions_law : Promotions
promotions_law = unary_law promotion_words (λ (c : Ctx). Promoted)
    ((λ c w at x. plus_law at x), ((λ c w at x. minus_law at x), ((λ c w at x. complement_law at x), tt)))

-- `*` and `&`

pub pointed_law : (at : At) (x : Operand) → On (Pointed x) (indirection at x)
pointed_law at x = expected (Pointed x) at BadOperand (pointed (value_form x)) _
    (λ t e. record { target = t; pointer = pointed_from x t e; result = record { has_type = refl; category = refl } })

pub indirection_law : Indirection
indirection_law = unary_law indirection_words (λ (c : Ctx). Pointed) ((λ c w at x. pointed_law at x), tt)

pub lvalue_is : (cat : Cat) → is_lvalue cat ≡ true → cat ≡ Lvalue
lvalue_is Lvalue h = refl
lvalue_is Prvalue h = absurd cc

address_law : (at : At) (x : Operand) → On (Address x) (address_of at x)
address_law at x = checked (Address x) at NotLvalue (is_lvalue (cat_of x.tree)) _
    (λ h. record {
      target = typ_in x.tree;
      operand = record { has_type = refl; category = lvalue_is (cat_of x.tree) h };
      result =
          record { has_type = refl; category = refl };
    })

pub addresses_law : Addresses
addresses_law = unary_law address_words (λ (c : Ctx). Address) ((λ c w at x. address_law at x), tt)

-- What may be changed

two_checks : {B : Type 0} (Q : B → Type 0) (at : At) (b d : Bool) (f : Bool → Result B ElabFault) → (b ≡ true → d ≡ true → On Q (f true))
    → On Q (and_then (and_then (check at NotLvalue b) (λ y. check at ConstTarget d)) f)
two_checks Q at true true f h = h refl refl
two_checks Q at true false f h = tt
two_checks Q at false d f h = tt

not_true : (b : Bool) → not b ≡ true → b ≡ false
not_true true h = absurd cc
not_true false h = refl

pub target_law : {B : Type 0} (Q : B → Type 0) (at : At) (x : Operand) (f : Bool → Result B ElabFault) → (IsModifiable (typ_in x.tree) x.tree → On Q (f true))
    → On Q (and_then (target at x) f)
target_law Q at x f h = two_checks Q at (is_lvalue (cat_of x.tree)) (not (const_of (typ_in x.tree))) f
    (λ e g. h (record { lvalue = record { has_type = refl; category = lvalue_is (cat_of x.tree) e }; not_const = not_true (const_of (typ_in x.tree)) g }))

-- Increments

step_in_law : (P : Tree → Type 0) (c : Ctx) (op : BinOp) (old : Bool) (at : At) (f : Form) (x : Operand)
    → ((i j : IntKind) (r : Tree) → P (updated op i j old at x r)) → On P (step_in c op old at f x)
step_in_law P c op old at (ptr t) x h = skip P (movable c at x.at t) _ (λ z. h ULong ULong (number ULong (size_of c.classes t) at))
step_in_law P c op old at (int j) x h = checked P at BadOperand (not (kind_eq j BoolKind)) _ (λ z. h j (promote_of j) (number (promote_of j) 1 at))
step_in_law P c op old at f x h = tt

before_law : (c : Ctx) (op : BinOp) (at : At) (x : Operand) → On (Before x) (step c op false at x)
before_law c op at x = target_law (Before x) at x _ (λ m. step_in_law (Before x) c op false at (form_in (typ_in x.tree)) x
    (λ i j r. record { typ = typ_in x.tree; operand = m; result = record { has_type = refl; category = refl } }))

behind_law : (c : Ctx) (op : BinOp) (at : At) (x : Operand) → On (Behind x) (step c op true at x)
behind_law c op at x = target_law (Behind x) at x _ (λ m. step_in_law (Behind x) c op true at (form_in (typ_in x.tree)) x
    (λ i j r. record { typ = typ_in x.tree; operand = m; result = record { has_type = refl; category = refl } }))

pub prefix_law : Prefix
prefix_law = unary_law prefix_words (λ (c : Ctx). Before) ((λ c w at x. before_law c Add at x), ((λ c w at x. before_law c Sub at x), tt))

pub postfix_law : Postfix
postfix_law s c w p t a = of_one s c w a Behind (λ (xs : TypedAll). row_of s c xs.work k.PostfixIncrement (at_of p) t xs.operands)
    (λ x. tree_in (Behind x.operand) (at_of p) x.work (step c (postfix_operator (spelling s t)) true (at_of p) x.operand)
    (behind_law c (postfix_operator (spelling s t)) (at_of p) x.operand))

-- `[]`

some_is : (t u : Typ) → Some t ≡ Some u → t ≡ u
some_is t u h = cc

none_is : (t : Typ) → None ≡ Some t → ⊥
none_is t h = cc

no_pointer : (e : Tree) (t : Typ) (j : IntKind) → typ_in e ≡ plain (int j) → pointed (form_in (typ_in e)) ≡ Some t → ⊥
no_pointer e t j h i = none_is t (ap (λ (z : Typ). pointed (form_in z)) (sym h) ∙ i)

plain_pointer : (e : Tree) (t u : Typ) → typ_in e ≡ plain (ptr u) → pointed (form_in (typ_in e)) ≡ Some t → u ≡ t
plain_pointer e t u h i = some_is u t (ap (λ (z : Typ). pointed (form_in z)) (sym h) ∙ i)

element_from : (at : At) (x y : Operand) (e : Tree) (t : Typ) → pointed (form_in (typ_in e)) ≡ Some t → Sum x y e → Element x y (retyped at t Lvalue e)
element_from at x y e t h (numbers_added u) = absurd (no_pointer e t (usual_of u.left_kind u.right_kind) u.result.has_type h)
element_from at x y e t h (pointer_and_number m) = pointer_first t m.kind
    (subst (PointsTo x) (plain_pointer e t m.target m.result.has_type h) m.pointer) m.number (record { has_type = refl; category = refl })
element_from at x y e t h (number_and_pointer m) = pointer_second t m.kind m.number
    (subst (PointsTo y) (plain_pointer e t m.target m.result.has_type h) m.pointer) (record { has_type = refl; category = refl })

element_law : (c : Ctx) (at : At) (x y : Operand) → On (Element x y) (subscript c at x y)
element_law c at x y = bind (Sum x y) (Element x y) (sum_of c Add at (pointed (value_form x)) (pointed (value_form y)) x y) _ (sum_law c at x y)
    (λ e g. expected (Element x y) at BadOperand (pointed (form_in (typ_in e))) _ (λ t h. element_from at x y e t h g))

pub subscripts_law : Subscripts
subscripts_law s c w p t a b = of_two s c w a b Element (λ (xs : TypedAll). row_of s c xs.work k.Subscript (at_of p) t xs.operands)
    (λ x y. tree_in (Element x.operand y.operand) (at_of p) y.work (subscript c (at_of p) x.operand y.operand) (element_law c (at_of p) x.operand y.operand))
