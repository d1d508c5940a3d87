-- Assignments, `a, b` and `? :`.
use Rattle.std.proofs.Common.{◌≡◌, refl, sym, ap, ◌∙◌, ℕ, Bool, true, false, ◌&&◌, ◌||◌, ◌==◌, List, Option, Some, None, is_some, Result, Ok, Err, eqb-true}
use Rattle.std.proofs.lemmas.Bool.{and_parts}
use Rattle.std.specs.Prelude.{not, if◌then◌else◌}
use Rattle.elab_rules.specs.tx_ints.declared.kinds.IntKind.{IntKind}
use Rattle.elab_rules.specs.tx_ints.declared.kinds.IntKind.TheVariants.{ULong}
use Rattle.elab_rules.specs.tx_ints.declared.kinds.BinOp.{BinOp}
use Rattle.elab_rules.specs.tx_ints.declared.kinds.BinOp.TheVariants.{Add, Sub, Mul, Div, Rem, Shl, Shr, And, Xor, Or}
use Rattle.elab_rules.specs.tx_ints.Integers.{is_shift}
use Rattle.elab_rules.specs.cpp_types.Typ.{Typ, typ, Form, void, int, enum, null, ptr, ref, array, func, class, closure, tx_ex}
use Rattle.elab_rules.specs.cpp_types.Equal.{typ_eq, form_eq}
use Rattle.elab_rules.specs.cpp_types.Conversion.{is_lvalue, is_object_form}
use Rattle.elab_rules.specs.cpp_types.declared.classes.At.{At}
use Rattle.elab_rules.specs.cpp_types.declared.ranks.Conversion.{Conversion}
use Rattle.elab_rules.specs.cpp_types.declared.ranks.Cat.{Cat}
use Rattle.elab_rules.specs.cpp_types.declared.ranks.Cat.TheVariants.{Lvalue, Prvalue}
use Rattle.elab_rules.specs.cpp_ast.declared.kinds.NodeKind.TheVariants as k
use Rattle.elab_rules.specs.cpp_tree.declared.kinds.TKind.{TKind}
use Rattle.elab_rules.specs.cpp_tree.declared.kinds.TKind.TheVariants.{Retype, Throw, Rethrow}
use Rattle.elab_rules.specs.cpp_tree.declared.faults.ElabFault.{ElabFault}
use Rattle.elab_rules.specs.cpp_tree.declared.faults.IllRule.TheVariants.{BadOperand, NoCopy, NoConversion}
use Rattle.elab_rules.specs.cpp_tree.Trees.{Tree, node, none, more, one, typ_in, cat_of, kind_of, kids_of}
use Rattle.elab_rules.specs.cpp_tree.Typing.{form_in, kind_in, unqualified, is_class_typ, is_void, is_volatile_typ}
use Rattle.elab_rules.specs.cpp_tree.Notation.{plain}
use Rattle.elab_rules.specs.elab_ctx.Ctx.{Ctx, Work}
use Rattle.elab_rules.specs.elab_ctx.Steps.{and_then, check, expect, Operand, Made, TypedAll, at_of, spelling}
use Rattle.elab_rules.specs.Objects.{traits_at}
use Rattle.elab_rules.specs.Values.{place_of, same_at}
use Rattle.elab_rules.specs.Initialising.{initial, conversion, class_number, is_same_or_base, as_source}
use Rattle.elab_rules.specs.Initialising.{with_tree, object_of, exception_copied, is_written_exception, exact_object}
use Rattle.elab_rules.specs.Operators.{updated, scaled, value, value_form, arithmetic, assigned, copy_assigned, class_assigned_in, same_object, assignment}
use Rattle.elab_rules.specs.Operators.{compound_numbers, compound_in, compound, movable, is_sum, same_work, truth, is_throw, is_null, as_pointer}
use Rattle.elab_rules.specs.Operators.{bare_throw, throws as throws_tree, dropped, settled, joined_type}
use Rattle.elab_rules.specs.Operators.{is_shared, shared as shared_tree, joined_class, is_assignable_form}
use Rattle.elab_rules.specs.Operators.{conditional_like, conditional_node, same_lvalues, both_of_class, two_numbers, two_values, two_objects, branches, conditional}
use Rattle.elab_rules.specs.Names.{is_const_typ}
use Rattle.elab_rules.specs.Expressions.{row_of, assignment_of}
use Rattle.elab_laws.specs.Reading.{On, IsPrvalue, IsLvalue, EachTwo}
use Rattle.elab_laws.specs.Unary.{IsModifiable}
use Rattle.elab_laws.specs.Assigning.{Simple, Compound, integer, pointer, simple_words, compound_words, Compounds, IsAs, Second, IsThrow, throws, throws_again}
use Rattle.elab_laws.specs.Assigning.{Throws, bare, without_value}
use Rattle.elab_laws.specs.Assigning.{Either, both_throw, first_throws, second_throws, both_void, lvalues, shared, objects, values, numbers_of, or_null, null_or}
use Rattle.elab_laws.specs.Assigning.{Chosen, Assignments, Commas, Conditionals}
use Rattle.elab_laws.proofs.Reading.{bind, skip, after, checked, expected, either, weaken, of_two, of_three, made_in, each_word, ForAll}
use Rattle.elab_laws.proofs.Equal.{typ_same, form_same}
use Rattle.elab_laws.proofs.Arithmetic.{form_is, number_from, points_from, some_number}
use Rattle.elab_laws.proofs.Tests.{null_from, truth_is}
use Rattle.elab_laws.proofs.Unary.{target_law, lvalue_is}

-- Assignments

abbrev Becomes : Operand → Tree → Type 0
Becomes x e = IsLvalue (typ_in x.tree) e

-- the typed tree of an answer
abbrev pub Tree_in : (Tree → Type 0) → Made → Type 0
Tree_in P m = P m.tree

assigned_law : (at : At) (i : Option IntKind) (x : Operand) (v : Tree) → On (Becomes x) (assigned at i x v)
assigned_law at (Some i) x v = record { has_type = refl; category = refl }
assigned_law at None x v = tt

copy_law : (c : Ctx) (w : Work) (at : At) (x y : Operand) (f : Tree → Tree) (t : Typ) → On (Tree_in (Becomes x)) (copy_assigned c w at x y f t)
copy_law c w at x y f t = checked (Tree_in (Becomes x)) y.at NoCopy (not (is_volatile_typ (typ_in y.tree))) _ (λ z. record { has_type = refl; category = refl })

class_law : (c : Ctx) (w : Work) (at : At) (x y : Operand) (f : Form) → On (Tree_in (Becomes x)) (class_assigned_in c w at x y f)
class_law c w at x y (class n) = checked (Tree_in (Becomes x)) y.at NoConversion (is_same_or_base c.classes (class_number (typ_in y.tree)) (Some n)) _
    (λ u. checked (Tree_in (Becomes x)) at NoCopy ((traits_at c n).is_assignable && not (is_volatile_typ (typ_in x.tree))) _
    (λ v. copy_law c w at x y (as_source y.at n) (typ_in x.tree)))
class_law c w at x y (tx_ex t) = checked (Tree_in (Becomes x)) y.at NoConversion (form_eq (form_in (typ_in y.tree)) (tx_ex t)) _
    (λ u. checked (Tree_in (Becomes x)) at NoCopy (is_assignable_form c (form_in t) && not (is_volatile_typ (typ_in x.tree))) _
    (λ v. copy_law c w at x y same_object t))
class_law c w at x y f = tt

class_from_typ : (t : Typ) → is_class_typ t ≡ true → is_object_form (form_in t) ≡ true
class_from_typ (typ f c v) h = h

converts_in : (at : At) (x : Option Conversion) (f : Conversion → Result Made ElabFault) (m : Made) → and_then (expect at NoConversion x) f ≡ Ok m
    → is_some x ≡ true
converts_in at (Some v) f m h = refl
converts_in at None f m h = absurd cc

initial_converts : (c : Ctx) (w : Work) (t : Typ) (o : Operand) (m : Made) → initial c w t o ≡ Ok m → is_some (conversion c t o) ≡ true
initial_converts c w t o m h = converts_in o.at (conversion c t o) _ m h

no_object : (A : Type 0) (t : Typ) → is_class_typ t ≡ true → is_object_form (form_in t) ≡ false → A
no_object A t h g = let e : is_object_form (form_in t) ≡ true = class_from_typ t h in absurd cc

simple_law : (c : Ctx) (w : Work) (at : At) (x y : Operand) → On (Tree_in (Simple c x y)) (assignment c w at x y)
simple_law c w at x y = target_law (Tree_in (Simple c x y)) at x _ (λ m. either (Tree_in (Simple c x y)) (is_class_typ (typ_in x.tree)) _ _
    (λ z. weaken (Tree_in (Becomes x)) (Tree_in (Simple c x y)) (class_assigned_in c w at x y (form_in (typ_in x.tree)))
    (λ e g. record { assigned = record { typ = typ_in x.tree; target = m; result = g }; converts = λ n. no_object _ (typ_in x.tree) z n })
    (class_law c w at x y (form_in (typ_in x.tree))))
    (λ z. checked (Tree_in (Simple c x y)) at BadOperand (is_some (kind_in (form_in (typ_in x.tree)))) _
    (λ u. after (Tree_in (Simple c x y)) (initial c w (unqualified (typ_in x.tree)) y) _ (λ v i.
    bind (Becomes x) (Tree_in (Simple c x y)) (assigned at (kind_in (form_in (typ_in x.tree))) x v.tree) _
    (assigned_law at (kind_in (form_in (typ_in x.tree))) x v.tree) (λ e g.
    record { assigned = record { typ = typ_in x.tree; target = m; result = g }; converts = λ n. initial_converts c w (unqualified (typ_in x.tree)) y v i })))))

numbers_law : (op : BinOp) (at : At) (i j : IntKind) (x y : Operand) (b : Bool) → is_shift op ≡ b → Becomes x (compound_numbers op at i j x y)
numbers_law op at i j x y true h = rw h (record { has_type = refl; category = refl })
numbers_law op at i j x y false h = rw h (record { has_type = refl; category = refl })

compound_in_law : (c : Ctx) (op : BinOp) (at : At) (f : Form) (x y : Operand) → IsModifiable (typ_in x.tree) x.tree → form_in (typ_in x.tree) ≡ f
    → On (Compound c x y) (compound_in c op at f x y)
compound_in_law c op at (ptr t) x y m h = checked (Compound c x y) at BadOperand (is_sum op && is_some (arithmetic (value_form y))) _
    (λ z. skip (Compound c x y) (movable c at x.at t) _ (λ u.
    some_number (Compound c x y (updated op ULong ULong false at x (scaled c at t y))) y (arithmetic (value_form y)) refl
    (and_parts (is_sum op) (is_some (arithmetic (value_form y))) z).1 (λ j n.
    record {
      assigned = record { typ = typ_in x.tree; target = m; result = record { has_type = refl; category = refl } };
      left = pointer t h;
      kind = j;
      number =
          n;
    })))
compound_in_law c op at (int i) x y m h = expected (Compound c x y) at BadOperand (arithmetic (value_form y)) _ (λ j e.
    record {
      assigned = record { typ = typ_in x.tree; target = m; result = numbers_law op at i j x y (is_shift op) refl };
      left = integer i h;
      kind = j;
      number = number_from y j e;
    })
compound_in_law c op at f x y m h = tt

compound_law : (c : Ctx) (op : BinOp) (at : At) (x y : Operand) → On (Compound c x y) (compound c op at x y)
compound_law c op at x y = target_law (Compound c x y) at x _ (λ m. compound_in_law c op at (form_in (typ_in x.tree)) x y m refl)

with_work : (P : Tree → Type 0) (w : Work) (r : Result Tree ElabFault) → On P r → On (Tree_in P) (same_work w r)
with_work P w (Ok e) h = h
with_work P w (Err e) h = tt

abbrev ForAssignment : (Ctx → Operand → Operand → Tree → Type 0) → List ℕ → Type 0
ForAssignment rule name = (c : Ctx) (w : Work) (at : At) (x y : Operand) → On (Tree_in (rule c x y)) (assignment_of c w at name x y)

compound_word : (op : BinOp) (c : Ctx) (w : Work) (at : At) (x y : Operand) → On (Tree_in (Compound c x y)) (same_work w (compound c op at x y))
compound_word op c w at x y = with_work (Compound c x y) w (compound c op at x y) (compound_law c op at x y)

each_compound : ForAll (ForAssignment Compound) compound_words
each_compound = (
  compound_word Add,
  (
    compound_word Sub,
    (
      compound_word Mul,
      (
        compound_word Div,
        (
          compound_word Rem,
          (compound_word Shl, (compound_word Shr, (compound_word And, (compound_word Xor, (compound_word Or, tt))))),
        ),
      ),
    ),
  ),
)

each_simple : ForAll (ForAssignment Simple) simple_words
each_simple = ((λ c w at x y. simple_law c w at x y), tt)

assignment_law : (words : List (List ℕ)) (rule : Ctx → Operand → Operand → Tree → Type 0) → ForAll (ForAssignment rule) words
    → EachTwo k.AssignmentExpression words rule
assignment_law words rule h s c w p t a b i = of_two s c w a b (rule c) (λ (xs : TypedAll). row_of s c xs.work k.AssignmentExpression (at_of p) t xs.operands)
    (λ x y. made_in (rule c x.operand y.operand) (at_of p) (assignment_of c y.work (at_of p) (spelling s t) x.operand y.operand)
    (each_word (ForAssignment rule) words (spelling s t) h i c y.work (at_of p) x.operand y.operand))

pub assignments_law : Assignments
assignments_law = assignment_law simple_words Simple each_simple

pub compounds_law : Compounds
compounds_law = assignment_law compound_words Compound each_compound

-- `a, b`

-- the copy of an operand that is beside another has its type and category
written_as : (t : Typ) (at : At) (c : Ctx) (e s : Tree) → is_written_exception e ≡ true → t ≡ typ_in e → IsAs e (exception_copied c t at s)
written_as t at c (node Retype (typ (tx_ex u) d v) Prvalue p kids) s h i = record { same_type = i; same_category = refl }
written_as t at c e s h i = absurd cc

settled_by : (c : Ctx) (w : Work) (o : Operand) (b : Bool) → is_written_exception o.tree ≡ b
    → IsAs o.tree (if b then with_tree (exception_copied c (typ_in o.tree) o.at) (object_of c w o.at o.tree) else record { tree = o.tree; work = w }).tree
settled_by c w o true h = written_as (typ_in o.tree) o.at c o.tree (object_of c w o.at o.tree).tree h refl
settled_by c w o false h = record { same_type = refl; same_category = refl }

settled_as : (c : Ctx) (w : Work) (o : Operand) → IsAs o.tree (settled c w o).tree
settled_as c w o = settled_by c w o (is_written_exception o.tree) refl

pub commas_law : Commas
commas_law s c w p t a b = of_two s c w a b Second (λ (xs : TypedAll). row_of s c xs.work k.CommaExpression (at_of p) t xs.operands)
    (λ x y. let i = settled_as c (dropped c y.work x.operand).work y.operand in record { same_type = i.same_type; same_category = i.same_category })

-- `? :`

throw_kind : (e : Tree) (kind : TKind) → kind_of e ≡ kind → is_throw kind ≡ true → IsThrow e
throw_kind e Throw h i = throws h
throw_kind e Rethrow h i = throws_again h
throw_kind e kind h i = absurd cc

bare_from : (x : Operand) (e : Tree) → x.tree ≡ e → is_throw (kind_of e) ≡ true → Throws x
bare_from x e h i = bare (throw_kind x.tree (kind_of e) (ap kind_of h) i)

abbrev stands : ℕ → ℕ → At
stands m n = record { source = m; offset = n }

at_same : (a b : At) → same_at a b ≡ true → b ≡ a
at_same a b h = let p = and_parts (a.source == b.source) (a.offset == b.offset) h in
    ap (λ (n : ℕ). stands n b.offset) (sym (eqb-true a.source b.source p.0)) ∙ ap (stands a.source) (sym (eqb-true a.offset b.offset p.1))

retype_from : (x : Operand) (t : Typ) (cat : Cat) (at : At) (e : Tree) (b : Bool) → x.tree ≡ node Retype t cat at (one e)
    → (is_throw (kind_of e) && same_at at (place_of e)) ≡ b → is_throw (kind_of (if b then e else node Retype t cat at (one e))) ≡ true → Throws x
retype_from x t cat at e true h i j = let p = and_parts (is_throw (kind_of e)) (same_at at (place_of e)) i in
    without_value e (ap kind_of h) (ap kids_of h) (at_same at (place_of e) p.1 ∙ sym (ap place_of h)) (throw_kind e (kind_of e) refl p.0)
retype_from x t cat at e false h i j = absurd cc

throws_in : (x : Operand) (e : Tree) → x.tree ≡ e → throws_tree e ≡ true → Throws x
throws_in x (node Retype t cat at (more e none)) h i = retype_from x t cat at e (is_throw (kind_of e) && same_at at (place_of e)) h refl i
throws_in x (node kind t cat at kids) h i = bare_from x (node kind t cat at kids) h i

throws_from : (x : Operand) → throws_tree x.tree ≡ true → Throws x
throws_from x h = throws_in x x.tree refl h

void_from : (t : Typ) → is_void t ≡ true → form_in t ≡ void
void_from (typ void c v) h = refl
void_from (typ (int j) c v) h = absurd cc
void_from (typ (enum n s) c v) h = absurd cc
void_from (typ null c v) h = absurd cc
void_from (typ (ptr t) c v) h = absurd cc
void_from (typ (ref t) c v) h = absurd cc
void_from (typ (array t n) c v) h = absurd cc
void_from (typ (func s) c v) h = absurd cc
void_from (typ (class n) c v) h = absurd cc
void_from (typ (closure n) c v) h = absurd cc
void_from (typ (tx_ex t) c v) h = absurd cc

-- beside one that throws
like : (at : At) (test x y : Tree) (o z : Tree) → IsAs o z → IsAs o (conditional_like at z test x y)
like at test x y o z i = record { same_type = i.same_type; same_category = i.same_category }

itself : (e f : Tree) → typ_in e ≡ typ_in f → cat_of e ≡ cat_of f → IsAs f e
itself e f h i = record { same_type = h; same_category = i }

one_of_two : (a b : Bool) (A : Type 0) → (a || b) ≡ true → (a ≡ true → A) → (b ≡ true → A) → A
one_of_two true b A h f g = f refl
one_of_two false b A h f g = g h

lvalues_from : (x y : Operand) (e : Tree) → same_lvalues x y ≡ true → IsAs x.tree e → Either x y e
lvalues_from x y e h i =
    let p = and_parts (is_lvalue (cat_of x.tree) && is_lvalue (cat_of y.tree)) (typ_eq (typ_in x.tree) (typ_in y.tree)) h in
    let q = and_parts (is_lvalue (cat_of x.tree)) (is_lvalue (cat_of y.tree)) p.0 in
    lvalues (typ_in x.tree) (record { has_type = refl; category = lvalue_is (cat_of x.tree) q.0 })
    (record { has_type = sym (typ_same (typ_in x.tree) (typ_in y.tree) p.1); category = lvalue_is (cat_of y.tree) q.1 })
    (record { has_type = i.same_type; category = i.same_category ∙ lvalue_is (cat_of x.tree) q.0 })

voids_from : (x y : Operand) (e : Tree) → (is_void (typ_in x.tree) && is_void (typ_in y.tree)) ≡ true → IsAs x.tree e → Either x y e
voids_from x y e h i = let p = and_parts (is_void (typ_in x.tree)) (is_void (typ_in y.tree)) h in
    both_void (void_from (typ_in x.tree) p.0) (void_from (typ_in y.tree) p.1) i

numbers_in : (at : At) (test : Tree) (x y : Operand) (i j : Option IntKind) → arithmetic (value_form x) ≡ i → arithmetic (value_form y) ≡ j
    → On (Either x y) (two_numbers at test i j x y)
numbers_in at test x y (Some i) (Some j) e f = numbers_of i j (number_from x i e) (number_from y j f) (record { has_type = refl; category = refl })
numbers_in at test x y (Some i) None e f = tt
numbers_in at test x y None j e f = tt

same_pointers : (at : At) (test : Tree) (x y : Operand) (t u : Typ) → value_form x ≡ ptr t → value_form y ≡ ptr u
    → On (Either x y) (two_values at test (ptr t) (ptr u) x y)
same_pointers at test x y t u e f = checked (Either x y) at BadOperand (typ_eq t u) _
    (λ z. values (ptr t) (sym (form_is x) ∙ e) (sym (form_is y) ∙ f ∙ ap ptr (sym (typ_same t u z))) (record { has_type = refl; category = refl }))

pointer_or_null : (at : At) (test : Tree) (x y : Operand) (t : Typ) → value_form x ≡ ptr t
    → On (Either x y) (and_then (check at BadOperand (is_null y)) (λ z. Ok (conditional_node at (plain (ptr t)) Prvalue test (value x) (as_pointer t y))))
pointer_or_null at test x y t e = checked (Either x y) at BadOperand (is_null y) _
    (λ z. or_null t (points_from x t e) (null_from y z) (record { has_type = refl; category = refl }))

null_or_pointer : (at : At) (test : Tree) (x y : Operand) (t : Typ) → value_form y ≡ ptr t
    → On (Either x y) (and_then (check at BadOperand (is_null x)) (λ z. Ok (conditional_node at (plain (ptr t)) Prvalue test (as_pointer t x) (value y))))
null_or_pointer at test x y t e = checked (Either x y) at BadOperand (is_null x) _
    (λ z. null_or t (null_from x z) (points_from y t e) (record { has_type = refl; category = refl }))

same_values : (x y : Operand) (e : Tree) (f g : Form) → value_form x ≡ f → value_form y ≡ g → (form_eq f g && is_some (kind_in f)) ≡ true
    → IsPrvalue (plain f) e → Either x y e
same_values x y e f g i j h r = let p = and_parts (form_eq f g) (is_some (kind_in f)) h in
    values f (sym (form_is x) ∙ i) (sym (form_is y) ∙ j ∙ sym (form_same f g p.0)) r

values_case : (at : At) (test : Tree) (x y : Operand) (f g : Form) → value_form x ≡ f → value_form y ≡ g
    → On (Either x y) (if form_eq f g && is_some (kind_in f) then Ok (conditional_node at (plain f) Prvalue test (value x) (value y)) else two_numbers at test
    (arithmetic f) (arithmetic g) x y)
values_case at test x y f g i j = either (Either x y) (form_eq f g && is_some (kind_in f)) _ _
    (λ h. same_values x y (conditional_node at (plain f) Prvalue test (value x) (value y)) f g i j h (record { has_type = refl; category = refl }))
    (λ h. numbers_in at test x y (arithmetic f) (arithmetic g) (ap arithmetic i) (ap arithmetic j))

values_law : (at : At) (test : Tree) (x y : Operand) (f g : Form) → value_form x ≡ f → value_form y ≡ g → On (Either x y) (two_values at test f g x y)
values_law at test x y (ptr t) (ptr u) i j = same_pointers at test x y t u i j
values_law at test x y (ptr t) f i j = pointer_or_null at test x y t i
values_law at test x y f (ptr t) i j = null_or_pointer at test x y t j
values_law at test x y f g i j = values_case at test x y f g i j

joined_is : (t u : Typ) → joined_type t u ≡ typ (form_in t) (is_const_typ t || is_const_typ u) (is_volatile_typ t || is_volatile_typ u)
joined_is (typ f c v) (typ g d w) = refl

objects_law : (c : Ctx) (w : Work) (at : At) (test : Tree) (x y : Operand) → both_of_class x y ≡ true → On (Tree_in (Either x y)) (two_objects c w at test x y)
objects_law c w at test x y h = skip (Tree_in (Either x y)) (exact_object c w (joined_class x y) x.at x) _
    (λ u. skip (Tree_in (Either x y)) (exact_object c u.work (joined_class x y) y.at y) _ (λ v.
    let p = and_parts (is_class_typ (typ_in x.tree)) (form_eq (form_in (typ_in x.tree)) (form_in (typ_in y.tree))) h in
    let f = form_same (form_in (typ_in x.tree)) (form_in (typ_in y.tree)) p.1 in
    let o = class_from_typ (typ_in x.tree) p.0 in
    objects (form_in (typ_in x.tree)) o refl (sym f) (record { has_type = joined_is (typ_in x.tree) (typ_in y.tree); category = refl })))

is_an_lvalue : (cat : Cat) → is_lvalue cat ≡ true → cat ≡ Lvalue
is_an_lvalue Lvalue h = refl
is_an_lvalue Prvalue h = absurd cc

shared_law : (at : At) (test : Tree) (x y : Operand) → is_shared x y ≡ true → Either x y (shared_tree at test x y)
shared_law at test x y h =
    let p = and_parts (is_lvalue (cat_of x.tree) && is_lvalue (cat_of y.tree) && both_of_class x y)
    (typ_eq (joined_class x y) (typ_in x.tree) || typ_eq (joined_class x y) (typ_in y.tree)) h in
    let q = and_parts (is_lvalue (cat_of x.tree) && is_lvalue (cat_of y.tree)) (both_of_class x y) p.0 in
    let r = and_parts (is_lvalue (cat_of x.tree)) (is_lvalue (cat_of y.tree)) q.0 in
    let s = and_parts (is_class_typ (typ_in x.tree)) (form_eq (form_in (typ_in x.tree)) (form_in (typ_in y.tree))) q.1 in
    shared (form_in (typ_in x.tree)) (class_from_typ (typ_in x.tree) s.0) refl
    (sym (form_same (form_in (typ_in x.tree)) (form_in (typ_in y.tree)) s.1)) (is_an_lvalue (cat_of x.tree) r.0) (is_an_lvalue (cat_of y.tree) r.1)
    (record { has_type = joined_is (typ_in x.tree) (typ_in y.tree); category = refl })

branches_law : (c : Ctx) (w : Work) (at : At) (test : Tree) (x y : Operand) → On (Tree_in (Either x y)) (branches c w at test x y)
branches_law c w at test x y = either (Tree_in (Either x y)) (throws_tree x.tree && throws_tree y.tree) _ _
    (λ h. let p = and_parts (throws_tree x.tree) (throws_tree y.tree) h in
    both_throw (throws_from x p.0) (throws_from y p.1) (record { has_type = refl; category = refl }))
    (λ h. either (Tree_in (Either x y)) (throws_tree y.tree) _ _
    (λ i. second_throws (throws_from y i) (like at test (settled c w x).tree (bare_throw y.tree) x.tree (settled c w x).tree (settled_as c w x)))
    (λ i. either (Tree_in (Either x y)) (throws_tree x.tree) _ _
    (λ j. first_throws (throws_from x j) (like at test (bare_throw x.tree) (settled c w y).tree y.tree (settled c w y).tree (settled_as c w y)))
    (λ j. either (Tree_in (Either x y)) (same_lvalues x y || (is_void (typ_in x.tree) && is_void (typ_in y.tree))) _ _
    (λ l. one_of_two (same_lvalues x y) (is_void (typ_in x.tree) && is_void (typ_in y.tree))
    (Either x y (conditional_node at (typ_in x.tree) (cat_of x.tree) test x.tree y.tree)) l
    (λ m. lvalues_from x y (conditional_node at (typ_in x.tree) (cat_of x.tree) test x.tree y.tree) m (record { same_type = refl; same_category = refl }))
    (λ m. voids_from x y (conditional_node at (typ_in x.tree) (cat_of x.tree) test x.tree y.tree) m (record { same_type = refl; same_category = refl })))
    (λ l. either (Tree_in (Either x y)) (is_shared x y) _ _ (shared_law at test x y)
    (λ n. either (Tree_in (Either x y)) (both_of_class x y) _ _ (λ m. objects_law c w at test x y m)
    (λ m. with_work (Either x y) w (two_values at test (value_form x) (value_form y) x y)
    (values_law at test x y (value_form x) (value_form y) refl refl)))))))

conditional_law : (c : Ctx) (w : Work) (at : At) (test x y : Operand) → On (Tree_in (Chosen c test x y)) (conditional c w at test x y)
conditional_law c w at test x y = after (Tree_in (Chosen c test x y)) (truth c w test) _
    (λ u i. weaken (Tree_in (Either x y)) (Tree_in (Chosen c test x y)) (branches c w at u x y) (λ m g. record { truth = truth_is c w test u i; result = g })
    (branches_law c w at u x y))

pub conditionals_law : Conditionals
conditionals_law s c w p t a b d = of_three s c w a b d (Chosen c) (λ (xs : TypedAll). row_of s c xs.work k.ConditionalExpression (at_of p) t xs.operands)
    (λ x y z. made_in (Chosen c x.operand y.operand z.operand) (at_of p) (conditional c z.work (at_of p) x.operand y.operand z.operand)
    (conditional_law c z.work (at_of p) x.operand y.operand z.operand))
