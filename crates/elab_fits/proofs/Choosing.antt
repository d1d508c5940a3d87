-- `?:` of scalars and of lvalues of one type, and `,`.
use Rattle.std.proofs.Common.{◌≡◌, refl, sym, ap, ◌∙◌, subst, Bool, true, false, ◌&&◌, ◌||◌, not, [], ◌∷◌, Option, Some, None, is_some, Ok}
use Rattle.std.proofs.lemmas.Bool.{and_parts}
use Rattle.std.specs.Prelude.{if◌then◌else◌}
use Rattle.elab_rules.specs.tx_ints.declared.kinds.IntKind.{IntKind}
use Rattle.elab_rules.specs.tx_ints.Integers.{usual_of}
use Rattle.elab_rules.specs.cpp_types.Typ.{Typ, typ, Form, void, int, ptr, class, closure, tx_ex}
use Rattle.elab_rules.specs.cpp_types.Equal.{typ_eq, form_eq}
use Rattle.elab_rules.specs.cpp_types.Conversion.{is_lvalue}
use Rattle.elab_rules.specs.cpp_types.declared.classes.At.{At}
use Rattle.elab_rules.specs.cpp_types.declared.ranks.Cat.{Cat}
use Rattle.elab_rules.specs.cpp_types.declared.ranks.Cat.TheVariants.{Lvalue, Prvalue}
use Rattle.elab_rules.specs.cpp_tree.declared.kinds.TKind.TheVariants.{Conditional}
use Rattle.elab_rules.specs.cpp_tree.declared.roles.Role.TheVariants.{Value}
use Rattle.elab_rules.specs.cpp_tree.declared.faults.IllRule.TheVariants.{BadOperand}
use Rattle.elab_rules.specs.cpp_tree.Trees.{Tree, node, three, typ_in, cat_of}
use Rattle.elab_rules.specs.cpp_tree.Notation.{plain}
use Rattle.elab_rules.specs.cpp_tree.Typing.{Head, head_of, is_void, is_class_typ, is_class_prvalue, is_prvalue, kind_in, word_kind}
use Rattle.elab_rules.specs.cpp_tree.Roles.{only, is_throw as is_thrown}
use Rattle.elab_rules.specs.cpp_tree.Rows.{Setting, is_branch}
use Rattle.elab_rules.specs.cpp_tree.WellFormed.{fits, has_no_typ}
use Rattle.elab_rules.specs.cpp_tree.declared.roles.Position.{Position}
use Rattle.elab_rules.specs.elab_ctx.Steps.{and_then, check, Operand}
use Rattle.elab_rules.specs.Operators.{value, value_form, arithmetic, as_kind, as_pointer, is_null, conditional_node, two_numbers}
use Rattle.elab_rules.specs.Operators.{two_values, shared, joined_class, joined_type}
use Rattle.elab_rules.specs.Values.{retyped}
use Rattle.elab_rules.specs.Initialising.{seen_as}
use Rattle.elab_fits.specs.Standing.{FitsAs, IsExpressionType, Stands, On}
use Rattle.elab_fits.specs.Scalars.{is_scalar, Gives, IsValue, IsOperand}
use Rattle.elab_fits.proofs.Equal.{form_same, typ_same, typ_refl}
use Rattle.elab_fits.proofs.Nodes.{both, or_left, or_right, clash, head_typ, head_cat, node_fits, three_values, of_value}
use Rattle.elab_fits.proofs.Steps.{checked, either}
use Rattle.elab_fits.proofs.Values.{value_stands, lvalue_stands}
use Rattle.elab_fits.proofs.Arithmetic.{IsTruth, value_of, as_kind_gives, pointer_of, null_gives}
use Rattle.elab_fits.proofs.Unary.{choice_gives, bool_row, lvalue_fits}
use Rattle.elab_fits.proofs.Assigning.{scalar_form, lvalue_type}

-- Scalars

pub numbers_choose : (s : Setting) (at : At) (test : Tree) (i j : Option IntKind) (a b : Operand) → IsTruth s test → IsOperand s a → IsOperand s b
    → arithmetic (value_form a) ≡ i → arithmetic (value_form b) ≡ j → On (IsValue s) (two_numbers at test i j a b)
numbers_choose s at test (Some i) (Some j) a b h x y e d = record {
  form = int (usual_of i j);
  gives = choice_gives s (int (usual_of i j)) at test (as_kind (usual_of i j) a) (as_kind (usual_of i j) b) h (as_kind_gives s a i (usual_of i j) x e)
      (as_kind_gives s b j (usual_of i j) y d);
}
numbers_choose s at test (Some i) None a b h x y e d = tt
numbers_choose s at test None j a b h x y e d = tt

null_second : (s : Setting) (at : At) (test : Tree) (t : Typ) (a b : Operand) → IsTruth s test → IsOperand s a → IsOperand s b → value_form a ≡ ptr t
    → On (IsValue s) (and_then (check at BadOperand (is_null b)) (λ y. Ok (conditional_node at (plain (ptr t)) Prvalue test (value a) (as_pointer t b))))
null_second s at test t a b h x y e = checked (IsValue s) at BadOperand (is_null b) _
    (λ n. record { form = ptr t; gives = choice_gives s (ptr t) at test (value a) (as_pointer t b) h (pointer_of s a t x e) (null_gives s t b y n) })

null_first : (s : Setting) (at : At) (test : Tree) (t : Typ) (a b : Operand) → IsTruth s test → IsOperand s a → IsOperand s b → value_form b ≡ ptr t
    → On (IsValue s) (and_then (check at BadOperand (is_null a)) (λ y. Ok (conditional_node at (plain (ptr t)) Prvalue test (as_pointer t a) (value b))))
null_first s at test t a b h x y e = checked (IsValue s) at BadOperand (is_null a) _
    (λ n. record { form = ptr t; gives = choice_gives s (ptr t) at test (as_pointer t a) (value b) h (null_gives s t a x n) (pointer_of s b t y e) })

pointers_choose : (s : Setting) (at : At) (test : Tree) (t u : Typ) (a b : Operand) → IsTruth s test → IsOperand s a → IsOperand s b → value_form a ≡ ptr t
    → value_form b ≡ ptr u
    → On (IsValue s) (and_then (check at BadOperand (typ_eq t u)) (λ y. Ok (conditional_node at (plain (ptr t)) Prvalue test (value a) (value b))))
pointers_choose s at test t u a b h x y e d = checked (IsValue s) at BadOperand (typ_eq t u) _
    (λ n. record {
      form = ptr t;
      gives = choice_gives s (ptr t) at test (value a) (value b) h (pointer_of s a t x e)
          (pointer_of s b t y (d ∙ ap ptr (sym (typ_same t u n))));
    })

-- the value of an operand that has a word
pub worded : (s : Setting) (o : Operand) → IsOperand s o → is_some (kind_in (value_form o)) ≡ true → is_scalar (value_form o) ≡ true
worded s o x h = scalar_form (typ_in (value o)) (cat_of (value o)) (value_stands s o.at o.tree x.stands).typed h

alike_choose : (s : Setting) (at : At) (test : Tree) (f g : Form) (a b : Operand) → IsTruth s test → IsOperand s a → IsOperand s b → value_form a ≡ f
    → value_form b ≡ g → On (IsValue s) (if form_eq f g && is_some (kind_in f) then Ok
    (conditional_node at (plain f) Prvalue test (value a) (value b)) else two_numbers at test (arithmetic f) (arithmetic g) a b)
alike_choose s at test f g a b h x y e d = either (IsValue s) (form_eq f g && is_some (kind_in f)) _ _
    (λ n. let p = and_parts (form_eq f g) (is_some (kind_in f)) n in record {
      form = f;
      gives = choice_gives s f at test (value a) (value b) h (own p.1) (other (form_same f g p.0) p.1);
    })
    (λ n. numbers_choose s at test (arithmetic f) (arithmetic g) a b h x y (ap arithmetic e) (ap arithmetic d))
  where
    own : is_some (kind_in f) ≡ true → Gives s f (value a)
    own n = subst (λ (z : Form). Gives s z (value a)) e (value_of s a x (worded s a x (ap (λ (z : Form). is_some (kind_in z)) e ∙ n)))

    other : f ≡ g → is_some (kind_in f) ≡ true → Gives s f (value b)
    other i n = subst (λ (z : Form). Gives s z (value b)) (d ∙ sym i)
        (value_of s b y (worded s b y (ap (λ (z : Form). is_some (kind_in z)) (d ∙ sym i) ∙ n)))

pub values_choose : (s : Setting) (at : At) (test : Tree) (f g : Form) (a b : Operand) → IsTruth s test → IsOperand s a → IsOperand s b → value_form a ≡ f
    → value_form b ≡ g → On (IsValue s) (two_values at test f g a b)
values_choose s at test (ptr t) (ptr u) a b h x y e d = pointers_choose s at test t u a b h x y e d
values_choose s at test (ptr t) g a b h x y e d = null_second s at test t a b h x y e
values_choose s at test f (ptr t) a b h x y e d = null_first s at test t a b h x y d
values_choose s at test f g a b h x y e d = alike_choose s at test f g a b h x y e d

-- Other choices

no_typ : (b : Bool) (x y : Bool) → (b ≡ true → x ≡ true) → (b ≡ true → y ≡ true) → (not b || (x && y)) ≡ true
no_typ true x y h g = both (h refl) (g refl)
no_typ false x y h g = refl

choice_fits : (s : Setting) (p : Position) (at : At) (t : Typ) (cat : Cat) (test x y : Tree) → is_class_prvalue t cat ≡ false → IsTruth s test
    → p.full ≡ true → fits s p Value x ≡ true → fits s p Value y ≡ true → is_branch t cat (head_of x) ≡ true → is_branch t cat (head_of y) ≡ true
    → (is_void t ≡ true → has_no_typ (head_of x) ≡ true) → (is_void t ≡ true → has_no_typ (head_of y) ≡ true)
    → fits s p Value (node Conditional t cat at (three test x y)) ≡ true
choice_fits s p at t cat test x y n h full g k i j u v = node_fits s p Value Conditional t cat at (three test x y) (only (Value ∷ Value ∷ Value ∷ [])) refl
    (ap not n) refl
    (no_typ (is_void t) (has_no_typ (head_of x)) (has_no_typ (head_of y) && true) u (λ e. both (v e) refl))
    (both (both (bool_row s test h) i) j) refl refl refl (three_values s p test x y (h.fits p full) g k)

pub choice_stands : (s : Setting) (at : At) (t : Typ) (cat : Cat) (test x y : Tree) → IsExpressionType t cat → is_class_prvalue t cat ≡ false → IsTruth s test
    → FitsAs s Value x → FitsAs s Value y → is_branch t cat (head_of x) ≡ true → is_branch t cat (head_of y) ≡ true
    → (is_void t ≡ true → has_no_typ (head_of x) ≡ true) → (is_void t ≡ true → has_no_typ (head_of y) ≡ true)
    → Stands s (node Conditional t cat at (three test x y))
choice_stands s at t cat test x y d n h g k i j u v = of_value s (node Conditional t cat at (three test x y)) d n
    (λ p full. choice_fits s p at t cat test x y n h full (g p full) (k p full) i j u v)

-- an operand of the type and category of the whole, and one without a type
pub own_branch : (t : Typ) (cat : Cat) (x : Head) → typ_eq t x.typ ≡ true → x.cat ≡ cat → is_branch t cat x ≡ true
own_branch t Lvalue x e d = or_right (is_thrown x.kind) (both (ap is_lvalue d) e)
own_branch t Prvalue x e d = or_right (is_thrown x.kind || is_void t) (both (ap is_prvalue d) e)

void_branch : (t : Typ) (x : Head) → is_void t ≡ true → is_branch t Prvalue x ≡ true
void_branch t x v = or_left _ (or_right (is_thrown x.kind) v)

pub void_typ : (x : Head) → is_void x.typ ≡ true → has_no_typ x ≡ true
void_typ x v = or_right (is_thrown x.kind) v

-- Lvalues

pub lvalues_choose : (s : Setting) (at : At) (test a b : Tree) → IsTruth s test → Stands s a → Stands s b → cat_of a ≡ Lvalue → cat_of b ≡ Lvalue
    → typ_eq (typ_in a) (typ_in b) ≡ true → Stands s (node Conditional (typ_in a) Lvalue at (three test a b))
lvalues_choose s at test a b h x y l m d = choice_stands s at (typ_in a) Lvalue test a b (lvalue_type s a x l) refl h (lvalue_fits s a x l)
    (lvalue_fits s b y m) (own_branch (typ_in a) Lvalue (head_of a) (ap (λ (u : Typ). typ_eq (typ_in a) u) (head_typ a) ∙ typ_refl (typ_in a)) (head_cat a ∙ l))
    (own_branch (typ_in a) Lvalue (head_of b) (ap (λ (u : Typ). typ_eq (typ_in a) u) (head_typ b) ∙ d) (head_cat b ∙ m))
    (λ v. void_typ (head_of a) (ap is_void (head_typ a) ∙ v))
    (λ v. void_typ (head_of b) (ap is_void (head_typ b ∙ sym (typ_same (typ_in a) (typ_in b) d)) ∙ v))

-- an lvalue of one type seen as one of another
seen_fits : (s : Setting) (at : At) (t : Typ) (e : Tree) (b : Bool) → IsExpressionType t Lvalue → cat_of e ≡ Lvalue → FitsAs s Value e
    → FitsAs s Value (if b then e else retyped at t Lvalue e)
seen_fits s at t e true i l g = g
seen_fits s at t e false i l g = (lvalue_stands s at t e (ap (λ (c : Cat). word_kind (typ_in e) c) l) g i).value refl

seen_branch : (at : At) (t : Typ) (e : Tree) (b : Bool) → typ_eq t (typ_in e) ≡ b → cat_of e ≡ Lvalue
    → is_branch t Lvalue (head_of (if b then e else retyped at t Lvalue e)) ≡ true
seen_branch at t e true h l = own_branch t Lvalue (head_of e) (ap (λ (u : Typ). typ_eq t u) (head_typ e) ∙ h) (head_cat e ∙ l)
seen_branch at t e false h l = typ_refl t

class_typed : (t u : Typ) → is_class_typ t ≡ true → IsExpressionType (joined_type t u) Lvalue
class_typed (typ (class n) c v) (typ g d w) h = tt
class_typed (typ (closure n) c v) (typ g d w) h = tt
class_typed (typ (tx_ex t) c v) (typ g d w) h = tt
class_typed (typ f c v) u h = absurd cc

class_no_void : (t u : Typ) → is_class_typ t ≡ true → is_void (joined_type t u) ≡ false
class_no_void (typ (class n) c v) (typ g d w) h = refl
class_no_void (typ (closure n) c v) (typ g d w) h = refl
class_no_void (typ (tx_ex t) c v) (typ g d w) h = refl
class_no_void (typ f c v) u h = absurd cc

pub shared_stands : (s : Setting) (at : At) (test : Tree) (a b : Operand) → IsTruth s test → IsOperand s a → IsOperand s b → cat_of a.tree ≡ Lvalue
    → cat_of b.tree ≡ Lvalue → is_class_typ (typ_in a.tree) ≡ true → Stands s (shared at test a b)
shared_stands s at test a b h x y l m k = choice_stands s at (joined_class a b) Lvalue test (seen_as a.at (joined_class a b) a.tree)
    (seen_as b.at (joined_class a b) b.tree) (class_typed (typ_in a.tree) (typ_in b.tree) k) refl h
    (seen_fits s a.at (joined_class a b) a.tree (typ_eq (joined_class a b) (typ_in a.tree)) (class_typed (typ_in a.tree) (typ_in b.tree) k) l
    (lvalue_fits s a.tree x.stands l))
    (seen_fits s b.at (joined_class a b) b.tree (typ_eq (joined_class a b) (typ_in b.tree)) (class_typed (typ_in a.tree) (typ_in b.tree) k) m
    (lvalue_fits s b.tree y.stands m))
    (seen_branch a.at (joined_class a b) a.tree (typ_eq (joined_class a b) (typ_in a.tree)) refl l)
    (seen_branch b.at (joined_class a b) b.tree (typ_eq (joined_class a b) (typ_in b.tree)) refl m)
    (λ v. clash _ (is_void (joined_class a b)) (class_no_void (typ_in a.tree) (typ_in b.tree) k) v)
    (λ v. clash _ (is_void (joined_class a b)) (class_no_void (typ_in a.tree) (typ_in b.tree) k) v)

-- Operands without a value

no_object : (t : Typ) (cat : Cat) → is_void t ≡ true → is_class_prvalue t cat ≡ false
no_object (typ void c v) Lvalue h = refl
no_object (typ void c v) Prvalue h = refl
no_object (typ f c v) cat h = absurd cc

pub voids_choose : (s : Setting) (at : At) (test a b : Tree) → IsTruth s test → Stands s a → Stands s b → cat_of a ≡ Prvalue → is_void (typ_in a) ≡ true
    → is_void (typ_in b) ≡ true → Stands s (node Conditional (typ_in a) Prvalue at (three test a b))
voids_choose s at test a b h x y l v u = choice_stands s at (typ_in a) Prvalue test a b (subst (λ (c : Cat). IsExpressionType (typ_in a) c) l x.typed)
    (no_object (typ_in a) Prvalue v) h (x.value (no_object (typ_in a) (cat_of a) v)) (y.value (no_object (typ_in b) (cat_of b) u))
    (void_branch (typ_in a) (head_of a) v) (void_branch (typ_in a) (head_of b) v)
    (λ e. void_typ (head_of a) (ap is_void (head_typ a) ∙ v)) (λ e. void_typ (head_of b) (ap is_void (head_typ b) ∙ u))
