-- Assignments of scalars, compound ones, increments and decrements.
use Rattle.std.proofs.Common.{◌≡◌, refl, ap, ◌∙◌, subst, Bool, true, false, ◌&&◌, not, [], ◌∷◌, Option, Some, None, is_some, Ok}
use Rattle.std.proofs.lemmas.Bool.{and_parts}
use Rattle.std.specs.Prelude.{if◌then◌else◌}
use Rattle.elab_rules.specs.tx_ints.declared.kinds.IntKind.{IntKind}
use Rattle.elab_rules.specs.tx_ints.declared.kinds.IntKind.TheVariants.{Bool as BoolKind, ULong}
use Rattle.elab_rules.specs.tx_ints.declared.kinds.BinOp.{BinOp}
use Rattle.elab_rules.specs.tx_ints.declared.kinds.BinOp.TheVariants.{Add, Sub}
use Rattle.elab_rules.specs.tx_ints.Integers.{usual_of, promote_of, is_shift}
use Rattle.elab_rules.specs.cpp_types.Typ.{Typ, typ, Form, void, int, enum, null, ptr, ref, array, func, class, closure, tx_ex}
use Rattle.elab_rules.specs.cpp_types.Equal.{kind_eq, typ_eq}
use Rattle.elab_rules.specs.cpp_types.Conversion.{is_lvalue, const_of}
use Rattle.elab_rules.specs.cpp_types.declared.classes.At.{At}
use Rattle.elab_rules.specs.cpp_types.declared.ranks.Cat.{Cat}
use Rattle.elab_rules.specs.cpp_types.declared.ranks.Cat.TheVariants.{Lvalue, Prvalue}
use Rattle.elab_rules.specs.cpp_tree.declared.kinds.TKind.TheVariants.{Assign, Update}
use Rattle.elab_rules.specs.cpp_tree.declared.roles.Role.TheVariants.{Value}
use Rattle.elab_rules.specs.cpp_tree.declared.faults.IllRule.TheVariants.{BadOperand, NotLvalue, ConstTarget}
use Rattle.elab_rules.specs.cpp_tree.Trees.{Tree, node, two, typ_in, cat_of}
use Rattle.elab_rules.specs.cpp_tree.Notation.{plain}
use Rattle.elab_rules.specs.cpp_tree.Typing.{head_of, form_in, unqualified, is_volatile_typ, kind_in, is_kind, scalar_of, is_promoted, is_prvalue, is_class_typ}
use Rattle.elab_rules.specs.cpp_tree.Roles.{only}
use Rattle.elab_rules.specs.cpp_tree.Rows.{Setting, is_access, is_right, row_fits}
use Rattle.elab_rules.specs.elab_ctx.Ctx.{Ctx, Work}
use Rattle.elab_rules.specs.elab_ctx.Steps.{and_then, check, Operand, Made}
use Rattle.elab_rules.specs.Values.{number}
use Rattle.elab_rules.specs.Objects.{size_of}
use Rattle.elab_rules.specs.Initialising.{initial}
use Rattle.elab_rules.specs.Operators.{value_form, arithmetic, as_kind, is_sum, movable, scaled, target, assigned, assignment, updated, compound_numbers}
use Rattle.elab_rules.specs.Operators.{compound_in}
use Rattle.elab_rules.specs.Operators.{compound, step_in, step}
use Rattle.elab_fits.specs.Standing.{IsExpressionType, Stands, On}
use Rattle.elab_fits.specs.Scalars.{is_scalar, Gives, IsOperand}
use Rattle.elab_fits.proofs.Equal.{kind_refl, flag_refl, typ_refl}
use Rattle.elab_fits.proofs.Nodes.{both, clash, head_typ, head_cat, Simple, two_kids, of_value}
use Rattle.elab_fits.proofs.Steps.{bind, checked, expected, either, known}
use Rattle.elab_fits.proofs.Numbers.{promoted_kind, usual_kind, one_word}
use Rattle.elab_fits.proofs.Sizes.{small_word}
use Rattle.elab_fits.proofs.Values.{no_class, given_typ, given_cat, given_stands, number_gives}
use Rattle.elab_fits.proofs.Initials.{MadeGives, initial_gives}
use Rattle.elab_fits.proofs.Arithmetic.{as_kind_gives, right_row, shift_row, scaled_gives, IsSmall, small, some_kind}
use Rattle.elab_fits.proofs.Unary.{lvalue_is, lvalue_fits}

-- Targets

-- an lvalue that stands, of a scalar
pub record IsTarget (s : Setting) (a : Tree) (f : Form) (q r : Bool) : Type 0 where
  pub stands : Stands s a
  pub category : cat_of a ≡ Lvalue
  pub typed : typ_in a ≡ typ f q r
  pub scalar : is_scalar f ≡ true

pub target_is : (at : At) (a : Operand) → On (λ (b : Bool). cat_of a.tree ≡ Lvalue) (target at a)
target_is at a = checked (λ (b : Bool). cat_of a.tree ≡ Lvalue) at NotLvalue (is_lvalue (cat_of a.tree)) _
    (λ h. known (λ (b : Bool). cat_of a.tree ≡ Lvalue) (check at ConstTarget (not (const_of (typ_in a.tree)))) (λ b. lvalue_is (cat_of a.tree) h))

pub lvalue_type : (s : Setting) (e : Tree) → Stands s e → cat_of e ≡ Lvalue → IsExpressionType (typ_in e) Lvalue
lvalue_type s e h l = subst (λ (c : Cat). IsExpressionType (typ_in e) c) l h.typed

-- what has a word is a scalar: no expression is of reference type
pub scalar_form : (t : Typ) (cat : Cat) → IsExpressionType t cat → is_some (kind_in (form_in t)) ≡ true → is_scalar (form_in t) ≡ true
scalar_form (typ (int k) c v) cat h i = refl
scalar_form (typ (enum n e) c v) cat h i = refl
scalar_form (typ null c v) cat h i = refl
scalar_form (typ (ptr t) c v) cat h i = refl
scalar_form (typ (ref t) c v) cat h i = absurd h
scalar_form (typ void c v) cat h i = absurd cc
scalar_form (typ (array t n) c v) cat h i = absurd cc
scalar_form (typ (func t) c v) cat h i = absurd cc
scalar_form (typ (class n) c v) cat h i = absurd cc
scalar_form (typ (closure n) c v) cat h i = absurd cc
scalar_form (typ (tx_ex t) c v) cat h i = absurd cc

access_row : (t : Typ) (f : Form) (q r : Bool) (k : IntKind) → t ≡ typ f q r → kind_in f ≡ Some k → is_access k (is_volatile_typ t) t ≡ true
access_row t f q r k e i = both (ap (λ (u : Typ). scalar_of k u) e ∙ ap (λ (x : Option IntKind). is_kind k x) i ∙ kind_refl k) (flag_refl (is_volatile_typ t))

-- Assignments (C++14 5.17)

assigns : (k : IntKind) (v : Bool) → Simple (Assign k v) (only (Value ∷ Value ∷ []))
assigns k v = record { is_value = refl; anywhere = λ f p n. refl; unbranched = λ t hs. refl; asks = λ a b. refl; no_switch = refl }

assign_row : (s : Setting) (a v : Tree) (f : Form) (q r : Bool) (k : IntKind) → IsTarget s a f q r → kind_in f ≡ Some k → Gives s f v
    → row_fits s (Assign k (is_volatile_typ (typ_in a))) (typ_in a) Lvalue (head_of a ∷ head_of v ∷ []) ≡ true
assign_row s a v f q r k h i g = both (both (access_row (typ_in a) f q r k h.typed i)
    (both (ap is_lvalue (head_cat a ∙ h.category)) (ap (λ (t : Typ). typ_eq (typ_in a) t) (head_typ a) ∙ typ_refl (typ_in a))))
    (both (ap is_prvalue (given_cat s f v g)) (ap (λ (t : Typ). typ_eq (unqualified (typ_in a)) t) (given_typ s f v g)
    ∙ ap (λ (t : Typ). typ_eq (unqualified t) (plain f)) h.typed ∙ typ_refl (plain f)))

assign_stands : (s : Setting) (at : At) (a v : Tree) (f : Form) (q r : Bool) (k : IntKind) → IsTarget s a f q r → kind_in f ≡ Some k → Gives s f v
    → Stands s (node (Assign k (is_volatile_typ (typ_in a))) (typ_in a) Lvalue at (two a v))
assign_stands s at a v f q r k h i g = of_value s (node (Assign k (is_volatile_typ (typ_in a))) (typ_in a) Lvalue at (two a v))
    (lvalue_type s a h.stands h.category) refl
    (two_kids s (Assign k (is_volatile_typ (typ_in a))) (typ_in a) Lvalue at a v (assigns k (is_volatile_typ (typ_in a))) refl
    (assign_row s a v f q r k h i g) (lvalue_fits s a h.stands h.category) g.fits)

abbrev pub MadeStands : Setting → Made → Type 0
MadeStands s m = Stands s m.tree

assigned_stands : (s : Setting) (at : At) (a : Operand) (v : Tree) (f : Form) (q r : Bool) (w : Work) (x : Option IntKind) → IsTarget s a.tree f q r
    → kind_in f ≡ x → Gives s f v → On (MadeStands s) (and_then (assigned at x a v) (λ (t : Tree). Ok (record { tree = t; work = w })))
assigned_stands s at a v f q r w (Some k) h i g = assign_stands s at a.tree v f q r k h i g
assigned_stands s at a v f q r w None h i g = tt

assignment_by : (s : Setting) (c : Ctx) (w : Work) (at : At) (a b : Operand) (t : Typ) → typ_in a.tree ≡ t → Stands s a.tree → cat_of a.tree ≡ Lvalue
    → IsOperand s b → On (MadeStands s) (and_then (check at BadOperand (is_some (kind_in (form_in t))))
    (λ x. and_then (initial c w (unqualified t) b)
    (λ (m : Made). and_then (assigned at (kind_in (form_in t)) a m.tree) (λ (e : Tree). Ok (record { tree = e; work = m.work })))))
assignment_by s c w at a b (typ f q r) e h l y = checked (MadeStands s) at BadOperand (is_some (kind_in f)) _
    (λ n. bind (MadeGives s f) (MadeStands s) (initial c w (plain f) b) _ (initial_gives s c w f false false b y (scalar n))
    (λ m g. assigned_stands s at a m.tree f q r m.work (kind_in f) (record { stands = h; category = l; typed = e; scalar = scalar n }) refl g))
  where
    scalar : is_some (kind_in f) ≡ true → is_scalar f ≡ true
    scalar n = scalar_form (typ f q r) Lvalue (subst (λ (u : Typ). IsExpressionType u Lvalue) e (lvalue_type s a.tree h l)) n

pub assignment_stands : (s : Setting) (c : Ctx) (w : Work) (at : At) (a b : Operand) → IsOperand s a → IsOperand s b
    → is_class_typ (typ_in a.tree) ≡ false → On (MadeStands s) (assignment c w at a b)
assignment_stands s c w at a b x y n = bind (λ (d : Bool). cat_of a.tree ≡ Lvalue) (MadeStands s) (target at a) _ (target_is at a)
    (λ d l. either (MadeStands s) (is_class_typ (typ_in a.tree)) _ _ (λ t. clash _ (is_class_typ (typ_in a.tree)) n t)
    (λ t. assignment_by s c w at a b (typ_in a.tree) refl x.stands l y))

-- Updates

updates : (op : BinOp) (k j : IntKind) (v old : Bool) → Simple (Update op k j v old) (only (Value ∷ Value ∷ []))
updates op k j v old = record { is_value = refl; anywhere = λ f p n. refl; unbranched = λ t hs. refl; asks = λ a b. refl; no_switch = refl }

stored_row : (s : Setting) (a : Tree) (f : Form) (q r : Bool) (k : IntKind) → IsTarget s a f q r → kind_in f ≡ Some k
    → (is_lvalue (head_of a).cat && is_access k (is_volatile_typ (typ_in a)) (head_of a).typ) ≡ true
stored_row s a f q r k h i = both (ap is_lvalue (head_cat a ∙ h.category))
    (ap (λ (t : Typ). is_access k (is_volatile_typ (typ_in a)) t) (head_typ a) ∙ access_row (typ_in a) f q r k h.typed i)

unqualified_is : (t : Typ) (f : Form) (q r : Bool) → t ≡ typ f q r → unqualified t ≡ plain f
unqualified_is t f q r e = ap unqualified e

updated_stands : (s : Setting) (op : BinOp) (k j : IntKind) (old : Bool) (at : At) (a : Operand) (v : Tree) (f g : Form) (q r : Bool)
    → IsTarget s a.tree f q r → kind_in f ≡ Some k → is_promoted j ≡ true → Gives s g v → is_right op j (head_of v) ≡ true
    → Stands s (updated op k j old at a v)
updated_stands s op k j true at a v f g q r h i p y n = given_stands s f (updated op k j true at a v) (record {
  scalar = h.scalar;
  fits = two_kids s (Update op k j (is_volatile_typ (typ_in a.tree)) true) (unqualified (typ_in a.tree)) Prvalue at a.tree v
      (updates op k j (is_volatile_typ (typ_in a.tree)) true)
      (ap (λ (t : Typ). not (is_class_typ (unqualified t))) h.typed ∙ ap not (no_class f false false h.scalar))
      (both (both (both (stored_row s a.tree f q r k h i) p) n)
      (ap (λ (t : Typ). typ_eq (unqualified (typ_in a.tree)) (unqualified t)) (head_typ a.tree) ∙ typ_refl (unqualified (typ_in a.tree))))
      (lvalue_fits s a.tree h.stands h.category) y.fits;
  typed = unqualified_is (typ_in a.tree) f q r h.typed;
  category = refl;
})
updated_stands s op k j false at a v f g q r h i p y n = of_value s (updated op k j false at a v) (lvalue_type s a.tree h.stands h.category) refl
    (two_kids s (Update op k j (is_volatile_typ (typ_in a.tree)) false) (typ_in a.tree) Lvalue at a.tree v
    (updates op k j (is_volatile_typ (typ_in a.tree)) false) refl
    (both (both (both (stored_row s a.tree f q r k h i) p) n)
    (ap (λ (t : Typ). typ_eq (typ_in a.tree) t) (head_typ a.tree) ∙ typ_refl (typ_in a.tree)))
    (lvalue_fits s a.tree h.stands h.category) y.fits)

sum_no_shift : (op : BinOp) → is_sum op ≡ true → is_shift op ≡ false
sum_no_shift Add h = refl
sum_no_shift Sub h = refl
sum_no_shift op h = absurd cc

numbers_stand : (s : Setting) (op : BinOp) (at : At) (j k : IntKind) (a b : Operand) (q r : Bool) → IsTarget s a.tree (int j) q r → IsOperand s b
    → arithmetic (value_form b) ≡ Some k → Stands s (compound_numbers op at j k a b)
numbers_stand s op at j k a b q r h y e = by (is_shift op) refl
  where
    by : (x : Bool) → is_shift op ≡ x → Stands s (if x then updated op j (promote_of j) false at a (as_kind (promote_of k) b) else updated op j
        (usual_of j k) false at a (as_kind (usual_of j k) b))
    by true n = updated_stands s op j (promote_of j) false at a (as_kind (promote_of k) b) (int j) (int (promote_of k)) q r h refl (promoted_kind j)
        (as_kind_gives s b k (promote_of k) y e)
        (shift_row s op (int (promote_of k)) (promote_of k) (promote_of j) (as_kind (promote_of k) b) n (as_kind_gives s b k (promote_of k) y e) refl
        (promoted_kind k))
    by false n = updated_stands s op j (usual_of j k) false at a (as_kind (usual_of j k) b) (int j) (int (usual_of j k)) q r h refl (usual_kind j k)
        (as_kind_gives s b k (usual_of j k) y e)
        (right_row s op (int (usual_of j k)) (usual_of j k) (as_kind (usual_of j k) b) n (as_kind_gives s b k (usual_of j k) y e) refl)

pointer_stands : (s : Setting) (c : Ctx) (op : BinOp) (at : At) (t : Typ) (a b : Operand) (q r : Bool) → IsTarget s a.tree (ptr t) q r → IsOperand s b
    → On (Stands s) (and_then (check at BadOperand (is_sum op && is_some (arithmetic (value_form b))))
    (λ y. and_then (movable c at a.at t) (λ z. Ok (updated op ULong ULong false at a (scaled c at t b)))))
pointer_stands s c op at t a b q r h y = checked (Stands s) at BadOperand (is_sum op && is_some (arithmetic (value_form b))) _
    (λ n. let p = and_parts (is_sum op) (is_some (arithmetic (value_form b))) n in
    bind (IsSmall c t) (Stands s) (movable c at a.at t) _ (small c a.at at t)
    (λ z l. some_kind (Stands s (updated op ULong ULong false at a (scaled c at t b))) (arithmetic (value_form b)) p.1
    (λ i e. updated_stands s op ULong ULong false at a (scaled c at t b) (ptr t) (int ULong) q r h refl refl (scaled_gives s c at t b i y e l)
    (right_row s op (int ULong) ULong (scaled c at t b) (sum_no_shift op p.0) (scaled_gives s c at t b i y e l) refl))))

compound_by : (s : Setting) (c : Ctx) (op : BinOp) (at : At) (f : Form) (q r : Bool) (a b : Operand) → Stands s a.tree → cat_of a.tree ≡ Lvalue
    → typ_in a.tree ≡ typ f q r → IsOperand s b → On (Stands s) (compound_in c op at f a b)
compound_by s c op at (ptr t) q r a b h l e y = pointer_stands s c op at t a b q r (record { stands = h; category = l; typed = e; scalar = refl }) y
compound_by s c op at (int j) q r a b h l e y = expected (Stands s) at BadOperand (arithmetic (value_form b)) _
    (λ k i. numbers_stand s op at j k a b q r (record { stands = h; category = l; typed = e; scalar = refl }) y i)
compound_by s c op at f q r a b h l e y = tt

compound_of : (s : Setting) (c : Ctx) (op : BinOp) (at : At) (t : Typ) (a b : Operand) → Stands s a.tree → cat_of a.tree ≡ Lvalue
    → typ_in a.tree ≡ t → IsOperand s b → On (Stands s) (compound_in c op at (form_in t) a b)
compound_of s c op at (typ f q r) a b h l e y = compound_by s c op at f q r a b h l e y

pub compound_stands : (s : Setting) (c : Ctx) (op : BinOp) (at : At) (a b : Operand) → IsOperand s a → IsOperand s b → On (Stands s) (compound c op at a b)
compound_stands s c op at a b x y = bind (λ (d : Bool). cat_of a.tree ≡ Lvalue) (Stands s) (target at a) _ (target_is at a)
    (λ d l. compound_of s c op at (typ_in a.tree) a b x.stands l refl y)

-- Increments and decrements (C++14 5.2.6, 5.3.2)

step_by : (s : Setting) (c : Ctx) (op : BinOp) (old : Bool) (at : At) (f : Form) (q r : Bool) (a : Operand) → is_shift op ≡ false → Stands s a.tree
    → cat_of a.tree ≡ Lvalue → typ_in a.tree ≡ typ f q r → On (Stands s) (step_in c op old at f a)
step_by s c op old at (ptr t) q r a n h l e = bind (IsSmall c t) (Stands s) (movable c at a.at t) _ (small c a.at at t)
    (λ z i. let g : Gives s (int ULong) (number ULong (size_of c.classes t) at)
    = number_gives s ULong (size_of c.classes t) at (small_word (size_of c.classes t) i) in
    updated_stands s op ULong ULong old at a (number ULong (size_of c.classes t) at) (ptr t) (int ULong) q r
    (record { stands = h; category = l; typed = e; scalar = refl }) refl refl g
    (right_row s op (int ULong) ULong (number ULong (size_of c.classes t) at) n g refl))
step_by s c op old at (int j) q r a n h l e = checked (Stands s) at BadOperand (not (kind_eq j BoolKind)) _
    (λ z. let g : Gives s (int (promote_of j)) (number (promote_of j) 1 at) = number_gives s (promote_of j) 1 at (one_word (promote_of j)) in
    updated_stands s op j (promote_of j) old at a (number (promote_of j) 1 at) (int j) (int (promote_of j)) q r
    (record { stands = h; category = l; typed = e; scalar = refl }) refl (promoted_kind j) g
    (right_row s op (int (promote_of j)) (promote_of j) (number (promote_of j) 1 at) n g refl))
step_by s c op old at f q r a n h l e = tt

step_of : (s : Setting) (c : Ctx) (op : BinOp) (old : Bool) (at : At) (t : Typ) (a : Operand) → is_shift op ≡ false → Stands s a.tree
    → cat_of a.tree ≡ Lvalue → typ_in a.tree ≡ t → On (Stands s) (step_in c op old at (form_in t) a)
step_of s c op old at (typ f q r) a n h l e = step_by s c op old at f q r a n h l e

pub step_stands : (s : Setting) (c : Ctx) (op : BinOp) (old : Bool) (at : At) (a : Operand) → is_shift op ≡ false → IsOperand s a
    → On (Stands s) (step c op old at a)
step_stands s c op old at a n x = bind (λ (d : Bool). cat_of a.tree ≡ Lvalue) (Stands s) (target at a) _ (target_is at a)
    (λ d l. step_of s c op old at (typ_in a.tree) a n x.stands l refl)
