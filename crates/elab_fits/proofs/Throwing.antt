-- `?:`, with operands that throw.
use Rattle.std.proofs.Common.{◌≡◌, refl, sym, ap, ◌∙◌, subst, true, false, ◌&&◌, ◌||◌, Result, Ok, Err}
use Rattle.std.proofs.lemmas.Bool.{and_parts}
use Rattle.elab_rules.specs.cpp_types.Typ.{Typ, void}
use Rattle.elab_rules.specs.cpp_types.Equal.{typ_eq, form_eq}
use Rattle.elab_rules.specs.cpp_types.Conversion.{is_lvalue}
use Rattle.elab_rules.specs.cpp_types.declared.classes.At.{At}
use Rattle.elab_rules.specs.cpp_types.declared.ranks.Cat.{Cat}
use Rattle.elab_rules.specs.cpp_types.declared.ranks.Cat.TheVariants.{Lvalue, Prvalue}
use Rattle.elab_rules.specs.cpp_tree.declared.kinds.TKind.{TKind}
use Rattle.elab_rules.specs.cpp_tree.declared.kinds.TKind.TheVariants.{Throw, Rethrow}
use Rattle.elab_rules.specs.cpp_tree.declared.faults.ElabFault.{ElabFault}
use Rattle.elab_rules.specs.cpp_tree.Trees.{Tree, kind_of, typ_in, cat_of}
use Rattle.elab_rules.specs.cpp_tree.Notation.{plain}
use Rattle.elab_rules.specs.cpp_tree.Typing.{Head, head_of, form_in, is_void, is_class_typ, is_class_prvalue}
use Rattle.elab_rules.specs.cpp_tree.Roles.{is_throw as is_thrown}
use Rattle.elab_rules.specs.cpp_tree.Rows.{Setting, is_branch}
use Rattle.elab_rules.specs.cpp_tree.WellFormed.{has_no_typ}
use Rattle.elab_rules.specs.elab_ctx.Ctx.{Ctx, Work}
use Rattle.elab_rules.specs.elab_ctx.Steps.{Operand}
use Rattle.elab_rules.specs.Initialising.{is_written_exception}
use Rattle.elab_rules.specs.Operators.{value_form, is_throw, bare_throw, throws, settled, conditional_node, conditional_like, same_lvalues, both_of_class}
use Rattle.elab_rules.specs.Operators.{is_shared, shared, joined_class, two_values, same_work, branches, truth, conditional}
use Rattle.elab_fits.specs.Standing.{Stands, On}
use Rattle.elab_fits.specs.Scalars.{IsValue, IsOperand}
use Rattle.elab_fits.proofs.Equal.{typ_refl}
use Rattle.elab_fits.proofs.Nodes.{or_left, clash, head_typ, head_cat, head_kind}
use Rattle.elab_fits.proofs.Steps.{bind, either}
use Rattle.elab_fits.proofs.Values.{given_stands}
use Rattle.elab_fits.proofs.Arithmetic.{IsTruth, or_case}
use Rattle.elab_fits.proofs.Unary.{truth_gives, lvalue_is}
use Rattle.elab_fits.proofs.Assigning.{MadeStands}
use Rattle.elab_fits.proofs.Choosing.{values_choose, choice_stands, own_branch, void_typ, lvalues_choose, shared_stands, voids_choose}
use Rattle.elab_fits.proofs.Comma.{bare_fits, made_if, written_object}

-- What throws

throw_is : (kind : TKind) → is_throw kind ≡ is_thrown kind
throw_is Throw = refl
throw_is Rethrow = refl
throw_is kind = refl

pub thrown_kind : (e : Tree) → throws e ≡ true → is_thrown (head_of (bare_throw e)).kind ≡ true
thrown_kind e h = ap is_thrown (head_kind (bare_throw e)) ∙ sym (throw_is (kind_of (bare_throw e))) ∙ h

pub thrown_branch : (t : Typ) (cat : Cat) (x : Head) → is_thrown x.kind ≡ true → is_branch t cat x ≡ true
thrown_branch t Lvalue x h = or_left _ h
thrown_branch t Prvalue x h = or_left _ (or_left _ h)

-- an operand beside one that throws
pub own_row : (e : Tree) → is_branch (typ_in e) (cat_of e) (head_of e) ≡ true
own_row e = own_branch (typ_in e) (cat_of e) (head_of e) (ap (λ (u : Typ). typ_eq (typ_in e) u) (head_typ e) ∙ typ_refl (typ_in e)) (head_cat e)

pub no_value : (e : Tree) → is_void (typ_in e) ≡ true → has_no_typ (head_of e) ≡ true
no_value e v = void_typ (head_of e) (ap is_void (head_typ e) ∙ v)

second_throws : (s : Setting) (at : At) (test a b : Tree) → IsTruth s test → Stands s a → Stands s b → is_class_prvalue (typ_in a) (cat_of a) ≡ false
    → is_class_prvalue (typ_in b) (cat_of b) ≡ false → throws b ≡ true → Stands s (conditional_like at a test a (bare_throw b))
second_throws s at test a b h x y n m t = choice_stands s at (typ_in a) (cat_of a) test a (bare_throw b) x.typed n h (x.value n) (bare_fits s b (y.value m))
    (own_row a) (thrown_branch (typ_in a) (cat_of a) (head_of (bare_throw b)) (thrown_kind b t)) (no_value a) (λ v. or_left _ (thrown_kind b t))

first_throws : (s : Setting) (at : At) (test a b : Tree) → IsTruth s test → Stands s a → Stands s b → is_class_prvalue (typ_in a) (cat_of a) ≡ false
    → is_class_prvalue (typ_in b) (cat_of b) ≡ false → throws a ≡ true → Stands s (conditional_like at b test (bare_throw a) b)
first_throws s at test a b h x y n m t = choice_stands s at (typ_in b) (cat_of b) test (bare_throw a) b y.typed m h (bare_fits s a (x.value n)) (y.value m)
    (thrown_branch (typ_in b) (cat_of b) (head_of (bare_throw a)) (thrown_kind a t)) (own_row b) (λ v. or_left _ (thrown_kind a t)) (no_value b)

both_throw : (s : Setting) (at : At) (test a b : Tree) → IsTruth s test → Stands s a → Stands s b → is_class_prvalue (typ_in a) (cat_of a) ≡ false
    → is_class_prvalue (typ_in b) (cat_of b) ≡ false → throws a ≡ true → throws b ≡ true
    → Stands s (conditional_node at (plain void) Prvalue test (bare_throw a) (bare_throw b))
both_throw s at test a b h x y n m t u = choice_stands s at (plain void) Prvalue test (bare_throw a) (bare_throw b) refl refl h (bare_fits s a (x.value n))
    (bare_fits s b (y.value m)) (thrown_branch (plain void) Prvalue (head_of (bare_throw a)) (thrown_kind a t))
    (thrown_branch (plain void) Prvalue (head_of (bare_throw b)) (thrown_kind b u)) (λ v. or_left _ (thrown_kind a t)) (λ v. or_left _ (thrown_kind b u))

-- `?:` (C++14 5.16) where no operand is a prvalue of a class, two objects of a class are lvalues that share a type, and nothing of type void is an lvalue
pub branches_stand : (s : Setting) (c : Ctx) (w : Work) (at : At) (test : Tree) (a b : Operand) → IsTruth s test → IsOperand s a → IsOperand s b
    → is_class_prvalue (typ_in a.tree) (cat_of a.tree) ≡ false → is_class_prvalue (typ_in b.tree) (cat_of b.tree) ≡ false
    → (is_void (typ_in a.tree) ≡ true → cat_of a.tree ≡ Prvalue) → (both_of_class a b ≡ true → is_shared a b ≡ true)
    → On (MadeStands s) (branches c w at test a b)
branches_stand s c w at test a b h x y p q v n = either (MadeStands s) (throws a.tree && throws b.tree) _ _
    (λ i. let d = and_parts (throws a.tree) (throws b.tree) i in both_throw s at test a.tree b.tree h x.stands y.stands p q d.0 d.1)
    (λ i. either (MadeStands s) (throws b.tree) _ _ second
    (λ j. either (MadeStands s) (throws a.tree) _ _ first
    (λ k. either (MadeStands s) (same_lvalues a b || (is_void (typ_in a.tree) && is_void (typ_in b.tree))) _ _
    (λ l. or_case (Stands s (conditional_node at (typ_in a.tree) (cat_of a.tree) test a.tree b.tree)) (same_lvalues a b)
    (is_void (typ_in a.tree) && is_void (typ_in b.tree)) l lvalues voids)
    (λ l. either (MadeStands s) (is_shared a b) _ _ shares
    (λ m. either (MadeStands s) (both_of_class a b) _ _ (λ o. clash _ (is_shared a b) m (n o))
    (λ o. made (two_values at test (value_form a) (value_form b) a b)
    (values_choose s at test (value_form a) (value_form b) a b h x y refl refl)))))))
  where
    second : throws b.tree ≡ true → Stands s (conditional_like at (settled c w a).tree test (settled c w a).tree (bare_throw b.tree))
    second t = made_if (λ (z : Tree). Stands s (conditional_like at z test z (bare_throw b.tree))) (is_written_exception a.tree) _ _
        (λ d. clash _ (is_class_prvalue (typ_in a.tree) (cat_of a.tree)) p (written_object a.tree d))
        (λ d. second_throws s at test a.tree b.tree h x.stands y.stands p q t)

    first : throws a.tree ≡ true → Stands s (conditional_like at (settled c w b).tree test (bare_throw a.tree) (settled c w b).tree)
    first t = made_if (λ (z : Tree). Stands s (conditional_like at z test (bare_throw a.tree) z)) (is_written_exception b.tree) _ _
        (λ d. clash _ (is_class_prvalue (typ_in b.tree) (cat_of b.tree)) q (written_object b.tree d))
        (λ d. first_throws s at test a.tree b.tree h x.stands y.stands p q t)

    lvalues : same_lvalues a b ≡ true → Stands s (conditional_node at (typ_in a.tree) (cat_of a.tree) test a.tree b.tree)
    lvalues l =
        let d = and_parts (is_lvalue (cat_of a.tree) && is_lvalue (cat_of b.tree)) (typ_eq (typ_in a.tree) (typ_in b.tree)) l in
        let e = and_parts (is_lvalue (cat_of a.tree)) (is_lvalue (cat_of b.tree)) d.0 in
        subst (λ (z : Cat). Stands s (conditional_node at (typ_in a.tree) z test a.tree b.tree)) (sym (lvalue_is (cat_of a.tree) e.0))
        (lvalues_choose s at test a.tree b.tree h x.stands y.stands (lvalue_is (cat_of a.tree) e.0) (lvalue_is (cat_of b.tree) e.1) d.1)

    voids : (is_void (typ_in a.tree) && is_void (typ_in b.tree)) ≡ true
        → Stands s (conditional_node at (typ_in a.tree) (cat_of a.tree) test a.tree b.tree)
    voids o = let d = and_parts (is_void (typ_in a.tree)) (is_void (typ_in b.tree)) o in
        subst (λ (z : Cat). Stands s (conditional_node at (typ_in a.tree) z test a.tree b.tree)) (sym (v d.0))
        (voids_choose s at test a.tree b.tree h x.stands y.stands (v d.0) d.0 d.1)

    shares : is_shared a b ≡ true → Stands s (shared at test a b)
    shares m =
        let d = and_parts (is_lvalue (cat_of a.tree) && is_lvalue (cat_of b.tree) && both_of_class a b)
        (typ_eq (joined_class a b) (typ_in a.tree) || typ_eq (joined_class a b) (typ_in b.tree)) m in
        let e = and_parts (is_lvalue (cat_of a.tree) && is_lvalue (cat_of b.tree)) (both_of_class a b) d.0 in
        let f = and_parts (is_lvalue (cat_of a.tree)) (is_lvalue (cat_of b.tree)) e.0 in
        let g = and_parts (is_class_typ (typ_in a.tree)) (form_eq (form_in (typ_in a.tree)) (form_in (typ_in b.tree))) e.1 in
        shared_stands s at test a b h x y (lvalue_is (cat_of a.tree) f.0) (lvalue_is (cat_of b.tree) f.1) g.0

    made : (r : Result Tree ElabFault) → On (IsValue s) r → On (MadeStands s) (same_work w r)
    made (Ok e) g = given_stands s g.form e g.gives
    made (Err e) g = tt

pub conditional_stands : (s : Setting) (c : Ctx) (w : Work) (at : At) (test a b : Operand) → IsOperand s test → IsOperand s a → IsOperand s b
    → is_class_prvalue (typ_in a.tree) (cat_of a.tree) ≡ false → is_class_prvalue (typ_in b.tree) (cat_of b.tree) ≡ false
    → (is_void (typ_in a.tree) ≡ true → cat_of a.tree ≡ Prvalue) → (both_of_class a b ≡ true → is_shared a b ≡ true)
    → On (MadeStands s) (conditional c w at test a b)
conditional_stands s c w at test a b z x y p q v n = bind (IsTruth s) (MadeStands s) (truth c w test) _ (truth_gives s c w test z)
    (λ e h. branches_stand s c w at e a b h x y p q v n)
