-- `?:` with objects of classes.
use Rattle.std.proofs.Common.{◌≡◌, refl, sym, ap, ◌∙◌, subst, Bool, true, false, not, ◌&&◌, ◌||◌, [], ◌∷◌, Option, Some, None, is_some, Result, Ok, Err}
use Rattle.std.proofs.lemmas.Bool.{and_parts}
use Rattle.std.specs.Prelude.{if◌then◌else◌}
use Rattle.std.specs.List.{list_all}
use Rattle.elab_rules.specs.tx_ints.declared.kinds.IntKind.{IntKind}
use Rattle.elab_rules.specs.cpp_types.Typ.{Typ, typ, Form, void, ptr}
use Rattle.elab_rules.specs.cpp_types.Equal.{typ_eq, form_eq}
use Rattle.elab_rules.specs.cpp_types.Conversion.{is_lvalue}
use Rattle.elab_rules.specs.cpp_types.declared.classes.At.{At}
use Rattle.elab_rules.specs.cpp_types.declared.ranks.Cat.{Cat}
use Rattle.elab_rules.specs.cpp_types.declared.ranks.Cat.TheVariants.{Lvalue, Prvalue}
use Rattle.elab_rules.specs.cpp_tree.declared.faults.ElabFault.{ElabFault}
use Rattle.elab_rules.specs.cpp_tree.declared.faults.IllRule.TheVariants.{BadOperand}
use Rattle.elab_rules.specs.cpp_tree.declared.kinds.TKind.TheVariants.{Conditional, Throw, Rethrow}
use Rattle.elab_rules.specs.cpp_tree.declared.roles.Position.{Position}
use Rattle.elab_rules.specs.cpp_tree.declared.roles.Role.TheVariants.{Value, Initialiser}
use Rattle.elab_rules.specs.cpp_tree.Trees.{Tree, node, three, kind_of, typ_in, cat_of}
use Rattle.elab_rules.specs.cpp_tree.Notation.{plain}
use Rattle.elab_rules.specs.cpp_tree.Typing.{head_of, form_in, is_void, is_class_typ, is_class_prvalue, kind_in, goes_both_ways}
use Rattle.elab_rules.specs.cpp_tree.Roles.{only, is_throw as is_thrown, is_full}
use Rattle.elab_rules.specs.cpp_tree.Rows.{Setting, is_branch}
use Rattle.elab_rules.specs.cpp_tree.WellFormed.{fits, kids_fit, has_no_typ}
use Rattle.elab_rules.specs.elab_ctx.Ctx.{Ctx, Work}
use Rattle.elab_rules.specs.elab_ctx.Steps.{Operand}
use Rattle.elab_rules.specs.Operators.{value, value_form, arithmetic, is_null, is_throw, bare_throw, throws, settled, conditional_node}
use Rattle.elab_rules.specs.Operators.{conditional_like, same_lvalues, both_of_class, is_shared, shared, joined_class, joined_type, two_numbers, two_values, two_objects}
use Rattle.elab_rules.specs.Operators.{same_work, branches, truth, conditional}
use Rattle.elab_fits.specs.Standing.{FitsAs, Stands, On}
use Rattle.elab_fits.specs.Scalars.{IsValue}
use Rattle.elab_fits.proofs.Nodes.{both, or_left, or_right, node_fits, initial_kid, value_kid}
use Rattle.elab_fits.proofs.Steps.{bind, checked, either}
use Rattle.elab_fits.proofs.Arithmetic.{IsTruth, or_case}
use Rattle.elab_fits.proofs.Unary.{bool_row, truth_gives, lvalue_is}
use Rattle.elab_fits.proofs.Choosing.{values_choose, choice_stands, lvalues_choose, shared_stands, voids_choose}
use Rattle.elab_fits.proofs.Throwing.{thrown_kind, thrown_branch, own_row, no_value}
use Rattle.elab_fits_forms.specs.Types.{is_sound, is_sound_form, is_target, IsWhole}
use Rattle.elab_fits_forms.specs.Meaning.{Proper, ProperOperand}
use Rattle.elab_fits_forms.specs.Context.{Holds}
use Rattle.elab_fits_forms.specs.Forms.{MadeStands}
use Rattle.elab_fits_forms.proofs.Types.{class_no_void, class_target}
use Rattle.elab_fits_forms.proofs.Proper.{proper_lvalue, proper_value, proper_valued}
use Rattle.elab_fits_forms.proofs.Temporaries.{prvalue_class}
use Rattle.elab_fits_forms.proofs.Dropped.{operand_is, thrown_fits}
use Rattle.elab_fits_forms.proofs.Settled.{IsBuilt, proper_built, own_builds, IsSettled, settled_is}

-- What throws

-- a throw builds an object, as it gives a value
throw_built : (s : Setting) (p : Position) (e : Tree) → is_throw (kind_of e) ≡ true → fits s p Value e ≡ true → fits s p Initialiser e ≡ true
throw_built s p (node Throw t cat at kids) k h = h
throw_built s p (node Rethrow t cat at kids) k h = h
throw_built s p (node kind t cat at kids) k h = absurd cc

-- Objects

choice_kids : (s : Setting) (p : Position) (a b d : Tree) → fits s p Value a ≡ true → fits s p Initialiser b ≡ true → fits s p Initialiser d ≡ true
    → kids_fit s p (only (Value ∷ Initialiser ∷ Initialiser ∷ [])) 0 (three a b d) ≡ true
choice_kids s p a b d h g k = both (both (value_kid s p a h) h) (both (both (initial_kid s p b g) g) (both (both (initial_kid s p d k) k) refl))

choice_fits : (s : Setting) (p : Position) (at : At) (t : Typ) (test x y : Tree) → is_class_typ t ≡ true → IsTruth s test → p.full ≡ true
    → fits s p Initialiser x ≡ true → fits s p Initialiser y ≡ true → is_branch t Prvalue (head_of x) ≡ true → is_branch t Prvalue (head_of y) ≡ true
    → fits s p Initialiser (node Conditional t Prvalue at (three test x y)) ≡ true
choice_fits s p at t test x y k h full g j i m = node_fits s p Initialiser Conditional t Prvalue at (three test x y)
    (only (Value ∷ Initialiser ∷ Initialiser ∷ [])) refl (or_right (not (goes_both_ways Conditional) || is_thrown Conditional || is_full Conditional) k) refl
    (or_left (list_all has_no_typ (head_of x ∷ head_of y ∷ [])) (ap not (class_no_void t k))) (both (both (bool_row s test h) i) m) refl refl refl
    (choice_kids s p test x y (h.fits p full) g j)

-- a choice between what builds objects of one type
pub choice_built : (s : Setting) (c : Ctx) (at : At) (t : Typ) (test x y : Tree) → is_class_typ t ≡ true → is_sound c.classes t ≡ true → IsWhole c.classes t
    → IsTruth s test → FitsAs s Initialiser x → FitsAs s Initialiser y → is_branch t Prvalue (head_of x) ≡ true → is_branch t Prvalue (head_of y) ≡ true
    → IsBuilt s c (conditional_node at t Prvalue test x y)
choice_built s c at t test x y k u z h g j i m = record {
  typed = k;
  category = refl;
  sound = u;
  whole = z;
  itself = refl;
  copied = refl;
  fits = λ p full. choice_fits s p at t test x y k h full (g p full) (j p full) i m;
  builds = own_builds (conditional_node at t Prvalue test x y) refl;
}

-- Beside what throws

class_category : (t : Typ) (cat : Cat) → is_class_prvalue t cat ≡ true → cat ≡ Prvalue
class_category t Prvalue h = refl
class_category t Lvalue h = absurd cc

itself_fits : (s : Setting) (c : Ctx) (x : Tree) → IsSettled s c x → is_class_prvalue (typ_in x) (cat_of x) ≡ true → FitsAs s Initialiser x
itself_fits s c x g n = subst (λ (z : Tree). FitsAs s Initialiser z) (g.itself n) (g.proper.stands.object n)

-- what has the type of an operand that is no class prvalue
like_proper : (s : Setting) (c : Ctx) (at : At) (x test a b : Tree) → Proper s c x → is_class_prvalue (typ_in x) (cat_of x) ≡ false
    → Stands s (conditional_like at x test a b) → Proper s c (conditional_like at x test a b)
like_proper s c at x test a b g n h = record {
  stands = h;
  sound = g.sound;
  nothing = g.nothing;
  whole = g.whole;
  copied = λ m. refl;
}

second_throws : (s : Setting) (c : Ctx) (at : At) (test a b : Tree) → IsTruth s test → IsSettled s c a → Proper s c b → throws b ≡ true
    → Proper s c (conditional_like at a test a (bare_throw b))
second_throws s c at test a b h x y t = by (is_class_prvalue (typ_in a) (cat_of a)) refl
  where
    by : (z : Bool) → is_class_prvalue (typ_in a) (cat_of a) ≡ z → Proper s c (conditional_like at a test a (bare_throw b))
    by true n = let e = class_category (typ_in a) (cat_of a) n in
        subst (λ (z : Cat). Proper s c (conditional_node at (typ_in a) z test a (bare_throw b))) (sym e)
        (proper_built s c (conditional_node at (typ_in a) Prvalue test a (bare_throw b))
        (choice_built s c at (typ_in a) test a (bare_throw b) (prvalue_class (typ_in a) (cat_of a) n) x.proper.sound (x.proper.whole n) h
        (itself_fits s c a x n) (λ p full. throw_built s p (bare_throw b) t (thrown_fits s c b y t p full))
        (subst (λ (z : Cat). is_branch (typ_in a) z (head_of a) ≡ true) e (own_row a))
        (thrown_branch (typ_in a) Prvalue (head_of (bare_throw b)) (thrown_kind b t))))
    by false n = like_proper s c at a test a (bare_throw b) x.proper n (choice_stands s at (typ_in a) (cat_of a) test a (bare_throw b)
        x.proper.stands.typed n h (x.proper.stands.value n) (thrown_fits s c b y t) (own_row a)
        (thrown_branch (typ_in a) (cat_of a) (head_of (bare_throw b)) (thrown_kind b t)) (no_value a) (λ v. or_left _ (thrown_kind b t)))

first_throws : (s : Setting) (c : Ctx) (at : At) (test a b : Tree) → IsTruth s test → Proper s c a → IsSettled s c b → throws a ≡ true
    → Proper s c (conditional_like at b test (bare_throw a) b)
first_throws s c at test a b h x y t = by (is_class_prvalue (typ_in b) (cat_of b)) refl
  where
    by : (z : Bool) → is_class_prvalue (typ_in b) (cat_of b) ≡ z → Proper s c (conditional_like at b test (bare_throw a) b)
    by true n = let e = class_category (typ_in b) (cat_of b) n in
        subst (λ (z : Cat). Proper s c (conditional_node at (typ_in b) z test (bare_throw a) b)) (sym e)
        (proper_built s c (conditional_node at (typ_in b) Prvalue test (bare_throw a) b)
        (choice_built s c at (typ_in b) test (bare_throw a) b (prvalue_class (typ_in b) (cat_of b) n) y.proper.sound (y.proper.whole n) h
        (λ p full. throw_built s p (bare_throw a) t (thrown_fits s c a x t p full)) (itself_fits s c b y n)
        (thrown_branch (typ_in b) Prvalue (head_of (bare_throw a)) (thrown_kind a t))
        (subst (λ (z : Cat). is_branch (typ_in b) z (head_of b) ≡ true) e (own_row b))))
    by false n = like_proper s c at b test (bare_throw a) b y.proper n (choice_stands s at (typ_in b) (cat_of b) test (bare_throw a) b
        y.proper.stands.typed n h (thrown_fits s c a x t) (y.proper.stands.value n)
        (thrown_branch (typ_in b) (cat_of b) (head_of (bare_throw a)) (thrown_kind a t)) (own_row b) (λ v. or_left _ (thrown_kind a t)) (no_value b))

both_throw : (s : Setting) (c : Ctx) (at : At) (test a b : Tree) → IsTruth s test → Proper s c a → Proper s c b → throws a ≡ true → throws b ≡ true
    → Proper s c (conditional_node at (plain void) Prvalue test (bare_throw a) (bare_throw b))
both_throw s c at test a b h x y t u = record {
  stands = choice_stands s at (plain void) Prvalue test (bare_throw a) (bare_throw b) refl refl h (thrown_fits s c a x t) (thrown_fits s c b y u)
      (thrown_branch (plain void) Prvalue (head_of (bare_throw a)) (thrown_kind a t))
      (thrown_branch (plain void) Prvalue (head_of (bare_throw b)) (thrown_kind b u)) (λ v. or_left _ (thrown_kind a t)) (λ v. or_left _ (thrown_kind b u));
  sound = refl;
  nothing = λ v. refl;
  whole = λ k. absurd cc;
  copied = λ k. refl;
}

-- Types of values that are chosen

abbrev pub HasSound : Ctx → Tree → Type 0
HasSound c e = is_sound c.classes (typ_in e) ≡ true

numbers_sound : (c : Ctx) (at : At) (test : Tree) (i j : Option IntKind) (a b : Operand) → On (HasSound c) (two_numbers at test i j a b)
numbers_sound c at test (Some i) (Some j) a b = refl
numbers_sound c at test (Some i) None a b = tt
numbers_sound c at test None j a b = tt

alike_sound : (c : Ctx) (at : At) (test : Tree) (f g : Form) (a b : Operand) → is_sound_form c.classes f ≡ true
    → On (HasSound c) (if form_eq f g && is_some (kind_in f) then Ok
    (conditional_node at (plain f) Prvalue test (value a) (value b)) else two_numbers at test (arithmetic f) (arithmetic g) a b)
alike_sound c at test f g a b h = either (HasSound c) (form_eq f g && is_some (kind_in f)) _ _ (λ n. h)
    (λ n. numbers_sound c at test (arithmetic f) (arithmetic g) a b)

values_sound : (c : Ctx) (at : At) (test : Tree) (f g : Form) (a b : Operand) → is_sound_form c.classes f ≡ true → is_sound_form c.classes g ≡ true
    → On (HasSound c) (two_values at test f g a b)
values_sound c at test (ptr t) (ptr u) a b h k = checked (HasSound c) at BadOperand (typ_eq t u) _ (λ n. h)
values_sound c at test (ptr t) g a b h k = checked (HasSound c) at BadOperand (is_null b) _ (λ n. h)
values_sound c at test f (ptr t) a b h k = checked (HasSound c) at BadOperand (is_null a) _ (λ n. k)
values_sound c at test f g a b h k = alike_sound c at test f g a b h

form_sound : (c : Ctx) (t : Typ) → is_sound c.classes t ≡ true → is_sound_form c.classes (form_in t) ≡ true
form_sound c (typ f q v) h = h

pub value_sound : (s : Setting) (c : Ctx) (o : Operand) → ProperOperand s c o → is_sound_form c.classes (value_form o) ≡ true
value_sound s c o x = form_sound c (typ_in (value o)) (proper_valued s c o.at o.tree x.proper).sound

-- a value whose type is sound
pub given_proper : (s : Setting) (c : Ctx) (e : Tree) → IsValue s e → is_sound c.classes (typ_in e) ≡ true → Proper s c e
given_proper s c e g h = proper_value s c g.form e g.gives (sym (ap (λ (t : Typ). is_sound c.classes t) g.gives.typed) ∙ h)

pub both_known : (s : Setting) (c : Ctx) (r : Result Tree ElabFault) → On (IsValue s) r → On (HasSound c) r → On (Proper s c) r
both_known s c (Ok e) g h = given_proper s c e g h
both_known s c (Err e) g h = tt

-- `?:` (C++14 5.16); what is made of two objects of a class that share no type is told
joined_target : (c : Ctx) (t u : Typ) → is_sound c.classes t ≡ true → is_class_typ t ≡ true → is_target c.classes (joined_type t u) ≡ true
joined_target c (typ f q v) (typ g d w) h k = class_target c.classes (typ f (q || d) (v || w)) h k

made_of : (s : Setting) (c : Ctx) (w : Work) (r : Result Tree ElabFault) → On (Proper s c) r → On (MadeStands s c) (same_work w r)
made_of s c w (Ok e) h = λ r. h
made_of s c w (Err e) h = tt

pub branches_stand : (s : Setting) (c : Ctx) (w : Work) (at : At) (test : Tree) (a b : Operand) → Holds s c w → IsTruth s test → ProperOperand s c a
    → ProperOperand s c b → (is_shared a b ≡ false → both_of_class a b ≡ true → On (MadeStands s c) (two_objects c w at test a b))
    → On (MadeStands s c) (branches c w at test a b)
branches_stand s c w at test a b o h x y two = either (MadeStands s c) (throws a.tree && throws b.tree) _ _
    (λ i. let d = and_parts (throws a.tree) (throws b.tree) i in λ r. both_throw s c at test a.tree b.tree h x.proper y.proper d.0 d.1)
    (λ i. either (MadeStands s c) (throws b.tree) _ _
    (λ t r. second_throws s c at test (settled c w a).tree b.tree h (settled_is s c w w a o x r) y.proper t)
    (λ j. either (MadeStands s c) (throws a.tree) _ _
    (λ t r. first_throws s c at test a.tree (settled c w b).tree h x.proper (settled_is s c w w b o y r) t)
    (λ k. either (MadeStands s c) (same_lvalues a b || (is_void (typ_in a.tree) && is_void (typ_in b.tree))) _ _
    (λ l r. or_case (Proper s c (conditional_node at (typ_in a.tree) (cat_of a.tree) test a.tree b.tree)) (same_lvalues a b)
    (is_void (typ_in a.tree) && is_void (typ_in b.tree)) l lvalues voids)
    (λ l. either (MadeStands s c) (is_shared a b) _ _ (λ m r. shares m)
    (λ m. either (MadeStands s c) (both_of_class a b) _ _ (two m)
    (λ n. made_of s c w (two_values at test (value_form a) (value_form b) a b)
    (both_known s c (two_values at test (value_form a) (value_form b) a b)
    (values_choose s at test (value_form a) (value_form b) a b h (operand_is s c a x) (operand_is s c b y) refl refl)
    (values_sound c at test (value_form a) (value_form b) a b (value_sound s c a x) (value_sound s c b y)))))))))
  where
    lvalues : same_lvalues a b ≡ true → Proper s c (conditional_node at (typ_in a.tree) (cat_of a.tree) test a.tree b.tree)
    lvalues l =
        let d = and_parts (is_lvalue (cat_of a.tree) && is_lvalue (cat_of b.tree)) (typ_eq (typ_in a.tree) (typ_in b.tree)) l in
        let e = and_parts (is_lvalue (cat_of a.tree)) (is_lvalue (cat_of b.tree)) d.0 in
        like_proper s c at a.tree test a.tree b.tree x.proper
        (ap (λ (z : Cat). is_class_prvalue (typ_in a.tree) z) (lvalue_is (cat_of a.tree) e.0))
        (subst (λ (z : Cat). Stands s (conditional_node at (typ_in a.tree) z test a.tree b.tree)) (sym (lvalue_is (cat_of a.tree) e.0))
        (lvalues_choose s at test a.tree b.tree h x.proper.stands y.proper.stands (lvalue_is (cat_of a.tree) e.0) (lvalue_is (cat_of b.tree) e.1) d.1))

    no_class : (t : Typ) (cat : Cat) → is_void t ≡ true → is_class_prvalue t cat ≡ false
    no_class (typ void q v) Lvalue e = refl
    no_class (typ void q v) Prvalue e = refl
    no_class (typ f q v) cat e = absurd cc

    voids : (is_void (typ_in a.tree) && is_void (typ_in b.tree)) ≡ true
        → Proper s c (conditional_node at (typ_in a.tree) (cat_of a.tree) test a.tree b.tree)
    voids n = let d = and_parts (is_void (typ_in a.tree)) (is_void (typ_in b.tree)) n in
        like_proper s c at a.tree test a.tree b.tree x.proper (no_class (typ_in a.tree) (cat_of a.tree) d.0)
        (subst (λ (z : Cat). Stands s (conditional_node at (typ_in a.tree) z test a.tree b.tree)) (sym (x.proper.nothing d.0))
        (voids_choose s at test a.tree b.tree h x.proper.stands y.proper.stands (x.proper.nothing d.0) d.0 d.1))

    shares : is_shared a b ≡ true → Proper s c (shared at test a b)
    shares m =
        let d = and_parts (is_lvalue (cat_of a.tree) && is_lvalue (cat_of b.tree) && both_of_class a b)
        (typ_eq (joined_class a b) (typ_in a.tree) || typ_eq (joined_class a b) (typ_in b.tree)) m in
        let e = and_parts (is_lvalue (cat_of a.tree) && is_lvalue (cat_of b.tree)) (both_of_class a b) d.0 in
        let f = and_parts (is_lvalue (cat_of a.tree)) (is_lvalue (cat_of b.tree)) e.0 in
        let g = and_parts (is_class_typ (typ_in a.tree)) (form_eq (form_in (typ_in a.tree)) (form_in (typ_in b.tree))) e.1 in
        proper_lvalue s c (shared at test a b)
        (shared_stands s at test a b h (operand_is s c a x) (operand_is s c b y) (lvalue_is (cat_of a.tree) f.0) (lvalue_is (cat_of b.tree) f.1) g.0) refl
        (joined_target c (typ_in a.tree) (typ_in b.tree) x.proper.sound g.0)

pub choices_stand : (s : Setting) (c : Ctx) (w : Work) (at : At) (test a b : Operand) → Holds s c w → ProperOperand s c test → ProperOperand s c a
    → ProperOperand s c b
    → ((t : Tree) → IsTruth s t → is_shared a b ≡ false → both_of_class a b ≡ true → On (MadeStands s c) (two_objects c w at t a b))
    → On (MadeStands s c) (conditional c w at test a b)
choices_stand s c w at test a b o z x y two = bind (IsTruth s) (MadeStands s c) (truth c w test) _ (truth_gives s c w test (operand_is s c test z))
    (λ t h. branches_stand s c w at t a b o h x y (two t h))
