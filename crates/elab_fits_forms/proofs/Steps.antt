-- Increments, decrements and assignments.
use Rattle.std.proofs.Common.{◌≡◌, refl, sym, ap, ◌∙◌, subst, ℕ, Bool, true, false, not, ◌&&◌, [], ◌∷◌, Option, Some, None, is_some, Result, Ok, Err}
use Rattle.std.proofs.Common.{eqb-true}
use Rattle.std.proofs.lemmas.Bool.{and_parts}
use Rattle.std.specs.Prelude.{if◌then◌else◌}
use Rattle.elab_rules.specs.tx_ints.declared.kinds.IntKind.{IntKind}
use Rattle.elab_rules.specs.tx_ints.declared.kinds.IntKind.TheVariants.{Bool as BoolKind}
use Rattle.elab_rules.specs.tx_ints.declared.kinds.BinOp.{BinOp}
use Rattle.elab_rules.specs.tx_ints.Integers.{is_shift}
use Rattle.elab_rules.specs.cpp_types.Typ.{Typ, typ, Form, int, ptr, class, closure, tx_ex}
use Rattle.elab_rules.specs.cpp_types.Class.{completion_of}
use Rattle.elab_rules.specs.cpp_types.Equal.{kind_eq, typ_eq, form_eq}
use Rattle.elab_rules.specs.cpp_types.Conversion.{is_lvalue, const_of}
use Rattle.elab_rules.specs.cpp_types.declared.classes.At.{At}
use Rattle.elab_rules.specs.cpp_types.declared.ranks.Cat.{Cat}
use Rattle.elab_rules.specs.cpp_types.declared.ranks.Cat.TheVariants.{Lvalue, Prvalue}
use Rattle.elab_rules.specs.cpp_tree.declared.faults.ElabFault.{ElabFault}
use Rattle.elab_rules.specs.cpp_tree.declared.faults.IllRule.TheVariants.{BadOperand, ConstTarget, NoConversion, NoCopy, NotLvalue}
use Rattle.elab_rules.specs.cpp_tree.declared.kinds.TKind.TheVariants.{CopyAssign}
use Rattle.elab_rules.specs.cpp_tree.declared.roles.Position.{Position}
use Rattle.elab_rules.specs.cpp_tree.declared.roles.Role.TheVariants.{Value, CopyInit}
use Rattle.elab_rules.specs.cpp_tree.Trees.{Tree, node, three, typ_in, cat_of}
use Rattle.elab_rules.specs.cpp_tree.Notation.{plain}
use Rattle.elab_rules.specs.cpp_tree.Typing.{head_of, form_in, is_class_typ, is_class_prvalue, is_volatile_typ, unqualified, kind_in}
use Rattle.elab_rules.specs.cpp_tree.Typing.{builds}
use Rattle.elab_rules.specs.cpp_tree.Roles.{only}
use Rattle.elab_rules.specs.cpp_tree.Rows.{Setting, row_fits}
use Rattle.elab_rules.specs.cpp_tree.WellFormed.{fits, kids_fit}
use Rattle.elab_rules.specs.elab_ctx.Ctx.{Ctx, Work}
use Rattle.elab_rules.specs.elab_ctx.Steps.{and_then, check, Operand, Made}
use Rattle.elab_rules.specs.Values.{builder}
use Rattle.elab_rules.specs.Objects.{copies, traits_at, class_in}
use Rattle.elab_rules.specs.Initialising.{initial, object_of, same_number, class_number, as_base, as_source, is_same_or_base}
use Rattle.elab_rules.specs.Operators.{movable, target, assigned, is_assignable_form, class_assigned_in, assignment}
use Rattle.elab_rules.specs.Operators.{step_in, step}
use Rattle.elab_fits.specs.Standing.{Stands, Reaches, On}
use Rattle.elab_fits.specs.Objects.{CopiesOne}
use Rattle.elab_fits.proofs.Equal.{typ_refl, form_refl, form_same}
use Rattle.elab_fits.proofs.Nodes.{both, clash, head_typ, head_cat, node_fits, of_value, value_kid, copy_kid}
use Rattle.elab_fits.proofs.Steps.{bind, skip, checked, either}
use Rattle.elab_fits.proofs.Unary.{lvalue_is}
use Rattle.elab_fits.proofs.Assigning.{assignment_stands, step_stands}
use Rattle.elab_fits_forms.specs.Types.{is_sound, is_sound_form, is_target, is_lambda, is_exception_value, IsWhole}
use Rattle.elab_fits_objects.specs.Contexts.{copies_itself}
use Rattle.elab_fits_forms.specs.Meaning.{Proper, IsObject, ProperOperand}
use Rattle.elab_fits_forms.specs.Context.{Holds}
use Rattle.elab_fits_forms.specs.Forms.{MadeStands}
use Rattle.elab_fits_forms.proofs.Types.{target_type}
use Rattle.elab_fits_forms.proofs.Proper.{proper_lvalue, proper_retyped, object_word, object_fits}
use Rattle.elab_fits_forms.proofs.Temporaries.{object_is, object_typ}
use Rattle.elab_fits_forms.proofs.Dropped.{operand_is}
use Rattle.elab_fits_forms.proofs.Wholes.{plain_exception, exception_whole}
use Rattle.elab_fits_forms.proofs.Settled.{copy_made}
use Rattle.elab_fits_forms.proofs.Operators.{lvalue_target, unqualified_sound, known_target, changed_known, IsTarget}

-- Increments and decrements (C++14 5.2.6, 5.3.2)

-- the old value
abbrev IsOld : Operand → Tree → Type 0
IsOld a e = (typ_in e ≡ unqualified (typ_in a.tree)) × (cat_of e ≡ Prvalue)

step_target : (c : Ctx) (op : BinOp) (at : At) (f : Form) (a : Operand) → On (IsTarget a) (step_in c op false at f a)
step_target c op at (ptr t) a = skip (IsTarget a) (movable c at a.at t) _ (λ z. (refl, refl))
step_target c op at (int j) a = checked (IsTarget a) at BadOperand (not (kind_eq j BoolKind)) _ (λ z. (refl, refl))
step_target c op at f a = tt

step_old : (c : Ctx) (op : BinOp) (at : At) (f : Form) (a : Operand) → On (IsOld a) (step_in c op true at f a)
step_old c op at (ptr t) a = skip (IsOld a) (movable c at a.at t) _ (λ z. (refl, refl))
step_old c op at (int j) a = checked (IsOld a) at BadOperand (not (kind_eq j BoolKind)) _ (λ z. (refl, refl))
step_old c op at f a = tt

-- no object of a class is counted
step_form : (c : Ctx) (op : BinOp) (old : Bool) (at : At) (f : Form) (a : Operand) → On (λ (e : Tree). is_class_typ (plain f) ≡ false) (step_in c op old at f a)
step_form c op old at (ptr t) a = skip (λ (e : Tree). is_class_typ (plain (ptr t)) ≡ false) (movable c at a.at t) _ (λ z. refl)
step_form c op old at (int j) a = checked (λ (e : Tree). is_class_typ (plain (int j)) ≡ false) at BadOperand (not (kind_eq j BoolKind)) _ (λ z. refl)
step_form c op old at f a = tt

no_class : (t : Typ) → is_class_typ (plain (form_in t)) ≡ false → is_class_typ (unqualified t) ≡ false
no_class (typ f q v) h = h

old_proper : (s : Setting) (c : Ctx) (a : Operand) (e : Tree) → ProperOperand s c a → Stands s e → IsOld a e → is_class_typ (plain (form_in (typ_in a.tree))) ≡ false
    → Proper s c e
old_proper s c a e x h k n = record {
  stands = h;
  sound = ap (λ (t : Typ). is_sound c.classes t) k.0 ∙ unqualified_sound c (typ_in a.tree) x.proper.sound;
  nothing = λ v. k.1;
  whole = λ m. clash (IsWhole c.classes (typ_in e)) (is_class_prvalue (typ_in e) (cat_of e)) other m;
  copied = λ m. clash (copies_itself (builder e) ≡ true) (is_class_prvalue (typ_in e) (cat_of e)) other m;
}
  where
    other : is_class_prvalue (typ_in e) (cat_of e) ≡ false
    other = ap (λ (z : Cat). is_class_prvalue (typ_in e) z) k.1 ∙ ap is_class_typ k.0 ∙ no_class (typ_in a.tree) n

old_known : (s : Setting) (c : Ctx) (a : Operand) (r : Result Tree ElabFault) → ProperOperand s c a → On (Stands s) r → On (IsOld a) r
    → On (λ (e : Tree). is_class_typ (plain (form_in (typ_in a.tree))) ≡ false) r → On (Proper s c) r
old_known s c a (Ok e) x h k n = old_proper s c a e x h k n
old_known s c a (Err e) x h k n = tt

pub step_proper : (s : Setting) (c : Ctx) (op : BinOp) (old : Bool) (at : At) (a : Operand) → is_shift op ≡ false → ProperOperand s c a
    → On (Proper s c) (step c op old at a)
step_proper s c op false at a n x = known_target (Proper s c) at a (λ y. step_in c op false at (form_in (typ_in a.tree)) a)
    (λ l. changed_known s c a (step c op false at a) x l (step_stands s c op false at a n (operand_is s c a x))
    (skip (IsTarget a) (target at a) _ (λ z. step_target c op at (form_in (typ_in a.tree)) a)))
step_proper s c op true at a n x = old_known s c a (step c op true at a) x (step_stands s c op true at a n (operand_is s c a x))
    (skip (IsOld a) (target at a) _ (λ z. step_old c op at (form_in (typ_in a.tree)) a))
    (skip (λ (e : Tree). is_class_typ (plain (form_in (typ_in a.tree))) ≡ false) (target at a) _ (λ z. step_form c op true at (form_in (typ_in a.tree)) a))

-- Assignments to what is no object of a class (C++14 5.17)

assigned_target : (at : At) (x : Option IntKind) (a : Operand) (v : Tree) (w : Work)
    → On (λ (m : Made). IsTarget a m.tree) (and_then (assigned at x a v) (λ (t : Tree). Ok (record { tree = t; work = w })))
assigned_target at (Some k) a v w = (refl, refl)
assigned_target at None a v w = tt

assignment_target : (c : Ctx) (w : Work) (at : At) (a b : Operand) → is_class_typ (typ_in a.tree) ≡ false
    → On (λ (m : Made). IsTarget a m.tree) (assignment c w at a b)
assignment_target c w at a b n = skip (λ (m : Made). IsTarget a m.tree) (target at a) _
    (λ y. either (λ (m : Made). IsTarget a m.tree) (is_class_typ (typ_in a.tree)) _ _ (λ k. clash _ (is_class_typ (typ_in a.tree)) n k)
    (λ k. checked (λ (m : Made). IsTarget a m.tree) at BadOperand (is_some (kind_in (form_in (typ_in a.tree)))) _
    (λ z. skip (λ (m : Made). IsTarget a m.tree) (initial c w (unqualified (typ_in a.tree)) b) _
    (λ m. assigned_target at (kind_in (form_in (typ_in a.tree))) a m.tree m.work))))

made_known : (s : Setting) (c : Ctx) (a : Operand) (r : Result Made ElabFault) → ProperOperand s c a → cat_of a.tree ≡ Lvalue
    → On (λ (m : Made). Stands s m.tree) r → On (λ (m : Made). IsTarget a m.tree) r → On (MadeStands s c) r
made_known s c a (Ok m) x l h k = λ r. changed_known s c a (Ok m.tree) x l h k
made_known s c a (Err e) x l h k = tt

pub scalar_assigned : (s : Setting) (c : Ctx) (w : Work) (at : At) (a b : Operand) → ProperOperand s c a → ProperOperand s c b
    → is_class_typ (typ_in a.tree) ≡ false → On (MadeStands s c) (assignment c w at a b)
scalar_assigned s c w at a b x y n = known_target (MadeStands s c) at a _
    (λ l. made_known s c a (assignment c w at a b) x l (assignment_stands s c w at a b (operand_is s c a x) (operand_is s c b y) n)
    (assignment_target c w at a b n))

-- Assignments to objects of classes (C++14 12.8)

assigned_kids : (s : Setting) (p : Position) (a b d : Tree) → fits s p Value a ≡ true → fits s p Value b ≡ true → fits s p CopyInit d ≡ true
    → kids_fit s p (only (Value ∷ Value ∷ CopyInit ∷ [])) 0 (three a b d) ≡ true
assigned_kids s p a b d h g k = both (both (value_kid s p a h) h) (both (both (value_kid s p b g) g) (both (both (copy_kid s p d k) k) refl))

copy_row : (s : Setting) (t : Typ) (a b d : Tree) → is_class_typ t ≡ true → cat_of a ≡ Lvalue → typ_in a ≡ t → cat_of b ≡ Lvalue
    → form_in (typ_in b) ≡ form_in t → builds t (head_of d) ≡ true → row_fits s CopyAssign t Lvalue (head_of a ∷ head_of b ∷ head_of d ∷ []) ≡ true
copy_row s t a b d k l e m f g = both (both (both k (both (ap is_lvalue (head_cat a ∙ l)) (ap (λ (z : Typ). typ_eq t z) (head_typ a ∙ e) ∙ typ_refl t)))
    (both (ap is_lvalue (head_cat b ∙ m))
    (ap (λ (z : Typ). form_eq (form_in t) (form_in z)) (head_typ b) ∙ ap (λ (z : Form). form_eq (form_in t) z) f ∙ form_refl (form_in t)))) g

copied_proper : (s : Setting) (c : Ctx) (at : At) (a b d : Tree) → IsObject s c a → IsObject s c b → is_class_typ (typ_in a) ≡ true
    → is_target c.classes (typ_in a) ≡ true → form_in (typ_in b) ≡ form_in (typ_in a) → CopiesOne s (typ_in a) d
    → Proper s c (node CopyAssign (typ_in a) Lvalue at (three a b d))
copied_proper s c at a b d x y k i f g = proper_lvalue s c (node CopyAssign (typ_in a) Lvalue at (three a b d))
    (of_value s (node CopyAssign (typ_in a) Lvalue at (three a b d)) (target_type c.classes (typ_in a) i) refl
    (λ p full. node_fits s p Value CopyAssign (typ_in a) Lvalue at (three a b d) (only (Value ∷ Value ∷ CopyInit ∷ [])) refl refl refl refl
    (copy_row s (typ_in a) a b d k x.category refl y.category f g.builds) refl refl refl
    (assigned_kids s p a b d (object_fits s c a x p full) (object_fits s c b y p full) (g.fits p full)))) refl i

-- an object as one of a class
based : (s : Setting) (c : Ctx) (at : At) (n : ℕ) (t : Typ) (e : Tree) → IsObject s c e → is_lambda c.classes n ≡ false
    → IsObject s c (as_base at n t e)
based s c at n (typ f q v) e o h = record {
  proper = proper_retyped s c (typ (class n) q v) at e (object_word s c e o) (object_fits s c e o) (ap not h);
  category = refl;
}

based_form : (at : At) (n : ℕ) (t : Typ) (e : Tree) → form_in (typ_in (as_base at n t e)) ≡ class n
based_form at n (typ f q v) e = refl

-- of a class of this number that is no lambda's
class_form : (c : Ctx) (n : ℕ) (t : Typ) → is_sound c.classes t ≡ true → is_lambda c.classes n ≡ false → same_number n (class_number t) ≡ true
    → form_in t ≡ class n
class_form c n (typ (class m) q v) i h e = ap class (eqb-true m n e)
class_form c n (typ (closure m) q v) i h e = clash (closure m ≡ class n) (is_lambda c.classes n) h
    (sym (ap (λ (z : ℕ). is_lambda c.classes z) (eqb-true m n e)) ∙ i)
class_form c n (typ f q v) i h e = absurd cc

pub record IsSource (s : Setting) (c : Ctx) (n : ℕ) (e : Tree) : Type 0 where
  pub object : IsObject s c e
  pub form : form_in (typ_in e) ≡ class n

source_is : (s : Setting) (c : Ctx) (at : At) (n : ℕ) (e : Tree) → IsObject s c e → is_lambda c.classes n ≡ false → IsSource s c n (as_source at n e)
source_is s c at n e o h = by (same_number n (class_number (typ_in e))) refl
  where
    by : (b : Bool) → same_number n (class_number (typ_in e)) ≡ b → IsSource s c n (if b then e else as_base at n (typ_in e) e)
    by true k = record { object = o; form = class_form c n (typ_in e) o.proper.sound h k }
    by false k = record { object = based s c at n (typ_in e) e o h; form = based_form at n (typ_in e) e }

not_lambda : (c : Ctx) (n : ℕ) (t : Typ) → form_in t ≡ class n → is_sound c.classes t ≡ true → is_lambda c.classes n ≡ false
not_lambda c n (typ f q v) e i = negated (is_lambda c.classes n) (sym (ap (λ (z : Form). is_sound_form c.classes z) e) ∙ i)
  where
    negated : (b : Bool) → not b ≡ true → b ≡ false
    negated true h = absurd cc
    negated false h = refl

class_typed : (t : Typ) (n : ℕ) → form_in t ≡ class n → is_class_typ t ≡ true
class_typed (typ f q v) n e = ap (λ (z : Form). is_class_typ (plain z)) e

whole_of : (c : Ctx) (s : Setting) (w : Work) (t : Typ) (n : ℕ) → Holds s c w → form_in t ≡ class n → is_sound c.classes t ≡ true
    → is_some (completion_of c.classes n) ≡ true → IsWhole c.classes t
whole_of c s w (typ f q v) n h e i d = (h.complete n d).whole f q v (ap class_in e) i

numbered_class : (c : Ctx) (t : Typ) (o : Option ℕ) → is_same_or_base c.classes (class_number t) o ≡ true → is_class_typ t ≡ true
numbered_class c (typ (class n) q v) o h = refl
numbered_class c (typ (closure n) q v) o h = refl
numbered_class c (typ f q v) o h = absurd cc

class_assigns : (s : Setting) (c : Ctx) (w : Work) (at : At) (a b : Operand) (n : ℕ) → Holds s c w → ProperOperand s c a → ProperOperand s c b
    → cat_of a.tree ≡ Lvalue → form_in (typ_in a.tree) ≡ class n → On (MadeStands s c) (class_assigned_in c w at a b (class n))
class_assigns s c w at a b n h x y l e = checked (MadeStands s c) b.at NoConversion
    (is_same_or_base c.classes (class_number (typ_in b.tree)) (Some n)) _ (λ k.
    checked (MadeStands s c) at NoCopy ((traits_at c n).is_assignable && not (is_volatile_typ (typ_in a.tree))) _ (λ m.
    checked (MadeStands s c) b.at NoCopy (not (is_volatile_typ (typ_in b.tree))) _ (λ v r. by k
    (and_parts (traits_at c n).is_assignable (not (is_volatile_typ (typ_in a.tree))) m).0 r)))
  where
    object : is_same_or_base c.classes (class_number (typ_in b.tree)) (Some n) ≡ true → Reaches s (object_of c w b.at b.tree).work
        → IsObject s c (object_of c w b.at b.tree).tree
    object k r = object_is s c w b.at b.tree h.setting h.makers.specials y.proper (numbered_class c (typ_in b.tree) (Some n) k) r

    by : is_same_or_base c.classes (class_number (typ_in b.tree)) (Some n) ≡ true → (traits_at c n).is_assignable ≡ true
        → Reaches s (object_of c w b.at b.tree).work → Proper s c (node CopyAssign (typ_in a.tree) Lvalue at
        (three a.tree (as_source b.at n (object_of c w b.at b.tree).tree) (copies c.classes at (typ_in a.tree))))
    by k i r =
        let g = source_is s c b.at n (object_of c w b.at b.tree).tree (object k r) (not_lambda c n (typ_in a.tree) e x.proper.sound) in
        copied_proper s c at a.tree (as_source b.at n (object_of c w b.at b.tree).tree) (copies c.classes at (typ_in a.tree))
        (record { proper = x.proper; category = l }) g.object (class_typed (typ_in a.tree) n e) (lvalue_target s c a.tree x.proper l) (g.form ∙ sym e)
        (copy_made s c w at (typ_in a.tree) h (whole_of c s w (typ_in a.tree) n h e x.proper.sound (h.assignable n i)))

exception_typed : (t u : Typ) → form_in t ≡ tx_ex u → is_class_typ t ≡ true
exception_typed (typ f q v) u e = ap (λ (z : Form). is_class_typ (plain z)) e

not_const : (t : Typ) → not (const_of t) ≡ true → (f : Form) → form_in t ≡ f → not (is_volatile_typ t) ≡ true → t ≡ plain f
not_const (typ g false false) h f e k = ap plain e
not_const (typ g true v) h f e k = absurd cc
not_const (typ g false true) h f e k = absurd cc

exception_sound : (c : Ctx) (t u : Typ) → form_in t ≡ tx_ex u → is_sound c.classes t ≡ true → is_exception_value c.classes u ≡ true
exception_sound c (typ f q v) u e h = sym (ap (λ (z : Form). is_sound_form c.classes z) e) ∙ h

-- a `std::tx_exception` is copied as the value in it
exception_copies : (s : Setting) (c : Ctx) (w : Work) (at : At) (t : Typ) → Holds s c w → is_exception_value c.classes t ≡ true
    → CopiesOne s (plain (tx_ex t)) (copies c.classes at t)
exception_copies s c w at t h i = plain_exception (λ (u : Typ). CopiesOne s (plain (tx_ex u)) (copies c.classes at u)) c.classes t i
    (λ f j. copy_made s c w at (plain (tx_ex (plain f))) h (exception_whole s c w (plain f) false false h j))

exception_assigns : (s : Setting) (c : Ctx) (w : Work) (at : At) (a b : Operand) (t : Typ) → Holds s c w → ProperOperand s c a → ProperOperand s c b
    → cat_of a.tree ≡ Lvalue → not (const_of (typ_in a.tree)) ≡ true → form_in (typ_in a.tree) ≡ tx_ex t
    → On (MadeStands s c) (class_assigned_in c w at a b (tx_ex t))
exception_assigns s c w at a b t h x y l g e = checked (MadeStands s c) b.at NoConversion (form_eq (form_in (typ_in b.tree)) (tx_ex t)) _ (λ k.
    checked (MadeStands s c) at NoCopy (is_assignable_form c (form_in t) && not (is_volatile_typ (typ_in a.tree))) _ (λ m.
    checked (MadeStands s c) b.at NoCopy (not (is_volatile_typ (typ_in b.tree))) _ (λ v r. by (form_same (form_in (typ_in b.tree)) (tx_ex t) k)
    (and_parts (is_assignable_form c (form_in t)) (not (is_volatile_typ (typ_in a.tree))) m).1 r)))
  where
    by : form_in (typ_in b.tree) ≡ tx_ex t → not (is_volatile_typ (typ_in a.tree)) ≡ true → Reaches s (object_of c w b.at b.tree).work
        → Proper s c (node CopyAssign (typ_in a.tree) Lvalue at (three a.tree (object_of c w b.at b.tree).tree (copies c.classes at t)))
    by k m r = copied_proper s c at a.tree (object_of c w b.at b.tree).tree (copies c.classes at t) (record { proper = x.proper; category = l })
        (object_is s c w b.at b.tree h.setting h.makers.specials y.proper (exception_typed (typ_in b.tree) t k) r) (exception_typed (typ_in a.tree) t e)
        (lvalue_target s c a.tree x.proper l) (ap form_in (object_typ c w b.at b.tree) ∙ k ∙ sym e)
        (subst (λ (z : Typ). CopiesOne s z (copies c.classes at t)) (sym (not_const (typ_in a.tree) g (tx_ex t) e m))
        (exception_copies s c w at t h (exception_sound c (typ_in a.tree) t e x.proper.sound)))

object_assigns : (s : Setting) (c : Ctx) (w : Work) (at : At) (a b : Operand) (f : Form) → Holds s c w → ProperOperand s c a → ProperOperand s c b
    → cat_of a.tree ≡ Lvalue → not (const_of (typ_in a.tree)) ≡ true → form_in (typ_in a.tree) ≡ f → On (MadeStands s c) (class_assigned_in c w at a b f)
object_assigns s c w at a b (class n) h x y l g e = class_assigns s c w at a b n h x y l e
object_assigns s c w at a b (tx_ex t) h x y l g e = exception_assigns s c w at a b t h x y l g e
object_assigns s c w at a b f h x y l g e = tt

-- what is assigned to is an lvalue that is not `const`
pub record IsChanged (a : Operand) : Type 0 where
  pub category : cat_of a.tree ≡ Lvalue
  pub changes : not (const_of (typ_in a.tree)) ≡ true

target_changes : (at : At) (a : Operand) → On (λ (b : Bool). IsChanged a) (target at a)
target_changes at a = checked (λ (b : Bool). IsChanged a) at NotLvalue (is_lvalue (cat_of a.tree)) _
    (λ l. by (not (const_of (typ_in a.tree))) refl (lvalue_is (cat_of a.tree) l))
  where
    by : (b : Bool) → not (const_of (typ_in a.tree)) ≡ b → cat_of a.tree ≡ Lvalue → On (λ (z : Bool). IsChanged a) (check at ConstTarget b)
    by true n l = record { category = l; changes = n }
    by false n l = tt

pub assignments_stand : (s : Setting) (c : Ctx) (w : Work) (at : At) (a b : Operand) → Holds s c w → ProperOperand s c a → ProperOperand s c b
    → On (MadeStands s c) (assignment c w at a b)
assignments_stand s c w at a b h x y = by (is_class_typ (typ_in a.tree)) refl
  where
    by : (z : Bool) → is_class_typ (typ_in a.tree) ≡ z → On (MadeStands s c) (assignment c w at a b)
    by false n = scalar_assigned s c w at a b x y n
    by true n = bind (λ (z : Bool). IsChanged a) (MadeStands s c) (target at a) _ (target_changes at a)
        (λ z g. either (MadeStands s c) (is_class_typ (typ_in a.tree)) _ _
        (λ k. object_assigns s c w at a b (form_in (typ_in a.tree)) h x y g.category g.changes refl)
        (λ k. clash _ (is_class_typ (typ_in a.tree)) k n))
