-- A part that is copied from that of another object.
use Rattle.std.proofs.Common.{◌≡◌, refl, sym, ap, ◌∙◌, subst, ℕ, Bool, true, false, ◌||◌, [], ◌∷◌, eq-eqb}
use Rattle.elab_rules.specs.tx_ints.declared.kinds.IntKind.TheVariants.{ULong}
use Rattle.elab_rules.specs.cpp_types.Typ.{Typ, typ, Form, void, int, enum, null, ptr, ref, array, func, class, closure, tx_ex}
use Rattle.elab_rules.specs.cpp_types.Conversion.{is_lvalue}
use Rattle.elab_rules.specs.cpp_types.declared.classes.At.{At}
use Rattle.elab_rules.specs.cpp_types.declared.ranks.Cat.{Cat}
use Rattle.elab_rules.specs.cpp_types.declared.ranks.Cat.TheVariants.{Lvalue, Prvalue}
use Rattle.elab_rules.specs.cpp_tree.declared.kinds.TKind.TheVariants as forms
use Rattle.elab_rules.specs.cpp_tree.declared.roles.Role.TheVariants.{Value, Initialiser}
use Rattle.elab_rules.specs.cpp_tree.Trees.{Tree, node, none, one, two, typ_in, cat_of}
use Rattle.elab_rules.specs.cpp_tree.Typing.{form_in, is_class_typ, is_class_prvalue, same_shape, qualified}
use Rattle.elab_rules.specs.cpp_tree.Roles.{only}
use Rattle.elab_rules.specs.cpp_tree.Rows.{Setting}
use Rattle.elab_rules.specs.elab_ctx.Steps.{Made}
use Rattle.elab_rules.specs.Initialising.{class_from, closure_part}
use Rattle.elab_rules.specs.Objects.{Part, is_array}
use Rattle.elab_rules.specs.Values.{stored, valued, builder}
use Rattle.elab_rules.specs.Statements.{State, holds_temporary}
use Rattle.elab_rules.specs.Implicit.{source_object, own_operand, part_copied}
use Rattle.elab_fits.specs.Standing.{IsExpressionType, Stands, IsSetting, Reaches, On}
use Rattle.elab_fits.specs.Scalars.{is_scalar, Gives}
use Rattle.elab_fits.proofs.Equal.{typ_refl, form_refl}
use Rattle.elab_fits.proofs.Nodes.{both, or_left, clash, node_fits, head_typ, head_cat, of_value}
use Rattle.elab_fits.proofs.Steps.{either}
use Rattle.elab_fits.proofs.Values.{value_gives, stored_builds, scalar_type}
use Rattle.elab_fits_objects.specs.Contexts.{is_sorted, copies_itself, IsObjectTyp, HasMakers, IsSource}
use Rattle.elab_fits_objects.specs.Making.{Makes}
use Rattle.elab_fits_objects.proofs.Captures as captures
use Rattle.elab_fits_objects.proofs.Classes.{class_builds}
use Rattle.elab_fits_objects.proofs.Fits.{copy_builds}
use Rattle.elab_fits_objects.proofs.Keeping as keeping
use Rattle.elab_fits_objects.proofs.Types.{class_typed}
use Rattle.elab_fits_statements.specs.Anywhere.{FitsAnywhere, BuildsAnywhere}
use Rattle.elab_fits_statements.specs.Variables.{HasItem}
use Rattle.elab_fits_statements.proofs.Anywhere.{anywhere}
use Rattle.elab_fits_statements.proofs.Variables.{local_fits}
use Rattle.elab_fits_bodies.specs.Parts.{IsObjectOf}
use Rattle.elab_fits_bodies.specs.Copied.{IsCopied, CopyMade}
use Rattle.elab_fits_bodies.proofs.Plain.{IsPlain}
use Rattle.elab_fits_bodies.proofs.PlainCopies.{two_plain, valued_plain, stored_plain, part_plain, from_plain}
use Rattle.elab_fits_bodies.proofs.Built.{on_both, made_anywhere}

-- The object that is copied

pub source_stands : (s : Setting) (n : ℕ) (f : Form) (c v d w : Bool) (at : At) → HasItem s 1 (typ (ref (typ f c v)) d w)
    → IsObjectOf s (typ f c v) (source_object n (typ (ref (typ f c v)) d w) at)
source_stands s n f c v d w at h = record {
  fits = λ p. node_fits s p Value (forms.Load ULong false) (typ f c v) Lvalue at (one (node (forms.Local 1) (typ (ref (typ f c v)) d w) Lvalue at none))
      (only (Value ∷ [])) refl refl refl refl (both refl (typ_refl (typ f c v))) refl refl refl
      (both (both refl (local_fits s 1 (typ (ref (typ f c v)) d w) at h p)) refl);
  typed = refl;
  category = refl;
}

-- Types

shape_qualified : (q v : Bool) (t : Typ) → same_shape t (qualified q v t) ≡ true
shape_qualified q v (typ (array t n) d w) = both (eq-eqb n n refl) (shape_qualified q v t)
shape_qualified q v (typ void d w) = refl
shape_qualified q v (typ (int k) d w) = form_refl (int k)
shape_qualified q v (typ (enum n x) d w) = form_refl (enum n x)
shape_qualified q v (typ null d w) = refl
shape_qualified q v (typ (ptr t) d w) = form_refl (ptr t)
shape_qualified q v (typ (ref t) d w) = form_refl (ref t)
shape_qualified q v (typ (func g) d w) = form_refl (func g)
shape_qualified q v (typ (class n) d w) = form_refl (class n)
shape_qualified q v (typ (closure n) d w) = form_refl (closure n)
shape_qualified q v (typ (tx_ex t) d w) = form_refl (tx_ex t)

class_qualified : (q v : Bool) (t : Typ) → is_class_typ t ≡ true → form_in (qualified q v t) ≡ form_in t
class_qualified q v (typ (class n) d w) h = refl
class_qualified q v (typ (closure n) d w) h = refl
class_qualified q v (typ (tx_ex t) d w) h = refl
class_qualified q v (typ (array t n) d w) h = absurd cc
class_qualified q v (typ void d w) h = absurd cc
class_qualified q v (typ (int k) d w) h = absurd cc
class_qualified q v (typ (enum n x) d w) h = absurd cc
class_qualified q v (typ null d w) h = absurd cc
class_qualified q v (typ (ptr t) d w) h = absurd cc
class_qualified q v (typ (ref t) d w) h = absurd cc
class_qualified q v (typ (func g) d w) h = absurd cc

still_class : (q v : Bool) (t : Typ) → is_class_typ t ≡ true → is_class_typ (qualified q v t) ≡ true
still_class q v (typ (class n) d w) h = refl
still_class q v (typ (closure n) d w) h = refl
still_class q v (typ (tx_ex t) d w) h = refl
still_class q v (typ (array t n) d w) h = absurd cc
still_class q v (typ void d w) h = absurd cc
still_class q v (typ (int k) d w) h = absurd cc
still_class q v (typ (enum n x) d w) h = absurd cc
still_class q v (typ null d w) h = absurd cc
still_class q v (typ (ptr t) d w) h = absurd cc
still_class q v (typ (ref t) d w) h = absurd cc
still_class q v (typ (func g) d w) h = absurd cc

no_builder : (e : Tree) → cat_of e ≡ Lvalue → builder e ≡ e
no_builder (node forms.Retype (typ (tx_ex u) c v) Lvalue at kids) h = refl
no_builder (node kind t Lvalue at kids) h = refl
no_builder (node kind t Prvalue at kids) h = absurd cc

no_copy : (s : Setting) (e : Tree) → FitsAnywhere s Value e → copies_itself e ≡ true
no_copy s (node forms.CopyFrom t cat at kids) h = clash _ false refl (h (record { full = true; breaks = false; continues = false }))
no_copy s (node kind t cat at kids) h = refl

no_prvalue : (e : Tree) → cat_of e ≡ Lvalue → is_class_prvalue (typ_in e) (cat_of e) ≡ false
no_prvalue e h = ap (λ (x : Cat). is_class_prvalue (typ_in e) x) h

-- Parts

module _ (s : Setting) (st : State) (lambda : ℕ → Bool) (at : At) (i : IsSetting s st.ctx) (m : HasMakers st.ctx lambda) where
  array_copied : (t : Typ) (q : Bool) (e : Tree) → IsCopied st.ctx lambda t → IsObjectOf s (qualified q false t) e → IsPlain e
      → BuildsAnywhere s t (node forms.CopyFrom t Prvalue at (two e (closure_part st.ctx at (record { offset = 0; typ = t }))))
  array_copied t q e z o n =
      let p : Part = record { offset = 0; typ = t } in
      let b = copy_builds s t at e (closure_part st.ctx at p) (λ x full. o.fits x)
      (both (ap is_lvalue (head_cat e ∙ o.category)) (or_left _ (ap (λ (u : Typ). same_shape t u) (head_typ e ∙ o.typed) ∙ shape_qualified q false t)))
      (captures.part_copied s st.ctx lambda at i m p z.element.sized z.element.ready) in
      record {
        fits = anywhere s Initialiser (node forms.CopyFrom t Prvalue at (two e (closure_part st.ctx at p))) b.fits
            (two_plain e (closure_part st.ctx at p) n (part_plain st.ctx at p));
        builds = b.builds;
      }

  object_source : (u : Typ) (e : Tree) → is_class_typ u ≡ true → is_sorted lambda (form_in u) ≡ true → IsObjectOf s u e → IsSource s st.ctx lambda (own_operand at e)
  object_source u e k z o = record {
    operand = record {
      stands = of_value s e (subst (λ (c : Cat). IsExpressionType (typ_in e) c) (sym o.category) (class_typed (typ_in e) (ap is_class_typ o.typed ∙ k)))
          (no_prvalue e o.category) (λ p full. o.fits p);
      zero = λ x. absurd cc;
    };
    sorted = ap (λ (t : Typ). is_sorted lambda (form_in t)) o.typed ∙ z;
    whole = λ x. clash _ (is_class_prvalue (typ_in e) (cat_of e)) (no_prvalue e o.category) x;
    copied = ap copies_itself (no_builder e o.category) ∙ no_copy s e o.fits;
  }

  pub class_copied : (t u : Typ) (e : Tree) → is_class_typ u ≡ true → is_sorted lambda (form_in u) ≡ true → IsObjectTyp st.ctx lambda t → IsObjectOf s u e
      → IsPlain e → On (CopyMade s st t) (class_from st.ctx st.work t at (own_operand at e))
  class_copied t u e k y z o n = on_both (λ (x : Made). Reaches s x.work → Makes s t x.tree) (λ (x : Made). IsPlain x.tree × (Reaches s x.work → Reaches s st.work))
      (CopyMade s st t) (class_from st.ctx st.work t at (own_operand at e))
      (class_builds s st.ctx lambda st.work t at (own_operand at e) i m (object_source u e k y o) z)
      (on_both (λ (x : Made). IsPlain x.tree) (keeping.made s st.work) (λ (x : Made). IsPlain x.tree × (Reaches s x.work → Reaches s st.work))
      (class_from st.ctx st.work t at (own_operand at e)) (from_plain st.ctx st.work (own_operand at e) o.category n t at)
      (keeping.class_from s st.ctx st.work t at (own_operand at e)) (λ x g h. (g, h)))
      (λ x g h. record { before = h.1; builds = λ r. made_anywhere s t x.tree (g r) h.0 })

  scalar_by : (f : Form) (c v : Bool) (e : Tree) → is_scalar f ≡ true → Gives s f (valued at e) → IsPlain e
      → BuildsAnywhere s (typ f c v) (stored at (typ f c v) (valued at e))
  scalar_by f c v e k g n =
      let b = stored_builds s at f c v (valued at e) g in
      record {
        fits = anywhere s Initialiser (stored at (typ f c v) (valued at e)) b.fits (stored_plain at (typ f c v) (valued at e) (valued_plain at e n));
        builds = b.builds;
      }

  -- the value of an lvalue of a scalar's type
  scalar_given : (f : Form) (c v : Bool) (e : Tree) → is_scalar f ≡ true → IsObjectOf s (typ f c v) e → Gives s f (valued at e)
  scalar_given f c v (node kind u cat p kids) k o = by f k o.typed o.category
    where
      stands : (g : Form) → is_scalar g ≡ true → u ≡ typ g c v → cat ≡ Lvalue → Stands s (node kind u cat p kids)
      stands g x a b = of_value s (node kind u cat p kids)
          (subst (λ (t : Typ). IsExpressionType t cat) (sym a)
          (subst (λ (y : Cat). IsExpressionType (typ g c v) y) (sym b) (scalar_type g c v x)))
          (no_prvalue (node kind u cat p kids) b) (λ x full. o.fits x)

      form_of : (g : Form) → is_scalar g ≡ true → u ≡ typ g c v → cat ≡ Lvalue → form_in (typ_in (valued at (node kind u cat p kids))) ≡ g
      form_of (int j) x a b = ap (λ (t : Typ). form_in (typ_in (valued at (node kind t cat p kids)))) a
          ∙ ap (λ (y : Cat). form_in (typ_in (valued at (node kind (typ (int j) c v) y p kids)))) b
      form_of (enum n z) x a b = ap (λ (t : Typ). form_in (typ_in (valued at (node kind t cat p kids)))) a
          ∙ ap (λ (y : Cat). form_in (typ_in (valued at (node kind (typ (enum n z) c v) y p kids)))) b
      form_of null x a b = ap (λ (t : Typ). form_in (typ_in (valued at (node kind t cat p kids)))) a
          ∙ ap (λ (y : Cat). form_in (typ_in (valued at (node kind (typ null c v) y p kids)))) b
      form_of (ptr t) x a b = ap (λ (z : Typ). form_in (typ_in (valued at (node kind z cat p kids)))) a
          ∙ ap (λ (y : Cat). form_in (typ_in (valued at (node kind (typ (ptr t) c v) y p kids)))) b
      form_of g x a b = absurd cc

      by : (g : Form) → is_scalar g ≡ true → u ≡ typ g c v → cat ≡ Lvalue → Gives s g (valued at (node kind u cat p kids))
      by g x a b = subst (λ (y : Form). Gives s y (valued at (node kind u cat p kids))) (form_of g x a b)
          (value_gives s at (node kind u cat p kids) (stands g x a b) (ap is_scalar (form_of g x a b) ∙ x))

  scalar_copied : (t : Typ) (q : Bool) (e : Tree) → is_scalar (form_in t) ≡ true → IsObjectOf s (qualified q false t) e → IsPlain e
      → BuildsAnywhere s t (stored at t (valued at e))
  scalar_copied (typ (int j) c v) q e k o n = scalar_by (int j) c v e refl (scalar_given (int j) (q || c) v e refl o) n
  scalar_copied (typ (enum x y) c v) q e k o n = scalar_by (enum x y) c v e refl (scalar_given (enum x y) (q || c) v e refl o) n
  scalar_copied (typ null c v) q e k o n = scalar_by null c v e refl (scalar_given null (q || c) v e refl o) n
  scalar_copied (typ (ptr u) c v) q e k o n = scalar_by (ptr u) c v e refl (scalar_given (ptr u) (q || c) v e refl o) n
  scalar_copied (typ void c v) q e k o n = absurd cc
  scalar_copied (typ (ref u) c v) q e k o n = absurd cc
  scalar_copied (typ (array u x) c v) q e k o n = absurd cc
  scalar_copied (typ (func g) c v) q e k o n = absurd cc
  scalar_copied (typ (class x) c v) q e k o n = absurd cc
  scalar_copied (typ (closure x) c v) q e k o n = absurd cc
  scalar_copied (typ (tx_ex u) c v) q e k o n = absurd cc

  rest_of : (a b : Bool) → a ≡ false → (a || b) ≡ true → b ≡ true
  rest_of true b x y = absurd cc
  rest_of false b x y = y

  pub copied : (t : Typ) (q : Bool) (e : Tree) → IsCopied st.ctx lambda t → IsObjectOf s (qualified q false t) e → IsPlain e
      → On (CopyMade s st t) (part_copied st at t e)
  copied t q e z o n = either (CopyMade s st t) (is_array t) _ _
      (λ a. record { before = λ h. h; builds = λ h. array_copied t q e z o n })
      (λ a. either (CopyMade s st t) (is_class_typ t) _ _ (λ b. class_copied t (qualified q false t) e (still_class q false t b)
      (ap (is_sorted lambda) (class_qualified q false t b) ∙ (z.object b).sorted) (z.object b) o n)
      (λ b. record {
        before = λ h. h;
        builds = λ h. scalar_copied t q e (rest_of (is_class_typ t) (is_scalar (form_in t)) b
            (rest_of (is_array t) (is_class_typ t || is_scalar (form_in t)) a z.formed)) o n;
      }))

pub copies_of_parts : (s : Setting) (st : State) (lambda : ℕ → Bool) (at : At) (t : Typ) (q : Bool) (e : Tree) → IsSetting s st.ctx → HasMakers st.ctx lambda
    → IsCopied st.ctx lambda t → IsObjectOf s (qualified q false t) e → holds_temporary e ≡ false → On (CopyMade s st t) (part_copied st at t e)
copies_of_parts s st lambda at t q e i m z o n = copied s st lambda at i m t q e z o n
