-- Casts to classes.
use Rattle.std.proofs.Common.{◌≡◌, refl, sym, ap, ◌∙◌, subst, ℕ, Bool, true, false, not, ◌&&◌, ◌||◌, List, [], ◌∷◌, is_some, Result, Ok, Err}
use Rattle.std.proofs.lemmas.Bool.{and_parts}
use Rattle.std.specs.Prelude.{if◌then◌else◌}
use Rattle.elab_rules.specs.cpp_types.Typ.{Typ, typ, Form, void, int, enum, null, ptr, ref, array, func, class, closure, tx_ex}
use Rattle.elab_rules.specs.cpp_types.Class.{completion_of}
use Rattle.elab_rules.specs.cpp_types.Equal.{typ_eq}
use Rattle.elab_rules.specs.cpp_types.declared.classes.At.{At}
use Rattle.elab_rules.specs.cpp_types.declared.ranks.Cat.{Cat}
use Rattle.elab_rules.specs.cpp_types.declared.ranks.Cat.TheVariants.{Lvalue, Prvalue}
use Rattle.elab_rules.specs.cpp_tree.declared.faults.ElabFault.{ElabFault}
use Rattle.elab_rules.specs.cpp_tree.declared.kinds.TKind.TheVariants.{Retype, Store}
use Rattle.elab_rules.specs.cpp_tree.declared.roles.Position.{Position}
use Rattle.elab_rules.specs.cpp_tree.declared.roles.Role.TheVariants.{Initialiser}
use Rattle.elab_rules.specs.cpp_tree.Trees.{Tree, node, one, typ_in, cat_of}
use Rattle.elab_rules.specs.cpp_tree.Notation.{plain}
use Rattle.elab_rules.specs.cpp_tree.Typing.{Head, head_of, form_in, is_class_typ, is_prvalue, without_exception, same_shape}
use Rattle.elab_rules.specs.cpp_tree.Typing.{goes_both_ways, builds}
use Rattle.elab_rules.specs.cpp_tree.Rows.{Setting}
use Rattle.elab_rules.specs.cpp_tree.WellFormed.{fits}
use Rattle.elab_rules.specs.elab_ctx.Ctx.{Ctx, Work}
use Rattle.elab_rules.specs.elab_ctx.Steps.{and_then, Operand, Made}
use Rattle.elab_rules.specs.Values.{builder, is_exception_form}
use Rattle.elab_rules.specs.Objects.{traits_at}
use Rattle.elab_rules.specs.Initialising.{from_values, with_tree, constructed, default_by, makeable}
use Rattle.elab_rules.specs.Casts.{stored_at, as_expression, cast, functional}
use Rattle.elab_fits.specs.Standing.{FitsAs, Reaches, On}
use Rattle.elab_fits.proofs.Equal.{typ_same, form_same}
use Rattle.elab_fits.proofs.Nodes.{clash, head_typ, head_cat}
use Rattle.elab_fits.proofs.Steps.{bind, known}
use Rattle.elab_fits.proofs.Arithmetic.{or_case}
use Rattle.elab_fits_objects.specs.Contexts.{IsInitialised, copies_itself}
use Rattle.elab_fits_objects.specs.Making.{Makes}
use Rattle.elab_fits_objects.proofs.Fits.{fit_as}
use Rattle.elab_fits_objects.proofs.Valued.{values_build}
use Rattle.elab_fits_forms.specs.Types.{is_sound, is_sound_form, is_lambda, is_exception_value, IsWhole}
use Rattle.elab_fits_forms.specs.Meaning.{Proper, ProperOperand}
use Rattle.elab_fits_forms.specs.Context.{Holds}
use Rattle.elab_fits_forms.specs.Forms.{MadeStands, ProperOperands}
use Rattle.elab_fits_forms.proofs.Wholes.{class_whole, plain_exception}
use Rattle.elab_fits_forms.proofs.Sources.{object_typ_is, parameter_is, sources_of}
use Rattle.elab_fits_forms.proofs.Settled.{proper_built, own_builds}
use Rattle.elab_fits_forms.proofs.Joined.{makeable_complete}
use Rattle.elab_fits_forms.proofs.References.{scalar_casts, scalar_functionals}

-- The class of what is made is complete

abbrev IsDone : Ctx → Typ → Type 0
IsDone c t = (n : ℕ) (q v : Bool) → t ≡ typ (class n) q v → is_some (completion_of c.classes n) ≡ true

done_is : (c : Ctx) (n : ℕ) (q v : Bool) → is_some (completion_of c.classes n) ≡ true → IsDone c (typ (class n) q v)
done_is c n q v h m a b e = let i : n ≡ m = cc in subst (λ (z : ℕ). is_some (completion_of c.classes z) ≡ true) i h

constructed_done : (c : Ctx) (w : Work) (n : ℕ) (q v : Bool) (at : At) (os : List Operand)
    → On (λ (m : Made). IsDone c (typ (class n) q v)) (constructed c w n (typ (class n) q v) at os)
constructed_done c w n q v at [] = by (makeable c at n) (makeable_complete c at n)
  where
    by : (r : Result ℕ ElabFault) → On (λ (i : ℕ). is_some (completion_of c.classes n) ≡ true) r
        → On (λ (m : Made). IsDone c (typ (class n) q v)) (and_then (and_then r (λ k. default_by c (typ (class n) q v) at (traits_at c n).default))
        (λ (e : Tree). Ok (record { tree = e; work = w })))
    by (Ok k) d = known (λ (m : Made). IsDone c (typ (class n) q v)) _ (λ m. done_is c n q v d)
    by (Err e) d = tt
constructed_done c w n q v at (o ∷ os) = bind (λ (i : ℕ). is_some (completion_of c.classes n) ≡ true) (λ (m : Made). IsDone c (typ (class n) q v))
    (makeable c at n) _ (makeable_complete c at n) (λ k d. known (λ (m : Made). IsDone c (typ (class n) q v)) _ (λ m. done_is c n q v d))

values_done : (c : Ctx) (w : Work) (t : Typ) (at : At) (os : List Operand) → On (λ (m : Made). IsDone c t) (from_values c w t at os)
values_done c w (typ (class n) q v) at os = constructed_done c w n q v at os
values_done c w (typ void q v) at os = known (λ (m : Made). IsDone c (typ void q v)) (from_values c w (typ void q v) at os) (λ m n a b e. absurd cc)
values_done c w (typ (int k) q v) at os = known (λ (m : Made). IsDone c (typ (int k) q v)) (from_values c w (typ (int k) q v) at os) (λ m n a b e. absurd cc)
values_done c w (typ (enum i j) q v) at os = known (λ (m : Made). IsDone c (typ (enum i j) q v)) (from_values c w (typ (enum i j) q v) at os)
    (λ m n a b e. absurd cc)
values_done c w (typ null q v) at os = known (λ (m : Made). IsDone c (typ null q v)) (from_values c w (typ null q v) at os) (λ m n a b e. absurd cc)
values_done c w (typ (ptr u) q v) at os = known (λ (m : Made). IsDone c (typ (ptr u) q v)) (from_values c w (typ (ptr u) q v) at os) (λ m n a b e. absurd cc)
values_done c w (typ (ref u) q v) at os = known (λ (m : Made). IsDone c (typ (ref u) q v)) (from_values c w (typ (ref u) q v) at os) (λ m n a b e. absurd cc)
values_done c w (typ (array u k) q v) at os = known (λ (m : Made). IsDone c (typ (array u k) q v)) (from_values c w (typ (array u k) q v) at os)
    (λ m n a b e. absurd cc)
values_done c w (typ (func g) q v) at os = known (λ (m : Made). IsDone c (typ (func g) q v)) (from_values c w (typ (func g) q v) at os) (λ m n a b e. absurd cc)
values_done c w (typ (closure k) q v) at os = known (λ (m : Made). IsDone c (typ (closure k) q v)) (from_values c w (typ (closure k) q v) at os)
    (λ m n a b e. absurd cc)
values_done c w (typ (tx_ex u) q v) at os = known (λ (m : Made). IsDone c (typ (tx_ex u) q v)) (from_values c w (typ (tx_ex u) q v) at os)
    (λ m n a b e. absurd cc)

-- What is built, as an expression

-- at another place
stored_fits : (s : Setting) (p : Position) (at : At) (e : Tree) → fits s p Initialiser e ≡ true → fits s p Initialiser (stored_at at e) ≡ true
stored_fits s p at (node (Store k v) t cat q kids) h = h
stored_fits s p at (node kind t cat q kids) h = h

stored_head : (at : At) (e : Tree) → head_of (stored_at at e) ≡ head_of e
stored_head at (node (Store k v) t cat q kids) = refl
stored_head at (node kind t cat q kids) = refl

stored_copies : (at : At) (e : Tree) → copies_itself e ≡ true → copies_itself (stored_at at e) ≡ true
stored_copies at (node (Store k v) t cat q kids) h = refl
stored_copies at (node kind t cat q kids) h = h

-- one of a `std::tx_exception` is written with its value
exception_proper : (s : Setting) (c : Ctx) (at : At) (u : Typ) (q v : Bool) (e : Tree) → Makes s (typ (tx_ex u) q v) e
    → is_sound c.classes (typ (tx_ex u) q v) ≡ true → IsWhole c.classes (typ (tx_ex u) q v)
    → Proper s c (node Retype (typ (tx_ex u) q v) Prvalue at (one (stored_at at e)))
exception_proper s c at u q v e m i x = record {
  stands = record {
    typed = λ n. absurd cc;
    value = λ n. absurd cc;
    object = λ n p full. stored_fits s p at e (m.one.fits p full);
    built = λ n. ap (λ (z : Head). builds (typ (tx_ex u) q v) z) (stored_head at e) ∙ m.one.builds;
  };
  sound = i;
  nothing = λ y. refl;
  whole = λ n. x;
  copied = λ n. stored_copies at e m.copied;
}

-- what builds an object is no expression of another type
itself_built : (s : Setting) (e : Tree) → FitsAs s Initialiser e → builder e ≡ e
itself_built s (node Retype t cat at kids) h = clash _ false refl (fit_as s Initialiser Retype t cat at kids h).serves
itself_built s (node kind t cat at kids) h = refl

-- its type is that of the object, qualifiers apart
equal_form : (f : Form) (q v : Bool) (u : Typ) → typ_eq (typ f q v) u ≡ true → form_in u ≡ f
equal_form f q v u h = ap form_in (sym (typ_same (typ f q v) u h))

no_exception : (c : Ctx) (t : Typ) → is_exception_value c.classes t ≡ true → is_exception_form (form_in t) ≡ false
no_exception c t h = plain_exception (λ (u : Typ). is_exception_form (form_in u) ≡ false) c.classes t h by
  where
    by : (f : Form) → is_exception_value c.classes (plain f) ≡ true → is_exception_form f ≡ false
    by (tx_ex u) i = absurd cc
    by f i = refl

shape_form : (n : ℕ) (q v : Bool) (u : Typ) → same_shape (typ (class n) q v) u ≡ true → form_in u ≡ class n
shape_form n q v (typ g d w) h = sym (form_same (class n) g h)

lambda_form : (n : ℕ) (q v : Bool) (u : Typ) → same_shape (typ (closure n) q v) u ≡ true → form_in u ≡ closure n
lambda_form n q v (typ g d w) h = sym (form_same (closure n) g h)

exception_form : (t : Typ) (q v : Bool) (u : Typ) → same_shape (typ (tx_ex t) q v) u ≡ true → form_in u ≡ tx_ex t
exception_form t q v (typ g d w) h = sym (form_same (tx_ex t) g h)

class_form : (c : Ctx) (f : Form) (q v : Bool) (u : Typ) (g : Bool) → is_class_typ (typ f q v) ≡ true → is_sound_form c.classes f ≡ true
    → (is_exception_form f && not (is_exception_form (form_in u))) ≡ false
    → (typ_eq (typ f q v) u || typ_eq (without_exception (typ f q v)) u || (g && is_class_typ (typ f q v) && same_shape (typ f q v) u)) ≡ true
    → form_in u ≡ f
class_form c (class n) q v u g k i x h = or_case (form_in u ≡ class n) (typ_eq (typ (class n) q v) u || typ_eq (typ (class n) q v) u)
    (g && true && same_shape (typ (class n) q v) u) h
    (λ y. or_case (form_in u ≡ class n) (typ_eq (typ (class n) q v) u) (typ_eq (typ (class n) q v) u) y (equal_form (class n) q v u)
    (equal_form (class n) q v u))
    (λ y. shape_form n q v u (and_parts (g && true) (same_shape (typ (class n) q v) u) y).1)
class_form c (closure n) q v u g k i x h = or_case (form_in u ≡ closure n) (typ_eq (typ (closure n) q v) u || typ_eq (typ (closure n) q v) u)
    (g && true && same_shape (typ (closure n) q v) u) h
    (λ y. or_case (form_in u ≡ closure n) (typ_eq (typ (closure n) q v) u) (typ_eq (typ (closure n) q v) u) y (equal_form (closure n) q v u)
    (equal_form (closure n) q v u))
    (λ y. lambda_form n q v u (and_parts (g && true) (same_shape (typ (closure n) q v) u) y).1)
class_form c (tx_ex (typ b d w)) q v u g k i x h = or_case (form_in u ≡ tx_ex (typ b d w))
    (typ_eq (typ (tx_ex (typ b d w)) q v) u || typ_eq (typ b q v) u) (g && true && same_shape (typ (tx_ex (typ b d w)) q v) u) h
    (λ y. or_case (form_in u ≡ tx_ex (typ b d w)) (typ_eq (typ (tx_ex (typ b d w)) q v) u) (typ_eq (typ b q v) u) y (equal_form (tx_ex (typ b d w)) q v u)
    (λ z. clash (form_in u ≡ tx_ex (typ b d w)) (not (is_exception_form (form_in u))) x
    (ap not (ap is_exception_form (equal_form b q v u z) ∙ no_exception c (typ b d w) i))))
    (λ y. exception_form (typ b d w) q v u (and_parts (g && true) (same_shape (typ (tx_ex (typ b d w)) q v) u) y).1)
class_form c f q v u g k i x h = absurd cc

-- any other as it is
form_sound : (c : Ctx) (t : Typ) (f : Form) → form_in t ≡ f → is_sound_form c.classes f ≡ true → is_sound c.classes t ≡ true
form_sound c (typ g q v) f e h = ap (λ (z : Form). is_sound_form c.classes z) e ∙ h

form_class : (t : Typ) (f : Form) (q v : Bool) → form_in t ≡ f → is_class_typ (typ f q v) ≡ true → is_class_typ t ≡ true
form_class (typ g a b) f q v e h = ap (λ (z : Form). is_class_typ (typ z a b)) e ∙ h

built_proper : (s : Setting) (c : Ctx) (w : Work) (f : Form) (q v : Bool) (e : Tree) → Holds s c w → Makes s (typ f q v) e → is_class_typ (typ f q v) ≡ true
    → is_sound_form c.classes f ≡ true → IsDone c (typ f q v) → (is_exception_form f && not (is_exception_form (form_in (typ_in e)))) ≡ false → Proper s c e
built_proper s c w f q v e h m k i d x = proper_built s c e (record {
  typed = form_class (typ_in e) f q v form k;
  category = prvalue;
  sound = form_sound c (typ_in e) f form i;
  whole = class_whole s c w (typ_in e) h (form_sound c (typ_in e) f form i) (form_class (typ_in e) f q v form k)
      (λ n a b z. d n q v (ap (λ (g : Form). typ g q v) (sym form ∙ ap form_in z)));
  itself = itself_built s e m.one.fits;
  copied = m.copied;
  fits = m.one.fits;
  builds = own_builds e prvalue;
})
  where
    parts : (is_prvalue (head_of e).cat ≡ true) × ((typ_eq (typ f q v) (head_of e).typ || typ_eq (without_exception (typ f q v)) (head_of e).typ
        || (goes_both_ways (head_of e).kind && is_class_typ (typ f q v) && same_shape (typ f q v) (head_of e).typ)) ≡ true)
    parts = and_parts (is_prvalue (head_of e).cat) (typ_eq (typ f q v) (head_of e).typ || typ_eq (without_exception (typ f q v)) (head_of e).typ
        || (goes_both_ways (head_of e).kind && is_class_typ (typ f q v) && same_shape (typ f q v) (head_of e).typ)) m.one.builds

    prvalue_is : (cat : Cat) → is_prvalue cat ≡ true → cat ≡ Prvalue
    prvalue_is Prvalue y = refl
    prvalue_is Lvalue y = absurd cc

    prvalue : cat_of e ≡ Prvalue
    prvalue = sym (head_cat e) ∙ prvalue_is (head_of e).cat parts.0

    form : form_in (typ_in e) ≡ f
    form = class_form c f q v (typ_in e) (goes_both_ways (head_of e).kind) k i x
        (sym (ap (λ (u : Typ). typ_eq (typ f q v) u || typ_eq (without_exception (typ f q v)) u
        || (goes_both_ways (head_of e).kind && is_class_typ (typ f q v) && same_shape (typ f q v) u)) (head_typ e)) ∙ parts.1)

expression_by : (s : Setting) (c : Ctx) (w : Work) (at : At) (f : Form) (q v : Bool) (e : Tree) (b : Bool)
    → (is_exception_form f && not (is_exception_form (form_in (typ_in e)))) ≡ b → Holds s c w → Makes s (typ f q v) e → is_class_typ (typ f q v) ≡ true
    → is_sound_form c.classes f ≡ true → IsDone c (typ f q v) → Proper s c (if b then node Retype (typ f q v) Prvalue at (one (stored_at at e)) else e)
expression_by s c w at f q v e false x h m k i d = built_proper s c w f q v e h m k i d x
expression_by s c w at (tx_ex u) q v e true x h m k i d = exception_proper s c at u q v e m i (class_whole s c w (typ (tx_ex u) q v) h i refl d)
expression_by s c w at f q v e true x h m k i d = absurd cc

expression_made : (s : Setting) (c : Ctx) (w : Work) (at : At) (f : Form) (q v : Bool) (r : Result Made ElabFault) → Holds s c w → is_class_typ (typ f q v) ≡ true
    → is_sound_form c.classes f ≡ true → On (λ (m : Made). IsDone c (typ f q v)) r → On (λ (m : Made). Reaches s m.work → Makes s (typ f q v) m.tree) r
    → On (MadeStands s c) (and_then r (λ (m : Made). Ok (with_tree (as_expression at (typ f q v)) m)))
expression_made s c w at f q v (Ok m) h k i d g = λ r. expression_by s c w at f q v m.tree (is_exception_form f && not (is_exception_form (form_in (typ_in m.tree)))) refl h
    (g r) k i d
expression_made s c w at f q v (Err e) h k i d g = tt

-- a type of a class is one of what is initialised
class_initialised : (s : Setting) (c : Ctx) (w : Work) (f : Form) (q v : Bool) → Holds s c w → is_class_typ (typ f q v) ≡ true → is_sound_form c.classes f ≡ true
    → IsInitialised c (is_lambda c.classes) (typ f q v)
class_initialised s c w (class n) q v h k i = record { value = λ e. parameter_is s c w (typ (class n) q v) h i; object = λ e. object_typ_is s c w (typ (class n) q v) h i refl }
class_initialised s c w (closure n) q v h k i = record {
  value = λ e. parameter_is s c w (typ (closure n) q v) h i;
  object = λ e. object_typ_is s c w (typ (closure n) q v) h i refl;
}
class_initialised s c w (tx_ex u) q v h k i = record { value = λ e. parameter_is s c w (typ (tx_ex u) q v) h i; object = λ e. object_typ_is s c w (typ (tx_ex u) q v) h i refl }
class_initialised s c w f q v h k i = absurd cc

class_values : (s : Setting) (c : Ctx) (w : Work) (at : At) (f : Form) (q v : Bool) (os : List Operand) → Holds s c w → is_class_typ (typ f q v) ≡ true
    → is_sound_form c.classes f ≡ true → ProperOperands s c os
    → On (MadeStands s c) (and_then (from_values c w (typ f q v) at os) (λ (m : Made). Ok (with_tree (as_expression at (typ f q v)) m)))
class_values s c w at f q v os h k i x = expression_made s c w at f q v (from_values c w (typ f q v) at os) h k i (values_done c w (typ f q v) at os)
    (values_build s c _ w (typ f q v) at os h.setting h.makers (sources_of s c os x) (class_initialised s c w f q v h k i))

pub casts_stand : (s : Setting) (c : Ctx) (w : Work) (at : At) (t : Typ) (o : Operand) → Holds s c w → is_sound c.classes t ≡ true → ProperOperand s c o
    → On (MadeStands s c) (cast c w at t o)
casts_stand s c w at (typ (class n) q v) o h i x = class_values s c w at (class n) q v (o ∷ []) h refl i (ProperOperands.more x ProperOperands.none)
casts_stand s c w at (typ (closure n) q v) o h i x = class_values s c w at (closure n) q v (o ∷ []) h refl i (ProperOperands.more x ProperOperands.none)
casts_stand s c w at (typ (tx_ex u) q v) o h i x = class_values s c w at (tx_ex u) q v (o ∷ []) h refl i (ProperOperands.more x ProperOperands.none)
casts_stand s c w at (typ f q v) o h i x = scalar_casts s c w at (typ f q v) o h i refl x

functional_class : (s : Setting) (c : Ctx) (w : Work) (at : At) (f : Form) (q v : Bool) (os : List Operand) → Holds s c w → is_class_typ (typ f q v) ≡ true
    → is_sound_form c.classes f ≡ true → ProperOperands s c os → On (MadeStands s c) (functional c w at (typ f q v) os)
functional_class s c w at f q v [] h k i x = rw k (class_values s c w at f q v [] h k i x)
functional_class s c w at f q v (o ∷ []) h k i (ProperOperands.more x xs) = casts_stand s c w at (typ f q v) o h i x
functional_class s c w at f q v (o ∷ u ∷ os) h k i x = rw k (class_values s c w at f q v (o ∷ u ∷ os) h k i x)

pub functionals_stand : (s : Setting) (c : Ctx) (w : Work) (at : At) (t : Typ) (os : List Operand) → Holds s c w → is_sound c.classes t ≡ true
    → ProperOperands s c os → On (MadeStands s c) (functional c w at t os)
functionals_stand s c w at (typ (class n) q v) os h i x = functional_class s c w at (class n) q v os h refl i x
functionals_stand s c w at (typ (closure n) q v) os h i x = functional_class s c w at (closure n) q v os h refl i x
functionals_stand s c w at (typ (tx_ex u) q v) os h i x = functional_class s c w at (tx_ex u) q v os h refl i x
functionals_stand s c w at (typ f q v) os h i x = scalar_functionals s c w at (typ f q v) os h i refl x
