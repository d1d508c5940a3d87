-- Objects that casts make.
use Rattle.std.proofs.Common.{◌≡◌, refl, sym, ap, ◌∙◌, subst, ℕ, Bool, true, false, not, ◌&&◌, ◌||◌, List, [], ◌∷◌, Some, is_some, Result, Ok, Err}
use Rattle.std.proofs.lemmas.Bool.{and_parts}
use Rattle.std.specs.Prelude.{if◌then◌else◌}
use Rattle.elab_rules.specs.cpp_types.Typ.{Typ, typ, Form, void, int, enum, null, ptr, ref, array, func, class, closure, tx_ex}
use Rattle.elab_rules.specs.cpp_types.Class.{Class, completion_of}
use Rattle.elab_rules.specs.cpp_types.Equal.{typ_eq, form_eq}
use Rattle.elab_rules.specs.cpp_types.Conversion.{is_object_form}
use Rattle.elab_rules.specs.cpp_types.declared.classes.At.{At}
use Rattle.elab_rules.specs.cpp_types.declared.ranks.Cat.{Cat}
use Rattle.elab_rules.specs.cpp_types.declared.ranks.Cat.TheVariants.{Lvalue, Prvalue}
use Rattle.elab_rules.specs.cpp_tree.declared.faults.ElabFault.{ElabFault}
use Rattle.elab_rules.specs.cpp_tree.declared.kinds.TKind.{TKind}
use Rattle.elab_rules.specs.cpp_tree.declared.kinds.TKind.TheVariants.{Retype, Store}
use Rattle.elab_rules.specs.cpp_tree.declared.roles.Role.TheVariants.{Initialiser}
use Rattle.elab_rules.specs.cpp_tree.Trees.{Tree, node, Trees, one, typ_in}
use Rattle.elab_rules.specs.cpp_tree.Typing.{Head, head_of, form_in, builds, goes_both_ways}
use Rattle.elab_rules.specs.cpp_tree.Parts.{holds_complete}
use Rattle.elab_rules.specs.cpp_tree.Rows.{Setting}
use Rattle.elab_rules.specs.elab_ctx.Ctx.{Ctx, Work}
use Rattle.elab_rules.specs.elab_ctx.Steps.{and_then, Operand, Made}
use Rattle.elab_rules.specs.Values.{builder, is_exception_form}
use Rattle.elab_rules.specs.Objects.{traits_at}
use Rattle.elab_rules.specs.Initialising.{with_tree, from_values, from_nothing, makeable, default_by}
use Rattle.elab_rules.specs.Casts.{as_expression, stored_at}
use Rattle.elab_fits.specs.Standing.{FitsAs, IsExpressionType, Stands, IsSetting, Reaches, On}
use Rattle.elab_fits.specs.Objects.{is_single}
use Rattle.elab_fits.proofs.Equal.{typ_refl, typ_same, form_same}
use Rattle.elab_fits.proofs.Nodes.{or_left, clash}
use Rattle.elab_fits.proofs.Steps.{bind, known}
use Rattle.elab_fits_objects.specs.Contexts.{is_sorted, is_whole, copies_itself, IsObjectTyp, IsInitialised, HasMakers, AreSources}
use Rattle.elab_fits_objects.specs.Making.{Makes, IsSourceTree, CastsStand, FunctionalsStand}
use Rattle.elab_fits_objects.proofs.Classes.{Built}
use Rattle.elab_fits_objects.proofs.Exceptions.{value_single}
use Rattle.elab_fits_objects.proofs.Fits.{fit_as}
use Rattle.elab_fits_objects.proofs.Forms.{copies_other, single_plain}
use Rattle.elab_fits_objects.proofs.Types.{makeable_complete}
use Rattle.elab_fits_objects.proofs.Valued.{values_build}

-- What builds an object of a class has its form, or is the value in an exception

form_left : (a b c : Bool) → ((a || b) || c) ≡ true → b ≡ false → (a || c) ≡ true
form_left true b c h e = refl
form_left false true c h e = absurd cc
form_left false false c h e = h

same_form : (f g : Form) (d u q v : Bool) (kind : TKind) → (typ_eq (typ f q v) (typ g d u) || (goes_both_ways kind && true && form_eq f g)) ≡ true → f ≡ g
same_form f g d u q v kind h = by (typ_eq (typ f q v) (typ g d u)) refl h
  where
    by : (b : Bool) → typ_eq (typ f q v) (typ g d u) ≡ b → (b || (goes_both_ways kind && true && form_eq f g)) ≡ true → f ≡ g
    by true e j = ap form_in (typ_same (typ f q v) (typ g d u) e)
    by false e j = form_same f g (and_parts (goes_both_ways kind && true) (form_eq f g) j).1

-- an expression that initialises itself
itself_stands : (s : Setting) (f : Form) (d u : Bool) (kind : TKind) (at : At) (kids : Trees) → is_object_form f ≡ true
    → builder (node kind (typ f d u) Prvalue at kids) ≡ node kind (typ f d u) Prvalue at kids
    → FitsAs s Initialiser (node kind (typ f d u) Prvalue at kids) → Stands s (node kind (typ f d u) Prvalue at kids)
itself_stands s f d u kind at kids i b g = record {
  typed = prvalue_typed f i;
  value = λ h. clash _ (is_object_form f) h i;
  object = λ h. subst (λ (x : Tree). FitsAs s Initialiser x) (sym b) g;
  built = λ h. subst (λ (x : Tree). builds (typ f d u) (head_of x) ≡ true) (sym b) (or_left _ (or_left _ (typ_refl (typ f d u))));
}
  where
    prvalue_typed : (f : Form) → is_object_form f ≡ true → IsExpressionType (typ f d u) Prvalue
    prvalue_typed (class n) h = λ k. absurd cc
    prvalue_typed (closure n) h = λ k. absurd cc
    prvalue_typed (tx_ex t) h = λ k. absurd cc
    prvalue_typed f h = absurd cc

whole_alike : (classes : List Class) (f : Form) (q v d u : Bool) → is_object_form f ≡ true → is_whole classes (typ f q v) ≡ true
    → is_whole classes (typ f d u) ≡ true
whole_alike classes (class n) q v d u i h = h
whole_alike classes (closure n) q v d u i h = h
whole_alike classes (tx_ex (typ f x y)) q v d u i h = h
whole_alike classes f q v d u i h = absurd cc

unretyped : (s : Setting) (f : Form) (d u : Bool) (kind : TKind) (at : At) (kids : Trees) → FitsAs s Initialiser (node kind (typ f d u) Prvalue at kids)
    → builder (node kind (typ f d u) Prvalue at kids) ≡ node kind (typ f d u) Prvalue at kids
unretyped s f d u Retype at kids g = let h = (fit_as s Initialiser Retype (typ f d u) Prvalue at kids g).serves in absurd cc
unretyped s f d u kind at kids g = refl

module _ (s : Setting) (c : Ctx) (lambda : ℕ → Bool) where
  -- an object that has the form
  own_source : (f : Form) (d u q v : Bool) (kind : TKind) (at : At) (kids : Trees) → is_object_form f ≡ true → is_sorted lambda f ≡ true
      → is_whole c.classes (typ f q v) ≡ true → FitsAs s Initialiser (node kind (typ f d u) Prvalue at kids)
      → copies_itself (node kind (typ f d u) Prvalue at kids) ≡ true → IsSourceTree s c lambda (node kind (typ f d u) Prvalue at kids)
  own_source f d u q v kind at kids i sorted z g k = λ p. record {
    operand = record { stands = itself_stands s f d u kind at kids i (unretyped s f d u kind at kids g) g; zero = λ h. absurd cc };
    sorted = sorted;
    whole = λ h. whole_alike c.classes f q v d u i z;
    copied = ap copies_itself (unretyped s f d u kind at kids g) ∙ k;
  }

  pub class_source : (f : Form) (q v : Bool) (e : Tree) → is_object_form f ≡ true → is_exception_form f ≡ false → is_sorted lambda f ≡ true
      → is_whole c.classes (typ f q v) ≡ true → Makes s (typ f q v) e → IsSourceTree s c lambda e
  class_source f q v (node kind (typ g d u) Lvalue at kids) i n sorted z h = let b = h.one.builds in absurd cc
  class_source f q v (node kind (typ g d u) Prvalue at kids) i n sorted z h =
      let o : f ≡ g = form_by f g kind i n h.one.builds in
      let y = h.one.fits in let k = h.copied in
      subst (λ (x : Form). FitsAs s Initialiser (node kind (typ x d u) Prvalue at kids) → copies_itself (node kind (typ x d u) Prvalue at kids) ≡ true
      → IsSourceTree s c lambda (node kind (typ x d u) Prvalue at kids)) o
      (λ a b. own_source f d u q v kind at kids i sorted z a b) y k
    where
      form_by : (f g : Form) (kind : TKind) → is_object_form f ≡ true → is_exception_form f ≡ false
          → builds (typ f q v) (head_of (node kind (typ g d u) Prvalue at kids)) ≡ true → f ≡ g
      form_by (class m) g kind i n b = same_form (class m) g d u q v kind (twice (typ_eq (typ (class m) q v) (typ g d u)) _ b)
        where
          twice : (x y : Bool) → ((x || x) || y) ≡ true → (x || y) ≡ true
          twice true y j = refl
          twice false y j = j
      form_by (closure m) g kind i n b = same_form (closure m) g d u q v kind (twice (typ_eq (typ (closure m) q v) (typ g d u)) _ b)
        where
          twice : (x y : Bool) → ((x || x) || y) ≡ true → (x || y) ≡ true
          twice true y j = refl
          twice false y j = j
      form_by (tx_ex t) g kind i n b = absurd cc
      form_by void g kind i n b = absurd cc
      form_by (int j) g kind i n b = absurd cc
      form_by (enum x y) g kind i n b = absurd cc
      form_by null g kind i n b = absurd cc
      form_by (ptr t) g kind i n b = absurd cc
      form_by (ref t) g kind i n b = absurd cc
      form_by (array t x) g kind i n b = absurd cc
      form_by (func t) g kind i n b = absurd cc

  -- An exception: what builds the value in it says so

  stored_fits : (at : At) (kind : TKind) (t : Typ) (cat : Cat) (p : At) (kids : Trees) → FitsAs s Initialiser (node kind t cat p kids)
      → FitsAs s Initialiser (stored_at at (node kind t cat p kids))
  stored_fits at (Store k v) t cat p kids h = h
  stored_fits at kind t cat p kids h = h

  stored_head : (at : At) (kind : TKind) (t : Typ) (cat : Cat) (p : At) (kids : Trees)
      → head_of (stored_at at (node kind t cat p kids)) ≡ record { kind = kind; typ = t; cat = cat }
  stored_head at (Store k v) t cat p kids = refl
  stored_head at kind t cat p kids = refl

  stored_typ : (at : At) (kind : TKind) (t : Typ) (cat : Cat) (p : At) (kids : Trees) → typ_in (stored_at at (node kind t cat p kids)) ≡ t
  stored_typ at (Store k v) t cat p kids = refl
  stored_typ at kind t cat p kids = refl

  retyped_source : (f : Form) (d x q v : Bool) (at : At) (kind : TKind) (t : Typ) (p : At) (kids : Trees) → is_exception_form (form_in t) ≡ false
      → is_sorted lambda f ≡ true → is_whole c.classes (typ (tx_ex (typ f d x)) q v) ≡ true → FitsAs s Initialiser (node kind t Prvalue p kids)
      → builds (typ (tx_ex (typ f d x)) q v) (record { kind = kind; typ = t; cat = Prvalue }) ≡ true
      → IsSourceTree s c lambda (node Retype (typ (tx_ex (typ f d x)) q v) Prvalue at (one (stored_at at (node kind t Prvalue p kids))))
  retyped_source f d x q v at kind t p kids n sorted z g b = λ place. record {
    operand = record {
      stands = record {
        typed = λ k. absurd cc;
        value = λ h. absurd cc;
        object = λ h. stored_fits at kind t Prvalue p kids g;
        built = λ h. subst (λ (y : Head). builds (typ (tx_ex (typ f d x)) q v) y ≡ true) (sym (stored_head at kind t Prvalue p kids)) b;
      };
      zero = λ h. absurd cc;
    };
    sorted = sorted;
    whole = λ h. z;
    copied = copies_other (stored_at at (node kind t Prvalue p kids)) (ap (λ (y : Typ). is_exception_form (form_in y)) (stored_typ at kind t Prvalue p kids) ∙ n);
  }

  no_value : (f g : Form) (q v a b : Bool) → is_exception_form f ≡ false → is_exception_form g ≡ true → typ_eq (typ f q v) (typ g a b) ≡ false
  no_value f g q v a b n k = by (typ_eq (typ f q v) (typ g a b)) refl
    where
      by : (m : Bool) → typ_eq (typ f q v) (typ g a b) ≡ m → m ≡ false
      by false e = refl
      by true e = clash _ (is_exception_form f) n (ap is_exception_form (ap form_in (typ_same (typ f q v) (typ g a b) e)) ∙ k)

  exception_by : (f : Form) (d x q v : Bool) (kind : TKind) (g : Form) (a b : Bool) (p at : At) (kids : Trees) (k : Bool) → is_exception_form g ≡ k
      → is_single f ≡ true → is_sorted lambda f ≡ true → is_whole c.classes (typ (tx_ex (typ f d x)) q v) ≡ true
      → Makes s (typ (tx_ex (typ f d x)) q v) (node kind (typ g a b) Prvalue p kids)
      → IsSourceTree s c lambda (if not k then node Retype (typ (tx_ex (typ f d x)) q v) Prvalue at (one (stored_at at
      (node kind (typ g a b) Prvalue p kids))) else node kind (typ g a b) Prvalue p kids)
  exception_by f d x q v kind g a b p at kids true n i sorted z h =
      let o : tx_ex (typ f d x) ≡ g = same_form (tx_ex (typ f d x)) g a b q v kind
      (form_left (typ_eq (typ (tx_ex (typ f d x)) q v) (typ g a b)) (typ_eq (typ f q v) (typ g a b))
      (goes_both_ways kind && true && form_eq (tx_ex (typ f d x)) g) h.one.builds (no_value f g q v a b (single_plain f i) n)) in
      let y = h.one.fits in let k = h.copied in
      subst (λ (e : Form). FitsAs s Initialiser (node kind (typ e a b) Prvalue p kids) → copies_itself (node kind (typ e a b) Prvalue p kids) ≡ true
      → IsSourceTree s c lambda (node kind (typ e a b) Prvalue p kids)) o
      (λ l m. own_source (tx_ex (typ f d x)) a b q v kind p kids refl sorted z l m) y k
  exception_by f d x q v kind g a b p at kids false n i sorted z h =
      retyped_source f d x q v at kind (typ g a b) p kids n sorted z h.one.fits h.one.builds

  exception_source : (f : Form) (d x q v : Bool) (e : Tree) (at : At) → is_sorted lambda f ≡ true → is_whole c.classes (typ (tx_ex (typ f d x)) q v) ≡ true
      → Makes s (typ (tx_ex (typ f d x)) q v) e → IsSourceTree s c lambda (as_expression at (typ (tx_ex (typ f d x)) q v) e)
  exception_source f d x q v (node kind (typ g a b) Lvalue p kids) at sorted z h = let y = h.one.builds in absurd cc
  exception_source f d x q v (node kind (typ g a b) Prvalue p kids) at sorted z h =
      exception_by f d x q v kind g a b p at kids (is_exception_form g) refl (value_single c.classes f d x q v z) sorted z h

  -- Casts

  completed : (w : Work) (f : Form) (q v : Bool) (at : At) (os : List Operand) → is_object_form f ≡ true → IsObjectTyp c lambda (typ f q v)
      → On (λ (m : Made). holds_complete c.classes f ≡ true) (from_values c w (typ f q v) at os)
  completed w (class n) q v at [] i t = bind (λ (e : Tree). holds_complete c.classes (class n) ≡ true) (λ (m : Made). holds_complete c.classes (class n) ≡ true)
      (from_nothing c (typ (class n) q v) at) _
      (bind (λ (k : ℕ). completion_of c.classes n ≡ Some k) (λ (e : Tree). holds_complete c.classes (class n) ≡ true) (makeable c at n) _
      (makeable_complete c at n) (λ k e. known (λ (y : Tree). holds_complete c.classes (class n) ≡ true)
      (default_by c (typ (class n) q v) at (traits_at c n).default) (λ y. ap is_some e)))
      (λ e h. h)
  completed w (class n) q v at (o ∷ os) i t = bind (λ (k : ℕ). completion_of c.classes n ≡ Some k) (λ (m : Made). holds_complete c.classes (class n) ≡ true)
      (makeable c at n) _ (makeable_complete c at n) (λ k e. known (λ (m : Made). holds_complete c.classes (class n) ≡ true) _ (λ m. ap is_some e))
  completed w (closure n) q v at os i t =
      known (λ (m : Made). holds_complete c.classes (closure n) ≡ true) (from_values c w (typ (closure n) q v) at os) (λ m. t.complete refl)
  completed w (tx_ex u) q v at os i t =
      known (λ (m : Made). holds_complete c.classes (tx_ex u) ≡ true) (from_values c w (typ (tx_ex u) q v) at os) (λ m. t.complete refl)
  completed w void q v at os i t = absurd cc
  completed w (int j) q v at os i t = absurd cc
  completed w (enum n e) q v at os i t = absurd cc
  completed w null q v at os i t = absurd cc
  completed w (ptr u) q v at os i t = absurd cc
  completed w (ref u) q v at os i t = absurd cc
  completed w (array u n) q v at os i t = absurd cc
  completed w (func g) q v at os i t = absurd cc

  class_initialised : (f : Form) (q v : Bool) → is_object_form f ≡ true → IsObjectTyp c lambda (typ f q v) → IsInitialised c lambda (typ f q v)
  class_initialised (class n) q v i t = record {
    value = λ e. record { formed = refl; referred = λ u k. absurd cc; object = λ k. t };
    object = λ e. t;
  }
  class_initialised (closure n) q v i t = record {
    value = λ e. record { formed = refl; referred = λ u k. absurd cc; object = λ k. t };
    object = λ e. t;
  }
  class_initialised (tx_ex u) q v i t = record {
    value = λ e. record { formed = refl; referred = λ u k. absurd cc; object = λ k. t };
    object = λ e. t;
  }
  class_initialised void q v i t = absurd cc
  class_initialised (int j) q v i t = absurd cc
  class_initialised (enum n e) q v i t = absurd cc
  class_initialised null q v i t = absurd cc
  class_initialised (ptr u) q v i t = absurd cc
  class_initialised (ref u) q v i t = absurd cc
  class_initialised (array u n) q v i t = absurd cc
  class_initialised (func g) q v i t = absurd cc

  expression_source : (f : Form) (q v : Bool) (at : At) (e : Tree) → is_object_form f ≡ true → IsObjectTyp c lambda (typ f q v) → holds_complete c.classes f ≡ true
      → Makes s (typ f q v) e → IsSourceTree s c lambda (as_expression at (typ f q v) e)
  expression_source (class n) q v at e i t k h = class_source (class n) q v e refl refl t.sorted (t.whole k) h
  expression_source (closure n) q v at e i t k h = class_source (closure n) q v e refl refl t.sorted (t.whole k) h
  expression_source (tx_ex (typ f d x)) q v at e i t k h = exception_source f d x q v e at t.sorted (t.whole k) h
  expression_source void q v at e i t k h = absurd cc
  expression_source (int j) q v at e i t k h = absurd cc
  expression_source (enum n y) q v at e i t k h = absurd cc
  expression_source null q v at e i t k h = absurd cc
  expression_source (ptr u) q v at e i t k h = absurd cc
  expression_source (ref u) q v at e i t k h = absurd cc
  expression_source (array u n) q v at e i t k h = absurd cc
  expression_source (func g) q v at e i t k h = absurd cc

  abbrev Source : Made → Type 0
  Source m = Reaches s m.work → IsSourceTree s c lambda m.tree

  sources_by : (f : Form) (q v : Bool) (at : At) (r : Result Made ElabFault) → is_object_form f ≡ true → IsObjectTyp c lambda (typ f q v) → On (Built s (typ f q v)) r
      → On (λ (m : Made). holds_complete c.classes f ≡ true) r
      → On Source (and_then r (λ (m : Made). Ok (with_tree (as_expression at (typ f q v)) m)))
  sources_by f q v at (Ok m) i t h k = λ reached. expression_source f q v at m.tree i t k (h reached)
  sources_by f q v at (Err e) i t h k = tt

  object_cast : (w : Work) (f : Form) (q v : Bool) (at : At) (os : List Operand) → IsSetting s c → HasMakers c lambda → AreSources s c lambda os → is_object_form f ≡ true
      → IsObjectTyp c lambda (typ f q v)
      → On Source (and_then (from_values c w (typ f q v) at os) (λ (m : Made). Ok (with_tree (as_expression at (typ f q v)) m)))
  object_cast w f q v at os i m h k t = sources_by f q v at (from_values c w (typ f q v) at os) k t
      (values_build s c lambda w (typ f q v) at os i m h (class_initialised f q v k t)) (completed w f q v at os k t)

pub casts_stand : CastsStand
casts_stand s c lambda w at (typ (class n) q v) o i m h k t =
    object_cast s c lambda w (class n) q v at (o ∷ []) i m (h, tt) refl t
casts_stand s c lambda w at (typ (closure n) q v) o i m h k t =
    object_cast s c lambda w (closure n) q v at (o ∷ []) i m (h, tt) refl t
casts_stand s c lambda w at (typ (tx_ex u) q v) o i m h k t =
    object_cast s c lambda w (tx_ex u) q v at (o ∷ []) i m (h, tt) refl t
casts_stand s c lambda w at (typ f q v) o i m h k t = absurd cc

pub functionals_stand : FunctionalsStand
functionals_stand s c lambda w at t (o ∷ []) i m h k z = casts_stand s c lambda w at t o i m h.0 k z
functionals_stand s c lambda w at (typ (class n) q v) [] i m h k t =
    object_cast s c lambda w (class n) q v at [] i m h refl t
functionals_stand s c lambda w at (typ (closure n) q v) [] i m h k t =
    object_cast s c lambda w (closure n) q v at [] i m h refl t
functionals_stand s c lambda w at (typ (tx_ex u) q v) [] i m h k t =
    object_cast s c lambda w (tx_ex u) q v at [] i m h refl t
functionals_stand s c lambda w at (typ f q v) [] i m h k t = absurd cc
functionals_stand s c lambda w at (typ (class n) q v) (o ∷ p ∷ os) i m h k t =
    object_cast s c lambda w (class n) q v at (o ∷ p ∷ os) i m h refl t
functionals_stand s c lambda w at (typ (closure n) q v) (o ∷ p ∷ os) i m h k t =
    object_cast s c lambda w (closure n) q v at (o ∷ p ∷ os) i m h refl t
functionals_stand s c lambda w at (typ (tx_ex u) q v) (o ∷ p ∷ os) i m h k t =
    object_cast s c lambda w (tx_ex u) q v at (o ∷ p ∷ os) i m h refl t
functionals_stand s c lambda w at (typ f q v) (o ∷ p ∷ os) i m h k t = absurd cc
