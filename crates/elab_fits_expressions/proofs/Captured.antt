-- What lambdas capture, by its type.
use Rattle.std.proofs.Common.{◌≡◌, refl, sym, ap, ◌∙◌, subst, ℕ, Bool, true, false, not, ◌&&◌, ◌||◌, List, Option, Some, None, unwrap_or, slice_get}
use Rattle.std.proofs.Common.{Result, Ok, Err, eq-eqb}
use Rattle.std.specs.Prelude.{if◌then◌else◌}
use Rattle.elab_rules.specs.cpp_types.Typ.{Typ, typ, Form, void, int, enum, null, ptr, ref, array, func, class, closure, tx_ex}
use Rattle.elab_rules.specs.cpp_types.Class.{Class}
use Rattle.elab_rules.specs.cpp_types.Conversion.{is_object_form, decayed, referred}
use Rattle.elab_rules.specs.cpp_types.declared.classes.At.{At}
use Rattle.elab_rules.specs.cpp_types.declared.ranks.Cat.TheVariants.{Lvalue}
use Rattle.elab_rules.specs.cpp_tree.declared.kinds.TKind.TheVariants.{Local}
use Rattle.elab_rules.specs.cpp_tree.declared.faults.ElabFault.{ElabFault}
use Rattle.elab_rules.specs.cpp_tree.declared.faults.IllRule.TheVariants.{UnknownName, BadInit}
use Rattle.elab_rules.specs.cpp_tree.Notation.{plain}
use Rattle.elab_rules.specs.cpp_tree.Trees.{Tree, node, none, typ_in, cat_of}
use Rattle.elab_rules.specs.cpp_tree.Typing.{form_in, is_class_typ, same_shape}
use Rattle.elab_rules.specs.cpp_tree.Rows.{Setting}
use Rattle.elab_rules.specs.elab_ctx.Ctx.{Ctx, Work, Variable, This, Capture, Lambda}
use Rattle.elab_rules.specs.Names.{held_by, is_pointer, variable_tree, item_at, variable_in, this_in, this_tree, is_outer}
use Rattle.elab_rules.specs.Lambdas.{copied_as, captured_as}
use Rattle.elab_rules.specs.Objects.{is_array}
use Rattle.elab_rules.specs.Expressions.{capture_source}
use Rattle.elab_fits.specs.Standing.{Reaches, On}
use Rattle.elab_fits.specs.Scalars.{is_scalar}
use Rattle.elab_fits.proofs.Equal.{form_refl}
use Rattle.elab_fits.proofs.Nodes.{both, or_left}
use Rattle.elab_fits.proofs.Steps.{expected}
use Rattle.elab_fits_objects.specs.Capturing.{IsCaptured}
use Rattle.elab_fits_objects.specs.Contexts.{refers, IsObjectTyp}
use Rattle.elab_fits_objects.specs.Making.{IsSourceTree}
use Rattle.elab_fits_forms.specs.Types.{is_target, is_declared, is_lambda}
use Rattle.elab_fits_forms.specs.Meaning.{Proper}
use Rattle.elab_fits_forms.specs.Context.{Holds}
use Rattle.elab_fits_forms.specs.Expressions.{IsCapturedVariable, IsCapturedThis, IsCapture}
use Rattle.elab_fits_forms.proofs.Sources.{object_typ_is, source_of}
use Rattle.elab_fits_forms.proofs.Types.{target_no_void}
use Rattle.elab_fits_forms.proofs.Variables.{IsThisTree, variable_stands, this_tree_is}

-- Types

shape_refl : (t : Typ) → same_shape t t ≡ true
shape_refl (typ (array t n) c v) = both (eq-eqb n n refl) (shape_refl t)
shape_refl (typ void c v) = refl
shape_refl (typ (int k) c v) = form_refl (int k)
shape_refl (typ (enum n s) c v) = form_refl (enum n s)
shape_refl (typ null c v) = refl
shape_refl (typ (ptr t) c v) = form_refl (ptr t)
shape_refl (typ (ref t) c v) = form_refl (ref t)
shape_refl (typ (func s) c v) = form_refl (func s)
shape_refl (typ (class n) c v) = form_refl (class n)
shape_refl (typ (closure n) c v) = form_refl (closure n)
shape_refl (typ (tx_ex t) c v) = form_refl (tx_ex t)

-- the type of a capture of what has this type
abbrev capture_of : Bool → Typ → Typ
capture_of true u = plain (ref u)
capture_of false u = copied_as u

capture_is : (b : Bool) (t : Typ) → captured_as b t ≡ capture_of b (referred t)
capture_is true t = refl
capture_is false t = refl

referred_target : (classes : List Class) (t : Typ) → is_declared classes t ≡ true → is_target classes (referred t) ≡ true
referred_target classes (typ void c v) h = absurd cc
referred_target classes (typ (ref t) c v) h = h
referred_target classes (typ (int k) c v) h = h
referred_target classes (typ (enum n s) c v) h = h
referred_target classes (typ null c v) h = h
referred_target classes (typ (ptr t) c v) h = h
referred_target classes (typ (array t n) c v) h = h
referred_target classes (typ (func s) c v) h = h
referred_target classes (typ (class n) c v) h = h
referred_target classes (typ (closure n) c v) h = h
referred_target classes (typ (tx_ex t) c v) h = h

abbrev pub is_capture_form : Typ → Bool
is_capture_form t = is_scalar (form_in t) || refers (form_in t) || is_object_form (form_in t) || is_array t

capture_formed : (classes : List Class) (b : Bool) (u : Typ) → is_target classes u ≡ true → is_capture_form (capture_of b u) ≡ true
capture_formed classes true u h = or_left _ (or_left _ (ap not (target_no_void classes u h)))
capture_formed classes false (typ void c v) h = absurd cc
capture_formed classes false (typ (ref t) c v) h = absurd cc
capture_formed classes false (typ (int k) c v) h = refl
capture_formed classes false (typ (enum n s) c v) h = refl
capture_formed classes false (typ null c v) h = refl
capture_formed classes false (typ (ptr t) c v) h = refl
capture_formed classes false (typ (array t n) c v) h = refl
capture_formed classes false (typ (func s) c v) h = refl
capture_formed classes false (typ (class n) c v) h = refl
capture_formed classes false (typ (closure n) c v) h = refl
capture_formed classes false (typ (tx_ex t) c v) h = refl

capture_object : (s : Setting) (c : Ctx) (w : Work) (b : Bool) (u : Typ) → Holds s c w → is_target c.classes u ≡ true
    → is_object_form (form_in (capture_of b u)) ≡ true → IsObjectTyp c (is_lambda c.classes) (capture_of b u)
capture_object s c w true u h i k = absurd cc
capture_object s c w false (typ void q v) h i k = absurd cc
capture_object s c w false (typ (ref t) q v) h i k = absurd cc
capture_object s c w false (typ (int j) q v) h i k = absurd cc
capture_object s c w false (typ (enum n e) q v) h i k = absurd cc
capture_object s c w false (typ null q v) h i k = absurd cc
capture_object s c w false (typ (ptr t) q v) h i k = absurd cc
capture_object s c w false (typ (array t n) q v) h i k = absurd cc
capture_object s c w false (typ (func g) q v) h i k = absurd cc
capture_object s c w false (typ (class n) q v) h i k = object_typ_is s c w (typ (class n) q v) h i refl
capture_object s c w false (typ (closure n) q v) h i k = object_typ_is s c w (typ (closure n) q v) h i refl
capture_object s c w false (typ (tx_ex t) q v) h i k = object_typ_is s c w (typ (tx_ex t) q v) h i refl

-- Trees

reference_is : (t u : Typ) → ref t ≡ ref u → t ≡ u
reference_is t u h = cc

pub source_tree : (s : Setting) (c : Ctx) (e : Tree) → Proper s c e → IsSourceTree s c (is_lambda c.classes) e
source_tree s c e p = λ at. source_of s c (record { tree = e; at = at; zero = false }) (record { proper = p; zero = λ z. absurd cc })

-- the tree of a variable has the type of the object, and is an lvalue
record IsOf (u : Typ) (e : Tree) : Type 0 where
  typed : typ_in e ≡ u
  category : cat_of e ≡ Lvalue

module _ (s : Setting) (c : Ctx) (e : Tree) (p : Proper s c e) where
  reference_captured : (u : Typ) → IsOf u e → IsCaptured s c (is_lambda c.classes) (plain (ref u)) e
  reference_captured u h = record {
    source = source_tree s c e p;
    referred = λ t d. record { typed = h.typed ∙ reference_is u t d; category = h.category };
    array = λ k. absurd cc;
    scalar = λ k. absurd cc;
  }

  scalar_captured : (f : Form) (q v : Bool) → is_scalar f ≡ true → IsOf (typ f q v) e → IsCaptured s c (is_lambda c.classes) (typ f q v) e
  scalar_captured (int j) q v i h = record {
    source = source_tree s c e p;
    referred = λ t d. absurd cc;
    array = λ k. absurd cc;
    scalar = λ k. ap decayed h.typed;
  }
  scalar_captured (enum n x) q v i h = record {
    source = source_tree s c e p;
    referred = λ t d. absurd cc;
    array = λ k. absurd cc;
    scalar = λ k. ap decayed h.typed;
  }
  scalar_captured null q v i h = record {
    source = source_tree s c e p;
    referred = λ t d. absurd cc;
    array = λ k. absurd cc;
    scalar = λ k. ap decayed h.typed;
  }
  scalar_captured (ptr u) q v i h = record {
    source = source_tree s c e p;
    referred = λ t d. absurd cc;
    array = λ k. absurd cc;
    scalar = λ k. ap decayed h.typed;
  }
  scalar_captured f q v i h = absurd cc

  object_captured : (f : Form) (q v : Bool) → is_object_form f ≡ true → IsCaptured s c (is_lambda c.classes) (typ f q v) e
  object_captured (class n) q v i = record {
    source = source_tree s c e p;
    referred = λ t d. absurd cc;
    array = λ k. absurd cc;
    scalar = λ k. absurd cc;
  }
  object_captured (closure n) q v i = record {
    source = source_tree s c e p;
    referred = λ t d. absurd cc;
    array = λ k. absurd cc;
    scalar = λ k. absurd cc;
  }
  object_captured (tx_ex t) q v i = record {
    source = source_tree s c e p;
    referred = λ t d. absurd cc;
    array = λ k. absurd cc;
    scalar = λ k. absurd cc;
  }
  object_captured f q v i = absurd cc

  variable_captured : (b : Bool) (u : Typ) → is_target c.classes u ≡ true → IsOf u e → IsCaptured s c (is_lambda c.classes) (capture_of b u) e
  variable_captured true u i h = reference_captured u h
  variable_captured false (typ void q v) i h = absurd cc
  variable_captured false (typ (ref t) q v) i h = absurd cc
  variable_captured false (typ (func g) q v) i h = reference_captured (typ (func g) q v) h
  variable_captured false (typ (array t n) q v) i h = record {
    source = source_tree s c e p;
    referred = λ u d. absurd cc;
    array = λ k. record {
      shape = ap (λ (u : Typ). same_shape (typ (array t n) q v) u) h.typed ∙ shape_refl (typ (array t n) q v);
      category = h.category;
    };
    scalar = λ k. absurd cc;
  }
  variable_captured false (typ (int j) q v) i h = scalar_captured (int j) q v refl h
  variable_captured false (typ (enum n x) q v) i h = scalar_captured (enum n x) q v refl h
  variable_captured false (typ null q v) i h = scalar_captured null q v refl h
  variable_captured false (typ (ptr t) q v) i h = scalar_captured (ptr t) q v refl h
  variable_captured false (typ (class n) q v) i h = object_captured (class n) q v refl
  variable_captured false (typ (closure n) q v) i h = object_captured (closure n) q v refl
  variable_captured false (typ (tx_ex t) q v) i h = object_captured (tx_ex t) q v refl

-- Variables of the function at hand

place_is : (at : At) (place : ℕ) (t item : Typ) (b : Bool) → IsOf t (if b then held_by t item at place else node (Local place) t Lvalue at none)
place_is at place t item true = record { typed = refl; category = refl }
place_is at place t item false = record { typed = refl; category = refl }

tree_is : (at : At) (place : ℕ) (item t : Typ) → IsOf (referred t) (variable_tree at place item t)
tree_is at place item (typ (ref t) q v) = record { typed = refl; category = refl }
tree_is at place item (typ void q v) = place_is at place (typ void q v) item (is_class_typ (typ void q v) && is_pointer item)
tree_is at place item (typ (int k) q v) = place_is at place (typ (int k) q v) item (is_class_typ (typ (int k) q v) && is_pointer item)
tree_is at place item (typ (enum n e) q v) = place_is at place (typ (enum n e) q v) item (is_class_typ (typ (enum n e) q v) && is_pointer item)
tree_is at place item (typ null q v) = place_is at place (typ null q v) item (is_class_typ (typ null q v) && is_pointer item)
tree_is at place item (typ (ptr t) q v) = place_is at place (typ (ptr t) q v) item (is_class_typ (typ (ptr t) q v) && is_pointer item)
tree_is at place item (typ (array t n) q v) = place_is at place (typ (array t n) q v) item (is_class_typ (typ (array t n) q v) && is_pointer item)
tree_is at place item (typ (func g) q v) = place_is at place (typ (func g) q v) item (is_class_typ (typ (func g) q v) && is_pointer item)
tree_is at place item (typ (class n) q v) = place_is at place (typ (class n) q v) item (is_class_typ (typ (class n) q v) && is_pointer item)
tree_is at place item (typ (closure n) q v) = place_is at place (typ (closure n) q v) item (is_class_typ (typ (closure n) q v) && is_pointer item)
tree_is at place item (typ (tx_ex t) q v) = place_is at place (typ (tx_ex t) q v) item (is_class_typ (typ (tx_ex t) q v) && is_pointer item)

some_is : {A : Type 0} (a b : A) (o : Option A) → o ≡ Some a → o ≡ Some b → a ≡ b
some_is {A} a b o h g = ap (λ (x : Option A). unwrap_or x a) (sym h ∙ g)

variable_is : (c : Ctx) (w : Work) (at : At) (x : Capture) (i : ℕ) → (y : IsCapturedVariable c x i) → On (IsOf (referred y.typ)) (variable_in c w at i None)
variable_is c w at x i y = expected (IsOf (referred y.typ)) at UnknownName (slice_get c.variables i) _
    (λ v f. expected (IsOf (referred y.typ)) at BadInit v.typ _
    (λ t g. let a : v ≡ y.variable = some_is v y.variable (slice_get c.variables i) f y.at in
    let b : t ≡ y.typ = some_is t y.typ v.typ g (ap (λ (k : Variable). k.typ) a ∙ y.known) in
    subst (λ (k : Typ). IsOf (referred k) (variable_tree at v.place (item_at w v.place t) t)) b (tree_is at v.place (item_at w v.place t) t)))

own_stands : (s : Setting) (c : Ctx) (w : Work) (at : At) (i : ℕ) → c.lambda ≡ None → Holds s c w → Reaches s w → On (Proper s c) (variable_in c w at i None)
own_stands s c w at i e h r =
    subst (λ (o : Option Lambda). On (Proper s c) (variable_in c w at i (is_outer i o))) e (variable_stands s c w at i h r)

two_of : {A : Type 0} (P Q R : A → Type 0) (r : Result A ElabFault) → On P r → On Q r → ((a : A) → P a → Q a → R a) → On R r
two_of {A} P Q R (Ok a) h g f = f a h g
two_of {A} P Q R (Err e) h g f = tt

-- `this`

this_typed : (c : Ctx) (at : At) (t : This) (o : Option Lambda) → o ≡ None → c.this ≡ Some t → On (λ (e : Tree). typ_in e ≡ plain (ptr t.typ)) (this_in c at o)
this_typed c at t None e h = expected (λ (x : Tree). typ_in x ≡ plain (ptr t.typ)) at UnknownName c.this _
    (λ u g. ap (λ (k : This). plain (ptr k.typ)) (some_is u t c.this g h))
this_typed c at t (Some l) e h = absurd cc

pointer_captured : (s : Setting) (c : Ctx) (e : Tree) (u : Typ) → Proper s c e → typ_in e ≡ plain (ptr u)
    → IsCaptured s c (is_lambda c.classes) (plain (ptr u)) e
pointer_captured s c e u p d = record {
  source = source_tree s c e p;
  referred = λ t k. absurd cc;
  array = λ k. absurd cc;
  scalar = λ k. ap decayed d;
}

-- A capture: its type, and what it is made of

pub record IsTaken (s : Setting) (c : Ctx) (x : Capture) : Type 0 where
  pub formed : is_capture_form x.typ ≡ true
  pub object : is_object_form (form_in x.typ) ≡ true → IsObjectTyp c (is_lambda c.classes) x.typ
  pub source : (w : Work) → Holds s c w → Reaches s w → On (IsCaptured s c (is_lambda c.classes) x.typ) (capture_source c w x x.variable)

variable_taken : (s : Setting) (c : Ctx) (w : Work) (x : Capture) (i : ℕ) → c.lambda ≡ None → Holds s c w → x.variable ≡ Some i → IsCapturedVariable c x i
    → IsTaken s c x
variable_taken s c w x i o h e y =
    let outer : is_outer i c.lambda ≡ None = ap (λ (k : Option Lambda). is_outer i k) o in
    let d = h.variables i y.variable y.typ outer y.at y.known in
    let t : is_target c.classes (referred y.typ) ≡ true = referred_target c.classes y.typ d.declared in
    let k : capture_of x.by_ref (referred y.typ) ≡ x.typ = sym (y.is ∙ capture_is x.by_ref y.typ) in
    record {
      formed = subst (λ (u : Typ). is_capture_form u ≡ true) k (capture_formed c.classes x.by_ref (referred y.typ) t);
      object = subst (λ (u : Typ). is_object_form (form_in u) ≡ true → IsObjectTyp c (is_lambda c.classes) u) k
          (capture_object s c w x.by_ref (referred y.typ) h t);
      source = λ z held reached. subst (λ (u : Typ). On (IsCaptured s c (is_lambda c.classes) u) (capture_source c z x x.variable)) k
          (subst (λ (v : Option ℕ). On (IsCaptured s c (is_lambda c.classes) (capture_of x.by_ref (referred y.typ))) (capture_source c z x v)) (sym e)
          (two_of (Proper s c) (IsOf (referred y.typ)) (IsCaptured s c (is_lambda c.classes) (capture_of x.by_ref (referred y.typ)))
          (variable_in c z x.at i None) (own_stands s c z x.at i o held reached) (variable_is c z x.at x i y)
          (λ a p q. variable_captured s c a p x.by_ref (referred y.typ) t q)));
    }

this_taken : (s : Setting) (c : Ctx) (x : Capture) → c.lambda ≡ None → x.variable ≡ None → IsCapturedThis c x → IsTaken s c x
this_taken s c x o e y = record {
  formed = ap is_capture_form y.is;
  object = subst (λ (u : Typ). is_object_form (form_in u) ≡ true → IsObjectTyp c (is_lambda c.classes) u) (sym y.is) (λ k. absurd cc);
  source = λ z held reached. subst (λ (u : Typ). On (IsCaptured s c (is_lambda c.classes) u) (capture_source c z x x.variable)) (sym y.is)
      (subst (λ (v : Option ℕ). On (IsCaptured s c (is_lambda c.classes) (plain (ptr y.this.typ))) (capture_source c z x v)) (sym e)
      (two_of (IsThisTree s c) (λ (a : Tree). typ_in a ≡ plain (ptr y.this.typ)) (IsCaptured s c (is_lambda c.classes) (plain (ptr y.this.typ)))
      (this_tree c x.at) (this_tree_is s c z x.at held reached) (this_typed c x.at y.this c.lambda o y.at)
      (λ a p d. pointer_captured s c a y.this.typ p.proper d)));
}

taken_by : (s : Setting) (c : Ctx) (w : Work) (x : Capture) (v : Option ℕ) → x.variable ≡ v → c.lambda ≡ None → Holds s c w → IsCapture c x → IsTaken s c x
taken_by s c w x (Some i) e o h y = variable_taken s c w x i o h e (y.variable i e)
taken_by s c w x None e o h y = this_taken s c x o e (y.this e)

pub taken : (s : Setting) (c : Ctx) (w : Work) (x : Capture) → c.lambda ≡ None → Holds s c w → IsCapture c x → IsTaken s c x
taken s c w x o h y = taken_by s c w x x.variable refl o h y
