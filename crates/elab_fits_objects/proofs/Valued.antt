-- Scalars, references and exceptions from values in parentheses, and objects of any type.
use Rattle.std.proofs.Common.{◌≡◌, refl, subst, ℕ, Bool, true, false, ◌||◌, List, [], ◌∷◌, Some, Result, Ok, Err}
use Rattle.elab_rules.specs.tx_ints.declared.kinds.IntKind.TheVariants.{ULong}
use Rattle.elab_rules.specs.cpp_types.Typ.{Typ, typ, Form, void, int, enum, null, ptr, ref, array, func, class, closure, tx_ex}
use Rattle.elab_rules.specs.cpp_types.Class.{Class}
use Rattle.elab_rules.specs.cpp_types.Conversion.{is_object_form}
use Rattle.elab_rules.specs.cpp_types.declared.classes.At.{At}
use Rattle.elab_rules.specs.cpp_types.declared.ranks.Cat.TheVariants.{Prvalue}
use Rattle.elab_rules.specs.cpp_tree.declared.faults.ElabFault.{ElabFault}
use Rattle.elab_rules.specs.cpp_tree.declared.faults.IllRule.TheVariants.{NoViable, BadInit}
use Rattle.elab_rules.specs.cpp_tree.declared.kinds.TKind.TheVariants.{Store}
use Rattle.elab_rules.specs.cpp_tree.declared.roles.Role.TheVariants.{Value, Initialiser}
use Rattle.elab_rules.specs.cpp_tree.Trees.{Tree, one}
use Rattle.elab_rules.specs.cpp_tree.Typing.{is_class_typ}
use Rattle.elab_rules.specs.cpp_tree.Roles.{only as only_kids}
use Rattle.elab_rules.specs.cpp_tree.Rows.{Setting}
use Rattle.elab_rules.specs.elab_ctx.Ctx.{Ctx, Work}
use Rattle.elab_rules.specs.elab_ctx.Steps.{and_then, expect, Operand, Made}
use Rattle.elab_rules.specs.Values.{stored}
use Rattle.elab_rules.specs.Initialising.{initial, only, scalar_from, exception_from, is_exception_itself, from_nothing, from_values}
use Rattle.elab_fits.specs.Standing.{IsSetting, Reaches, On}
use Rattle.elab_fits.specs.Scalars.{is_scalar, Gives, Initialises}
use Rattle.elab_fits.specs.Objects.{is_single, is_ready, is_closure}
use Rattle.elab_fits.proofs.Equal.{flag_refl, typ_refl}
use Rattle.elab_fits.proofs.Initials.{initial_gives}
use Rattle.elab_fits.proofs.Nodes.{both, or_left, node_fits, one_value}
use Rattle.elab_fits.proofs.Steps.{bind, expected, either}
use Rattle.elab_fits.proofs.Values.{stored_builds}
use Rattle.elab_fits_objects.specs.Contexts.{is_whole, refers, IsObjectTyp, IsParameter, IsInitialised, HasMakers, IsSource, AreSources}
use Rattle.elab_fits_objects.specs.Making.{MakesExactly, ScalarsBuild, ExceptionsBuild, ValuesBuild}
use Rattle.elab_fits_objects.proofs.Classes.{Built, class_builds}
use Rattle.elab_fits_objects.proofs.Constructed.{nothing_made, constructed_builds}
use Rattle.elab_fits_objects.proofs.Exact.{Exact, exact_builds}
use Rattle.elab_fits_objects.proofs.Excepting.{value_builds}
use Rattle.elab_fits_objects.proofs.Exceptions.{value_single, value_sized, value_ready}
use Rattle.elab_fits_objects.proofs.Nothing.{nothing_builds}
use Rattle.elab_fits_objects.proofs.Referring.{binds}
use Rattle.elab_fits_objects.proofs.Types.{ready_more}

-- Scalars and references

scalar_stored : (s : Setting) (at : At) (f : Form) (q v : Bool) (e : Tree) → is_scalar f ≡ true → Gives s f e
    → MakesExactly s (typ f q v) (stored at (typ f q v) e)
scalar_stored s at (int k) q v e i g = record { makes = record { one = stored_builds s at (int k) q v e g; copied = refl }; typed = refl }
scalar_stored s at (enum n x) q v e i g = record { makes = record { one = stored_builds s at (enum n x) q v e g; copied = refl }; typed = refl }
scalar_stored s at null q v e i g = record { makes = record { one = stored_builds s at null q v e g; copied = refl }; typed = refl }
scalar_stored s at (ptr t) q v e i g = record { makes = record { one = stored_builds s at (ptr t) q v e g; copied = refl }; typed = refl }
scalar_stored s at void q v e i g = absurd cc
scalar_stored s at (ref t) q v e i g = absurd cc
scalar_stored s at (array t n) q v e i g = absurd cc
scalar_stored s at (func h) q v e i g = absurd cc
scalar_stored s at (class n) q v e i g = absurd cc
scalar_stored s at (closure n) q v e i g = absurd cc
scalar_stored s at (tx_ex t) q v e i g = absurd cc

-- the slot of a reference
pub reference_stored : (s : Setting) (at : At) (t : Typ) (q v : Bool) (e : Tree) → Initialises s (typ (ref t) q v) e
    → MakesExactly s (typ (ref t) q v) (stored at (typ (ref t) q v) e)
reference_stored s at t q v e g = record {
  makes = record {
    one = record {
      fits = λ p full. node_fits s p Initialiser (Store ULong v) (typ (ref t) q v) Prvalue at (one e) (only_kids (Value ∷ [])) refl refl refl refl
          (both (flag_refl v) g.initialises) refl refl refl (one_value s p e (g.fits p full));
      builds = or_left _ (or_left _ (typ_refl (typ (ref t) q v)));
    };
    copied = refl;
  };
  typed = refl;
}

scalar_by : (s : Setting) (c : Ctx) (lambda : ℕ → Bool) (w : Work) (f : Form) (q v : Bool) (o : Operand) → IsSource s c lambda o → is_scalar f ≡ true
    → On (Exact s (typ f q v)) (scalar_from c w (typ f q v) o)
scalar_by s c lambda w f q v o h k = bind (λ (x : Made). Gives s f x.tree) (Exact s (typ f q v)) (initial c w (typ f q v) o) _
    (initial_gives s c w f q v o h.operand k) (λ x g. (λ reached. scalar_stored s o.at f q v x.tree k g))

pub scalar_builds : ScalarsBuild
scalar_builds s c lambda w (typ (int k) q v) o i m h a n = scalar_by s c lambda w (int k) q v o h refl
scalar_builds s c lambda w (typ (enum x y) q v) o i m h a n = scalar_by s c lambda w (enum x y) q v o h refl
scalar_builds s c lambda w (typ null q v) o i m h a n = scalar_by s c lambda w null q v o h refl
scalar_builds s c lambda w (typ (ptr t) q v) o i m h a n = scalar_by s c lambda w (ptr t) q v o h refl
scalar_builds s c lambda w (typ (ref t) q v) o i m h a n = bind (λ (x : Made). Reaches s x.work → Initialises s (typ (ref t) q v) x.tree)
    (Exact s (typ (ref t) q v)) (initial c w (typ (ref t) q v) o) _ (binds s c lambda w t q v o i m h (a.referred t refl))
    (λ x g. (λ reached. reference_stored s o.at t q v x.tree (g reached)))
scalar_builds s c lambda w (typ void q v) o i m h a n = let b = a.formed in absurd cc
scalar_builds s c lambda w (typ (array t x) q v) o i m h a n = let b = a.formed in absurd cc
scalar_builds s c lambda w (typ (func t) q v) o i m h a n = let b = a.formed in absurd cc
scalar_builds s c lambda w (typ (class x) q v) o i m h a n = absurd cc
scalar_builds s c lambda w (typ (closure x) q v) o i m h a n = absurd cc
scalar_builds s c lambda w (typ (tx_ex t) q v) o i m h a n = absurd cc

-- The value in an exception

the_only : (s : Setting) (c : Ctx) (lambda : ℕ → Bool) (os : List Operand) (o : Operand) → AreSources s c lambda os → only os ≡ Some o
    → IsSource s c lambda o
the_only s c lambda [] o h e = absurd cc
the_only s c lambda (a ∷ []) o h e = let x : a ≡ o = cc in subst (λ (b : Operand). IsSource s c lambda b) x h.0
the_only s c lambda (a ∷ b ∷ os) o h e = absurd cc

exception_by : (s : Setting) (c : Ctx) (lambda : ℕ → Bool) (w : Work) (f : Form) (q v : Bool) (at : At) (os : List Operand) → IsSetting s c
    → HasMakers c lambda → AreSources s c lambda os → IsParameter c lambda (typ f q v)
    → On (Exact s (typ f q v)) (exception_from c w (typ f q v) at os)
exception_by s c lambda w f q v at os i m h a = expected (Exact s (typ f q v)) at NoViable (only os) _
    (λ o e. either (Exact s (typ f q v)) (is_class_typ (typ f q v)) _ _
    (λ k. exact_builds s c lambda w (typ f q v) at o i m (the_only s c lambda os o h e) (a.object k))
    (λ k. scalar_builds s c lambda w (typ f q v) o i m (the_only s c lambda os o h e) a k))

pub exception_builds : ExceptionsBuild
exception_builds s c lambda w (typ f q v) at os i m h a = exception_by s c lambda w f q v at os i m h a

-- Objects of any type

ready_as : (classes : List Class) (b : Bool) (t : Typ) → is_ready classes false t ≡ true → is_ready classes b t ≡ true
ready_as classes true t h = ready_more classes false t h
ready_as classes false t h = h

no_reference : (A : Type 0) (f : Form) (t : Typ) → is_single f ≡ true → f ≡ ref t → A
no_reference A (ref u) t h e = absurd cc
no_reference A void t h e = absurd cc
no_reference A (int k) t h e = absurd cc
no_reference A (enum n s) t h e = absurd cc
no_reference A null t h e = absurd cc
no_reference A (ptr u) t h e = absurd cc
no_reference A (array u n) t h e = absurd cc
no_reference A (func g) t h e = absurd cc
no_reference A (class n) t h e = absurd cc
no_reference A (closure n) t h e = absurd cc
no_reference A (tx_ex u) t h e = absurd cc

single_formed : (f : Form) → is_single f ≡ true → (is_scalar f || refers f || is_object_form f) ≡ true
single_formed (int k) h = refl
single_formed (enum n s) h = refl
single_formed null h = refl
single_formed (ptr t) h = refl
single_formed (class n) h = refl
single_formed (closure n) h = refl
single_formed void h = absurd cc
single_formed (ref t) h = absurd cc
single_formed (array t n) h = absurd cc
single_formed (func g) h = absurd cc
single_formed (tx_ex t) h = absurd cc

-- the type of the value in an exception
value_parameter : (c : Ctx) (lambda : ℕ → Bool) (f : Form) (d x q v : Bool) → IsObjectTyp c lambda (typ (tx_ex (typ f d x)) q v)
    → IsParameter c lambda (typ f q v)
value_parameter c lambda f d x q v t =
    let z : is_whole c.classes (typ (tx_ex (typ f d x)) q v) ≡ true = t.whole (t.complete refl) in
    let single : is_single f ≡ true = value_single c.classes f d x q v z in
    record {
      formed = single_formed f single;
      referred = λ u e. no_reference _ f u single e;
      object = λ k. record {
        sorted = t.sorted;
        whole = λ y. both (value_sized c.classes f d x q v z) (ready_as c.classes (is_closure f) (typ f q v) (value_ready c.classes f d x q v z));
        complete = λ y. t.complete refl;
      };
    }

built_from : (s : Setting) (t : Typ) (r : Result Made ElabFault) → On (Exact s t) r → On (Built s t) r
built_from s t (Ok m) h = λ reached. (h reached).makes
built_from s t (Err e) h = tt

value_from : (s : Setting) (f : Form) (d x q v : Bool) (r : Result Made ElabFault) → On (Exact s (typ f q v)) r → On (Built s (typ (tx_ex (typ f d x)) q v)) r
value_from s f d x q v (Ok m) h = λ reached. let y = h reached in
    record { one = value_builds s f d x q v m.tree y.makes.one y.typed; copied = y.makes.copied }
value_from s f d x q v (Err e) h = tt

module _ (s : Setting) (c : Ctx) (lambda : ℕ → Bool) (w : Work) (at : At) (i : IsSetting s c) (m : HasMakers c lambda) where
  one_from : (f : Form) (q v : Bool) (o : Operand) (os : List Operand) → AreSources s c lambda (o ∷ os) → IsParameter c lambda (typ f q v)
      → is_class_typ (typ f q v) ≡ false → On (Built s (typ f q v))
      (and_then (expect at BadInit (only (o ∷ os))) (λ (p : Operand). scalar_from c w (typ f q v) p))
  one_from f q v o os h a n = expected (Built s (typ f q v)) at BadInit (only (o ∷ os)) _
      (λ p e. built_from s (typ f q v) (scalar_from c w (typ f q v) p)
      (scalar_builds s c lambda w (typ f q v) p i m (the_only s c lambda (o ∷ os) p h e) a n))

  none_from : (t : Typ) → IsObjectTyp c lambda t → On (Built s t) (and_then (from_nothing c t at) (λ (e : Tree). Ok (record { tree = e; work = w })))
  none_from t z = nothing_made s t w (from_nothing c t at) (nothing_builds s c lambda t at i m z)

  exceptions_from : (f : Form) (d x q v : Bool) (o : Operand) (os : List Operand) → AreSources s c lambda (o ∷ os)
      → IsObjectTyp c lambda (typ (tx_ex (typ f d x)) q v) → On (Built s (typ (tx_ex (typ f d x)) q v))
      (from_values c w (typ (tx_ex (typ f d x)) q v) at (o ∷ os))
  exceptions_from f d x q v o os h t = either (Built s (typ (tx_ex (typ f d x)) q v)) (is_exception_itself (typ f d x) (o ∷ os)) _ _
      (λ e. class_builds s c lambda w (typ (tx_ex (typ f d x)) q v) at o i m h.0 t)
      (λ e. value_from s f d x q v (exception_from c w (typ f q v) at (o ∷ os))
      (exception_builds s c lambda w (typ f q v) at (o ∷ os) i m h (value_parameter c lambda f d x q v t)))

  all_from : (t : Typ) (os : List Operand) → AreSources s c lambda os → IsInitialised c lambda t → On (Built s t) (from_values c w t at os)
  all_from (typ (class n) q v) os h z = constructed_builds s c lambda w n q v at os i m h (z.object refl)
  all_from (typ (tx_ex u) q v) [] h z = tt
  all_from (typ (tx_ex (typ f d x)) q v) (o ∷ os) h z = exceptions_from f d x q v o os h (z.object refl)
  all_from (typ (array e n) q v) (o ∷ os) h z = tt
  all_from (typ (array e n) q v) [] h z = none_from (typ (array e n) q v) (z.object refl)
  all_from (typ (closure n) q v) [] h z = tt
  all_from (typ (closure n) q v) (o ∷ os) h z = class_builds s c lambda w (typ (closure n) q v) at o i m h.0 (z.object refl)
  all_from (typ (ref u) q v) [] h z = tt
  all_from (typ (ref u) q v) (o ∷ os) h z = one_from (ref u) q v o os h (z.value refl) refl
  all_from (typ (int k) q v) [] h z = none_from (typ (int k) q v) (z.object refl)
  all_from (typ (int k) q v) (o ∷ os) h z = one_from (int k) q v o os h (z.value refl) refl
  all_from (typ (enum n x) q v) [] h z = none_from (typ (enum n x) q v) (z.object refl)
  all_from (typ (enum n x) q v) (o ∷ os) h z = one_from (enum n x) q v o os h (z.value refl) refl
  all_from (typ null q v) [] h z = none_from (typ null q v) (z.object refl)
  all_from (typ null q v) (o ∷ os) h z = one_from null q v o os h (z.value refl) refl
  all_from (typ (ptr u) q v) [] h z = none_from (typ (ptr u) q v) (z.object refl)
  all_from (typ (ptr u) q v) (o ∷ os) h z = one_from (ptr u) q v o os h (z.value refl) refl
  all_from (typ void q v) [] h z = tt
  all_from (typ void q v) (o ∷ os) h z = one_from void q v o os h (z.value refl) refl
  all_from (typ (func g) q v) [] h z = tt
  all_from (typ (func g) q v) (o ∷ os) h z = one_from (func g) q v o os h (z.value refl) refl

pub values_build : ValuesBuild
values_build s c lambda w t at os i m h z = all_from s c lambda w at i m t os h z
