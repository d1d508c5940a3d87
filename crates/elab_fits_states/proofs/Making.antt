-- What is made of operands, in the setting behind it.
use Rattle.std.proofs.Common.{◌≡◌, refl, ◌∙◌, ℕ, Bool, true, false, List, [], ◌∷◌, Ok, if◌then◌else◌}
use Rattle.elab_rules.specs.cpp_types.Typ.{Typ, typ, Form, void, int, enum, null, ptr, ref, array, func, class, closure, tx_ex}
use Rattle.elab_rules.specs.cpp_types.Class.{Class}
use Rattle.elab_rules.specs.cpp_types.declared.classes.At.{At}
use Rattle.elab_rules.specs.cpp_tree.declared.faults.IllRule.TheVariants.{OutOfProfile}
use Rattle.elab_rules.specs.cpp_tree.Typing.{form_in, is_void, is_class_typ, head_of}
use Rattle.elab_rules.specs.cpp_tree.Rows.{Setting}
use Rattle.elab_rules.specs.elab_ctx.Ctx.{Ctx, Work}
use Rattle.elab_rules.specs.elab_ctx.Steps.{check, Operand, Made}
use Rattle.elab_rules.specs.Objects.{is_array, element_of}
use Rattle.elab_rules.specs.Initialising.{conversion, initial, class_from, scalar_from, from_nothing}
use Rattle.elab_rules.specs.Statements.{is_lasting, bound_reference, copy_initialised, directly_initialised, default_object, is_const_element, const_initialised}
use Rattle.elab_fits.specs.Standing.{IsSetting, Reaches, On}
use Rattle.elab_fits.specs.Scalars.{Gives, Initialises, is_scalar}
use Rattle.elab_fits.proofs.Nodes.{head_typ, head_cat}
use Rattle.elab_fits.proofs.Steps.{skip, either}
use Rattle.elab_fits.proofs.Initials.{initial_gives}
use Rattle.elab_fits.proofs.Values.{value_initialises}
use Rattle.elab_fits_objects.specs.Contexts.{IsParameter, IsInitialised, HasMakers, IsSource, AreSources, refers}
use Rattle.elab_fits_objects.specs.Making.{Makes, MakesExactly}
use Rattle.elab_fits_objects.proofs.Classes.{class_builds}
use Rattle.elab_fits_objects.proofs.Nothing.{nothing_builds}
use Rattle.elab_fits_objects.proofs.Referring.{binds}
use Rattle.elab_fits_objects.proofs.Valued.{scalar_builds, values_build}
use Rattle.elab_fits_forms.specs.Types.{is_sound, is_parameter, is_result}
use Rattle.elab_fits_statements.proofs.States.{mapped}

-- The type of a result

pub result_parameter : (classes : List Class) (t : Typ) → is_result classes t ≡ true → is_void t ≡ false → is_parameter classes t ≡ true
result_parameter classes (typ void c v) h n = absurd cc
result_parameter classes (typ (int k) c v) h n = h
result_parameter classes (typ (enum x y) c v) h n = h
result_parameter classes (typ null c v) h n = h
result_parameter classes (typ (ptr t) c v) h n = h
result_parameter classes (typ (ref t) c v) h n = h
result_parameter classes (typ (array t x) c v) h n = absurd cc
result_parameter classes (typ (func t) c v) h n = absurd cc
result_parameter classes (typ (class x) c v) h n = h
result_parameter classes (typ (closure x) c v) h n = h
result_parameter classes (typ (tx_ex t) c v) h n = h

pub result_sound : (classes : List Class) (t : Typ) → is_result classes t ≡ true → is_sound classes t ≡ true
result_sound classes (typ void c v) h = h
result_sound classes (typ (int k) c v) h = h
result_sound classes (typ (enum x y) c v) h = h
result_sound classes (typ null c v) h = h
result_sound classes (typ (ptr t) c v) h = h
result_sound classes (typ (ref t) c v) h = h
result_sound classes (typ (array t x) c v) h = absurd cc
result_sound classes (typ (func t) c v) h = absurd cc
result_sound classes (typ (class x) c v) h = h
result_sound classes (typ (closure x) c v) h = h
result_sound classes (typ (tx_ex t) c v) h = h

pub class_no_reference : (t : Typ) → is_class_typ t ≡ true → refers (form_in t) ≡ false
class_no_reference (typ (class x) c v) h = refl
class_no_reference (typ (closure x) c v) h = refl
class_no_reference (typ (tx_ex t) c v) h = refl
class_no_reference (typ f c v) h = absurd cc

module _ (s : Setting) (c : Ctx) (l : ℕ → Bool) (i : IsSetting s c) (k : HasMakers c l) where
  abbrev Built : Typ → Made → Type 0
  Built t m = Reaches s m.work → Makes s t m.tree

  -- Scalars and references

  scalar_initial : (w : Work) (f : Form) (q v : Bool) (o : Operand) → IsSource s c l o → is_scalar f ≡ true
      → On (λ (m : Made). Reaches s m.work → Initialises s (typ f q v) m.tree) (initial c w (typ f q v) o)
  scalar_initial w f q v o x h = mapped (λ (m : Made). Gives s f m.tree) (λ (m : Made). Reaches s m.work → Initialises s (typ f q v) m.tree)
      (initial c w (typ f q v) o) (initial_gives s c w f q v o x.operand h) (λ m g r. record {
        fits = g.fits;
        initialises = value_initialises f q v (head_of m.tree) h (head_typ m.tree ∙ g.typed) (head_cat m.tree ∙ g.category);
      })

  pub initial_made : (w : Work) (t : Typ) (o : Operand) → IsSource s c l o → IsParameter c l t → is_class_typ t ≡ false
      → On (λ (m : Made). Reaches s m.work → Initialises s t m.tree) (initial c w t o)
  initial_made w (typ (int j) q v) o x a n = scalar_initial w (int j) q v o x refl
  initial_made w (typ (enum y z) q v) o x a n = scalar_initial w (enum y z) q v o x refl
  initial_made w (typ null q v) o x a n = scalar_initial w null q v o x refl
  initial_made w (typ (ptr t) q v) o x a n = scalar_initial w (ptr t) q v o x refl
  initial_made w (typ (ref t) q v) o x a n = binds s c l w t q v o i k x (a.referred t refl)
  initial_made w (typ void q v) o x a n = let b = a.formed in absurd cc
  initial_made w (typ (array t y) q v) o x a n = let b = a.formed in absurd cc
  initial_made w (typ (func t) q v) o x a n = let b = a.formed in absurd cc
  initial_made w (typ (class y) q v) o x a n = absurd cc
  initial_made w (typ (closure y) q v) o x a n = absurd cc
  initial_made w (typ (tx_ex t) q v) o x a n = absurd cc

  scalar_made : (w : Work) (t : Typ) (o : Operand) → IsSource s c l o → IsParameter c l t → is_class_typ t ≡ false → On (Built t) (scalar_from c w t o)
  scalar_made w t o x a n = mapped (λ (m : Made). Reaches s m.work → MakesExactly s t m.tree) (Built t) (scalar_from c w t o)
      (scalar_builds s c l w t o i k x a n) (λ m h r. (h r).makes)

  bound_made : (w : Work) (t : Typ) (q v : Bool) (o : Operand) → IsSource s c l o → IsParameter c l (typ (ref t) q v)
      → On (Built (typ (ref t) q v)) (bound_reference c w (typ (ref t) q v) o)
  bound_made w t q v o x a = skip (Built (typ (ref t) q v)) (check o.at OutOfProfile (is_lasting (conversion c (typ (ref t) q v) o) o)) _
      (λ y. scalar_made w (typ (ref t) q v) o x a refl)

  -- Variables

  copy_by : (w : Work) (t : Typ) (o : Operand) → IsSource s c l o → IsInitialised c l t → is_array t ≡ false
      → On (Built t) (if is_class_typ t then class_from c w t o.at o else scalar_from c w t o)
  copy_by w t o x a n = either (Built t) (is_class_typ t) _ _ (λ h. class_builds s c l w t o.at o i k x (a.object (class_no_reference t h)))
      (λ h. scalar_made w t o x (a.value n) h)

  pub copy_made : (w : Work) (t : Typ) (o : Operand) → IsSource s c l o → IsInitialised c l t → On (Built t) (copy_initialised c w t o)
  copy_made w (typ (ref t) q v) o x a = bound_made w t q v o x (a.value refl)
  copy_made w (typ (array t y) q v) o x a = tt
  copy_made w (typ (int j) q v) o x a = copy_by w (typ (int j) q v) o x a refl
  copy_made w (typ (enum y z) q v) o x a = copy_by w (typ (enum y z) q v) o x a refl
  copy_made w (typ null q v) o x a = copy_by w (typ null q v) o x a refl
  copy_made w (typ (ptr t) q v) o x a = copy_by w (typ (ptr t) q v) o x a refl
  copy_made w (typ void q v) o x a = copy_by w (typ void q v) o x a refl
  copy_made w (typ (func t) q v) o x a = copy_by w (typ (func t) q v) o x a refl
  copy_made w (typ (class y) q v) o x a = copy_by w (typ (class y) q v) o x a refl
  copy_made w (typ (closure y) q v) o x a = copy_by w (typ (closure y) q v) o x a refl
  copy_made w (typ (tx_ex t) q v) o x a = copy_by w (typ (tx_ex t) q v) o x a refl

  pub direct_made : (w : Work) (t : Typ) (at : At) (os : List Operand) → AreSources s c l os → IsInitialised c l t
      → On (Built t) (directly_initialised c w t at os)
  direct_made w (typ (ref t) q v) at (o ∷ []) x a = bound_made w t q v o x.0 (a.value refl)
  direct_made w t at os x a = values_build s c l w t at os i k x a

  default_by : (t : Typ) (at : At) → IsInitialised c l t → refers (form_in t) ≡ false → On (Makes s t) (default_object c t at)
  default_by t at a n = skip (Makes s t) (if is_const_element t then const_initialised c at (element_of t) else Ok true) _
      (λ y. nothing_builds s c l t at i k (a.object n))

  pub default_made : (t : Typ) (at : At) → IsInitialised c l t → On (Makes s t) (default_object c t at)
  default_made (typ (ref t) q v) at a =
      skip (Makes s (typ (ref t) q v)) (if is_const_element (typ (ref t) q v) then const_initialised c at (element_of (typ (ref t) q v)) else Ok true)
      (λ y. from_nothing c (typ (ref t) q v) at) (λ y. tt)
  default_made (typ (array t y) q v) at a = default_by (typ (array t y) q v) at a refl
  default_made (typ (int j) q v) at a = default_by (typ (int j) q v) at a refl
  default_made (typ (enum y z) q v) at a = default_by (typ (enum y z) q v) at a refl
  default_made (typ null q v) at a = default_by (typ null q v) at a refl
  default_made (typ (ptr t) q v) at a = default_by (typ (ptr t) q v) at a refl
  default_made (typ void q v) at a = default_by (typ void q v) at a refl
  default_made (typ (func t) q v) at a = default_by (typ (func t) q v) at a refl
  default_made (typ (class y) q v) at a = default_by (typ (class y) q v) at a refl
  default_made (typ (closure y) q v) at a = default_by (typ (closure y) q v) at a refl
  default_made (typ (tx_ex t) q v) at a = default_by (typ (tx_ex t) q v) at a refl
