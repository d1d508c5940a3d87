-- What makes lambdas' objects.
use Rattle.std.proofs.Common.{◌≡◌, refl, ap, ◌∙◌, subst, ℕ, Bool, true, false}
use Rattle.std.proofs.Common.{Result, Ok, Err}
use Rattle.elab_rules.specs.cpp_types.Typ.{Typ, typ, Form, void, int, enum, null, ptr, ref, array, func, class, closure, tx_ex}
use Rattle.elab_rules.specs.cpp_types.Conversion.{is_lvalue}
use Rattle.elab_rules.specs.cpp_types.Equal.{typ_eq}
use Rattle.elab_rules.specs.cpp_types.declared.ranks.Cat.{Cat}
use Rattle.elab_rules.specs.cpp_types.declared.ranks.Cat.TheVariants.{Prvalue}
use Rattle.elab_rules.specs.cpp_tree.declared.faults.ElabFault.{ElabFault}
use Rattle.elab_rules.specs.cpp_tree.declared.kinds.TKind.TheVariants.{CopyFrom}
use Rattle.elab_rules.specs.cpp_tree.Trees.{Tree, node, none, more, typ_in}
use Rattle.elab_rules.specs.cpp_tree.Typing.{form_in, is_class_prvalue, same_shape}
use Rattle.elab_rules.specs.cpp_tree.Rows.{Setting}
use Rattle.elab_rules.specs.elab_ctx.Ctx.{Ctx, Work, Capture}
use Rattle.elab_rules.specs.elab_ctx.Steps.{Made}
use Rattle.elab_rules.specs.Values.{stored, valued}
use Rattle.elab_rules.specs.Objects.{is_array}
use Rattle.elab_rules.specs.Initialising.{class_from, closure_part}
use Rattle.elab_rules.specs.Expressions.{captured_value}
use Rattle.elab_fits.specs.Standing.{BuildsOne, IsSetting, Reaches, On}
use Rattle.elab_fits.specs.Scalars.{is_scalar, Gives}
use Rattle.elab_fits.proofs.Equal.{typ_refl}
use Rattle.elab_fits.proofs.Initials.{value_form_is}
use Rattle.elab_fits.proofs.Nodes.{both, or_left, head_typ, head_cat}
use Rattle.elab_fits.proofs.Values.{value_gives, stored_builds}
use Rattle.elab_fits_objects.specs.Capturing.{IsCaptureTyp, IsCaptured, CapturesBuild}
use Rattle.elab_fits_objects.specs.Contexts.{IsObjectTyp, HasMakers}
use Rattle.elab_fits_objects.proofs.Captures.{part_copied}
use Rattle.elab_fits_objects.proofs.Classes.{Built, class_builds}
use Rattle.elab_fits_objects.proofs.Fits.{copy_builds}
use Rattle.elab_fits_objects.proofs.Valued.{reference_stored}

-- A capture

abbrev Building : Setting → Typ → Made → Type 0
Building s t m = Reaches s m.work → BuildsOne s t m.tree

class_captured : (s : Setting) (t : Typ) (r : Result Made ElabFault) → On (Built s t) r → On (Building s t) r
class_captured s t (Ok m) h = λ reached. (h reached).one
class_captured s t (Err e) h = tt

module _ (s : Setting) (c : Ctx) (lambda : ℕ → Bool) (w : Work) (x : Capture) (e : Tree) (i : IsSetting s c) (m : HasMakers c lambda) where
  scalar_captured : (f : Form) (q v : Bool) → is_scalar f ≡ true → IsCaptured s c lambda (typ f q v) e
      → BuildsOne s (typ f q v) (stored x.at (typ f q v) (valued x.at e))
  scalar_captured f q v k h =
      let a : form_in (typ_in (valued x.at e)) ≡ f = value_form_is x.at e ∙ h.scalar k in
      let g = value_gives s x.at e (h.source x.at).operand.stands (ap is_scalar a ∙ k) in
      stored_builds s x.at f q v (valued x.at e) (subst (λ (y : Form). Gives s y (valued x.at e)) a g)

  reference_captured : (u : Typ) (q v : Bool) → IsCaptured s c lambda (typ (ref u) q v) e → BuildsOne s (typ (ref u) q v) (stored x.at (typ (ref u) q v) e)
  reference_captured u q v h =
      let l = h.referred u refl in
      (reference_stored s x.at u q v e (record {
        fits = (h.source x.at).operand.stands.value (ap (λ (y : Cat). is_class_prvalue (typ_in e) y) l.category);
        initialises = both (ap is_lvalue (head_cat e ∙ l.category)) (or_left _ (ap (λ (y : Typ). typ_eq u y) (head_typ e ∙ l.typed) ∙ typ_refl u));
      })).makes.one

  array_captured : (t : Typ) → is_array t ≡ true → IsCaptureTyp c lambda t → IsCaptured s c lambda t e
      → BuildsOne s t (node CopyFrom t Prvalue x.at (more e (more (closure_part c x.at (record { offset = 0; typ = t })) none)))
  array_captured t a y h =
      let l = h.array a in
      copy_builds s t x.at e (closure_part c x.at (record { offset = 0; typ = t }))
      ((h.source x.at).operand.stands.value (ap (λ (k : Cat). is_class_prvalue (typ_in e) k) l.category))
      (both (ap is_lvalue (head_cat e ∙ l.category)) (or_left _ (ap (λ (u : Typ). same_shape t u) (head_typ e) ∙ l.shape)))
      (part_copied s c lambda x.at i m (record { offset = 0; typ = t }) y.sized y.capture.ready)

  object_captured : (t : Typ) → IsObjectTyp c lambda t → IsCaptured s c lambda t e
      → On (Building s t) (class_from c w t x.at (record { tree = e; at = x.at; zero = false }))
  object_captured t z h = class_captured s t (class_from c w t x.at (record { tree = e; at = x.at; zero = false }))
      (class_builds s c lambda w t x.at (record { tree = e; at = x.at; zero = false }) i m (h.source x.at) z)

  value_captured : (t : Typ) → IsCaptureTyp c lambda t → IsCaptured s c lambda t e
      → On (Building s t) (captured_value c w x t (record { tree = e; at = x.at; zero = false }))
  value_captured (typ (ref u) q v) y h = λ reached. reference_captured u q v h
  value_captured (typ (class n) q v) y h = object_captured (typ (class n) q v) (y.object refl) h
  value_captured (typ (closure n) q v) y h = object_captured (typ (closure n) q v) (y.object refl) h
  value_captured (typ (tx_ex u) q v) y h = object_captured (typ (tx_ex u) q v) (y.object refl) h
  value_captured (typ (array u n) q v) y h = λ reached. array_captured (typ (array u n) q v) refl y h
  value_captured (typ (int k) q v) y h = λ reached. scalar_captured (int k) q v refl h
  value_captured (typ (enum n z) q v) y h = λ reached. scalar_captured (enum n z) q v refl h
  value_captured (typ null q v) y h = λ reached. scalar_captured null q v refl h
  value_captured (typ (ptr u) q v) y h = λ reached. scalar_captured (ptr u) q v refl h
  value_captured (typ void q v) y h = let b = y.formed in absurd cc
  value_captured (typ (func g) q v) y h = let b = y.formed in absurd cc

pub captures_build : CapturesBuild
captures_build s c lambda w x t e i m y h = value_captured s c lambda w x e i m t y h
