-- Items of lists in braces.
use Rattle.std.proofs.Common.{◌≡◌, refl, ℕ, Bool, false, not, ◌&&◌}
use Rattle.elab_rules.specs.cpp_types.Typ.{Typ, typ, void, int, enum, null, ptr, ref, array, func, class, closure, tx_ex}
use Rattle.elab_rules.specs.cpp_tree.declared.faults.IllRule.TheVariants.{Narrowing}
use Rattle.elab_rules.specs.cpp_tree.Typing.{form_in, is_class_typ}
use Rattle.elab_rules.specs.cpp_tree.Rows.{Setting}
use Rattle.elab_rules.specs.elab_ctx.Ctx.{Ctx, Work}
use Rattle.elab_rules.specs.elab_ctx.Steps.{and_then, Operand}
use Rattle.elab_rules.specs.Initialising.{scalar_from}
use Rattle.elab_rules.specs.Braces.{item_in, is_aggregate_class, is_object_of, not_narrowed, is_not_narrowed}
use Rattle.elab_fits.specs.Standing.{IsSetting, On}
use Rattle.elab_fits.proofs.Steps.{bind, checked, either}
use Rattle.elab_fits_objects.specs.Contexts.{IsParameter, IsInitialised, HasMakers, IsSource}
use Rattle.elab_fits_objects.specs.Items.{ItemsBuild}
use Rattle.elab_fits_objects.proofs.Classes.{Built, class_builds}
use Rattle.elab_fits_objects.proofs.Exact.{Exact}
use Rattle.elab_fits_objects.proofs.Valued.{scalar_builds}

module _ (s : Setting) (c : Ctx) (lambda : ℕ → Bool) (w : Work) (o : Operand) (i : IsSetting s c) (m : HasMakers c lambda) (h : IsSource s c lambda o) where
  one_scalar : (t : Typ) → IsParameter c lambda t → is_class_typ t ≡ false → On (Built s t) (and_then (scalar_from c w t o) (not_narrowed w t o))
  one_scalar t a n = bind (Exact s t) (Built s t) (scalar_from c w t o) _ (scalar_builds s c lambda w t o i m h a n)
      (λ x g. checked (Built s t) o.at Narrowing (is_not_narrowed w t o) _ (λ y. (λ reached. (g reached).makes)))

  item_builds : (t : Typ) → IsInitialised c lambda t → On (Built s t) (item_in c w t (form_in t) o)
  item_builds (typ (array u n) q v) z = tt
  item_builds (typ (class n) q v) z = either (Built s (typ (class n) q v)) (is_aggregate_class c n && not (is_object_of c n o)) _ _ (λ e. tt)
      (λ e. class_builds s c lambda w (typ (class n) q v) o.at o i m h (z.object refl))
  item_builds (typ (closure n) q v) z = class_builds s c lambda w (typ (closure n) q v) o.at o i m h (z.object refl)
  item_builds (typ (tx_ex u) q v) z = class_builds s c lambda w (typ (tx_ex u) q v) o.at o i m h (z.object refl)
  item_builds (typ (int k) q v) z = one_scalar (typ (int k) q v) (z.value refl) refl
  item_builds (typ (enum n x) q v) z = one_scalar (typ (enum n x) q v) (z.value refl) refl
  item_builds (typ null q v) z = one_scalar (typ null q v) (z.value refl) refl
  item_builds (typ (ptr u) q v) z = one_scalar (typ (ptr u) q v) (z.value refl) refl
  item_builds (typ (ref u) q v) z = one_scalar (typ (ref u) q v) (z.value refl) refl
  item_builds (typ void q v) z = one_scalar (typ void q v) (z.value refl) refl
  item_builds (typ (func g) q v) z = one_scalar (typ (func g) q v) (z.value refl) refl

pub items_build : ItemsBuild
items_build s c lambda w t o i m h z = item_builds s c lambda w o i m h t z
