-- The result of a function is one that its body can end with.
use Rattle.std.proofs.Common.{◌≡◌, refl, subst, ℕ, Bool, true, ◌||◌, List, Option, Some, None}
use Rattle.elab_rules.specs.cpp_types.Typ.{Typ, typ, void, int, enum, null, ptr, ref, array, func, class, closure, tx_ex}
use Rattle.elab_rules.specs.cpp_types.Class.{Class, held}
use Rattle.elab_rules.specs.cpp_tree.Typing.{form_in, is_void, is_class_typ, is_reference}
use Rattle.elab_rules.specs.cpp_tree.Units.{Func as UnitFunc}
use Rattle.elab_rules.specs.cpp_tree.Rows.{result_of}
use Rattle.elab_rules.specs.elab_ctx.Ctx.{Ctx}
use Rattle.elab_rules.specs.Operators.{is_complete}
use Rattle.elab_rules.specs.Statements.{State}
use Rattle.elab_fits_objects.proofs.Types.{ready_more}
use Rattle.elab_fits.specs.Objects.{is_closure}
use Rattle.elab_fits.specs.Scalars.{is_scalar}
use Rattle.elab_fits_bodies.specs.Functions.{IsResult}
use Rattle.elab_fits_forms.specs.Types as forms
use Rattle.elab_fits_forms.proofs.Wholes.{class_whole}
use Rattle.elab_sound_types.specs.Types.{is_sound, result}
use Rattle.elab_sound_types.specs.States.{Kept}
use Rattle.elab_fits_states.specs.States.{setting, IsGood}
use Rattle.elab_fits_states.proofs.Good.{holds_of}
use Rattle.elab_holds.proofs.Sound.{form_sound}

-- nothing, an object of a class, a reference or a scalar
abbrev is_formed : Typ → Bool
is_formed t = is_void t || (is_class_typ t || (is_reference t || is_scalar (form_in t)))

formed : (classes : List Class) (t : Typ) → is_sound classes result t ≡ true → is_formed t ≡ true
formed classes (typ void c v) h = refl
formed classes (typ (int k) c v) h = refl
formed classes (typ (enum n s) c v) h = refl
formed classes (typ null c v) h = refl
formed classes (typ (ptr t) c v) h = refl
formed classes (typ (ref t) c v) h = refl
formed classes (typ (array t n) c v) h = absurd cc
formed classes (typ (func s) c v) h = absurd cc
formed classes (typ (class n) c v) h = refl
formed classes (typ (closure n) c v) h = refl
formed classes (typ (tx_ex t) c v) h = refl

typ_sound : (classes : List Class) (t : Typ) → is_sound classes result t ≡ true → forms.is_sound classes t ≡ true
typ_sound classes (typ q c v) h = form_sound classes result (c || v) q h

pub complete_kept : (c d : Ctx) (o : Option ℕ) → Kept c.classes d.classes → is_complete c o ≡ true → is_complete d o ≡ true
complete_kept c d (Some n) k h = k.complete n h
complete_kept c d None k h = refl

module _ (f : UnitFunc) (st : State) (g : IsGood f st) where
  whole : (t : Typ) → is_sound st.ctx.classes result t ≡ true → is_complete st.ctx (held t) ≡ true → is_class_typ t ≡ true → forms.IsWhole st.ctx.classes t
  whole t i k e = class_whole (setting f st) st.ctx st.work t (holds_of f st g) (typ_sound st.ctx.classes t i) e
      (λ n q v x. subst (λ (u : Typ). is_complete st.ctx (held u) ≡ true) x k)

  pub result_fits : is_complete st.ctx (held (result_of f)) ≡ true → IsResult (setting f st) st.ctx (result_of f)
  result_fits k = record {
    typed = refl;
    formed = formed st.ctx.classes (result_of f) g.typed;
    sized = λ e. (whole (result_of f) g.typed k e).sized;
    ready = λ e. ready_more st.ctx.classes (is_closure (form_in (result_of f))) (result_of f) (whole (result_of f) g.typed k e).ready;
    place = g.result;
  }
