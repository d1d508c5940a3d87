-- The result of a function in its body.
use Rattle.std.proofs.Common.{◌≡◌, refl, sym, ap, ◌∙◌, ℕ, zero, suc, Bool, true, false, ◌||◌, List, [], ◌∷◌, slice_get, Option, Some, None, is_some}
use Rattle.std.specs.Prelude.{option_and_then, cond}
use Rattle.std.proofs.lemmas.Bool.{and_parts}
use Rattle.std.proofs.lemmas.Option.{same_Some}
use Rattle.std.specs.List.{list_all}
use Rattle.elab_rules.specs.cpp_types.Typ.{Typ, typ, void, int, enum, null, ptr, ref, array, func, class, closure, tx_ex, Signature, signature}
use Rattle.elab_rules.specs.cpp_types.Class.{Class, completion_of}
use Rattle.elab_rules.specs.cpp_tree.Typing.{form_in, is_void, is_class_typ, is_reference}
use Rattle.elab_rules.specs.cpp_tree.Units.{Func as UnitFunc}
use Rattle.elab_rules.specs.cpp_tree.Notation.{plain}
use Rattle.elab_rules.specs.cpp_tree.declared.program.FuncKind.{FuncKind}
use Rattle.elab_rules.specs.cpp_tree.Rows.{result_of, result_in, is_special}
use Rattle.elab_rules.specs.elab_ctx.Ctx.{Func}
use Rattle.elab_rules.specs.Initialising.{signature_result}
use Rattle.elab_rules.specs.Statements.{State}
use Rattle.elab_fits.specs.Scalars.{is_scalar}
use Rattle.elab_fits.proofs.Nodes.{clash}
use Rattle.elab_sound_types.specs.Types.{is_sound, is_sound_signature, are_sound, result as a_result}
use Rattle.elab_sound_types.specs.Contexts.{is_sound_function}
use Rattle.elab_fits_forms.specs.Types.{IsWhole}
use Rattle.elab_fits_forms.specs.Context.{Holds}
use Rattle.elab_fits_forms.proofs.Wholes.{class_whole}
use Rattle.elab_fits.specs.Objects.{is_closure}
use Rattle.elab_fits_bodies.specs.Functions.{IsResult}
use Rattle.setting_growth.specs.Growth.{ClassesGrow}
use Rattle.elab_fits_states.specs.States.{setting, IsGood}
use Rattle.elab_fits_units.specs.Below.{Below}
use Rattle.elab_fits_units.proofs.Growing.{Over}
use Rattle.elab_rules.specs.cpp_lex.Tokens.{Lexeme}
use Rattle.elab_fits_objects.proofs.Types.{ready_more}

-- nothing, an object of a class, a reference or a scalar
formed : (classes : List Class) (t : Typ) → is_sound classes a_result t ≡ true
    → (is_void t || (is_class_typ t || (is_reference t || is_scalar (form_in t)))) ≡ true
formed classes (typ void c v) h = refl
formed classes (typ (int k) c v) h = refl
formed classes (typ (enum n e) c v) h = refl
formed classes (typ null c v) h = refl
formed classes (typ (ptr t) c v) h = refl
formed classes (typ (ref t) c v) h = refl
formed classes (typ (array t n) c v) h = absurd cc
formed classes (typ (func s) c v) h = absurd cc
formed classes (typ (class n) c v) h = refl
formed classes (typ (closure n) c v) h = refl
formed classes (typ (tx_ex t) c v) h = refl

-- a class that is complete is so where the unit has grown
still_complete : (cs ds : List Class) (n : ℕ) → ClassesGrow cs ds → is_some (completion_of cs n) ≡ true → is_some (completion_of ds n) ≡ true
still_complete cs ds n g h = by (slice_get cs n) refl
  where
    by_class : (x : Class) → slice_get cs n ≡ Some x → (o : Option ℕ) → x.complete ≡ o → is_some (completion_of ds n) ≡ true
    by_class x e (Some k) f = ap (λ (o : Option Class). is_some (option_and_then (λ (y : Class). y.complete) o)) (g.complete n k x e f) ∙ ap is_some f
    by_class x e None f = clash (is_some (completion_of ds n) ≡ true) (is_some (completion_of cs n))
        (ap (λ (o : Option Class). is_some (option_and_then (λ (y : Class). y.complete) o)) e ∙ ap is_some f) h

    by : (o : Option Class) → slice_get cs n ≡ o → is_some (completion_of ds n) ≡ true
    by (Some x) e = by_class x e x.complete refl
    by None e = clash (is_some (completion_of ds n) ≡ true) (is_some (completion_of cs n))
        (ap (λ (o : Option Class). is_some (option_and_then (λ (y : Class). y.complete) o)) e) h

pub complete_over : (a b : State) (n : ℕ) → Over a b → is_some (completion_of a.ctx.classes n) ≡ true → is_some (completion_of b.ctx.classes n) ≡ true
complete_over a b n k h = still_complete a.ctx.classes b.ctx.classes n k.kept.classes h

pub holds : (s : List Lexeme) → Below s → (f : UnitFunc) (st : State) → IsGood f st → Holds (setting f st) st.ctx st.work
holds s b f st g = b.contexts f st.ctx st.work g.unit g.overriders g.sound.context g.locals

-- whatever function is at hand
pub any_holds : (s : List Lexeme) → Below s → {f : UnitFunc} → (k : UnitFunc) (st : State) → IsGood f st → Holds (setting k st) st.ctx st.work
any_holds s b k st g = b.contexts k st.ctx st.work g.unit g.overriders g.sound.context g.locals

module _ (s : List Lexeme) (b : Below s) (f : UnitFunc) (st : State) (g : IsGood f st)
    (c : (n : ℕ) (q v : Bool) → result_of f ≡ typ (class n) q v → is_some (completion_of st.ctx.classes n) ≡ true) where
  whole : is_class_typ (result_of f) ≡ true → IsWhole st.ctx.classes (result_of f)
  whole k = class_whole (setting f st) st.ctx st.work (result_of f) (holds s b f st g) (b.sound_is st.ctx.classes a_result (result_of f) g.typed) k c

  pub is_result : IsResult (setting f st) st.ctx (result_of f)
  is_result = record {
    typed = refl;
    formed = formed st.ctx.classes (result_of f) g.typed;
    sized = λ k. (whole k).sized;
    ready = λ k. ready_more st.ctx.classes (is_closure (form_in (result_of f))) (result_of f) (whole k).ready;
    place = g.result;
  }

-- a constructor or a destructor has none
pub result_kept : (kind : FuncKind) (g : Signature) → is_special kind ≡ false → result_in kind g ≡ signature_result g
result_kept kind (signature ps r safe) h = ap (λ (b : Bool). cond b (typ void false false) r) h

pub no_result : (kind : FuncKind) (g : Signature) → is_special kind ≡ true → result_in kind g ≡ plain void
no_result kind (signature ps r safe) h = ap (λ (b : Bool). cond b (typ void false false) r) h

-- Functions of a unit

pub at_all : {A : Type 0} (p : A → Bool) (xs : List A) (i : ℕ) (x : A) → list_all p xs ≡ true → slice_get xs i ≡ Some x → p x ≡ true
at_all p [] i x h e = absurd cc
at_all p (y ∷ ys) zero x h e = ap p (sym (same_Some y x e)) ∙ (and_parts (p y) (list_all p ys) h).0
at_all p (y ∷ ys) (suc i) x h e = at_all p ys i x (and_parts (p y) (list_all p ys) h).1 e

result_part : (classes : List Class) (g : Signature) → is_sound_signature classes g ≡ true → is_sound classes a_result (signature_result g) ≡ true
result_part classes (signature ps r safe) h = (and_parts (are_sound classes ps) (is_sound classes a_result r) h).1

pub sound_result : (classes : List Class) (fs : List Func) (i : ℕ) (f : Func) → list_all (is_sound_function classes) fs ≡ true → slice_get fs i ≡ Some f
    → is_sound classes a_result (signature_result f.declared.signature) ≡ true
sound_result classes fs i f h e = result_part classes f.declared.signature (at_all (is_sound_function classes) fs i f h e)
