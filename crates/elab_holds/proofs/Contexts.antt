-- What the laws of expressions ask of a context holds of those that elaboration makes.
use Rattle.std.proofs.Common.{◌≡◌, refl, sym, ap, ◌∙◌, subst, ℕ, Bool, true, false, not, ◌&&◌, ◌||◌, List, is_some, Option, Some, None, slice_get}
use Rattle.std.proofs.lemmas.Bool.{and_parts}
use Rattle.std.proofs.lemmas.Option.{same_Some}
use Rattle.std.specs.List.{list_all}
use Rattle.elab_rules.specs.tx_ints.declared.kinds.IntKind.TheVariants.{Int}
use Rattle.elab_rules.specs.cpp_types.Typ.{Typ, typ, void, int, enum, null, ptr, ref, array, func, class, closure, tx_ex}
use Rattle.elab_rules.specs.cpp_types.Class.{Class, completion_of}
use Rattle.elab_rules.specs.cpp_tree.Typing.{passes, form_in, is_class_typ, is_reference, is_word_of}
use Rattle.elab_rules.specs.elab_ctx.Ctx.{Ctx, Work, Func, Enumerator, This, Capture, Lambda, Traits}
use Rattle.elab_rules.specs.Types.{is_nothing}
use Rattle.elab_rules.specs.Objects.{traits_at, no_traits}
use Rattle.elab_fits_forms.specs.Types.{is_empty, is_sound, is_declared}
use Rattle.elab_fits_forms.specs.Context.{IsEnumerator, IsFunction}
use Rattle.elab_sound_types.specs.Types.{object, target, variable, denoted}
use Rattle.elab_sound_types.specs.Types as sound
use Rattle.elab_sound_types.specs.Contexts.{HasSoundTypes, member_use, is_object_of_class, is_sound_name, is_sound_function, is_sound_variable, is_sound_known, is_sound_this}
use Rattle.elab_sound_types.specs.Contexts.{are_sound_captures, is_sound_capture, is_sound_global}
use Rattle.elab_sound_types.proofs.Names.{at_place}
use Rattle.elab_contexts.specs.Texts.{is_no_name}
use Rattle.elab_contexts.specs.Holding.{UnitHolds, is_enumerator, is_enumerator_type}
use Rattle.state_growth.proofs.Settings.{stand_law}
use Rattle.elab_holds.specs.Contexts.{HasSlots, SettingsHold, ContextsHold}
use Rattle.elab_holds.proofs.Sound.{typ_sound, target_sound, declared_sound, signature_sound, lambda_same, name_same, class_is}
use Rattle.elab_holds.proofs.Order.{order_law, member_sound}
use Rattle.elab_holds.proofs.Complete.{complete_law}
use Rattle.elab_holds.proofs.Makers.{makers_law, lambda_complete}

pub settings_are : SettingsHold
settings_are f c w u h = stand_law f c w (order_law c w u h)

-- Enumerators

enumerator_by : (e : Enumerator) (t : Typ) → e.typ ≡ t → is_word_of Int e.word ≡ true → is_enumerator_type t ≡ true → IsEnumerator e
enumerator_by e (typ (int Int) false false) q w h = record { form = int Int; typed = q; number = refl; word = w }
enumerator_by e (typ (enum n s) false false) q w h = record { form = enum n s; typed = q; number = refl; word = w }
enumerator_by e t q w h = absurd cc

pub enumerator_is : (e : Enumerator) → is_enumerator e ≡ true → IsEnumerator e
enumerator_is e h = let p = and_parts (is_word_of Int e.word) (is_enumerator_type e.typ) h in enumerator_by e e.typ refl p.0 p.1

-- Members

field_object : (a b r : Bool) → (a && b || not r) ≡ true → b ≡ false → r ≡ false
field_object a b false h e = refl
field_object true true true h e = absurd cc
field_object true false true h e = absurd cc
field_object false b true h e = absurd cc

member_declared : (cs : List Class) (b : Bool) (t : Typ) → sound.is_sound cs (member_use b) t ≡ true → is_declared cs t ≡ true
member_declared cs true t h = declared_sound cs variable t refl h
member_declared cs false t h = declared_sound cs object t refl h

-- Functions

function_is : (c : Ctx) (w : Work) → UnitHolds c → HasSlots c → HasSoundTypes c w → (k : ℕ) (f : Func) → slice_get c.funcs k ≡ Some f → IsFunction c k f
function_is c w u s h k f e = record {
  sound = signature_sound c.classes f.declared.signature (at_place (is_sound_function c.classes) c.funcs k f h.functions e);
  free = u.free k f e;
  closure = λ n q l. let x = u.owned k f n e q in x.call (named_of x.class (ap (λ (o : Option Class). passes (λ (y : Class). is_empty y.name) o) (sym x.at) ∙ l));
  virtual = λ n q p v z. s k n f e q p v z;
  builtin = λ b q. let x = u.builtins k f b e q in record { words = x.words; result = x.result; free = x.free };
}
  where
    named_of : (x : Class) → is_empty x.name ≡ true → is_no_name x.name ≡ true
    named_of x l = name_same x.name ∙ l

-- The function at hand

class_typ : (cs : List Class) (t : Typ) → is_object_of_class cs (form_in t) ≡ true → is_class_typ t ≡ true
class_typ cs (typ (class n) c v) h = refl
class_typ cs (typ (closure n) c v) h = refl
class_typ cs (typ void c v) h = absurd cc
class_typ cs (typ (int k) c v) h = absurd cc
class_typ cs (typ (enum n s) c v) h = absurd cc
class_typ cs (typ null c v) h = absurd cc
class_typ cs (typ (ptr t) c v) h = absurd cc
class_typ cs (typ (ref t) c v) h = absurd cc
class_typ cs (typ (array t n) c v) h = absurd cc
class_typ cs (typ (func s) c v) h = absurd cc
class_typ cs (typ (tx_ex t) c v) h = absurd cc

class_sound : (cs : List Class) (t : Typ) → is_object_of_class cs (form_in t) ≡ true → is_sound cs t ≡ true
class_sound cs (typ (class n) c v) h = ap not (class_is cs n h).1
class_sound cs (typ (closure n) c v) h = sym (lambda_same cs n) ∙ h
class_sound cs (typ void c v) h = absurd cc
class_sound cs (typ (int k) c v) h = absurd cc
class_sound cs (typ (enum n s) c v) h = absurd cc
class_sound cs (typ null c v) h = absurd cc
class_sound cs (typ (ptr t) c v) h = absurd cc
class_sound cs (typ (ref t) c v) h = absurd cc
class_sound cs (typ (array t n) c v) h = absurd cc
class_sound cs (typ (func s) c v) h = absurd cc
class_sound cs (typ (tx_ex t) c v) h = absurd cc

this_object : (cs : List Class) (o : Option This) (t : This) → is_sound_this cs o ≡ true → o ≡ Some t → is_object_of_class cs (form_in t.typ) ≡ true
this_object cs None t h e = absurd cc
this_object cs (Some u) t h e = subst (λ (x : This). is_object_of_class cs (form_in x.typ) ≡ true) (same_Some u t e) h

known_sound : (cs : List Class) (o : Option Typ) (t : Typ) → is_sound_known cs o ≡ true → o ≡ Some t → sound.is_sound cs variable t ≡ true
known_sound cs None t h e = absurd cc
known_sound cs (Some u) t h e = subst (λ (x : Typ). sound.is_sound cs variable x ≡ true) (same_Some u t e) h

captures_sound : (cs : List Class) (o : Option Lambda) (l : Lambda) → are_sound_captures cs o ≡ true → o ≡ Some l → (i : ℕ) (x : Capture)
    → slice_get l.captures i ≡ Some x → sound.is_sound cs variable x.typ ≡ true
captures_sound cs None l h e i x q = absurd cc
captures_sound cs (Some m) l h e i x q = at_place (is_sound_capture cs) l.captures i x
    (subst (λ (y : Lambda). list_all (is_sound_capture cs) y.captures ≡ true) (same_Some m l e) h) q

-- Classes of which something is said

no_claim : (c : Ctx) → UnitHolds c → (claim : Traits → Bool) → claim no_traits ≡ false → (n : ℕ) → claim (traits_at c n) ≡ true
    → is_some (completion_of c.classes n) ≡ true
no_claim c u claim q n h = by (completion_of c.classes n) refl
  where
    no_way : (b : Bool) (A : Type 0) → b ≡ false → b ≡ true → A
    no_way false A e f = absurd cc
    no_way true A e f = absurd cc

    by : (o : Option ℕ) → completion_of c.classes n ≡ o → is_some o ≡ true
    by (Some k) e = refl
    by None e = no_way (claim (traits_at c n)) _ (ap claim (u.bare n e) ∙ q) h

pub contexts_law : ContextsHold
contexts_law f c w u s h l = record {
  setting = settings_are f c w u h;
  makers = makers_law c w u h;
  variables = λ i v t o e k. let x = l.variables i v t o e k in record {
    declared = declared_sound c.classes variable t refl
        (known_sound c.classes v.typ t (at_place (is_sound_variable c.classes) c.variables i v h.variables e) k);
    item = x.item;
    at = x.at;
    is = x.is;
  };
  this = λ t e. let z = this_object c.classes c.this t h.this e in record {
    object = class_typ c.classes t.typ z;
    sound = class_sound c.classes t.typ z;
    at = l.this t e;
  };
  inside = λ t n e q. l.inside n q;
  lambda = l.lambda;
  captures = λ x i y e q. declared_sound c.classes variable y.typ refl (captures_sound c.classes c.lambda x h.captures e i y q);
  globals = λ i g e. target_sound c.classes g.typ (at_place (is_sound_global c.classes) w.globals i g h.globals e);
  enumerators = λ i e q. enumerator_is e (u.enumerators i e q);
  functions = function_is c w u s h;
  fields = λ n i k m e q. record {
    declared = member_declared c.classes (is_nothing m.name) m.typ (member_sound c w h n i k m e q);
    object = λ z. field_object (is_no_name k.name) (is_no_name m.name) (is_reference m.typ) (u.objects n i k m e q) (name_same m.name ∙ z);
  };
  complete = λ n k. complete_law c w n u h k;
  types = λ i x e. typ_sound c.classes denoted x.typ (at_place (is_sound_name c.classes) c.types i x h.types e);
  lambdas = lambda_complete c u;
  assignable = no_claim c u (λ (t : Traits). t.is_assignable) refl;
  copyable = no_claim c u (λ (t : Traits). t.is_trivially_copyable) refl;
}
