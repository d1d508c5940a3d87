-- Contexts and states of which one part is another: the types in them are sound still.
use Rattle.std.proofs.Common.{◌≡◌, refl, sym, subst, ℕ, zero, suc, Bool, true, false, List, [], ◌∷◌, unwrap_or}
use Rattle.std.specs.Prelude.{slice_get, if◌then◌else◌}
use Rattle.std.specs.List.{list_all}
use Rattle.std.specs.Str.{bytes_eq}
use Rattle.std.proofs.lemmas.Bool.{and_parts}
use Rattle.elab_rules.specs.cpp_types.Typ.{Typ}
use Rattle.elab_rules.specs.cpp_types.Class.{Class}
use Rattle.elab_rules.specs.cpp_names.Names.{Names}
use Rattle.elab_rules.specs.elab_ctx.Ctx.{Ctx, Work, Func, Enumerator, Default, Closure, Returns}
use Rattle.elab_rules.specs.elab_ctx.Types.{Named, named_too}
use Rattle.elab_rules.specs.Initialising.{func_at}
use Rattle.elab_rules.specs.Statements.{State, Body, with_work}
use Rattle.elab_rules.specs.cpp_tree.Typing.{form_in, is_void}
use Rattle.elab_rules.specs.Types.{is_reference_form}
use Rattle.elab_sound_types.specs.Types.{is_sound, is_sound_signature, denoted}
use Rattle.elab_sound_types.specs.Contexts.{HasSoundTypes, is_sound_function, is_sound_name, is_sound_enumerator, are_sound_globals, are_sound_closures}
use Rattle.elab_sound_types.specs.States.{IsSoundState, Grown, is_sound_return}
use Rattle.elab_sound_types.proofs.Sound.{both}
use Rattle.elab_sound_types.proofs.Growth.{grown_same}
use Rattle.elab_sound_units.proofs.Below.{GlobalsStay, After}

-- Lists

pub all_if : {A : Type 0} (p : A → Bool) (b : Bool) (xs ys : List A) → list_all p xs ≡ true → list_all p ys ≡ true
    → list_all p (if b then xs else ys) ≡ true
all_if p true xs ys h g = h
all_if p false xs ys h g = g

-- what a place of a list has, or what stands for none
pub at_or : {A : Type 0} (p : A → Bool) (xs : List A) (i : ℕ) (d : A) → list_all p xs ≡ true → p d ≡ true → p (unwrap_or (slice_get xs i) d) ≡ true
at_or p [] i d h g = g
at_or p (x ∷ xs) zero d h g = (and_parts (p x) (list_all p xs) h).0
at_or p (x ∷ xs) (suc i) d h g = at_or p xs i d (and_parts (p x) (list_all p xs) h).1 g

-- Contexts

pub with_functions : (c : Ctx) (w : Work) (fs : List Func) → HasSoundTypes c w → list_all (is_sound_function c.classes) fs ≡ true
    → HasSoundTypes (record c { funcs = fs }) w
with_functions c w fs h g = record {
  types = h.types;
  members = h.members;
  functions = g;
  enumerators = h.enumerators;
  variables = h.variables;
  this = h.this;
  captures = h.captures;
  globals = h.globals;
  many = h.many;
  copied = h.copied;
}

pub with_names : (c : Ctx) (w : Work) (scopes : List Names) (types : List Named) → HasSoundTypes c w → list_all (is_sound_name c.classes) types ≡ true
    → HasSoundTypes (record c { scopes = scopes; types = types }) w
with_names c w scopes types h g = record {
  types = g;
  members = h.members;
  functions = h.functions;
  enumerators = h.enumerators;
  variables = h.variables;
  this = h.this;
  captures = h.captures;
  globals = h.globals;
  many = h.many;
  copied = h.copied;
}

pub with_enumerators : (c : Ctx) (w : Work) (scopes : List Names) (es : List Enumerator) → HasSoundTypes c w → list_all is_sound_enumerator es ≡ true
    → HasSoundTypes (record c { scopes = scopes; enumerators = es }) w
with_enumerators c w scopes es h g = record {
  types = h.types;
  members = h.members;
  functions = h.functions;
  enumerators = g;
  variables = h.variables;
  this = h.this;
  captures = h.captures;
  globals = h.globals;
  many = h.many;
  copied = h.copied;
}

pub with_defaults : (c : Ctx) (w : Work) (ds : List Default) → HasSoundTypes c w → HasSoundTypes (record c { defaults = ds }) w
with_defaults c w ds h = record {
  types = h.types;
  members = h.members;
  functions = h.functions;
  enumerators = h.enumerators;
  variables = h.variables;
  this = h.this;
  captures = h.captures;
  globals = h.globals;
  many = h.many;
  copied = h.copied;
}

-- with what was made beside the trees
pub with_globals : (c : Ctx) (w v : Work) → HasSoundTypes c w → are_sound_globals c.classes v ≡ true → HasSoundTypes c v
with_globals c w v h g = record {
  types = h.types;
  members = h.members;
  functions = h.functions;
  enumerators = h.enumerators;
  variables = h.variables;
  this = h.this;
  captures = h.captures;
  globals = g;
  many = h.many;
  copied = h.copied;
}

pub moved : (c : Ctx) (w v : Work) → HasSoundTypes c w → GlobalsStay w v → HasSoundTypes c v
moved c w v h g = with_globals c w v h (g.kept c.classes h.globals)

-- a name stands for one type more
pub names_with : (classes : List Class) (ns : List Named) (name : List ℕ) (t : Typ) → is_sound classes denoted t ≡ true
    → list_all (is_sound_name classes) ns ≡ true → list_all (is_sound_name classes) (named_too ns name t) ≡ true
names_with classes [] name t h g = both h refl
names_with classes (n ∷ ns) name t h g = let p = and_parts (is_sound_name classes n) (list_all (is_sound_name classes) ns) g in
    all_if (is_sound_name classes) (bytes_eq name n.name) _ _ (both h p.1) (both p.0 (names_with classes ns name t h p.1))

-- the function of a place
pub function_at : (classes : List Class) (fs : List Func) (k : ℕ) → list_all (is_sound_function classes) fs ≡ true
    → is_sound_signature classes (func_at fs k).declared.signature ≡ true
function_at classes fs k h = at_or (is_sound_function classes) fs k _ h refl

-- States

-- with a context that has the same classes
pub stays : (st : State) (d : Ctx) (w : Work) (bs : List Body) → HasSoundTypes d w → d.classes ≡ st.ctx.classes → d.closures ≡ st.ctx.closures
    → d.returns ≡ st.ctx.returns → IsSoundState st → After st (record { ctx = d; work = w; bodies = bs })
stays st d w bs h e f g i = record {
  sound = record {
    context = h;
    closures = subst (λ (l : List Closure). are_sound_closures d.classes l ≡ true) (sym f)
        (subst (λ (cs : List Class). are_sound_closures cs st.ctx.closures ≡ true) (sym e) i.closures);
    returned = subst (λ (r : Returns). is_sound_return d.classes r ≡ true) (sym g)
        (subst (λ (cs : List Class). is_sound_return cs st.ctx.returns ≡ true) (sym e) i.returned);
  };
  grown = subst (λ (cs : List Class). Grown true st.ctx.classes cs) (sym e) (grown_same true st.ctx.classes);
}

pub functions_state : (st : State) (fs : List Func) → IsSoundState st → list_all (is_sound_function st.ctx.classes) fs ≡ true
    → After st (record st { ctx = record st.ctx { funcs = fs } })
functions_state st fs h g = stays st (record st.ctx { funcs = fs }) st.work st.bodies (with_functions st.ctx st.work fs h.context g) refl refl refl h

pub names_state : (st : State) (scopes : List Names) (types : List Named) → IsSoundState st → list_all (is_sound_name st.ctx.classes) types ≡ true
    → After st (record st { ctx = record st.ctx { scopes = scopes; types = types } })
names_state st scopes types h g =
    stays st (record st.ctx { scopes = scopes; types = types }) st.work st.bodies (with_names st.ctx st.work scopes types h.context g) refl refl refl h

pub enumerators_state : (st : State) (scopes : List Names) (es : List Enumerator) → IsSoundState st → list_all is_sound_enumerator es ≡ true
    → After st (record st { ctx = record st.ctx { scopes = scopes; enumerators = es } })
enumerators_state st scopes es h g =
    stays st (record st.ctx { scopes = scopes; enumerators = es }) st.work st.bodies (with_enumerators st.ctx st.work scopes es h.context g) refl refl refl h

pub globals_state : (st : State) (w : Work) → IsSoundState st → HasSoundTypes st.ctx w → After st (record st { work = w })
globals_state st w h g = stays st st.ctx w st.bodies g refl refl refl h

-- behind a full-expression
pub work_state : (st : State) (w : Work) → IsSoundState st → HasSoundTypes st.ctx w → After st (with_work st w)
work_state st w h g = record {
  sound = record {
    context = record {
      types = g.types;
      members = g.members;
      functions = g.functions;
      enumerators = g.enumerators;
      variables = g.variables;
      this = g.this;
      captures = g.captures;
      globals = g.globals;
      many = g.many;
      copied = g.copied;
    };
    closures = refl;
    returned = h.returned;
  };
  grown = grown_same true st.ctx.classes;
}

-- Forms

-- what is neither a reference nor `void`
pub record IsPlainForm (t : Typ) : Type 0 where
  pub no_reference : is_reference_form (form_in t) ≡ false
  pub no_void : is_void t ≡ false
