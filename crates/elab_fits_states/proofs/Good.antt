-- Good states stay good where scopes, names and labels change, where variables are declared, and where more is made.
use Rattle.std.proofs.Common.{◌≡◌, refl, sym, ap, ◌∙◌, subst, ℕ, Bool, true, List, [], ◌∷◌, ◌++◌, drop, length, slice_get, slice_set, Option, Some, None}
use Rattle.std.proofs.lemmas.Option.{same_Some}
use Rattle.elab_rules.specs.cpp_types.Typ.{Typ, ptr}
use Rattle.elab_rules.specs.cpp_types.Equal.{typ_eq}
use Rattle.elab_rules.specs.cpp_names.Names.{Names, with_name}
use Rattle.elab_rules.specs.cpp_tree.Notation.{plain}
use Rattle.elab_rules.specs.cpp_tree.Typing.{passes}
use Rattle.elab_rules.specs.cpp_tree.Units.{Func as UnitFunc}
use Rattle.elab_rules.specs.cpp_tree.Rows.{Setting, at_place, result_of}
use Rattle.elab_rules.specs.elab_ctx.declared.env.Label.{Label}
use Rattle.elab_rules.specs.elab_ctx.Ctx.{Ctx, Work, Variable, Labels, Closure, Default, next_place, with_item}
use Rattle.elab_rules.specs.Names.{is_outer}
use Rattle.elab_rules.specs.Statements.{State, with_work, with_labels, outer, declared_variable, placed_variable, auto_placed, next_variable}
use Rattle.elab_fits.proofs.Nodes.{clash, or_left}
use Rattle.elab_fits.proofs.Equal.{typ_refl}
use Rattle.elab_growth.proofs.Growth.{Behind}
use Rattle.elab_contexts.specs.Holding.{UnitHolds}
use Rattle.elab_sound_types.specs.Types.{is_sound, variable as a_variable, result as a_result}
use Rattle.elab_sound_types.specs.Contexts.{HasSoundTypes}
use Rattle.elab_sound_types.specs.States.{IsSoundState}
use Rattle.elab_sound_types.proofs.Growth.{sound_more, kept_same}
use Rattle.elab_sound_types.proofs.States as sound
use Rattle.elab_fits_forms.specs.Context.{Holds}
use Rattle.elab_fits_forms.specs.Expressions.{ClosuresHold}
use Rattle.elab_fits_statements.specs.Discipline.{within}
use Rattle.elab_fits_braces.specs.Defaults.{AllDefaultsFit, UnitGrows}
use Rattle.elab_fits_braces.proofs.Staying.{defaults_stay}
use Rattle.setting_growth.specs.Growth.{HeldEarlier, Grows}
use Rattle.setting_growth.proofs.Trees.{order_law}
use Rattle.state_growth.proofs.Lists.{behind, added}
use Rattle.state_growth.proofs.Settings.{states_law}
use Rattle.state_growth.proofs.Works.{one_item}
use Rattle.state_growth.proofs.Steps.{seen, Steps, kept_refl, goes, stays}
use Rattle.elab_contexts.specs.Overriders.{HasOverriders}
use Rattle.elab_holds.proofs.Contexts.{contexts_law}
use Rattle.elab_holds.proofs.Alone.{slots_law}
use Rattle.elab_holds.specs.Locals.{HasItemOf, LocalsHold}
use Rattle.elab_fits_states.specs.Made.{AllBodiesFit}
use Rattle.elab_fits_states.specs.States.{setting, Comes, IsGood, IsSettled}
use Rattle.elab_fits_states.proofs.Lists.{in_longer, in_changed, last_item}
use Rattle.elab_fits_states.proofs.Made.{bodies_stay}

-- Lists

abbrev Items : List Typ → List Typ → Type 0
Items a b = (i : ℕ) (t : Typ) → slice_get a i ≡ Some t → slice_get b i ≡ Some t

item_kept : (a b : List Typ) → Items a b → (place : ℕ) (t : Typ) → at_place a place t ≡ true → at_place b place t ≡ true
item_kept a b k place t h = by (slice_get a place) refl
  where
    by : (o : Option Typ) → slice_get a place ≡ o → at_place b place t ≡ true
    by (Some x) e = ap (passes (typ_eq t)) (k place x e) ∙ (sym (ap (passes (typ_eq t)) e) ∙ h)
    by None e = clash (at_place b place t ≡ true) (at_place a place t) (ap (passes (typ_eq t)) e) h

pub none_hold : (c : Ctx) (l : List Closure) → l ≡ [] → ClosuresHold c l
none_hold c [] h = record { closures = λ i x e. absurd cc }
none_hold c (x ∷ l) h = absurd cc

place_kept : (w v : Work) → Items w.frame v.frame → (place : ℕ) (t : Typ) → HasItemOf w.frame place t → HasItemOf v.frame place t
place_kept w v k place t h = record { item = h.item; at = k place h.item h.at; is = h.is }

pub unit_grows : (s x : Setting) → Grows s x → UnitGrows s x
unit_grows s x g = record { classes = g.classes; slots = g.slots; funcs = g.funcs; globals = g.globals }

-- a context with other names, variables and labels, of the same classes and functions
abbrev pub other : Ctx → List Names → List Variable → (breaks continues : Bool) → Label → Labels → List Closure → Ctx
other c names variables breaks continues label labels closures = record c {
  scopes = names;
  variables = variables;
  breaks = breaks;
  continues = continues;
  label = label;
  labels = labels;
  closures = closures;
}

abbrev Known : Ctx → Work → List Variable → Type 0
Known c v variables = (i : ℕ) (x : Variable) (t : Typ) → is_outer i c.lambda ≡ None → slice_get variables i ≡ Some x → x.typ ≡ Some t → HasItemOf v.frame x.place t

module _ (c : Ctx) (names : List Names) (variables : List Variable) (breaks continues : Bool) (label : Label) (labels : Labels) (closures : List Closure) where
  pub unit_other : UnitHolds c → UnitHolds (other c names variables breaks continues label labels closures)
  unit_other h = record {
    many = h.many;
    destructors = λ n k e. let x = h.destructors n k e in record { func = x.func; at = x.at; kind = x.kind; class = x.class };
    copies = λ n k e. let x = h.copies n k e in record {
      maker = record { func = x.maker.func; at = x.maker.at; kind = x.maker.kind; class = x.maker.class };
      takes = x.takes;
    };
    defaults = λ n k e. let x = h.defaults n k e in record {
      maker = record { func = x.maker.func; at = x.maker.at; kind = x.maker.kind; class = x.maker.class };
      takes = x.takes;
    };
    bare = h.bare;
    builtins = h.builtins;
    free = h.free;
    owned = h.owned;
    recorded = h.recorded;
    slotted = h.slotted;
    objects = h.objects;
    numbered = h.numbered;
    earlier = h.earlier;
    based = h.based;
    bases = h.bases;
    members = h.members;
    nameless = h.nameless;
    sized = h.sized;
    enumerators = h.enumerators;
    types = h.types;
  }

-- what the laws of expressions ask
pub holds_of : (f : UnitFunc) (st : State) → IsGood f st → Holds (setting f st) st.ctx st.work
holds_of f st g = contexts_law f st.ctx st.work g.unit (slots_law st.ctx st.work g.unit g.sound.context g.overriders) g.sound.context g.locals

pub earlier_of : (f : UnitFunc) (st : State) → IsGood f st → HeldEarlier st.ctx.classes
earlier_of f st g = order_law st.ctx.classes (holds_of f st g).setting.ordered

-- what holds of a state, holds of one that came of it, of the same function
pub carried : (f : UnitFunc) (a z : State) → IsGood f a → Comes a z → UnitHolds z.ctx → HasOverriders z.ctx.funcs → IsSoundState z → LocalsHold z.ctx z.work
    → ClosuresHold z.ctx z.ctx.closures → z.ctx.lambda ≡ a.ctx.lambda → z.ctx.returns ≡ a.ctx.returns → z.ctx.defaults ≡ a.ctx.defaults → AllBodiesFit z → IsGood f z
carried f a z g l u w s v c q r d m = record {
  unit = u;
  overriders = w;
  sound = s;
  locals = v;
  around = λ x e. g.around x (sym q ∙ e);
  closures = c;
  returns = r ∙ g.returns;
  typed = sound_more a.ctx.classes z.ctx.classes l.kept a_result (result_of f) g.typed;
  result = λ q. item_kept a.work.frame z.work.frame l.goes.grows.frame 0 (plain (ptr (result_of f))) (g.result q);
  bodies = m;
  defaults = subst (λ (ds : List Default). AllDefaultsFit (setting f z) ds) (sym d) (defaults_stay (setting f a) (setting f z) a.ctx.defaults (earlier_of f a g)
      (unit_grows (setting f a) (setting f z) (states_law f f a z refl refl l.goes.grows)) g.defaults);
}

module _ (f : UnitFunc) (st : State) (h : IsGood f st) where
  known_still : (v : Work) → Items st.work.frame v.frame → Known st.ctx v st.ctx.variables
  known_still v k i x t o e n = place_kept st.work v k x.place t (h.locals.variables i x t o e n)

  good_other : (names : List Names) (variables : List Variable) (breaks continues : Bool) (label : Label) (labels : Labels) (closures : List Closure)
      (v : Work) → closures ≡ []
      → Comes st (record { ctx = other st.ctx names variables breaks continues label labels closures; work = v; bodies = st.bodies })
      → IsSoundState (record { ctx = other st.ctx names variables breaks continues label labels closures; work = v; bodies = st.bodies })
      → Known st.ctx v variables
      → IsSettled f (record { ctx = other st.ctx names variables breaks continues label labels closures; work = v; bodies = st.bodies })
  good_other names variables breaks continues label labels closures v none l s known =
      let z : State = record { ctx = other st.ctx names variables breaks continues label labels closures; work = v; bodies = st.bodies } in record {
        good = carried f st z h l (unit_other st.ctx names variables breaks continues label labels closures h.unit)
            h.overriders s (record {
              variables = known;
              this = λ t e. l.goes.grows.frame _ _ (h.locals.this t e);
              inside = h.locals.inside;
              lambda = h.locals.lambda;
            }) (none_hold z.ctx closures none) refl refl refl (bodies_stay st z (earlier_of f st h) l.goes.grows.unit refl h.bodies);
        none = none;
      }

  -- elsewhere, with the same variables
  elsewhere : (names : List Names) (breaks continues : Bool) (label : Label) (labels : Labels) → st.ctx.closures ≡ []
      → IsSettled f (record { ctx = other st.ctx names st.ctx.variables breaks continues label labels st.ctx.closures; work = st.work; bodies = st.bodies })
  elsewhere names breaks continues label labels none =
      let z : State = record { ctx = other st.ctx names st.ctx.variables breaks continues label labels st.ctx.closures; work = st.work; bodies = st.bodies } in
      good_other names st.ctx.variables breaks continues label labels st.ctx.closures st.work none
      (record { goes = goes st z (stays st); kept = kept_same st.ctx.classes }) (sound.elsewhere st names breaks continues label labels h.sound)
      (known_still st.work (λ i t e. e))

-- States that come of others

pub comes_still : (a : State) → Comes a a
comes_still a = record { goes = goes a a (stays a); kept = kept_same a.ctx.classes }

kept_work : (a : State) (v : Work) → Behind a.work v → Steps (seen a) (record (seen a) { globals = v.globals; frame = v.frame })
kept_work a v b = let r = kept_refl (seen a) in record {
  kept = record {
    classes = r.classes;
    numbers = r.numbers;
    slots = r.slots;
    funcs = r.funcs;
    globals = record { kept = λ i g e. record { global = g; at = behind a.work.globals v.globals b.texts b.globals i g e; typ = refl } };
    frame = behind a.work.frame v.frame b.items b.frame;
  };
  tidy = λ t. record { many = t.many; empty = t.empty; numbered = t.numbered };
}

pub leads_worked : (a : State) (v : Work) → Behind a.work v → Comes a (with_work a v)
leads_worked a v b = record { goes = goes a (with_work a v) (kept_work a v b); kept = kept_same a.ctx.classes }

pub leads_placed : (a : State) (name : List ℕ) (t : Typ) → Comes a (placed_variable a name t)
leads_placed a name t = record { goes = goes a (placed_variable a name t) (kept_work a (with_item a.work t) (one_item a.work t)); kept = kept_same a.ctx.classes }

pub leads_auto : (a : State) (i : ℕ) (t : Typ) → Comes a (auto_placed a i t)
leads_auto a i t = record { goes = goes a (auto_placed a i t) (kept_work a (with_item a.work t) (one_item a.work t)); kept = kept_same a.ctx.classes }

pub item_there : (st : State) (t : Typ) → at_place (st.work.frame ++ t ∷ []) (length st.work.frame) t ≡ true
item_there st t = ap (passes (typ_eq t)) (last_item st.work.frame t) ∙ typ_refl t

new_place : (w : Work) (t u : Typ) → t ≡ u → HasItemOf (with_item w t).frame (next_place w) u
new_place w t u e = subst (λ (z : Typ). HasItemOf (with_item w t).frame (next_place w) z) e
    (record { item = t; at = last_item w.frame t; is = or_left _ (typ_refl t) })

-- States of a function

module _ (f : UnitFunc) where
  -- behind an expression
  pub good_worked : (st : State) → IsGood f st → (v : Work) → Behind st.work v → HasSoundTypes st.ctx v → IsSettled f (with_work st v)
  good_worked st h v l s = good_other f st h st.ctx.scopes st.ctx.variables st.ctx.breaks st.ctx.continues st.ctx.label st.ctx.labels [] v refl
      (leads_worked st v l) (sound.made_sound st v s h.sound) (known_still f st h v (behind st.work.frame v.frame l.items l.frame))

  module _ (st : State) (h : IsSettled f st) where
    -- one more item
    longer : (t : Typ) → Items st.work.frame (st.work.frame ++ t ∷ [])
    longer t i u e = added st.work.frame (t ∷ []) i u e

    pub good_settled : IsSettled f (with_work st st.work)
    good_settled = good_other f st h.good st.ctx.scopes st.ctx.variables st.ctx.breaks st.ctx.continues st.ctx.label st.ctx.labels [] st.work refl
        (record { goes = goes st (with_work st st.work) (stays st); kept = kept_same st.ctx.classes })
        (sound.made_sound st st.work h.good.sound.context h.good.sound) (known_still f st h.good st.work (λ i t e. e))

    pub good_within : (l : Label) (ls : Labels) (c d : Bool) → IsSettled f (within st l ls c d)
    good_within l ls c d = elsewhere f st h.good ([] ∷ st.ctx.scopes) c d l ls h.none

    pub good_outer : (before : State) → IsSettled f (outer before st)
    good_outer before = elsewhere f st h.good (drop 1 st.ctx.scopes) before.ctx.breaks before.ctx.continues before.ctx.label before.ctx.labels h.none

    pub good_labels : (ls : Labels) → IsSettled f (with_labels st ls)
    good_labels ls = elsewhere f st h.good st.ctx.scopes st.ctx.breaks st.ctx.continues st.ctx.label ls h.none

    pub good_named : (name : List ℕ) → IsSettled f (declared_variable st name None)
    good_named name = good_other f st h.good (with_name st.ctx.scopes name (next_variable st.ctx))
        (st.ctx.variables ++ record { typ = None; place = next_place st.work } ∷ []) st.ctx.breaks st.ctx.continues st.ctx.label st.ctx.labels
        st.ctx.closures st.work h.none
        (record { goes = goes st (declared_variable st name None) (stays st); kept = kept_same st.ctx.classes })
        (sound.declared_sound st name None refl h.good.sound)
        (λ i x t o e. in_longer (λ (y : Variable). y.typ ≡ Some t → HasItemOf st.work.frame y.place t) st.ctx.variables
        (record { typ = None; place = next_place st.work }) i x e (λ n. absurd cc) (λ k n. h.good.locals.variables i x t o k n))

    pub good_placed : (name : List ℕ) (t : Typ) → is_sound st.ctx.classes a_variable t ≡ true → IsSettled f (placed_variable st name t)
    good_placed name t d = good_other f st h.good (with_name st.ctx.scopes name (next_variable st.ctx))
        (st.ctx.variables ++ record { typ = Some t; place = next_place st.work } ∷ [])
        st.ctx.breaks st.ctx.continues st.ctx.label st.ctx.labels st.ctx.closures (with_item st.work t) h.none (leads_placed st name t)
        (sound.placed_sound st name t d h.good.sound)
        (λ i x u o e. in_longer (λ (y : Variable). y.typ ≡ Some u → HasItemOf (with_item st.work t).frame y.place u) st.ctx.variables
        (record { typ = Some t; place = next_place st.work }) i x e (λ n. new_place st.work t u (same_Some t u n))
        (λ k n. known_still f st h.good (with_item st.work t) (longer t) i x u o k n))

    pub good_auto : (i : ℕ) (t : Typ) → is_sound st.ctx.classes a_variable t ≡ true → IsSettled f (auto_placed st i t)
    good_auto i t d = good_other f st h.good st.ctx.scopes (slice_set st.ctx.variables i (record { typ = Some t; place = next_place st.work }))
        st.ctx.breaks st.ctx.continues st.ctx.label st.ctx.labels st.ctx.closures (with_item st.work t) h.none (leads_auto st i t)
        (sound.auto_sound st i t d h.good.sound)
        (λ n x u o e. in_changed (λ (y : Variable). y.typ ≡ Some u → HasItemOf (with_item st.work t).frame y.place u) st.ctx.variables i
        (record { typ = Some t; place = next_place st.work }) n x e (λ q. new_place st.work t u (same_Some t u q))
        (λ k q. known_still f st h.good (with_item st.work t) (longer t) n x u o k q))
