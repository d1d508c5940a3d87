-- Into a function: the state in which its body begins is good.
use Rattle.std.proofs.Common.{◌≡◌, refl, sym, ap, ◌∙◌, subst, ℕ, Bool, true, List, [], ◌∷◌, ◌++◌, Option, Some, None, is_some}
use Rattle.std.proofs.Common.{Ok}
use Rattle.std.specs.Prelude.{if◌then◌else◌}
use Rattle.std.specs.List.{list_all}
use Rattle.std.proofs.lemmas.Bool.{and_parts}
use Rattle.elab_rules.specs.cpp_types.Typ.{Typ, typ, void, int, enum, null, ptr, ref, array, func, class, closure, tx_ex}
use Rattle.elab_rules.specs.cpp_types.Class.{Class, completion_of, held}
use Rattle.elab_rules.specs.cpp_lex.Tokens.{Lexeme}
use Rattle.elab_rules.specs.cpp_tree.declared.faults.IllRule.TheVariants.{Incomplete, Redeclared}
use Rattle.elab_rules.specs.cpp_tree.Notation.{plain}
use Rattle.elab_rules.specs.cpp_tree.Typing.{is_class_typ}
use Rattle.elab_rules.specs.cpp_tree.Units.{Func as UnitFunc}
use Rattle.elab_rules.specs.cpp_tree.Rows.{at_place, result_of}
use Rattle.elab_rules.specs.elab_ctx.Ctx.{Ctx, Closure, Lambda, known, next_place}
use Rattle.elab_rules.specs.elab_ctx.Steps.{check, spelling}
use Rattle.elab_rules.specs.Operators.{is_complete}
use Rattle.elab_rules.specs.Types.{Parameter}
use Rattle.elab_rules.specs.Statements.{State, is_fresh}
use Rattle.elab_rules.specs.Functions.{entered, result_items, this_items, this_at, word_item, with_parameter, unnamed_parameter, parameter_named, with_parameters}
use Rattle.elab_fits.specs.Standing.{On}
use Rattle.elab_fits.proofs.Equal.{typ_refl}
use Rattle.elab_fits.proofs.Nodes.{both}
use Rattle.elab_fits.proofs.Steps.{answered, skip, bind}
use Rattle.elab_contexts.specs.Holding.{UnitHolds}
use Rattle.elab_contexts.specs.Overriders.{HasOverriders}
use Rattle.elab_holds.specs.Locals.{LocalsHold}
use Rattle.elab_sound_types.specs.Types.{is_sound, variable as a_variable, parameter as a_parameter, result as a_result}
use Rattle.elab_sound_types.specs.Contexts.{is_sound_variable, is_sound_this, is_sound_parameter}
use Rattle.elab_sound_types.specs.States.{IsSoundState, is_sound_object}
use Rattle.elab_fits_forms.specs.Expressions.{ClosuresHold}
use Rattle.elab_fits_statements.specs.Variables.{HasItem}
use Rattle.elab_fits_braces.specs.Defaults.{AllDefaultsFit}
use Rattle.state_growth.proofs.Steps.{Leaves, kept_refl}
use Rattle.state_growth.proofs.Statements.{parameters_kept}
use Rattle.elab_fits_states.specs.States.{setting, IsSettled}
use Rattle.elab_fits_states.specs.Bodies.{StandsAlone}
use Rattle.elab_fits_states.specs.Made.{AllBodiesFit}
use Rattle.elab_fits_units.specs.Below.{Below}
use Rattle.elab_fits_units.specs.Good.{UnitGood}
use Rattle.elab_fits_units.proofs.Growing.{bare, Over, over, held_earlier, bodies_over, defaults_over, unit_as}

-- Types and lists

-- a parameter is a variable in the body
pub parameter_variable : (classes : List Class) (t : Typ) → is_sound classes a_parameter t ≡ true → is_sound classes a_variable t ≡ true
parameter_variable classes (typ void c v) h = absurd cc
parameter_variable classes (typ (array t n) c v) h = absurd cc
parameter_variable classes (typ (func s) c v) h = absurd cc
parameter_variable classes (typ (int k) c v) h = refl
parameter_variable classes (typ (enum n e) c v) h = refl
parameter_variable classes (typ null c v) h = refl
parameter_variable classes (typ (ptr t) c v) h = h
parameter_variable classes (typ (ref t) c v) h = h
parameter_variable classes (typ (class n) c v) h = h
parameter_variable classes (typ (closure n) c v) h = h
parameter_variable classes (typ (tx_ex (typ f d w)) c v) h = h

pub all_more : {A : Type 0} (p : A → Bool) (xs : List A) (x : A) → list_all p xs ≡ true → p x ≡ true → list_all p (xs ++ x ∷ []) ≡ true
all_more p [] x h g = both g refl
all_more p (y ∷ ys) x h g = let a = and_parts (p y) (list_all p ys) h in both a.0 (all_more p ys x a.1 g)

item_more : (xs : List Typ) (x t : Typ) → at_place xs 0 t ≡ true → at_place (xs ++ x ∷ []) 0 t ≡ true
item_more [] x t h = absurd cc
item_more (y ∷ ys) x t h = h

-- the address of a result of class type is the first word of a call
first_word : (t : Typ) (rest : List Typ) → is_class_typ t ≡ true → at_place (result_items t ++ rest) 0 (plain (ptr t)) ≡ true
first_word t rest h = ap (λ (b : Bool). at_place ((if b then plain (ptr t) ∷ [] else []) ++ rest) 0 (plain (ptr t))) h ∙ typ_refl (plain (ptr t))

this_sound : (classes : List Class) (before : List Typ) (this : Option Typ) → is_sound_object classes this ≡ true → is_sound_this classes (this_at before this) ≡ true
this_sound classes before (Some t) h = h
this_sound classes before None h = refl

pub none_hold : (c : Ctx) (l : List Closure) → l ≡ [] → ClosuresHold c l
none_hold c [] h = record { closures = λ i x e. absurd cc }
none_hold c (x ∷ l) h = absurd cc

no_lambda : (A : Type 0) (l : Lambda) → None ≡ Some l → A
no_lambda A l h = absurd cc

pub over_same : (st : State) → Over st st
over_same st = record { kept = kept_refl (bare st); tidy = λ t. t }

-- States

-- what is asked of a state in a function, beside its variables and its object
pub record Inside (f : UnitFunc) (st : State) : Type 0 where
  pub unit : UnitHolds st.ctx
  pub overriders : HasOverriders st.ctx.funcs
  pub sound : IsSoundState st
  pub around : st.ctx.lambda ≡ None
  pub none : st.ctx.closures ≡ []
  pub returns : st.ctx.returns ≡ known (result_of f)
  pub typed : is_sound st.ctx.classes a_result (result_of f) ≡ true
  pub result : is_class_typ (result_of f) ≡ true → HasItem (setting f st) 0 (plain (ptr (result_of f)))
  pub bodies : AllBodiesFit st
  pub defaults : AllDefaultsFit (setting f st) st.ctx.defaults
  pub alone : StandsAlone st

-- the state in which a body begins
pub record Begins (f : UnitFunc) (st e : State) : Type 0 where
  pub settled : IsSettled f e
  pub alone : StandsAlone e
  pub over : Over st e

is_none : (o : Option Lambda) (l : Lambda) (A : Type 0) → o ≡ None → o ≡ Some l → A
is_none None l A e h = absurd cc
is_none (Some m) l A e h = absurd cc

settled_inside : (f : UnitFunc) (e : State) → Inside f e → LocalsHold e.ctx e.work → IsSettled f e
settled_inside f e h l = record {
  good = record {
    unit = h.unit;
    overriders = h.overriders;
    sound = h.sound;
    locals = l;
    around = λ x q. is_none e.ctx.lambda x _ h.around q;
    closures = none_hold e.ctx e.ctx.closures h.none;
    returns = h.returns;
    typed = h.typed;
    result = h.result;
    bodies = h.bodies;
    defaults = h.defaults;
  };
  none = h.none;
}

module _ (s : List Lexeme) (b : Below s) where
  entered_inside : (st : State) (f : UnitFunc) (r : Typ) (this : Option Typ) (cls : Option ℕ) → UnitGood st → result_of f ≡ r
      → is_sound st.ctx.classes a_result r ≡ true → is_sound_object st.ctx.classes this ≡ true → Inside f (entered st r this cls)
  entered_inside st f r this cls g q t o = record {
    unit = unit_as st.ctx (entered st r this cls).ctx g.unit;
    overriders = g.overriders;
    sound = record {
      context = let h = g.sound.context in record {
        types = h.types;
        members = h.members;
        functions = h.functions;
        enumerators = h.enumerators;
        variables = refl;
        this = this_sound st.ctx.classes (result_items r) this o;
        captures = refl;
        globals = h.globals;
        many = h.many;
        copied = h.copied;
      };
      closures = g.sound.closures;
      returned = refl;
    };
    around = refl;
    none = g.none;
    returns = ap known (sym q);
    typed = subst (λ (z : Typ). is_sound st.ctx.classes a_result z ≡ true) (sym q) t;
    result = λ k. subst (λ (z : Typ). at_place (result_items z ++ this_items this) 0 (plain (ptr (result_of f))) ≡ true) q (first_word (result_of f) (this_items this) k);
    bodies = bodies_over st (entered st r this cls) (held_earlier st.ctx g.unit) (over_same st) refl g.bodies;
    defaults = defaults_over b.defaults f f st (entered st r this cls) (held_earlier st.ctx g.unit) (over_same st) refl (g.defaults f);
    alone = record { label = refl; breaks = refl; continues = refl };
  }

  -- one more parameter
  parameter_inside : (st : State) (f : UnitFunc) (name : List ℕ) (t : Typ) → Inside f st → is_sound st.ctx.classes a_variable t ≡ true
      → Inside f (with_parameter st name t)
  parameter_inside st f name t g v = record {
    unit = unit_as st.ctx (with_parameter st name t).ctx g.unit;
    overriders = g.overriders;
    sound = record {
      context = let h = g.sound.context in record {
        types = h.types;
        members = h.members;
        functions = h.functions;
        enumerators = h.enumerators;
        variables = all_more (is_sound_variable st.ctx.classes) st.ctx.variables (record { typ = Some t; place = next_place st.work }) h.variables v;
        this = h.this;
        captures = h.captures;
        globals = h.globals;
        many = h.many;
        copied = h.copied;
      };
      closures = g.sound.closures;
      returned = g.sound.returned;
    };
    around = g.around;
    none = g.none;
    returns = g.returns;
    typed = g.typed;
    result = λ k. item_more st.work.frame (word_item t) (plain (ptr (result_of f))) (g.result k);
    bodies = bodies_over st (with_parameter st name t) (held_earlier st.ctx g.unit) (over_same st) refl g.bodies;
    defaults = defaults_over b.defaults f f st (with_parameter st name t) (held_earlier st.ctx g.unit) (over_same st) refl g.defaults;
    alone = record { label = g.alone.label; breaks = g.alone.breaks; continues = g.alone.continues };
  }

  unnamed_inside : (st : State) (f : UnitFunc) (t : Typ) → Inside f st → is_sound st.ctx.classes a_variable t ≡ true → Inside f (unnamed_parameter st t)
  unnamed_inside st f t g v = record {
    unit = unit_as st.ctx (unnamed_parameter st t).ctx g.unit;
    overriders = g.overriders;
    sound = record {
      context = let h = g.sound.context in record {
        types = h.types;
        members = h.members;
        functions = h.functions;
        enumerators = h.enumerators;
        variables = all_more (is_sound_variable st.ctx.classes) st.ctx.variables (record { typ = Some t; place = next_place st.work }) h.variables v;
        this = h.this;
        captures = h.captures;
        globals = h.globals;
        many = h.many;
        copied = h.copied;
      };
      closures = g.sound.closures;
      returned = g.sound.returned;
    };
    around = g.around;
    none = g.none;
    returns = g.returns;
    typed = g.typed;
    result = λ k. item_more st.work.frame (word_item t) (plain (ptr (result_of f))) (g.result k);
    bodies = bodies_over st (unnamed_parameter st t) (held_earlier st.ctx g.unit) (over_same st) refl g.bodies;
    defaults = defaults_over b.defaults f f st (unnamed_parameter st t) (held_earlier st.ctx g.unit) (over_same st) refl g.defaults;
    alone = record { label = g.alone.label; breaks = g.alone.breaks; continues = g.alone.continues };
  }

  -- the classes are those of before
  pub record Placed (f : UnitFunc) (classes : List Class) (st : State) : Type 0 where
    pub inside : Inside f st
    pub same : st.ctx.classes ≡ classes

  named_inside : (st : State) (f : UnitFunc) (p : Parameter) (o : Option ℕ) → Inside f st → is_sound st.ctx.classes a_variable p.typ ≡ true
      → On (Placed f st.ctx.classes) (parameter_named s st p o)
  named_inside st f p (Some n) g v = skip (Placed f st.ctx.classes) (check p.at Redeclared (is_fresh st.ctx (spelling s n))) _
      (λ y. record { inside = parameter_inside st f (spelling s n) p.typ g v; same = refl })
  named_inside st f p None g v = record { inside = unnamed_inside st f p.typ g v; same = refl }

  parameters_inside : (st : State) (f : UnitFunc) (ps : List Parameter) → Inside f st → list_all (is_sound_parameter st.ctx.classes) ps ≡ true
      → On (Inside f) (with_parameters s st ps)
  parameters_inside st f [] g h = g
  parameters_inside st f (p ∷ ps) g h = let a = and_parts (is_sound_parameter st.ctx.classes p) (list_all (is_sound_parameter st.ctx.classes) ps) h in
      skip (Inside f) (check p.at Incomplete (is_complete st.ctx (held p.typ))) _
      (λ y. bind (Placed f st.ctx.classes) (Inside f) (parameter_named s st p p.name) _
      (named_inside st f p p.name g (parameter_variable st.ctx.classes p.typ a.0))
      (λ x i. parameters_inside x f ps i.inside (subst (λ (cs : List Class). list_all (is_sound_parameter cs) ps ≡ true) (sym i.same) a.1)))

  -- into a function, whose class is complete if it has one
  pub begins : (st : State) (f : UnitFunc) (r : Typ) (this : Option Typ) (cls : Option ℕ) (ps : List Parameter) → UnitGood st → result_of f ≡ r
      → is_sound st.ctx.classes a_result r ≡ true → is_sound_object st.ctx.classes this ≡ true
      → ((n : ℕ) → cls ≡ Some n → is_some (completion_of st.ctx.classes n) ≡ true) → list_all (is_sound_parameter st.ctx.classes) ps ≡ true
      → (e : State) → with_parameters s (entered st r this cls) ps ≡ Ok e → Begins f st e
  begins st f r this cls ps g q t o c h e k =
      let x : State = entered st r this cls in
      let i = answered (Inside f) (with_parameters s x ps) e (parameters_inside x f ps (entered_inside st f r this cls g q t o) h) k in record {
        settled = settled_inside f e i (answered (λ (y : State). LocalsHold y.ctx y.work) (with_parameters s x ps) e (b.parameters s x ps (b.enters st r this cls c)) k);
        alone = i.alone;
        over = over x e (answered (Leaves x) (with_parameters s x ps) e (parameters_kept s x ps) k);
      }
