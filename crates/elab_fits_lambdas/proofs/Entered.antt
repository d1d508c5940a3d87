-- The body of a lambda begins in a good state of its call, and its statements lead to one.
use Rattle.std.proofs.Common.{◌≡◌, refl, sym, ap, ◌∙◌, subst, ℕ, Bool, true, false, List, [], ◌∷◌, ◌++◌, Some, Ok}
use Rattle.std.specs.Prelude.{if◌then◌else◌}
use Rattle.elab_rules.specs.cpp_types.Typ.{Typ, ptr}
use Rattle.elab_rules.specs.cpp_lex.Tokens.{Lexeme}
use Rattle.elab_rules.specs.cpp_ast.Trees as syntax
use Rattle.elab_rules.specs.cpp_tree.declared.program.FuncKind.{FuncKind}
use Rattle.elab_rules.specs.cpp_tree.declared.program.FuncKind.TheVariants.{ClosureCall}
use Rattle.elab_rules.specs.cpp_tree.declared.roles.Role.TheVariants.{BlockItem}
use Rattle.elab_rules.specs.cpp_tree.Notation.{plain}
use Rattle.elab_rules.specs.cpp_tree.Typing.{is_class_typ}
use Rattle.elab_rules.specs.cpp_tree.Units.{Func as UnitFunc}
use Rattle.elab_rules.specs.cpp_tree.Rows.{at_place, result_in, result_of}
use Rattle.elab_rules.specs.elab_ctx.Ctx.{Ctx, Func, known}
use Rattle.elab_rules.specs.Functions.{with_parameters}
use Rattle.elab_rules.specs.Lambdas.{declared_closure, body_statements, no_lambda, kids_of}
use Rattle.elab_rules.specs.Statements.{State, Done, statements_of, is_direct_label}
use Rattle.elab_fits.specs.Standing.{On}
use Rattle.elab_fits.proofs.Equal.{typ_refl}
use Rattle.elab_fits.proofs.Steps.{told, answered}
use Rattle.elab_contexts.specs.Holding.{UnitHolds}
use Rattle.elab_contexts.specs.Overriders.{is_overrider_by, HasOverriders}
use Rattle.elab_contexts.proofs.Statements.{parameters_kept}
use Rattle.elab_contexts.proofs.Walking as units
use Rattle.elab_fits_braces.proofs.Staying.{defaults_stay}
use Rattle.elab_fits_braces.specs.Defaults.{AllDefaultsFit}
use Rattle.elab_fits_statements.specs.Anywhere.{AllServe}
use Rattle.elab_fits_statements.specs.Variables.{HasItem}
use Rattle.elab_holds.specs.Locals.{LocalsHold}
use Rattle.elab_holds.proofs.Locals as locals
use Rattle.elab_sound_types.specs.Types.{is_sound, result as a_result}
use Rattle.elab_sound_types.specs.States.{Kept}
use Rattle.elab_sound_types.proofs.Bodies as sound
use Rattle.elab_sound_types.proofs.Growth.{kept_joined}
use Rattle.elab_sound_types.proofs.States.{After, on_all}
use Rattle.setting_growth.specs.Growth.{HeldEarlier, Grows}
use Rattle.setting_growth.proofs.Settings.{globals_stay}
use Rattle.state_growth.specs.Settings.{setting_at, UnitGrows}
use Rattle.state_growth.specs.States.{Goes}
use Rattle.state_growth.proofs.Bodies.{classes_added, slots_added, funcs_added}
use Rattle.state_growth.proofs.Going.{parameters_law}
use Rattle.state_growth.proofs.Settings.{left_law}
use Rattle.elab_fits_states.specs.States.{IsText, AreTexts, setting, IsGood, IsSettled, Comes}
use Rattle.elab_fits_states.specs.Bodies.{BodyFits, StandsAlone}
use Rattle.elab_fits_states.proofs.Bodies.{bodies_fit}
use Rattle.elab_fits_states.proofs.Good.{none_hold, earlier_of, carried}
use Rattle.elab_fits_states.proofs.Lambdas.{no_lambdas_keep}
use Rattle.elab_fits_states.proofs.Made.{bodies_stay}
use Rattle.elab_fits_states.proofs.Texts.{kids, first, rest}
use Rattle.elab_fits_states.proofs.Spelled.{all_spelled}
use Rattle.elab_fits_lambdas.specs.Made.{lambda_inside, call_signature, HasParts, three, two, IsLambda}
use Rattle.elab_fits_lambdas.specs.Lambdas.{IsCall, BodiesBegin}
use Rattle.elab_contexts.proofs.Lists.{one_more}
use Rattle.elab_fits_statements.proofs.States.{mapped}
use Rattle.elab_fits_lambdas.proofs.Parameters.{OnlyNames, only_names}
use Rattle.elab_fits_lambdas.proofs.Types.{IsSoundEntry, entry_sound}
use Rattle.elab_fits_lambdas.proofs.Units.{unit_left, unit_inside}

-- Texts

kids_text : (s : List Lexeme) (t : syntax.Tree) → IsText s t → AreTexts s (kids_of t)
kids_text s (syntax.node kind p token ts) h = kids s kind p token ts h

body_text : (s : List Lexeme) (ts intro parts : syntax.Trees) (body : syntax.Tree) → HasParts ts intro parts body → AreTexts s ts → IsText s body
body_text s ts intro parts body (three i p e f g) h = first s body syntax.none (rest s p (syntax.more body syntax.none)
    (rest s i (syntax.more p (syntax.more body syntax.none)) (subst (AreTexts s) e h)))
body_text s ts intro parts body (two i e f g) h = first s body syntax.none (rest s i (syntax.more body syntax.none) (subst (AreTexts s) e h))

-- The first item of the frame

item_if : (t : Typ) (rest : List Typ) (b : Bool) → b ≡ true → at_place ((if b then plain (ptr t) ∷ [] else []) ++ rest) 0 (plain (ptr t)) ≡ true
item_if t rest true h = typ_refl (plain (ptr t))
item_if t rest false h = absurd cc

-- where the body ends
pub record IsDone (call : UnitFunc) (e : State) (d : Done) : Type 0 where
  pub settled : IsSettled call d.state
  pub serve : AllServe (setting call d.state) false false BlockItem d.trees
  pub kept : Kept e.ctx.classes d.state.ctx.classes

module _ (f : UnitFunc) (s : List Lexeme) (st : State) (ts : syntax.Trees) (y : State) (g : IsGood f st) (t : AreTexts s ts)
    (h : IsLambda s st ts y) (call : UnitFunc) (c : IsCall call h.text h.made.result) where
  abbrev d : Ctx
  d = declared_closure st h.text (call_signature h.text h.made.result)

  abbrev e : State
  e = lambda_inside st h.text (known h.made.result) h.made.result (call_signature h.text h.made.result)

  pub result_same : result_of call ≡ h.made.result
  result_same = ap (λ (k : FuncKind). result_in k call.declared.signature) c.kind ∙ ap (result_in ClosureCall) c.signature

  entry : IsSoundEntry s st h.text h.made.result
  entry = entry_sound s st ts y h g.sound (all_spelled s ts t.spelled)

  unit_at : UnitHolds e.ctx
  unit_at = unit_inside s st ts y h g.unit

  overriders_at : HasOverriders e.ctx.funcs
  overriders_at = record {
    classes = g.overriders.classes;
    by = λ k n w p o. one_more (λ (z : Func). (m : ℕ) → z.class ≡ Some m → is_overrider_by g.overriders.classes z ≡ true) st.ctx.funcs _
        (λ i z q m v. g.overriders.by i m z q v) (λ m v. refl) k w p n o;
  }

  pub unit_grown : UnitGrows st e
  unit_grown = record {
    classes = classes_added st.ctx.classes _;
    slots = slots_added st.ctx.slots [];
    funcs = funcs_added st.ctx.funcs _;
    globals = globals_stay st.work.globals;
  }

  ordered : HeldEarlier st.ctx.classes
  ordered = earlier_of f st g

  defaults_at : AllDefaultsFit (setting call e) st.ctx.defaults
  defaults_at = let l : Grows (setting_at f st.ctx st.work) (setting_at f e.ctx (record e.work { frame = st.work.frame })) = left_law f f st e refl refl unit_grown in
      defaults_stay (setting f st) (setting call e) st.ctx.defaults ordered
      (record { classes = l.classes; slots = l.slots; funcs = l.funcs; globals = l.globals }) g.defaults

  result_at : is_class_typ (result_of call) ≡ true → HasItem (setting call e) 0 (plain (ptr (result_of call)))
  result_at = subst (λ (u : Typ). is_class_typ u ≡ true → HasItem (setting call e) 0 (plain (ptr u))) (sym result_same)
      (item_if h.made.result _ (is_class_typ h.made.result))

  begins : IsGood call e
  begins = record {
    unit = unit_at;
    overriders = overriders_at;
    sound = entry.state;
    locals = locals.lambdas_law st st h.text (known h.made.result) h.made.result (call_signature h.text h.made.result) g.locals;
    around = λ l q. c.kind;
    closures = none_hold e.ctx [] refl;
    returns = ap known (sym result_same);
    typed = subst (λ (u : Typ). is_sound e.ctx.classes a_result u ≡ true) (sym result_same) entry.result;
    result = result_at;
    bodies = bodies_stay st e ordered unit_grown refl g.bodies;
    defaults = defaults_at;
  }

  module _ (z : State) (q : with_parameters s e h.text.params ≡ Ok z) where
    abbrev named : OnlyNames e z
    named = answered (OnlyNames e) (with_parameters s e h.text.params) z (only_names s e h.text.params) q

    abbrev after : After false e z
    after = answered (After false e) (with_parameters s e h.text.params) z (sound.with_parameters s e h.text.params entry.state entry.params) q

    pub comes_with : Comes e z
    comes_with = record { goes = answered (Goes e) (with_parameters s e h.text.params) z (parameters_law s e h.text.params) q; kept = after.grown.kept }

    unit_with : UnitHolds z.ctx
    unit_with = unit_left e z unit_at (answered (units.Leaves e) (with_parameters s e h.text.params) z (parameters_kept s e h.text.params) q)

    overriders_with : HasOverriders z.ctx.funcs
    overriders_with = subst (λ (u : Ctx). HasOverriders u.funcs) (sym named.ctx) overriders_at

    locals_with : LocalsHold z.ctx z.work
    locals_with = answered (λ (u : State). LocalsHold u.ctx u.work) (with_parameters s e h.text.params) z (locals.parameters_law s e h.text.params begins.locals) q

    none_with : z.ctx.closures ≡ []
    none_with = ap (λ (u : Ctx). u.closures) named.ctx

    pub settled_with : IsSettled call z
    settled_with = record {
      good = carried call e z begins comes_with unit_with overriders_with after.sound locals_with (none_hold z.ctx z.ctx.closures none_with)
          (ap (λ (u : Ctx). u.lambda) named.ctx) (ap (λ (u : Ctx). u.returns) named.ctx) (ap (λ (u : Ctx). u.defaults) named.ctx)
          (bodies_stay e z (earlier_of call e begins) comes_with.goes.grows.unit named.bodies begins.bodies);
      none = none_with;
    }

    alone_with : StandsAlone z
    alone_with = record {
      label = ap (λ (u : Ctx). is_direct_label u.label) named.ctx;
      breaks = ap (λ (u : Ctx). u.breaks) named.ctx;
      continues = ap (λ (u : Ctx). u.continues) named.ctx;
    }

    pub statements_with : On (IsDone call e) (statements_of no_lambda s z h.text.body)
    statements_with = mapped (BodyFits call z) (IsDone call e) (statements_of no_lambda s z h.text.body)
        (bodies_fit call no_lambda s z h.text.body (no_lambdas_keep call s) settled_with alone_with
        (subst (AreTexts s) (sym h.written.read) (kids_text s h.body (body_text s ts h.intro h.parts h.body h.has t))))
        (λ n w. record {
          settled = w.settled;
          serve = w.serve;
          kept = kept_joined e.ctx.classes z.ctx.classes n.state.ctx.classes comes_with.kept w.leads.kept;
        })

  pub statements_fit : On (IsDone call e) (body_statements s e h.text)
  statements_fit = told (IsDone call e) (with_parameters s e h.text.params) _ (λ z q. statements_with z q)

pub bodies_begin : BodiesBegin
bodies_begin f s st ts y g t h call c = on_all (IsSettled call) _ (λ z q. settled_with f s st ts y g t h call c z q)
