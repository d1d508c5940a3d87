-- Behind a body that fits, all bodies fit, and what stands round it is as it was.
use Rattle.std.proofs.Common.{◌≡◌, refl, sym, ap, ◌∙◌, subst, ℕ, true, false, List, [], ◌∷◌, ◌++◌, slice_get, Option, Some, is_some}
use Rattle.std.specs.List.{list_all}
use Rattle.elab_rules.specs.cpp_types.Typ.{Typ}
use Rattle.elab_rules.specs.cpp_types.Class.{Function, completion_of, held}
use Rattle.elab_rules.specs.cpp_types.declared.classes.At.{At}
use Rattle.elab_rules.specs.cpp_lex.Tokens.{Lexeme}
use Rattle.elab_rules.specs.cpp_ast.declared.arena.At.{At as SyntaxAt}
use Rattle.elab_rules.specs.cpp_ast.Trees as syntax
use Rattle.elab_rules.specs.cpp_tree.declared.kinds.TKind.TheVariants as tree
use Rattle.elab_rules.specs.cpp_tree.declared.faults.IllRule.TheVariants.{Incomplete}
use Rattle.elab_rules.specs.cpp_tree.declared.program.FuncKind.{FuncKind}
use Rattle.elab_rules.specs.cpp_tree.declared.program.FuncKind.TheVariants.{Plain, Constructor, Destructor, ClosureCall}
use Rattle.elab_rules.specs.cpp_tree.declared.roles.Role.TheVariants.{Statement}
use Rattle.elab_rules.specs.cpp_tree.Trees.{Tree}
use Rattle.elab_rules.specs.cpp_tree.Units.{Func as UnitFunc}
use Rattle.elab_rules.specs.cpp_tree.Rows.{is_constructor, is_special, result_of}
use Rattle.elab_rules.specs.cpp_tree.WellFormed.{fits, outermost}
use Rattle.elab_rules.specs.elab_ctx.Ctx.{Func}
use Rattle.elab_rules.specs.elab_ctx.Steps.{at_of}
use Rattle.elab_rules.specs.Initialising.{signature_result}
use Rattle.elab_rules.specs.Objects.{followed_by}
use Rattle.elab_rules.specs.Operators.{is_complete}
use Rattle.elab_rules.specs.Statements.{State, Done, Body, statement, statements_of}
use Rattle.elab_rules.specs.Functions.{Header, entered, with_parameters, leaving, within_frame, body_made, function_body, end_of}
use Rattle.elab_rules.specs.Lambdas.{lambdas_of}
use Rattle.elab_fits.specs.Standing.{On}
use Rattle.elab_fits.proofs.Steps.{skip, checked, told, bind}
use Rattle.elab_sound_types.specs.Types.{is_sound, result as a_result}
use Rattle.elab_sound_types.specs.Contexts.{is_sound_parameter}
use Rattle.elab_sound_types.specs.States.{is_sound_object}
use Rattle.elab_fits_bodies.specs.Functions.{IsResult}
use Rattle.setting_growth.proofs.Trees.{fits_law}
use Rattle.state_growth.specs.Settings.{setting_at, shown, HasDeclared}
use Rattle.state_growth.specs.States.{Goes}
use Rattle.state_growth.proofs.Settings.{states_law}
use Rattle.state_growth.proofs.Steps.{seen, kept_refl, state_grows}
use Rattle.elab_fits_states.specs.States.{setting, IsText, IsGood}
use Rattle.elab_fits_states.specs.Bodies.{BodyFits}
use Rattle.elab_fits_states.specs.Made.{MadeFits, AllBodiesFit}
use Rattle.elab_fits_units.specs.Below.{Below}
use Rattle.elab_fits_units.specs.Definitions.{IsDefinition}
use Rattle.elab_fits_units.specs.Good.{UnitGood}
use Rattle.elab_fits_units.proofs.Entering.{Begins, begins, over_same}
use Rattle.elab_fits_units.proofs.Growing.{Over, over_then, held_earlier, one_more}
use Rattle.elab_fits_units.proofs.Results.{holds, is_result, result_kept, complete_over, sound_result}
use Rattle.elab_fits_units.specs.Steps.{NoCall}
use Rattle.elab_fits_units.proofs.Texts.{kids_texts}

-- behind a body
pub record Left (st y : State) : Type 0 where
  pub over : Over st y
  pub bodies : AllBodiesFit y
  pub defaults : y.ctx.defaults ≡ st.ctx.defaults
  pub closures : y.ctx.closures ≡ st.ctx.closures

pub came : (a b : State) → Goes a b → Over a b
came a b g = record {
  kept = record {
    classes = g.grows.unit.classes;
    numbers = g.numbers;
    slots = g.grows.unit.slots;
    funcs = g.grows.unit.funcs;
    globals = g.grows.unit.globals;
    frame = λ i t e. e;
  };
  tidy = λ t. let u = g.tidy (record { many = t.many; empty = t.empty; numbered = t.numbered }) in
      record { many = u.many; empty = u.empty; numbered = u.numbered };
}

-- the body that is made last
module _ (st d : State) (f : Func) (place : ℕ) (tree : Tree) (e : slice_get st.ctx.funcs place ≡ Some f) (g : IsGood (shown st.ctx.classes f) d) (k : Over st d)
    (h : fits (setting (shown st.ctx.classes f) d) outermost Statement tree ≡ true) where
  abbrev last : Body
  last = record { func = place; tree = tree; frame = d.work.frame }

  abbrev behind : State
  behind = record (leaving st d) { bodies = d.bodies ++ last ∷ [] }

  last_fits : MadeFits behind last
  last_fits = let x : HasDeclared d.ctx.funcs place f = k.kept.funcs.kept place f e in
      let now : State = record behind { work = record behind.work { frame = d.work.frame } } in record {
        func = x.func;
        at = x.at;
        fits = fits_law (setting (shown st.ctx.classes f) d) (setting_at (shown behind.ctx.classes x.func) now.ctx now.work) (held_earlier d.ctx g.unit)
            (states_law (shown st.ctx.classes f) (shown behind.ctx.classes x.func) d now x.same.kind (ap (λ (z : Function). z.signature) x.same.declared)
            (state_grows d now (kept_refl (seen d)))) outermost Statement tree h;
      }

  pub made_left : (at : At) → On (Left st) (body_made st at place tree d)
  made_left at = skip (Left st) (within_frame d.ctx at d.work.frame) _ (λ z. record {
    over = over_then st d behind k (over_same d);
    bodies = one_more d behind last (held_earlier d.ctx g.unit) (over_same d) refl g.bodies last_fits;
    defaults = refl;
    closures = refl;
  })

-- Functions that are no constructors and no destructors

no_constructor : (k : FuncKind) → is_special k ≡ false → is_constructor k ≡ false
no_constructor Plain h = refl
no_constructor ClosureCall h = refl
no_constructor Constructor h = absurd cc
no_constructor Destructor h = absurd cc

module _ (s : List Lexeme) (b : Below s) (st : State) (h : Header) (this : Option Typ) (place : ℕ) (def : IsDefinition st.ctx h place) (g : UnitGood st)
    (k : is_special h.kind ≡ false) (free : NoCall h.kind) (ps : list_all (is_sound_parameter st.ctx.classes) h.params ≡ true) (o : is_sound_object st.ctx.classes this ≡ true)
    (c : (n : ℕ) → h.class ≡ Some n → is_some (completion_of st.ctx.classes n) ≡ true) where
  abbrev f : UnitFunc
  f = shown st.ctx.classes def.func

  abbrev r : Typ
  r = signature_result h.signature

  special : is_special def.func.kind ≡ false
  special = ap is_special def.kind ∙ k

  no_call : NoCall def.func.kind
  no_call e = free (sym def.kind ∙ e)

  result : result_of f ≡ r
  result = result_kept def.func.kind def.func.declared.signature special ∙ def.result

  typed : is_sound st.ctx.classes a_result r ≡ true
  typed = subst (λ (t : Typ). is_sound st.ctx.classes a_result t ≡ true) def.result
      (sound_result st.ctx.classes st.ctx.funcs place def.func g.sound.context.functions def.at)

  body_left : (e : State) (d : Done) (p : SyntaxAt) → is_complete st.ctx (held r) ≡ true → Begins f st e → BodyFits f e d
      → On (Left st) (body_made st h.at place (statement (tree.Block false) (at_of p) (followed_by d.trees (end_of d.state.ctx r (at_of p)))) d.state)
  body_left e d p q i x = let k2 : Over st d.state = over_then st e d.state i.over (came e d.state x.leads.goes) in
      let y : IsResult (setting f d.state) d.state.ctx r = subst (λ (t : Typ). IsResult (setting f d.state) d.state.ctx t) result
      (is_result s b f d.state x.settled.good (λ n z v u. complete_over st d.state n k2 (sym (ap (λ (t : Typ). is_complete st.ctx (held t)) (sym result ∙ u)) ∙ q))) in
      made_left st d.state def.func place (statement (tree.Block false) (at_of p) (followed_by d.trees (end_of d.state.ctx r (at_of p)))) def.at x.settled.good k2
      (b.functions (setting f d.state) d.state.ctx r (at_of p) d.trees (holds s b f d.state x.settled.good).setting y (no_constructor def.func.kind special) x.serve).nodes h.at

  pub function_left : (body : syntax.Tree) → IsText s body → On (Left st) (function_body lambdas_of s st h this place body)
  function_left (syntax.node kind p token kids) t = checked (Left st) h.at Incomplete (is_complete st.ctx (held r)) _
      (λ q. told (Left st) (with_parameters s (entered st r this h.class) h.params) _
      (λ e i. let z : Begins f st e = begins s b st f r this h.class h.params g result typed o c ps e i in
      bind (BodyFits f e) (Left st) (statements_of lambdas_of s e kids) _
      (b.bodies f e kids no_call z.settled z.alone (kids_texts s kind p token kids t)) (λ d x. body_left e d p q z x)))
