-- The bodies of constructors.
use Rattle.std.proofs.Common.{◌≡◌, refl, sym, ap, ◌∙◌, subst, ℕ, suc, true, false, List, [], ◌∷◌, slice_get, Option, Some, None, is_some, Ok}
use Rattle.std.specs.List.{list_all}
use Rattle.std.proofs.lemmas.Option.{same_Some}
use Rattle.elab_rules.specs.cpp_types.Equal.{typ_eq}
use Rattle.elab_rules.specs.cpp_tree.Typing.{passes}
use Rattle.elab_fits.proofs.Nodes.{clash}
use Rattle.elab_fits.proofs.Equal.{typ_refl}
use Rattle.state_growth.proofs.Statements.{parameters_kept}
use Rattle.elab_rules.specs.cpp_types.Typ.{Typ, class, ptr, void}
use Rattle.elab_rules.specs.cpp_types.Class.{Member, completion_of}
use Rattle.elab_rules.specs.cpp_types.declared.classes.At.{At}
use Rattle.elab_rules.specs.cpp_lex.Tokens.{Lexeme}
use Rattle.elab_rules.specs.cpp_ast.Trees as syntax
use Rattle.elab_rules.specs.cpp_tree.declared.program.FuncKind.TheVariants.{Constructor, ClosureCall}
use Rattle.elab_rules.specs.cpp_tree.declared.roles.Role.TheVariants.{BlockItem}
use Rattle.elab_rules.specs.cpp_tree.Notation.{plain}
use Rattle.elab_rules.specs.cpp_tree.Units.{Func as UnitFunc}
use Rattle.elab_rules.specs.cpp_tree.Rows.{is_constructor, is_special, result_of, at_place}
use Rattle.elab_rules.specs.elab_ctx.Ctx.{Work, Closure}
use Rattle.elab_rules.specs.elab_ctx.Steps.{at_of}
use Rattle.elab_rules.specs.Calls.{base_of_class}
use Rattle.elab_rules.specs.Names.{members_in}
use Rattle.elab_rules.specs.Braces.{default_at}
use Rattle.elab_rules.specs.Statements.{State, Done, with_work, statements_of, is_direct_label}
use Rattle.elab_rules.specs.Functions.{Header, with_parameters}
use Rattle.elab_rules.specs.Lambdas.{lambdas_of}
use Rattle.elab_rules.specs.Members.{in_object, Given, Giving, given_for, all_given, default_built, member_built, members_built, base_built, parts_built, constructor_tree, constructor_block}
use Rattle.elab_rules.specs.Members.{constructor_body}
use Rattle.elab_fits.specs.Standing.{On, IsSetting}
use Rattle.elab_fits.proofs.Steps.{answered, skip, told, bind}
use Rattle.elab_sound_types.specs.Contexts.{is_sound_parameter}
use Rattle.elab_sound_types.specs.States.{IsSoundState, IsSoundAfter}
use Rattle.elab_fits_forms.specs.Context.{Holds}
use Rattle.elab_fits_forms.specs.Types.{is_lambda}
use Rattle.elab_holds.specs.Locals.{locals}
use Rattle.elab_fits_statements.specs.Anywhere.{AllServe}
use Rattle.elab_fits_statements.specs.Discipline.{StandsAs}
use Rattle.elab_fits_statements.proofs.States.{goes_still, all_still}
use Rattle.elab_fits_bodies.specs.Built.{MakesParts, PartsMade}
use Rattle.elab_fits_bodies.specs.Parts.{HasParts}
use Rattle.state_growth.specs.Settings.{shown}
use Rattle.state_growth.proofs.Settings.{reached_law}
use Rattle.state_growth.proofs.Steps.{Leaves, goes}
use Rattle.state_growth.proofs.Members.{parts_kept}
use Rattle.elab_fits_states.specs.States.{setting, IsText, AreTexts, IsSettled, Comes, words}
use Rattle.elab_fits_states.specs.Bodies.{BodyFits, StandsAlone}
use Rattle.elab_fits_parts.specs.Parts.{IsHome, ArePartsOf}
use Rattle.elab_fits_units.specs.Below.{Below}
use Rattle.elab_fits_units.specs.Definitions.{IsDefinition}
use Rattle.elab_fits_units.specs.Good.{UnitGood}
use Rattle.elab_fits_units.proofs.Bodies.{Left, made_left, came}
use Rattle.elab_fits_units.proofs.Constructing.{Gives, GivenFits, all_by, givens_still}
use Rattle.elab_fits_units.proofs.Entering.{Begins, begins, none_hold}
use Rattle.elab_fits_units.proofs.Growing.{Over, over, over_then, held_earlier, bodies_over, defaults_over, unit_as}
use Rattle.elab_fits_units.proofs.Results.{any_holds, holds, no_result}
use Rattle.elab_fits_units.proofs.Specials.{home_over, has_parts}
use Rattle.elab_fits_units.specs.Steps.{NoCall}
use Rattle.elab_fits_units.proofs.Texts.{kids_texts}

pub constructed : Constructor ≡ ClosureCall → ⊥
constructed e = absurd cc

-- Where parts are built, the work alone is another

abbrev pub Same : State → Type 0
Same st = st ≡ with_work st st.work

abbrev pub Works : State → Done → Type 0
Works st d = d.state ≡ with_work st d.state.work

pub settled_same : (st : State) → st.ctx.closures ≡ [] → Same st
settled_same st e = ap (λ (l : List Closure). record st { ctx = record st.ctx { closures = l } }) e

member_works : (st : State) (at : At) (n i : ℕ) (t : Typ) (g : Option Given) → Same st → On (Works st) (member_built st at n i t g)
member_works st at n i t (Some g) h = h
member_works st at n i t None h = skip (Works st) (default_built st at t (default_at n i st.ctx.defaults)) _ (λ m. refl)

members_work : (at : At) (n : ℕ) (gs : List Given) (st : State) (i : ℕ) (ms : List Member) → Same st → On (Works st) (members_built at n gs st i ms)
members_work at n gs st i [] h = h
members_work at n gs st i (m ∷ ms) h = bind (Works st) (Works st) (member_built st at n i m.typ (given_for (Some i) gs)) _
    (member_works st at n i m.typ (given_for (Some i) gs) h)
    (λ x e. bind (Works x.state) (Works st) (members_built at n gs x.state (suc i) ms) _
    (members_work at n gs x.state (suc i) ms (e ∙ sym (ap (λ (z : State). with_work z x.state.work) e)))
    (λ y k. k ∙ ap (λ (z : State). with_work z y.state.work) e))

parts_work : (st : State) (at : At) (n : ℕ) (gs : List Given) → Same st → On (Works st) (parts_built st at n gs)
parts_work st at n gs h = skip (Works st) (base_built st at n (base_of_class (slice_get st.ctx.classes n)) (given_for None gs)) _
    (λ b. bind (Works st) (Works st) (members_built at n gs st 0 (members_in (slice_get st.ctx.classes n))) _
    (members_work at n gs st 0 (members_in (slice_get st.ctx.classes n)) h) (λ d e. e))

-- a state in which more is made
pub first_kept : (a b : List Typ) → ((i : ℕ) (t : Typ) → slice_get a i ≡ Some t → slice_get b i ≡ Some t) → (t : Typ) → at_place a 0 t ≡ true → at_place b 0 t ≡ true
first_kept a b k t h = by (slice_get a 0) refl
  where
    by : (o : Option Typ) → slice_get a 0 ≡ o → at_place b 0 t ≡ true
    by (Some x) e = ap (passes (typ_eq t)) (k 0 x e) ∙ (sym (ap (passes (typ_eq t)) e) ∙ h)
    by None e = clash (at_place b 0 t ≡ true) (at_place a 0 t) (ap (passes (typ_eq t)) e) h

module _ (s : List Lexeme) (b : Below s) (f : UnitFunc) where
  pub settled_with : (a : State) (v : Work) → IsSettled f a → IsSoundState (with_work a v) → Leaves a (with_work a v) → IsSettled f (with_work a v)
  settled_with a v h g l = let z : State = with_work a v in record {
    good = record {
      unit = unit_as a.ctx z.ctx h.good.unit;
      overriders = h.good.overriders;
      sound = g;
      locals = b.stays (locals a.ctx) (locals z.ctx) a.work.frame v.frame (record {
        complete = λ n c. c;
        frame = l.kept.frame;
        variables = refl;
        this = refl;
        class = refl;
        lambda = refl;
      }) h.good.locals;
      around = h.good.around;
      closures = none_hold z.ctx [] refl;
      returns = h.good.returns;
      typed = h.good.typed;
      result = λ q. first_kept a.work.frame v.frame l.kept.frame (plain (ptr (result_of f))) (h.good.result q);
      bodies = bodies_over a z (held_earlier a.ctx h.good.unit) (over a z l) refl h.good.bodies;
      defaults = defaults_over b.defaults f f a z (held_earlier a.ctx h.good.unit) (over a z l) refl h.good.defaults;
    };
    none = refl;
  }

  -- behind the parts
  pub record PartsStand (a : State) (d : Done) : Type 0 where
    pub settled : IsSettled f d.state
    pub leads : Comes a d.state
    pub stands : StandsAs a d.state
    pub serve : AllServe (setting f d.state) false false BlockItem d.trees

  module _ (free : NoCall f.kind) (a : State) (at : At) (n : ℕ) (gs : List Given) (h : IsSettled f a) (home : IsHome a.ctx.classes n)
      (item : at_place a.work.frame 0 (plain (ptr (plain (class n)))) ≡ true) (given : GivenFits (setting f a) a.ctx n gs) (d : Done)
      (e : parts_built a at n gs ≡ Ok d) where
    abbrev v : Work
    v = d.state.work

    abbrev z : State
    z = with_work a v

    is : d.state ≡ z
    is = answered (Works a) (parts_built a at n gs) d (parts_work a at n gs (settled_same a h.none)) e

    after : IsSoundAfter true a d.state
    after = answered (λ (x : Done). IsSoundAfter true a x.state) (parts_built a at n gs) d (b.built a at n gs h.good.sound) e

    leaves : Leaves a d.state
    leaves = answered (λ (x : Done). Leaves a x.state) (parts_built a at n gs) d (parts_kept a at n gs) e

    ready : IsSettled f z
    ready = settled_with a v h (subst IsSoundState is after.sound) (subst (Leaves a) is leaves)

    leads : Comes a z
    leads = subst (Comes a) is (record { goes = goes a d.state leaves; kept = after.grown.kept })

    all : Holds (setting f a) a.ctx a.work
    all = holds s b f a h.good

    parts : ArePartsOf a.ctx n
    parts = b.parts a.ctx a.work n h.good.unit h.good.sound.context (λ k. any_holds s b k a h.good) home

    this : at_place v.frame 0 (plain (ptr (plain (class n)))) ≡ true
    this = first_kept a.work.frame v.frame leaves.kept.frame (plain (ptr (plain (class n)))) item

    here : IsSetting (setting f z) a.ctx
    here = let i = (holds s b f z ready.good).setting in record { classes = i.classes; ordered = i.ordered; slots = i.slots; funcs = i.funcs }

    own_parts : HasParts (setting f z) a.ctx n
    own_parts = let x = has_parts s b f a n h.good home item in record {
      this = this;
      number = x.number;
      pointer = x.pointer;
      offsets = x.offsets;
      base = x.base;
      members = x.members;
    }

    makes : MakesParts (setting f z) a.ctx (is_lambda a.ctx.classes) n gs
    makes = let g = givens_still s b f free n a z gs h leads home given in record {
      base = λ x q. b.objects (setting f a) a.ctx a.work (plain (class x)) h.good.unit h.good.sound.context all (parts.based x q) (parts.base x q).sized;
      base_given = g.base;
      member = λ i m q. b.objects (setting f a) a.ctx a.work m.typ h.good.unit h.good.sound.context all (parts.typed i m q) (parts.members i m q).element.sized;
      member_given = g.member;
      member_default = λ i m x w q u r. b.own (setting f z) a.ctx.defaults n i m x w ready.good.defaults this q u r;
    }

    pub parts_stand : PartsStand a d
    parts_stand = let p = answered (PartsMade (setting f z) a) (parts_built a at n gs) d
        (b.builds (setting f z) a (is_lambda a.ctx.classes) at n gs here all.makers own_parts makes) e in record {
          settled = subst (IsSettled f) (sym is) ready;
          leads = subst (Comes a) (sym is) leads;
          stands = subst (StandsAs a) (sym is) (record { label = refl; breaks = refl; continues = refl; typ = refl; past = λ i. i });
          serve = subst (λ (x : State). AllServe (setting f x) false false BlockItem d.trees) (sym is) (p.serve (reached_law f z.ctx v));
        }

module _ (s : List Lexeme) (b : Below s) (st : State) (h : Header) (n place : ℕ) (def : IsDefinition st.ctx h place) (g : UnitGood st)
    (home : IsHome st.ctx.classes n) (k : h.kind ≡ Constructor) (ps : list_all (is_sound_parameter st.ctx.classes) h.params ≡ true) where
  abbrev f : UnitFunc
  f = shown st.ctx.classes def.func

  no_call : NoCall def.func.kind
  no_call e = constructed (sym (def.kind ∙ k) ∙ e)

  constructor_begins : (e : State) → with_parameters s (in_object st n) h.params ≡ Ok e → Begins f st e
  constructor_begins e i = begins s b st f (plain void) (Some (plain (class n))) (Some n) h.params g
      (no_result def.func.kind def.func.declared.signature (ap is_special (def.kind ∙ k))) refl home.named
      (λ m e. subst (λ (i : ℕ). is_some (completion_of st.ctx.classes i) ≡ true) (same_Some n m e) home.complete) ps e i

  block_left : (e : State) (x : Giving) (parts : Done) (body : syntax.Tree) → Begins f st e → Gives s b f no_call n e x → PartsStand s b f x.state parts → IsText s body
      → On (Left st) (constructor_block lambdas_of s st h n place parts body)
  block_left e x parts (syntax.node kind p token kids) i y z t =
      let alone : StandsAlone parts.state = record {
        label = ap is_direct_label (z.stands.label ∙ y.goes.stands.label) ∙ i.alone.label;
        breaks = z.stands.breaks ∙ (y.goes.stands.breaks ∙ i.alone.breaks);
        continues = z.stands.continues ∙ (y.goes.stands.continues ∙ i.alone.continues);
      } in
      bind (BodyFits f parts.state) (Left st) (statements_of lambdas_of s parts.state kids) _
      (b.bodies f parts.state kids no_call z.settled alone (kids_texts s kind p token kids t))
      (λ d w. let o : Over st d.state = over_then st e d.state i.over (over_then e x.state d.state (came e x.state y.goes.leads.goes)
      (over_then x.state parts.state d.state (came x.state parts.state z.leads.goes) (came parts.state d.state w.leads.goes))) in
      made_left st d.state def.func place (constructor_tree (at_of p) parts.trees d.trees) def.at w.settled.good o
      (b.constructors (setting f d.state) (at_of p) parts.trees d.trees (ap is_constructor (def.kind ∙ k))
      (all_still (words f s) lambdas_of s (b.discipline f no_call) parts.state d.state false false BlockItem parts.trees z.settled w.leads z.serve) w.serve).nodes h.at)

  pub constructor_left : (inits : syntax.Trees) (body : syntax.Tree) → AreTexts s inits → IsText s body
      → On (Left st) (constructor_body lambdas_of s st h n place inits body)
  constructor_left inits body t u = told (Left st) (with_parameters s (in_object st n) h.params) _
      (λ e q. let i : Begins f st e = constructor_begins e q in
      bind (Gives s b f no_call n e) (Left st) (all_given lambdas_of s n (record { state = e; given = [] }) inits) _
      (all_by s b f no_call n e (record { state = e; given = [] }) inits (record {
        goes = goes_still (words f s) lambdas_of s (b.discipline f no_call) e i.settled;
        home = home_over st e n i.over home;
        given = record { base = λ c y a z. absurd cc; member = λ j m y a z. absurd cc };
      }) t)
      (λ x y. told (Left st) (parts_built x.state h.at n x.given) _
      (λ parts z. block_left e x parts body i y
      (parts_stand s b f no_call x.state h.at n x.given y.goes.good y.home
      (first_kept e.work.frame x.state.work.frame y.goes.leads.goes.grows.frame item
      (first_kept start.work.frame e.work.frame
      (answered (Leaves start) (with_parameters s start h.params) e (parameters_kept s start h.params) q).kept.frame item (typ_refl item))) y.given parts z) u)))
    where
      start : State
      start = in_object st n

      item : Typ
      item = plain (ptr (plain (class n)))
