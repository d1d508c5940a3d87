-- The bodies of constructors and destructors have whole items.
use Rattle.std.proofs.Common.{◌≡◌, refl, sym, ap, ◌∙◌, subst, ℕ, true, not, List, [], slice_get, Option, Some, None, is_some, is_none, Ok}
use Rattle.std.specs.List.{list_all}
use Rattle.std.proofs.lemmas.Option.{same_Some}
use Rattle.elab_rules.specs.cpp_types.Typ.{Typ, class, ptr, void}
use Rattle.elab_rules.specs.cpp_types.Class.{completion_of}
use Rattle.elab_rules.specs.cpp_types.declared.classes.At.{At}
use Rattle.elab_rules.specs.cpp_lex.Tokens.{Lexeme}
use Rattle.elab_rules.specs.cpp_ast.declared.kinds.NodeKind.TheVariants as k
use Rattle.elab_rules.specs.cpp_ast.Trees as syntax
use Rattle.elab_rules.specs.cpp_tree.declared.faults.IllRule.TheVariants.{NoMember, Redeclared, UnknownName, OutOfProfile}
use Rattle.elab_rules.specs.cpp_tree.declared.program.FuncKind.TheVariants.{Constructor, Destructor, ClosureCall}
use Rattle.elab_rules.specs.cpp_tree.Notation.{plain}
use Rattle.elab_rules.specs.cpp_tree.Typing.{unqualified}
use Rattle.elab_rules.specs.cpp_tree.Units.{Func as UnitFunc}
use Rattle.elab_rules.specs.cpp_tree.Rows.{is_special, at_place}
use Rattle.elab_rules.specs.elab_ctx.Ctx.{Ctx, Work}
use Rattle.elab_rules.specs.elab_ctx.Steps.{and_then, check, expect, at_of, spelling, Operand, TypedAll}
use Rattle.elab_rules.specs.Calls.{base_of_class}
use Rattle.elab_rules.specs.Names.{members_in}
use Rattle.elab_rules.specs.Types.{type_named}
use Rattle.elab_rules.specs.Expressions.{operands_of}
use Rattle.elab_rules.specs.Statements.{State, Done, all_lambdas, directly_initialised, is_direct_label}
use Rattle.elab_rules.specs.Functions.{Header, with_parameters, body_made}
use Rattle.elab_rules.specs.Lambdas.{lambdas_of}
use Rattle.elab_rules.specs.Members.{Giving, given_for, for_base, for_part, given_part, given_by, all_given, is_named_class, is_base_type, member_index, member_type}
use Rattle.elab_rules.specs.Members.{in_object, parts_built, constructor_tree, constructor_block, constructor_body, destructor_tree, destructor_body}
use Rattle.elab_places.proofs.Steps.{On, bind, skip, held_by}
use Rattle.elab_fits_statements.proofs.States.{goes_still}
use Rattle.elab_fits.proofs.Equal.{typ_refl}
use Rattle.elab_fits.proofs.Steps.{told}
use Rattle.elab_sound_types.specs.Contexts.{is_sound_parameter}
use Rattle.state_growth.specs.Settings.{shown}
use Rattle.state_growth.proofs.Statements.{parameters_kept}
use Rattle.state_growth.proofs.Steps.{Leaves}
use Rattle.elab_fits_states.specs.States.{IsText, AreTexts, IsSettled, words}
use Rattle.elab_fits_states.specs.Premises.{GoesWell}
use Rattle.elab_fits_states.proofs.Discipline.{all_well}
use Rattle.elab_fits_states.proofs.Texts.{kids, first, rest}
use Rattle.elab_fits_lambdas.proofs.Lambdas.{lambdas_are_good}
use Rattle.elab_fits_parts.specs.Parts.{IsHome}
use Rattle.elab_fits_units.specs.Below.{Below}
use Rattle.elab_fits_units.specs.Definitions.{IsDefinition}
use Rattle.elab_fits_units.specs.Good.{UnitGood}
use Rattle.elab_fits_units.specs.Steps.{NoCall}
use Rattle.elab_fits_units.proofs.Bodies.{came}
use Rattle.elab_fits_units.proofs.Constructing.{Gives, by_given}
use Rattle.elab_fits_units.proofs.Constructors.{PartsStand, parts_stand, first_kept, constructed}
use Rattle.elab_fits_units.proofs.Entering.{Begins, begins}
use Rattle.elab_fits_units.proofs.Growing.{over_then}
use Rattle.elab_fits_units.proofs.Results.{no_result}
use Rattle.elab_fits_units.proofs.Specials.{home_over}
use Rattle.elab_fits_units.proofs.Texts.{kids_texts}
use Rattle.elab_fits_units.proofs.Walk.{each_holds}
use Rattle.elab_frame_items.specs.Frames.{IsWholeState}
use Rattle.elab_frame_items.specs.Items.{AreWhole, AllWhole, FunctionsWhole}
use Rattle.elab_frame_items.proofs.Full.{operands_whole}
use Rattle.elab_frame_items.proofs.Members as members
use Rattle.elab_frame_items.proofs.Objects.{Mades, both}
use Rattle.elab_frame_items.proofs.Variables as variables
use Rattle.elab_unit_items.specs.Units.{IsWholeUnit}
use Rattle.elab_unit_items.proofs.Ending.{entered_in, made_whole, body_whole}
use Rattle.elab_unit_items.proofs.Entering.{parameters_left}
use Rattle.elab_unit_items.proofs.Lambdas.{all_keep}
use Rattle.elab_unit_items.proofs.Statements.{all_left}
use Rattle.elab_unit_items.proofs.Supplied.{IsRead, reads}

destructed : Destructor ≡ ClosureCall → ⊥
destructed e = absurd cc

-- What is written for parts

base_directly : (c : Ctx) (o : Option ℕ) (w : Work) (t : Typ) (at : At) (os : List Operand) → FunctionsWhole c.classes c.funcs → AllWhole c.classes os
    → On (Mades c.classes w) (directly_initialised (for_base c o) w t at os)
base_directly c (Some b) w t at os g h = variables.directly_initialised (for_base c (Some b)) w t at os g h
base_directly c None w t at os g h = variables.directly_initialised c w t at os g h

part_directly : (c : Ctx) (n : ℕ) (i : Option ℕ) (w : Work) (t : Typ) (at : At) (os : List Operand) → FunctionsWhole c.classes c.funcs → AllWhole c.classes os
    → On (Mades c.classes w) (directly_initialised (for_part c n i) w t at os)
part_directly c n (Some j) w t at os g h = variables.directly_initialised c w t at os g h
part_directly c n None w t at os g h = base_directly c (base_of_class (slice_get c.classes n)) w t at os g h

module _ (s : List Lexeme) (f : UnitFunc) (free : NoCall f.kind) (n : ℕ) where
  abbrev Given : Giving → Type 0
  Given g = IsWholeState g.state

  part_given : (g : Giving) (i : Option ℕ) (at : At) (t : Typ) (es : syntax.Trees) → IsSettled f g.state → IsWholeState g.state → AreTexts s es
      → On Given (given_part lambdas_of s n g i at t es)
  part_given g i at t es h w q = skip Given (check at Redeclared (is_none (given_for i g.given))) _
      (λ y. told Given (all_lambdas lambdas_of s g.state es) _ (λ x e.
      let good = (held_by (GoesWell f g.state) (all_lambdas lambdas_of s g.state es) x
      (all_well f lambdas_of s (lambdas_are_good f s free) g.state es h.good q) e).good in
      let r = reads f s x good in
      let before : IsWholeState x = held_by IsWholeState (all_lambdas lambdas_of s g.state es) x
      (all_left f lambdas_of s (lambdas_are_good f s free) (all_keep f s free) g.state es h.good q w) e in
      told Given (operands_of s x.ctx x.work es) _ (λ xs o.
      let there = held_by (λ (z : TypedAll). AreWhole x.ctx.classes z.work) (operands_of s x.ctx x.work es) xs
      (operands_whole (IsRead f) (IsText s) (AreTexts s) s x es r q before.items) o in
      let whole = (held_by (λ (z : TypedAll). AllWhole x.ctx.classes z.operands × IsRead f x z.work) (operands_of s x.ctx x.work es) xs
      (r.supplies.operands x.work es r.here q) o).0 in
      bind (Mades x.ctx.classes xs.work) Given (directly_initialised (for_part x.ctx n i) xs.work t at xs.operands) _
      (part_directly x.ctx n i xs.work t at xs.operands r.functions whole)
      (λ m a. record { items = a.whole there; defaults = before.defaults; bodies = before.bodies }))))

  given_whole : (g : Giving) (t : syntax.Tree) → IsSettled f g.state → IsWholeState g.state → IsText s t → On Given (given_by lambdas_of s n g t)
  given_whole g (syntax.node k.MemberInitializer p (Some t) es) h w q =
      skip Given (expect (at_of p) NoMember (member_index 0 (spelling s t) (members_in (slice_get g.state.ctx.classes n)))) _
      (λ i. part_given g (Some i) (at_of p) (member_type (slice_get (members_in (slice_get g.state.ctx.classes n)) i)) es h w
      (kids s k.MemberInitializer p (Some t) es q))
  given_whole g (syntax.node k.BaseInitializer p (Some t) es) h w q = skip Given (expect (at_of p) UnknownName (type_named (spelling s t) g.state.ctx.types)) _
      (λ u. skip Given (check (at_of p) OutOfProfile (not (is_named_class n u))) _
      (λ x. skip Given (check (at_of p) NoMember (is_base_type (base_of_class (slice_get g.state.ctx.classes n)) u)) _
      (λ y. part_given g None (at_of p) (unqualified u) es h w (kids s k.BaseInitializer p (Some t) es q))))
  given_whole g (syntax.node kind p token es) h w q = w

  module _ (b : Below s) where
    abbrev pub Gave : State → Giving → Type 0
    Gave a g = Gives s b f free n a g × IsWholeState g.state

    pub all_given_whole : (a : State) (g : Giving) (ts : syntax.Trees) → Gave a g → AreTexts s ts → On (Gave a) (all_given lambdas_of s n g ts)
    all_given_whole a g ts h q = each_holds (Gave a) (AreTexts s) (given_by lambdas_of s n) g ts h q
        (λ x t us i l. (
          both (Gives s b f free n a) Given (given_by lambdas_of s n x t) (by_given s b f free n a x t i.0 (first s t us l))
              (given_whole x t i.0.goes.good i.1 (first s t us l)),
          rest s t us l,
        ))

-- Constructors

module _ (s : List Lexeme) (b : Below s) (st : State) (h : Header) (n place : ℕ) (def : IsDefinition st.ctx h place) (g : UnitGood st)
    (home : IsHome st.ctx.classes n) (w : IsWholeUnit st) where
  abbrev f : UnitFunc
  f = shown st.ctx.classes def.func

  complete_at : (m : ℕ) → Some n ≡ Some m → is_some (completion_of st.ctx.classes m) ≡ true
  complete_at m e = subst (λ (i : ℕ). is_some (completion_of st.ctx.classes i) ≡ true) (same_Some n m e) home.complete

  module _ (k : h.kind ≡ Constructor) (ps : list_all (is_sound_parameter st.ctx.classes) h.params ≡ true) where
    no_call : NoCall def.func.kind
    no_call e = constructed (sym (def.kind ∙ k) ∙ e)

    constructor_begins : (e : State) → with_parameters s (in_object st n) h.params ≡ Ok e → Begins f st e
    constructor_begins e i = begins s b st f (plain void) (Some (plain (class n))) (Some n) h.params g
        (no_result def.func.kind def.func.declared.signature (ap is_special (def.kind ∙ k))) refl home.named complete_at ps e i

    block_whole : (parts : Done) (body : syntax.Tree) → Begins f st parts.state → IsWholeState parts.state → IsText s body
        → On IsWholeUnit (constructor_block lambdas_of s st h n place parts body)
    block_whole parts (syntax.node kind p token ts) z i t = body_whole s b f st parts.state ts
        (λ (d : Done). body_made st h.at place (constructor_tree (at_of p) parts.trees d.trees) d.state) no_call z i (kids_texts s kind p token ts t)
        (λ d l x. made_whole st d.state h.at place _ l w x)

    abbrev start : State
    start = in_object st n

    abbrev item : Typ
    item = plain (ptr (plain (class n)))

    -- behind what is written for the parts, and behind the parts
    parts_whole : (e : State) (x : Giving) (inits : syntax.Trees) (body : syntax.Tree) → with_parameters s start h.params ≡ Ok e → Gave s f no_call n b e x
        → IsText s body → On IsWholeUnit (and_then (parts_built x.state h.at n x.given) (λ (parts : Done). constructor_block lambdas_of s st h n place parts body))
    parts_whole e x inits body q y t = told IsWholeUnit (parts_built x.state h.at n x.given) _ (λ parts z.
        let i : Begins f st e = constructor_begins e q in
        let begun : at_place start.work.frame 0 item ≡ true = typ_refl item in
        let entered : at_place e.work.frame 0 item ≡ true = first_kept start.work.frame e.work.frame
        (held_by (Leaves start) (with_parameters s start h.params) e (parameters_kept s start h.params) q).kept.frame item begun in
        let p : PartsStand s b f x.state parts = parts_stand s b f no_call x.state h.at n x.given y.0.goes.good y.0.home
        (first_kept e.work.frame x.state.work.frame y.0.goes.leads.goes.grows.frame item entered) y.0.given parts z in
        block_whole parts body (record {
          settled = p.settled;
          alone = record {
            label = ap is_direct_label (p.stands.label ∙ y.0.goes.stands.label) ∙ i.alone.label;
            breaks = p.stands.breaks ∙ (y.0.goes.stands.breaks ∙ i.alone.breaks);
            continues = p.stands.continues ∙ (y.0.goes.stands.continues ∙ i.alone.continues);
          };
          over = over_then st e parts.state i.over (over_then e x.state parts.state (came e x.state y.0.goes.leads.goes) (came x.state parts.state p.leads.goes));
        })
        (members.leaves_whole x.state parts.state (held_by (members.Ends x.state) (parts_built x.state h.at n x.given) parts
        (members.parts_built x.state h.at n x.given y.1.defaults) z) y.1) t)

    pub constructor_whole : (inits : syntax.Trees) (body : syntax.Tree) → AreTexts s inits → IsText s body
        → On IsWholeUnit (constructor_body lambdas_of s st h n place inits body)
    constructor_whole inits body t u = told IsWholeUnit (with_parameters s start h.params) _ (λ e q.
        let i : Begins f st e = constructor_begins e q in
        bind (Gave s f no_call n b e) IsWholeUnit (all_given lambdas_of s n (record { state = e; given = [] }) inits) _
        (all_given_whole s f no_call n b e (record { state = e; given = [] }) inits (
          record {
            goes = goes_still (words f s) lambdas_of s (b.discipline f no_call) e i.settled;
            home = home_over st e n i.over home;
            given = record { base = λ c y a z. absurd cc; member = λ j m y a z. absurd cc };
          },
          parameters_left s start h.params e (entered_in st (plain void) (Some (plain (class n))) (Some n) w) q,
        ) t)
        (λ x y. parts_whole e x inits body q y u))

  -- Destructors

  pub destructor_whole : h.kind ≡ Destructor → (body : syntax.Tree) → IsText s body → On IsWholeUnit (destructor_body lambdas_of s st h n place body)
  destructor_whole k (syntax.node kind p token ts) t = body_whole s b f st (in_object st n) ts
      (λ (d : Done). body_made st h.at place (destructor_tree d.state.ctx h.at (at_of p) n d.trees) d.state) (λ e. destructed (sym (def.kind ∙ k) ∙ e))
      (begins s b st f (plain void) (Some (plain (class n))) (Some n) [] g (no_result def.func.kind def.func.declared.signature (ap is_special (def.kind ∙ k)))
      refl home.named complete_at refl (in_object st n) refl)
      (entered_in st (plain void) (Some (plain (class n))) (Some n) w) (kids_texts s kind p token ts t) (λ d l x. made_whole st d.state h.at place _ l w x)
