-- Behind each step of a unit it has gone on, and its types are sound: what the crates below prove of them.
use Rattle.std.proofs.Common.{◌≡◌, refl, sym, ap, ◌∙◌, ℕ, true, false, not, ◌||◌, List, [], ◌∷◌, Some, None, Result, Ok, Err}
use Rattle.std.proofs.lemmas.Bool.{and_parts}
use Rattle.elab_rules.specs.cpp_types.Typ.{Typ, typ, func, Signature}
use Rattle.elab_rules.specs.cpp_types.Class.{Class}
use Rattle.elab_rules.specs.cpp_types.declared.classes.At.{At}
use Rattle.elab_rules.specs.cpp_lex.Tokens.{Lexeme}
use Rattle.elab_rules.specs.cpp_ast.Trees as syntax
use Rattle.elab_rules.specs.cpp_tree.Typing.{form_in}
use Rattle.elab_rules.specs.cpp_tree.declared.faults.ElabFault.{ElabFault}
use Rattle.elab_rules.specs.cpp_tree.declared.program.FuncKind.{FuncKind}
use Rattle.elab_rules.specs.elab_ctx.Ctx.{Ctx}
use Rattle.elab_rules.specs.Initialising.{func_at}
use Rattle.elab_rules.specs.Types.{Declared, is_nothing}
use Rattle.elab_rules.specs.Expressions.{type_of_specifiers, declared_by}
use Rattle.elab_rules.specs.Statements.{State}
use Rattle.elab_rules.specs.Functions.{Storage, Header, Placed, function_declared, with_definition}
use Rattle.elab_rules.specs.Classes.{Method, method_of}
use Rattle.elab_rules.specs.Members.{default_made, late_agrees, late_kept, late_method, outside_defined, outside_body, outside_method, declared_only}
use Rattle.elab_rules.specs.Implicit.{implied}
use Rattle.elab_rules.specs.Lambdas.{lambdas_of}
use Rattle.elab_rules.specs.Units.{file_declaration, alias_of, header_of, defined_with}
use Rattle.elab_rules.specs.Globals.{enum_declared}
use Rattle.elab_fits.specs.Standing.{On}
use Rattle.elab_fits.proofs.Steps.{answered, skip, weaken}
use Rattle.elab_contexts.specs.Holding.{UnitHolds, StateHolds}
use Rattle.elab_contexts.specs.Overriders.{Overrides}
use Rattle.elab_contexts.specs.Steps.{view, Steps as Goes}
use Rattle.elab_contexts.specs.Texts.{is_no_name}
use Rattle.elab_contexts.proofs.Bodies as walks
use Rattle.elab_contexts.proofs.Declared as walks_declared
use Rattle.elab_contexts.proofs.Defined as walks_defined
use Rattle.elab_contexts.proofs.Classes as walks_classes
use Rattle.elab_contexts.proofs.Going as going
use Rattle.elab_contexts.proofs.Holding as holding
use Rattle.elab_contexts.proofs.Implied as walks_implied
use Rattle.elab_contexts.proofs.Members as walks_members
use Rattle.elab_contexts.proofs.Outside as walks_outside
use Rattle.elab_contexts.proofs.Unchanged as unchanged
use Rattle.elab_contexts.proofs.Units as walks_units
use Rattle.elab_contexts.proofs.Walking as walking
use Rattle.elab_sound_types.specs.Types.{is_sound, is_sound_signature, denoted}
use Rattle.elab_sound_types.specs.Laws.{IsSoundDeclared}
use Rattle.elab_sound_types.specs.States.{IsSoundState, IsSoundAfter}
use Rattle.elab_sound_types.proofs.Expressions as types
use Rattle.elab_sound_units.specs.Headers.{IsSoundHeader, IsRead, IsOutside}
use Rattle.elab_sound_units.proofs.Bodies.{definition_after}
use Rattle.elab_sound_units.proofs.Outside.{defined_after}
use Rattle.elab_sound_units.proofs.Steps as sound
use Rattle.elab_sound_types.proofs.Growth.{kept_joined}
use Rattle.elab_rules.specs.cpp_tree.declared.program.FuncKind.TheVariants.{Plain}
use Rattle.state_growth.specs.States.{IsTidy}
use Rattle.state_growth.proofs.Bodies as growth
use Rattle.state_growth.proofs.Changing as growth_changing
use Rattle.state_growth.proofs.Going.{states_on_law, numbers_law}
use Rattle.state_growth.proofs.Classes as growth_classes
use Rattle.state_growth.proofs.Declared as growth_declared
use Rattle.state_growth.proofs.Implied as growth_implied
use Rattle.state_growth.proofs.Members as growth_members
use Rattle.state_growth.proofs.Outside as growth_outside
use Rattle.state_growth.proofs.Steps.{Leaves, state_grows, is_tidy, to_tidy}
use Rattle.state_growth.proofs.Units as growth_units
use Rattle.elab_fits_states.specs.States.{IsText, AreTexts}
use Rattle.elab_fits_states.proofs.Spelled.{spelled as one_spelled, all_spelled}
use Rattle.elab_fits_parts.specs.Parts.{IsHome}
use Rattle.elab_fits_units.specs.Good.{UnitGood}
use Rattle.elab_fits_units.specs.Laws.{Leads}

-- Answers

abbrev Walks : State → State → Type 0
Walks a b = Goes (view a.ctx) (view b.ctx)

leads_one : (st y : State) → IsTidy st.ctx → StateHolds y → IsSoundAfter true st y → Walks st y → Overrides st y → Leaves st y → Leads st y
leads_one st y g u h w o l = record {
  walk = w;
  unit = u;
  sound = h.sound;
  kept = h.grown.kept;
  overriders = λ h. record { classes = h.classes; by = o h.classes h.by };
  gone = record { grows = state_grows st y l.kept; numbers = l.kept.numbers; tidy = is_tidy y (l.tidy (to_tidy st g)) };
}

leads_on : (st : State) (r : Result State ElabFault) → UnitGood st → On StateHolds r → On (IsSoundAfter true st) r → On (Walks st) r → On (Overrides st) r
    → On (Leaves st) r → On (Leads st) r
leads_on st (Ok y) g u h w o l = leads_one st y g.tidy u h w o l
leads_on st (Err e) g u h w o l = tt

by_leaves : (st : State) (r : Result State ElabFault) → On (walking.Leaves st) r → On (Walks st) r
by_leaves st r h = weaken (walking.Leaves st) (Walks st) r (λ y l. l.walk) h

by_from : (st : State) (r : Result State ElabFault) → On (going.From st) r → On (Walks st) r
by_from st r h = weaken (going.From st) (Walks st) r (λ y l. l.walk) h

named : (xs : List ℕ) → is_nothing xs ≡ false → is_no_name xs ≡ false
named [] h = absurd cc
named (x ∷ xs) h = refl

-- Declarations without bodies

module _ (s : List Lexeme) where
  pub variables : (st : State) (x : Storage) (at : At) (ts : syntax.Trees) → UnitGood st → AreTexts s ts → On (Leads st) (file_declaration s st x at ts)
  variables st x at ts g t = let r = file_declaration s st x at ts in
      leads_on st r g (holding.variables_law s st x at ts g.unit) (sound.variables_law s st x at ts g.sound (all_spelled s ts t.spelled))
      (by_leaves st r (walks_declared.declaration_kept s st x at ts)) (holding.variables_override s st x at ts) (growth_declared.declaration_kept s st x at ts)

  pub aliases : (st : State) (at : At) (name : List ℕ) (ts : syntax.Trees) → UnitGood st → AreTexts s ts → On (Leads st) (alias_of s st at name ts)
  aliases st at name ts g t = let r = alias_of s st at name ts in
      leads_on st r g (holding.aliases_law s st at name ts g.unit) (sound.aliases_law s st at name ts g.sound)
      (by_from st r (walks_declared.aliases_from s st at name ts g.unit.types)) (unchanged.aliases_override s st at name ts)
      (growth_declared.aliases_kept s st at name ts)

  pub enums : (st : State) (at : At) (name : List ℕ) (ts : syntax.Trees) → UnitGood st → AreTexts s ts → On (Leads st) (enum_declared s st at name ts)
  enums st at name ts g t = let r = enum_declared s st at name ts in
      leads_on st r g (holding.enums_law s st at name ts g.unit) (sound.enums_law s st at name ts g.sound)
      (by_from st r (walks_declared.enum_kept s st at name ts)) (unchanged.enums_override s st at name ts) (growth_declared.enum_kept s st at name ts)

  pub names : (st : State) (at : At) (name : List ℕ) → UnitGood st → is_nothing name ≡ false → On (Leads st) (declared_only st at name)
  names st at name g n = let r = declared_only st at name in
      leads_on st r g (holding.names_law st at name g.unit (named name n)) (sound.names_law st at name n g.sound)
      (by_from st r (walks_classes.declared_from st at name (named name n))) (unchanged.names_override st at name) (growth_classes.declared_kept st at name)

  -- Headers

  of_func : (g h : Signature) → func g ≡ func h → g ≡ h
  of_func g h e = cc

  signature_in : (cs : List Class) (t : Typ) (sig : Signature) → is_sound cs denoted t ≡ true → form_in t ≡ func sig → is_sound_signature cs sig ≡ true
  signature_in cs (typ (func g) c v) sig h e = ap (is_sound_signature cs) (sym (of_func g sig e)) ∙ (and_parts (not (c || v)) (is_sound_signature cs g) h).1
  signature_in cs (typ f c v) sig h e = absurd cc

  pub declared_sound : (st : State) (at : At) (base d : syntax.Tree) (t : Typ) (r : Declared) → IsSoundState st → IsText s base → IsText s d
      → type_of_specifiers s st.ctx st.work base ≡ Ok t → declared_by s st.ctx st.work at t d ≡ Ok r → IsSoundDeclared st.ctx.classes r
  declared_sound st at base d t r h i j e k = types.declarators_law s st.ctx st.ctx.closures st.work at t d r h.context
      (types.specifiers_law s st.ctx st.ctx.closures st.work base t h.context e) k

  pub headers : (st : State) (x : Storage) (at : At) (base d : syntax.Tree) (t : Typ) (r : Declared) (sig : Signature) → IsSoundState st → IsText s base
      → IsText s d → type_of_specifiers s st.ctx st.work base ≡ Ok t → declared_by s st.ctx st.work at t d ≡ Ok r → form_in r.typ ≡ func sig
      → IsSoundHeader st.ctx.classes (header_of s at x r sig)
  headers st x at base d t r sig h i j e k q = let z = declared_sound st at base d t r h i j e k in
      record { signature = signature_in st.ctx.classes r.typ sig z.typ q; params = z.params }

  -- Definitions with their bodies

  pub functions : (st : State) (x : Storage) (at : At) (first : ℕ) (base d body : syntax.Tree) (t : Typ) (r : Declared) → UnitGood st → IsText s base
      → IsText s d → IsText s body → type_of_specifiers s st.ctx st.work base ≡ Ok t → declared_by s st.ctx st.work at t d ≡ Ok r
      → On (Leads st) (defined_with s st x at first r body (form_in r.typ))
  functions st x at first base d body t r g h i j e k = let z = defined_with s st x at first r body (form_in r.typ) in
      leads_on st z g (holding.functions_law s st x at first r body g.unit)
      (sound.definitions_law s st x at first r body (declared_sound st at base d t r g.sound h i e k) g.sound (one_spelled s body j.spelled))
      (by_leaves st z (walks_units.with_kept s st x at first r body (form_in r.typ))) (holding.functions_override s st x at first r body)
      (growth_units.with_kept s st x at first r body (form_in r.typ))

  pub outside : (st : State) (n : ℕ) (kind : FuncKind) (first : ℕ) (m : Method) (body : syntax.Tree) → UnitGood st → IsHome st.ctx.classes n
      → IsRead s st.ctx.classes n m → IsText s body → On (Leads st) (outside_body lambdas_of s st n kind first m body)
  outside st n kind first m body g h r t = let z = outside_body lambdas_of s st n kind first m body in
      leads_on st z g (holding.outside_law s st n kind first m body g.unit) (sound.outside_bodies_law s st n kind first m body g.sound h.named r (one_spelled s body t.spelled))
      (by_leaves st z (walks_outside.body_kept lambdas_of walks.lambdas_lawful s st n kind first m body)) (holding.outside_override s st n kind first m body)
      (growth_outside.body_kept lambdas_of growth.lambdas_lawful s st n kind first m body)

  pub methods : (st : State) (n : ℕ) (kind : FuncKind) (m : Method) (body : syntax.Tree) → UnitGood st → IsHome st.ctx.classes n
      → IsRead s st.ctx.classes n m → IsText s body → On (Leads st) (late_method lambdas_of s st n kind m (Some body))
  methods st n kind m body g h r t = let z = late_method lambdas_of s st n kind m (Some body) in
      leads_on st z g (holding.methods_law s st n kind m (Some body) g.unit) (sound.late_law s st n kind m body g.sound h.named r (one_spelled s body t.spelled))
      (by_leaves st z (walks_members.late_method_kept lambdas_of walks.lambdas_lawful s st n kind m (Some body))) (holding.methods_override s st n kind m (Some body))
      (growth_members.late_method_kept lambdas_of growth.lambdas_lawful s st n kind m (Some body))

  pub defaults : (st : State) (n i : ℕ) (t : Typ) (e : syntax.Tree) → UnitGood st → IsHome st.ctx.classes n → IsText s e
      → On (Leads st) (default_made lambdas_of s st n i t e)
  defaults st n i t e g h x = let z = default_made lambdas_of s st n i t e in
      leads_on st z g (holding.defaults_law s st n i t e g.unit) (sound.defaults_law s st n i t e g.sound h.named (one_spelled s e x.spelled))
      (by_leaves st z (walks_members.default_kept lambdas_of walks.lambdas_lawful s st n i t e)) (holding.defaults_override s st n i t e)
      (growth_members.default_kept lambdas_of growth.lambdas_lawful s st n i t e)

  pub members : (st : State) (k : ℕ) → UnitGood st → On (Leads st) (implied st k)
  members st k g = let z = implied st k in
      leads_on st z g (holding.implied_law st k g.unit) (sound.implied_law st k g.sound) (by_leaves st z (walks_implied.implied_one st k))
      (holding.implied_override st k) (growth_implied.one_kept st k)

  -- Headers of members

  pub read : (st : State) (n : ℕ) (name : List ℕ) (at : At) (kind : FuncKind) (ts : syntax.Trees) → IsSoundState st → AreTexts s ts
      → On (IsRead s st.ctx.classes n) (method_of s st n name at kind ts)
  read st n name at kind ts h t = sound.methods_law s st n name at kind ts h (all_spelled s ts t.spelled)

  pub read_outside : (st : State) (at : At) (x : Storage) (kind : FuncKind) (ts : syntax.Trees) → IsSoundState st → AreTexts s ts
      → On (IsOutside s st.ctx.classes) (outside_method s st at x kind ts)
  read_outside st at x kind ts h t = sound.outside_law s st at x kind ts h (all_spelled s ts t.spelled)

-- What a definition says of a function

leads_then : (a b c : State) → Leads a b → Leads b c → Leads a c
leads_then a b c g h = record {
  walk = walking.joined g.walk h.walk;
  unit = h.unit;
  sound = h.sound;
  kept = kept_joined a.ctx.classes b.ctx.classes c.ctx.classes g.kept h.kept;
  overriders = λ o. h.overriders (g.overriders o);
  gone = record {
    grows = states_on_law a b c g.gone.grows h.gone.grows;
    numbers = numbers_law a.ctx.classes b.ctx.classes c.ctx.classes g.gone.numbers h.gone.grows.unit.classes h.gone.numbers;
    tidy = h.gone.tidy;
  };
}

definition_leads : (st : State) (i : ℕ) (h : Header) (text : List ℕ) (closed : ℕ) → UnitHolds st.ctx → IsSoundState st → IsTidy st.ctx
    → Leads st (record st { ctx = with_definition st.ctx i h text closed })
definition_leads st i h text closed u q t = let c : Ctx = with_definition st.ctx i h text closed in let y : State = record st { ctx = c } in
    let w = walks_defined.further_leaves st c (walks_defined.definition_further st.ctx i h text closed) in
    leads_one st y t (holding.left st y u w) (definition_after st i h text closed q) w.walk w.overrides
    (growth_changing.further_leaves st c (growth_changing.definition_further st.ctx i h text closed))

pub again : (st : State) (h : Header) (place closed : ℕ) (c : Ctx) → UnitGood st → late_kept st.ctx place h closed ≡ Ok c → Leads st (record st { ctx = c })
again st h place closed c g e = answered (λ (x : Ctx). Leads st (record st { ctx = x })) (late_kept st.ctx place h closed) c
    (skip (λ (x : Ctx). Leads st (record st { ctx = x })) (late_agrees h closed (func_at st.ctx.funcs place)) _
    (λ y. definition_leads st place h (func_at st.ctx.funcs place).text (func_at st.ctx.funcs place).closed_at g.unit g.sound g.tidy)) e

pub elsewhere : (s : List Lexeme) (st : State) (h : Header) (place first last : ℕ) → UnitGood st
    → Leads st (record st { ctx = outside_defined s st.ctx place h first last })
elsewhere s st h place first last g = let c : Ctx = outside_defined s st.ctx place h first last in let y : State = record st { ctx = c } in
    let w = walks_defined.further_leaves st c (walks_outside.outside_further s st.ctx place h first last) in
    leads_one st y g.tidy (holding.left st y g.unit w) (defined_after s st place h first last g.sound) w.walk w.overrides
    (growth_changing.further_leaves st c (growth_outside.outside_further s st.ctx place h first last))

pub declared : (st : State) (h : Header) (text : List ℕ) (closed : ℕ) (p : Placed) → UnitGood st → h.class ≡ None → h.kind ≡ Plain
    → IsSoundHeader st.ctx.classes h → function_declared st.ctx h true ≡ Ok p
    → Leads st (record st { ctx = with_definition p.ctx p.place h text closed })
declared st h text closed p g n k q e =
    let x : State = record st { ctx = p.ctx } in
    let w = walks_defined.further_leaves st p.ctx (answered (walks_outside.Placing st.ctx) (function_declared st.ctx h true) p
    (walks_outside.function_further st.ctx h true (n, k)) e) in
    let l = growth_changing.further_leaves st p.ctx (answered (growth_outside.Placing st.ctx) (function_declared st.ctx h true) p
    (growth_outside.function_further st.ctx h true) e) in
    let one : Leads st x = leads_one st x g.tidy (holding.left st x g.unit w)
    (answered (λ (y : Placed). IsSoundAfter true st (record st { ctx = y.ctx })) (function_declared st.ctx h true) p
    (sound.functions_law st h true g.sound q) e) w.walk w.overrides l in
    leads_then st x (record st { ctx = with_definition p.ctx p.place h text closed }) one
    (definition_leads x p.place h text closed one.unit one.sound one.gone.tidy)
