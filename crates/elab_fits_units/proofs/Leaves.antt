-- Each step of the declarations of a unit leads from a good state to a good one.
use Rattle.std.proofs.Common.{◌≡◌, refl, sym, ap, ◌∙◌, subst, ℕ, true, List, [], ◌∷◌, slice_get, Some, None, is_some, Result, Ok, Err}
use Rattle.std.proofs.lemmas.Option.{same_Some}
use Rattle.std.proofs.lemmas.Bool.{and_parts}
use Rattle.elab_rules.specs.cpp_types.Typ.{Typ, Form, func}
use Rattle.elab_rules.specs.cpp_types.Class.{Class, completion_of}
use Rattle.elab_rules.specs.cpp_types.declared.classes.At.{At}
use Rattle.elab_rules.specs.cpp_lex.Tokens.{Lexeme}
use Rattle.elab_rules.specs.cpp_ast.Trees as syntax
use Rattle.elab_rules.specs.cpp_tree.Typing.{form_in}
use Rattle.elab_rules.specs.cpp_tree.declared.faults.ElabFault.{ElabFault}
use Rattle.elab_rules.specs.cpp_tree.declared.faults.IllRule.TheVariants.{NoMember, TypeDiffers}
use Rattle.elab_rules.specs.cpp_tree.declared.program.FuncKind.{FuncKind}
use Rattle.elab_rules.specs.cpp_tree.declared.program.FuncKind.TheVariants.{Plain, Constructor, Destructor, ClosureCall}
use Rattle.elab_rules.specs.elab_ctx.Ctx.{Ctx}
use Rattle.elab_rules.specs.elab_ctx.Steps.{check, expect}
use Rattle.elab_rules.specs.Initialising.{func_at}
use Rattle.elab_rules.specs.Types.{Declared, Parameter}
use Rattle.elab_rules.specs.Expressions.{type_of_specifiers, declared_by}
use Rattle.elab_rules.specs.Statements.{State}
use Rattle.elab_rules.specs.Functions.{Storage, Header, function_declared, function_body, with_definition, text_sized, defines_well, first_from, is_same_function}
use Rattle.elab_rules.specs.Classes.{Method, method_of, last_token, token_end}
use Rattle.elab_rules.specs.Members.{body_by_kind, place_of_header, late_agrees, late_kept, late_method, is_member_named, outside_words, outside_agrees, outside_text}
use Rattle.elab_rules.specs.Members.{outside_defined, outside_body, outside_method, this_type, constructor_body, destructor_body}
use Rattle.elab_rules.specs.Lambdas.{lambdas_of}
use Rattle.elab_rules.specs.Units.{header_of, definition_text, closing_offset, defined_with}
use Rattle.std.specs.List.{list_any, list_all}
use Rattle.elab_rules.specs.cpp_tree.Notation.{plain}
use Rattle.elab_rules.specs.cpp_tree.Rows.{is_special}
use Rattle.elab_fits.proofs.Nodes.{both}
use Rattle.elab_sound_types.specs.Types.{parameter as a_parameter, target, is_class}
use Rattle.elab_sound_types.specs.Contexts.{is_sound_parameter}
use Rattle.elab_sound_types.specs.States.{Kept, TypesStay}
use Rattle.elab_fits.specs.Standing.{On}
use Rattle.elab_fits.proofs.Steps.{answered, skip, told}
use Rattle.elab_sound_units.specs.Headers.{IsRead, IsOutside}
use Rattle.state_growth.specs.States.{Gone}
use Rattle.elab_fits_states.specs.States.{IsText, AreTexts}
use Rattle.elab_fits_parts.specs.Parts.{IsHome}
use Rattle.elab_fits_units.specs.Below.{Below}
use Rattle.elab_fits_units.specs.Definitions.{IsDefinition}
use Rattle.elab_fits_units.specs.Good.{UnitGood, unit_words}
use Rattle.elab_fits_units.specs.Laws.{Leads, Laws}
use Rattle.elab_fits_units.specs.Steps.{NoCall, Follows}
use Rattle.elab_fits_units.proofs.Bodies.{Left, function_left}
use Rattle.elab_fits_units.proofs.Constructors.{constructor_left}
use Rattle.elab_fits_units.proofs.Growing.{Over, bodies_over, defaults_over, held_earlier}
use Rattle.elab_fits_units.proofs.Headers.{declared_law, methods_law, outside_law}
use Rattle.elab_fits_units.proofs.Methods.{IsMethod, method_is, outside_is}
use Rattle.elab_fits_units.proofs.Owners.{IsOwned, outside_owned}
use Rattle.elab_fits_units.proofs.Quiet.{Quiet, Placing, function_quiet}
use Rattle.elab_fits_units.proofs.Specials.{destructor_left, home_over}
use Rattle.elab_fits_units.proofs.Texts.{rest_texts}

-- Answers

pub both_on : {A : Type 0} (P Q R : A → Type 0) (r : Result A ElabFault) → On P r → On Q r → ((x : A) → P x → Q x → R x) → On R r
both_on P Q R (Ok x) h g f = f x h g
both_on P Q R (Err e) h g f = tt

-- States

pub gone_over : (a b : State) → Gone a b → Over a b
gone_over a b g = record {
  kept = record {
    classes = g.grows.unit.classes;
    numbers = g.numbers;
    slots = g.grows.unit.slots;
    funcs = g.grows.unit.funcs;
    globals = g.grows.unit.globals;
    frame = λ i t e. e;
  };
  tidy = λ t. record { many = g.tidy.many; empty = g.tidy.empty; numbered = g.tidy.numbered };
}

-- Headers in a later state

pub params_over : TypesStay → (before now : List Class) → Kept before now → (ps : List Parameter) → list_all (is_sound_parameter before) ps ≡ true
    → list_all (is_sound_parameter now) ps ≡ true
params_over f before now k [] h = refl
params_over f before now k (p ∷ ps) h = let a = and_parts (is_sound_parameter before p) (list_all (is_sound_parameter before) ps) h in
    both (f before now a_parameter p.typ k a.0) (params_over f before now k ps a.1)

pub read_over : TypesStay → (s : List Lexeme) (st z : State) (n : ℕ) (m : Method) → Leads st z → IsRead s st.ctx.classes n m → IsRead s z.ctx.classes n m
read_over f s st z n m d r = record {
  header = record {
    sound = record {
      signature = f st.ctx.classes z.ctx.classes target (plain (func m.header.signature)) d.kept r.header.sound.signature;
      params = params_over f st.ctx.classes z.ctx.classes d.kept m.header.params r.header.sound.params;
    };
    class = r.header.class;
  };
  rest = r.rest;
}

plain_call : Plain ≡ ClosureCall → ⊥
plain_call e = absurd cc

pub class_complete : (s : List Lexeme) (st : State) (n : ℕ) (m : Method) → IsHome st.ctx.classes n → IsRead s st.ctx.classes n m → (i : ℕ) → m.header.class ≡ Some i
    → is_some (completion_of st.ctx.classes i) ≡ true
class_complete s st n m home r i e = subst (λ (j : ℕ). is_some (completion_of st.ctx.classes j) ≡ true) (same_Some n i (sym r.header.class ∙ e)) home.complete

pub late_quiet : (st : State) (h : Header) (place closed : ℕ) (c : Ctx) → late_kept st.ctx place h closed ≡ Ok c → Quiet st (record st { ctx = c })
late_quiet st h place closed c e = answered (λ (x : Ctx). Quiet st (record st { ctx = x })) (late_kept st.ctx place h closed) c
    (skip (λ (x : Ctx). Quiet st (record st { ctx = x })) (late_agrees h closed (func_at st.ctx.funcs place)) _
    (λ y. record { bodies = refl; defaults = refl; closures = refl })) e

module _ (s : List Lexeme) (b : Below s) (l : Laws s) where
  pub quiet_good : (a z : State) → UnitGood a → Leads a z → Quiet a z → UnitGood z
  quiet_good a z g d q = let o : Over a z = gone_over a z d.gone in record {
    unit = d.unit;
    overriders = d.overriders g.overriders;
    sound = d.sound;
    tidy = d.gone.tidy;
    implicits = l.implicits a.ctx z.ctx d.walk g.unit g.implicits;
    none = q.closures ∙ g.none;
    bodies = bodies_over a z (held_earlier a.ctx g.unit) o q.bodies g.bodies;
    defaults = λ f. defaults_over b.defaults f f a z (held_earlier a.ctx g.unit) o q.defaults (g.defaults f);
  }

  -- a body that began in a good state
  pub record Ended (z : State) : Type 0 where
    pub start : State
    pub good : UnitGood start
    pub left : Left start z

  pub ended_good : (a z : State) → UnitGood a → Leads a z → Ended z → UnitGood z
  ended_good a z g d x = record {
    unit = d.unit;
    overriders = d.overriders g.overriders;
    sound = d.sound;
    tidy = d.gone.tidy;
    implicits = l.implicits a.ctx z.ctx d.walk g.unit g.implicits;
    none = x.left.closures ∙ x.good.none;
    bodies = x.left.bodies;
    defaults = λ f. defaults_over b.defaults f f x.start z (held_earlier x.start.ctx x.good.unit) x.left.over x.left.defaults (x.good.defaults f);
  }

  pub good_on : (a : State) (r : Result State ElabFault) → UnitGood a → On (Leads a) r → On Ended r → On UnitGood r
  good_on a r g d x = both_on (Leads a) Ended UnitGood r d x (λ z y w. ended_good a z g y w)

  pub follows_on : (a : State) (r : Result State ElabFault) → UnitGood a → On (Leads a) r → On Ended r → On (Follows (unit_words s) a) r
  follows_on a r g d x = both_on (Leads a) Ended (Follows (unit_words s) a) r d x
      (λ z y w. record { good = ended_good a z g y w; homes = λ n k. home_over a z n (gone_over a z y.gone) k })

  ends : (a : State) (r : Result State ElabFault) → UnitGood a → On (Left a) r → On Ended r
  ends a (Ok z) g h = record { start = a; good = g; left = h }
  ends a (Err e) g h = tt

  -- Functions at file scope

  of_no_class : (n : ℕ) (A : Type 0) → None ≡ Some n → A
  of_no_class n A e = absurd cc

  file_ended : (st : State) (x : Storage) (at : At) (first : ℕ) (base d body : syntax.Tree) (t : Typ) (r : Declared) (f : Form) → UnitGood st → IsText s base
      → IsText s d → IsText s body → type_of_specifiers s st.ctx st.work base ≡ Ok t → declared_by s st.ctx st.work at t d ≡ Ok r → form_in r.typ ≡ f
      → On Ended (defined_with s st x at first r body f)
  file_ended st x at first base d body t r (func sig) g h i j e k q =
      let head : Header = header_of s at x r sig in
      let text : List ℕ = definition_text s x first body in
      let sound = l.headers st x at base d t r sig g.sound h i e k q in
      skip Ended (text_sized at text) _
      (λ y. skip Ended (defines_well head) _ (λ z. told Ended (function_declared st.ctx head true) _ (λ p w.
      let closed : ℕ = closing_offset s body in
      let m : State = record st { ctx = with_definition p.ctx p.place head text closed } in
      let leads : Leads st m = l.declared st head text closed p g refl refl sound w in
      let named : Placing st.ctx p = answered (Placing st.ctx) (function_declared st.ctx head true) p (function_quiet st.ctx head true) w in
      let good : UnitGood m = quiet_good st m g leads (record { bodies = refl; defaults = named.defaults; closures = named.closures }) in
      ends m (function_body lambdas_of s m head None p.place body) good
      (function_left s b m head None p.place (declared_law st.ctx head text closed p w) good refl (λ v. absurd cc)
      (params_over b.types st.ctx.classes m.ctx.classes leads.kept head.params sound.params) refl (λ n u. of_no_class n _ u) body j))))
  file_ended st x at first base d body t r f g h i j e k q = tt

  pub functions : (st : State) (x : Storage) (at : At) (first : ℕ) (base d body : syntax.Tree) (t : Typ) (r : Declared) → UnitGood st → IsText s base
      → IsText s d → IsText s body → type_of_specifiers s st.ctx st.work base ≡ Ok t → declared_by s st.ctx st.work at t d ≡ Ok r
      → On UnitGood (defined_with s st x at first r body (form_in r.typ))
  functions st x at first base d body t r g h i j e k = good_on st (defined_with s st x at first r body (form_in r.typ)) g
      (l.functions st x at first base d body t r g h i j e k) (file_ended st x at first base d body t r (form_in r.typ) g h i j e k refl)

  -- Members

  method_ended : (st : State) (n place : ℕ) (kind : FuncKind) (m : Method) (body : syntax.Tree) → UnitGood st → IsDefinition st.ctx m.header place
      → m.header.kind ≡ kind → NoCall kind → IsHome st.ctx.classes n → IsRead s st.ctx.classes n m → AreTexts s m.rest → IsText s body
      → On Ended (body_by_kind lambdas_of s st n place kind m body)
  method_ended st n place Constructor m body g def k free home r t u = ends st (constructor_body lambdas_of s st m.header n place m.rest body) g
      (constructor_left s b st m.header n place def g home k r.header.sound.params m.rest body t u)
  method_ended st n place Destructor m body g def k free home r t u = ends st (destructor_body lambdas_of s st m.header n place body) g
      (destructor_left s b st m.header n place def g home k body u)
  method_ended st n place Plain m body g def k free home r t u = ends st (function_body lambdas_of s st m.header (Some (this_type n m.header)) place body) g
      (function_left s b st m.header (Some (this_type n m.header)) place def g (ap is_special k) (λ v. plain_call (sym k ∙ v)) r.header.sound.params home.named (class_complete s st n m home r) body u)
  method_ended st n place ClosureCall m body g def k free home r t u = absurd (free refl)

  -- in the class
  pub methods : (st : State) (n : ℕ) (name : List ℕ) (at : At) (kind : FuncKind) (ts : syntax.Trees) (m : Method) (body : syntax.Tree) → UnitGood st
      → NoCall kind → IsHome st.ctx.classes n → AreTexts s ts → IsText s body → method_of s st n name at kind ts ≡ Ok m
      → On (Follows (unit_words s) st) (late_method lambdas_of s st n kind m (Some body))
  methods st n name at kind ts m body g free home t u e =
      let r = answered (IsRead s st.ctx.classes n) (method_of s st n name at kind ts) m (l.read st n name at kind ts g.sound t) e in
      let x = answered (IsMethod (AreTexts s) (rest_texts s) s kind) (method_of s st n name at kind ts) m (method_is (AreTexts s) (rest_texts s) s st n name at kind ts t) e in
      let closed : ℕ = token_end (slice_get s (last_token (Some body))) in
      follows_on st (late_method lambdas_of s st n kind m (Some body)) g (l.methods st n kind m body g home r u)
      (told Ended (place_of_header st.ctx m.header) _
      (λ place p. told Ended (late_kept st.ctx place m.header closed) _ (λ c q.
      let z : State = record st { ctx = c } in
      let leads : Leads st z = l.again st m.header place closed c g q in
      let good : UnitGood z = quiet_good st z g leads (late_quiet st m.header place closed c q) in
      skip Ended (defines_well m.header) _ (λ y. method_ended z n place kind m body good (methods_law st.ctx c m.header place closed p q) x.kind_is free
      (home_over st z n (gone_over st z leads.gone) home) (read_over b.types s st z n m leads r) x.behind u))))

  -- outside
  pub outside : (st : State) (x : Storage) (at : At) (kind : FuncKind) (first n : ℕ) (ts : syntax.Trees) (m : Method) (body : syntax.Tree) → UnitGood st
      → NoCall kind → AreTexts s ts → IsText s body → outside_method s st at x kind ts ≡ Ok m → m.header.class ≡ Some n
      → On UnitGood (outside_body lambdas_of s st n kind first m body)
  outside st x at kind first n ts m body g free t u e k =
      let o = answered (IsOutside s st.ctx.classes) (outside_method s st at x kind ts) m (l.read_outside st at x kind ts g.sound t) e in
      let r : IsRead s st.ctx.classes n m = subst (λ (i : ℕ). IsRead s st.ctx.classes i m) (same_Some o.number n (sym o.read.header.class ∙ k)) o.read in
      let home : IsHome st.ctx.classes n = record {
        complete = answered (IsOwned st.ctx) (outside_method s st at x kind ts) m (outside_owned s st at x kind ts) e n k;
        named = subst (λ (i : ℕ). is_class st.ctx.classes i ≡ true) (same_Some o.number n (sym o.read.header.class ∙ k)) o.class;
      } in
      let w = answered (IsMethod (AreTexts s) (rest_texts s) s kind) (outside_method s st at x kind ts) m (outside_is (AreTexts s) (rest_texts s) s st at x kind ts t) e in
      let last : ℕ = last_token (Some body) in
      good_on st (outside_body lambdas_of s st n kind first m body) g (l.outside st n kind first m body g home r u)
      (skip Ended (text_sized m.header.at (outside_text s m.header.storage first last)) _
      (λ v. skip Ended (outside_words m.header) _ (λ y. skip Ended (check m.header.at NoMember (list_any (is_member_named n m.header.name) st.ctx.funcs)) _
      (λ i. told Ended (expect m.header.at TypeDiffers (first_from (is_same_function m.header) 0 st.ctx.funcs)) _ (λ place p.
      told Ended (outside_agrees m.header (func_at st.ctx.funcs place)) _ (λ a q.
      let z : State = record st { ctx = outside_defined s st.ctx place m.header first last } in
      let leads : Leads st z = l.elsewhere st m.header place first last g in
      let good : UnitGood z = quiet_good st z g leads (record { bodies = refl; defaults = refl; closures = refl }) in
      skip Ended (defines_well m.header) _ (λ d. method_ended z n place kind m body good (outside_law s st.ctx m.header TypeDiffers place first last p a q) w.kind_is free
      (home_over st z n (gone_over st z leads.gone) home) (read_over b.types s st z n m leads r) w.behind u)))))))
