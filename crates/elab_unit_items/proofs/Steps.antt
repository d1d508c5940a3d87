-- Each step of the declarations of a unit leads from a good state with whole items to such a one.
use Rattle.std.proofs.Common.{◌≡◌, refl, sym, ap, ◌∙◌, subst, ℕ, true, List, slice_get, Some, None, Result, Ok}
use Rattle.std.specs.List.{list_any}
use Rattle.std.proofs.lemmas.Option.{same_Some}
use Rattle.elab_rules.specs.cpp_types.Typ.{Typ, Form, func}
use Rattle.elab_rules.specs.cpp_types.declared.classes.At.{At}
use Rattle.elab_rules.specs.cpp_lex.Tokens.{Lexeme}
use Rattle.elab_rules.specs.cpp_ast.Trees as syntax
use Rattle.elab_rules.specs.cpp_tree.Rows.{is_special}
use Rattle.elab_rules.specs.cpp_tree.Typing.{form_in}
use Rattle.elab_rules.specs.cpp_tree.declared.faults.ElabFault.{ElabFault}
use Rattle.elab_rules.specs.cpp_tree.declared.faults.IllRule.TheVariants.{NoMember, TypeDiffers}
use Rattle.elab_rules.specs.cpp_tree.declared.program.FuncKind.{FuncKind}
use Rattle.elab_rules.specs.cpp_tree.declared.program.FuncKind.TheVariants.{Plain, Constructor, Destructor, ClosureCall}
use Rattle.elab_rules.specs.elab_ctx.Steps.{check, expect}
use Rattle.elab_rules.specs.Initialising.{func_at}
use Rattle.elab_rules.specs.Types.{Declared}
use Rattle.elab_rules.specs.Expressions.{type_of_specifiers, declared_by}
use Rattle.elab_rules.specs.Statements.{State}
use Rattle.elab_rules.specs.Functions.{Storage, Header, function_declared, with_definition, text_sized, defines_well, first_from, is_same_function}
use Rattle.elab_rules.specs.Classes.{Method, method_of, last_token, token_end}
use Rattle.elab_rules.specs.Members.{body_by_kind, place_of_header, late_kept, late_method, is_member_named, outside_words, outside_agrees, outside_text}
use Rattle.elab_rules.specs.Members.{outside_defined, outside_body, outside_method, this_type, declared_only, default_made, member_type}
use Rattle.elab_rules.specs.Globals.{enum_declared}
use Rattle.elab_rules.specs.Implicit.{implied}
use Rattle.elab_rules.specs.Lambdas.{lambdas_of}
use Rattle.elab_rules.specs.Names.{members_in}
use Rattle.elab_rules.specs.Units.{header_of, definition_text, closing_offset, defined_with, file_declaration, alias_of}
use Rattle.elab_fits.proofs.Steps.{told}
use Rattle.elab_places.proofs.Steps.{On, skip, held_by}
use Rattle.elab_sound_types.specs.Types.{is_class}
use Rattle.elab_sound_units.specs.Headers.{IsRead, IsOutside}
use Rattle.elab_fits_states.specs.States.{IsText, AreTexts}
use Rattle.elab_fits_parts.specs.Parts.{IsHome}
use Rattle.elab_fits_units.specs.Below.{Below}
use Rattle.elab_fits_units.specs.Definitions.{IsDefinition}
use Rattle.elab_fits_units.specs.Good.{UnitGood, words_with}
use Rattle.elab_fits_units.specs.Laws.{Leads, Laws}
use Rattle.elab_fits_units.specs.Steps.{NoCall, Words, Follows, Steps}
use Rattle.elab_fits_units.proofs.Headers.{declared_law, methods_law, outside_law}
use Rattle.elab_fits_units.proofs.Leaves.{both_on, gone_over, params_over, read_over, class_complete, late_quiet, quiet_good}
use Rattle.elab_fits_units.proofs.Methods.{IsMethod, method_is, outside_is}
use Rattle.elab_fits_units.proofs.Owners.{IsOwned, outside_owned}
use Rattle.elab_fits_units.proofs.Quiet.{Quiet, Placing, function_quiet, declaration_quiet, aliases_quiet, enum_quiet, only_quiet, class_quiet}
use Rattle.elab_fits_units.proofs.Specials.{home_over}
use Rattle.elab_fits_units.proofs.Named.{By, names_beside}
use Rattle.elab_fits_units.proofs.Texts.{rest_texts}
use Rattle.elab_unit_items.specs.Units.{IsWholeUnit, with_whole, GivesUnit}
use Rattle.elab_unit_items.proofs.Constructors.{constructor_whole, destructor_whole}
use Rattle.elab_unit_items.proofs.Defaults.{default_whole}
use Rattle.elab_unit_items.proofs.Ending.{quiet_whole}
use Rattle.elab_unit_items.proofs.Functions.{function_whole}
use Rattle.elab_unit_items.proofs.Implied.{implicit_whole}

-- Answers

pair : (w : Words) (r : Result State ElabFault) → On w.Good r → On IsWholeUnit r → On (with_whole w).Good r
pair w r g h = both_on w.Good IsWholeUnit (with_whole w).Good r g h (λ z a b. (a, b))

followed : (w : Words) (a : State) (r : Result State ElabFault) → On (Follows w a) r → On IsWholeUnit r → On (Follows (with_whole w) a) r
followed w a r g h = both_on (Follows w a) IsWholeUnit (Follows (with_whole w) a) r g h (λ z x i. record { good = (x.good, i); homes = x.homes })

quiet_on : (a : State) (r : Result State ElabFault) → IsWholeUnit a → On (Leads a) r → On (Quiet a) r → On IsWholeUnit r
quiet_on a r w d q = both_on (Leads a) (Quiet a) IsWholeUnit r d q (λ z x y. quiet_whole a z x.gone.grows.unit.classes y w)

no_class : (n : ℕ) (A : Type 0) → None ≡ Some n → A
no_class n A e = absurd cc

plain_is_no_call : Plain ≡ ClosureCall → ⊥
plain_is_no_call e = absurd cc

module _ (s : List Lexeme) (b : Below s) (l : Laws s) where
  -- Functions at file scope

  file_whole : (st : State) (x : Storage) (at : At) (first : ℕ) (base d body : syntax.Tree) (t : Typ) (r : Declared) (f : Form) → UnitGood st → IsWholeUnit st
      → IsText s base → IsText s d → IsText s body → type_of_specifiers s st.ctx st.work base ≡ Ok t → declared_by s st.ctx st.work at t d ≡ Ok r
      → form_in r.typ ≡ f → On IsWholeUnit (defined_with s st x at first r body f)
  file_whole st x at first base d body t r (func sig) g w h i j e k q =
      let head : Header = header_of s at x r sig in
      let text : List ℕ = definition_text s x first body in
      let sound = l.headers st x at base d t r sig g.sound h i e k q in
      skip IsWholeUnit (text_sized at text) _
      (λ y. skip IsWholeUnit (defines_well head) _ (λ z. told IsWholeUnit (function_declared st.ctx head true) _ (λ p u.
      let closed : ℕ = closing_offset s body in
      let m : State = record st { ctx = with_definition p.ctx p.place head text closed } in
      let leads : Leads st m = l.declared st head text closed p g refl refl sound u in
      let named : Placing st.ctx p = held_by (Placing st.ctx) (function_declared st.ctx head true) p (function_quiet st.ctx head true) u in
      let quiet : Quiet st m = record { bodies = refl; defaults = named.defaults; closures = named.closures } in
      function_whole s b m head None p.place (declared_law st.ctx head text closed p u) (quiet_good s b l st m g leads quiet) refl (λ v. absurd cc)
      (params_over b.types st.ctx.classes m.ctx.classes leads.kept head.params sound.params) refl (λ n v. no_class n _ v)
      (quiet_whole st m leads.gone.grows.unit.classes quiet w) body j)))
  file_whole st x at first base d body t r f g w h i j e k q = tt

  -- Members

  method_whole : (st : State) (n place : ℕ) (kind : FuncKind) (m : Method) (body : syntax.Tree) → UnitGood st → IsWholeUnit st → IsDefinition st.ctx m.header place
      → m.header.kind ≡ kind → NoCall kind → IsHome st.ctx.classes n → IsRead s st.ctx.classes n m → AreTexts s m.rest → IsText s body
      → On IsWholeUnit (body_by_kind lambdas_of s st n place kind m body)
  method_whole st n place Constructor m body g w def k free home r t u =
      constructor_whole s b st m.header n place def g home w k r.header.sound.params m.rest body t u
  method_whole st n place Destructor m body g w def k free home r t u = destructor_whole s b st m.header n place def g home w k body u
  method_whole st n place Plain m body g w def k free home r t u = function_whole s b st m.header (Some (this_type n m.header)) place def g (ap is_special k)
      (λ v. plain_is_no_call (sym k ∙ v)) r.header.sound.params home.named (class_complete s st n m home r) w body u
  method_whole st n place ClosureCall m body g w def k free home r t u = absurd (free refl)

  -- in the class
  late_whole : (st : State) (n : ℕ) (name : List ℕ) (at : At) (kind : FuncKind) (ts : syntax.Trees) (m : Method) (body : syntax.Tree) → UnitGood st → IsWholeUnit st
      → NoCall kind → IsHome st.ctx.classes n → AreTexts s ts → IsText s body → method_of s st n name at kind ts ≡ Ok m
      → On IsWholeUnit (late_method lambdas_of s st n kind m (Some body))
  late_whole st n name at kind ts m body g w free home t u e =
      let r = held_by (IsRead s st.ctx.classes n) (method_of s st n name at kind ts) m (l.read st n name at kind ts g.sound t) e in
      let x = held_by (IsMethod (AreTexts s) (rest_texts s) s kind) (method_of s st n name at kind ts) m (method_is (AreTexts s) (rest_texts s) s st n name at kind ts t) e in
      let closed : ℕ = token_end (slice_get s (last_token (Some body))) in
      told IsWholeUnit (place_of_header st.ctx m.header) _
      (λ place p. told IsWholeUnit (late_kept st.ctx place m.header closed) _ (λ c q.
      let z : State = record st { ctx = c } in
      let leads : Leads st z = l.again st m.header place closed c g q in
      let quiet : Quiet st z = late_quiet st m.header place closed c q in
      skip IsWholeUnit (defines_well m.header) _ (λ y. method_whole z n place kind m body (quiet_good s b l st z g leads quiet)
      (quiet_whole st z leads.gone.grows.unit.classes quiet w) (methods_law st.ctx c m.header place closed p q) x.kind_is free
      (home_over st z n (gone_over st z leads.gone) home) (read_over b.types s st z n m leads r) x.behind u)))

  -- outside
  outside_whole : (st : State) (x : Storage) (at : At) (kind : FuncKind) (first n : ℕ) (ts : syntax.Trees) (m : Method) (body : syntax.Tree) → UnitGood st
      → IsWholeUnit st → NoCall kind → AreTexts s ts → IsText s body → outside_method s st at x kind ts ≡ Ok m → m.header.class ≡ Some n
      → On IsWholeUnit (outside_body lambdas_of s st n kind first m body)
  outside_whole st x at kind first n ts m body g w free t u e k =
      let o = held_by (IsOutside s st.ctx.classes) (outside_method s st at x kind ts) m (l.read_outside st at x kind ts g.sound t) e in
      let r : IsRead s st.ctx.classes n m = subst (λ (i : ℕ). IsRead s st.ctx.classes i m) (same_Some o.number n (sym o.read.header.class ∙ k)) o.read in
      let home : IsHome st.ctx.classes n = record {
        complete = held_by (IsOwned st.ctx) (outside_method s st at x kind ts) m (outside_owned s st at x kind ts) e n k;
        named = subst (λ (i : ℕ). is_class st.ctx.classes i ≡ true) (same_Some o.number n (sym o.read.header.class ∙ k)) o.class;
      } in
      let i = held_by (IsMethod (AreTexts s) (rest_texts s) s kind) (outside_method s st at x kind ts) m (outside_is (AreTexts s) (rest_texts s) s st at x kind ts t) e in
      let last : ℕ = last_token (Some body) in
      skip IsWholeUnit (text_sized m.header.at (outside_text s m.header.storage first last)) _
      (λ v. skip IsWholeUnit (outside_words m.header) _
      (λ y. skip IsWholeUnit (check m.header.at NoMember (list_any (is_member_named n m.header.name) st.ctx.funcs)) _
      (λ j. told IsWholeUnit (expect m.header.at TypeDiffers (first_from (is_same_function m.header) 0 st.ctx.funcs)) _ (λ place p.
      told IsWholeUnit (outside_agrees m.header (func_at st.ctx.funcs place)) _ (λ a q.
      let z : State = record st { ctx = outside_defined s st.ctx place m.header first last } in
      let leads : Leads st z = l.elsewhere st m.header place first last g in
      let quiet : Quiet st z = record { bodies = refl; defaults = refl; closures = refl } in
      skip IsWholeUnit (defines_well m.header) _ (λ d. method_whole z n place kind m body (quiet_good s b l st z g leads quiet)
      (quiet_whole st z leads.gone.grows.unit.classes quiet w) (outside_law s st.ctx m.header TypeDiffers place first last p a q) i.kind_is free
      (home_over st z n (gone_over st z leads.gone) home) (read_over b.types s st z n m leads r) i.behind u))))))

  -- All steps, in words of which good states follow
  module _ (w : Words) (q : Steps w s) (u : GivesUnit w s) where
    pub whole_steps : Steps (with_whole w) s
    whole_steps = record {
      kids = q.kids;
      first = q.first;
      rest = q.rest;
      spelled = q.spelled;
      titled = q.titled;
      variables = λ st x at ts g t. pair w (file_declaration s st x at ts) (q.variables st x at ts g.0 t)
          (quiet_on st (file_declaration s st x at ts) g.1 (l.variables st x at ts (u.good st g.0) (u.texts ts t)) (declaration_quiet s st x at ts));
      aliases = λ st at name ts g t. pair w (alias_of s st at name ts) (q.aliases st at name ts g.0 t)
          (quiet_on st (alias_of s st at name ts) g.1 (l.aliases st at name ts (u.good st g.0) (u.texts ts t)) (aliases_quiet s st at name ts));
      enums = λ st at name ts g t. pair w (enum_declared s st at name ts) (q.enums st at name ts g.0 t)
          (quiet_on st (enum_declared s st at name ts) g.1 (l.enums st at name ts (u.good st g.0) (u.texts ts t)) (enum_quiet s st at name ts));
      names = λ st at name g n. pair w (declared_only st at name) (q.names st at name g.0 n)
          (quiet_on st (declared_only st at name) g.1 (l.names st at name (u.good st g.0) n) (only_quiet st at name));
      functions = λ st x at first base d body t r g h i j e k. pair w (defined_with s st x at first r body (form_in r.typ))
          (q.functions st x at first base d body t r g.0 h i j e k)
          (file_whole st x at first base d body t r (form_in r.typ) (u.good st g.0) g.1 (u.text base h) (u.text d i) (u.text body j) e k refl);
      outside = λ st x at kind first n ts m body g free t v e k. pair w (outside_body lambdas_of s st n kind first m body)
          (q.outside st x at kind first n ts m body g.0 free t v e k)
          (outside_whole st x at kind first n ts m body (u.good st g.0) g.1 free (u.texts ts t) (u.text body v) e k);
      classes = λ st at name kids home r c g n i t k. let y = q.classes st at name kids home r c g.0 n i t k in
          ((y.0, quiet_whole st (record r.state { ctx = c }) (u.grown st at name kids home r c g.0 n i t k) (class_quiet s st at name kids home r c k) g.1), y.1);
      defaults = λ st n i name e g h t k. let typ : Typ = member_type (slice_get (members_in (slice_get st.ctx.classes n)) i) in
          followed w st (default_made lambdas_of s st n i typ e) (q.defaults st n i name e g.0 h t k)
          (default_whole s b st n (u.good st g.0) (u.home st n h) g.1 i typ e (u.text e t));
      methods = λ st n name at kind ts m body g free home t v e. followed w st (late_method lambdas_of s st n kind m (Some body))
          (q.methods st n name at kind ts m body g.0 free home t v e)
          (late_whole st n name at kind ts m body (u.good st g.0) g.1 free (u.home st n home) (u.texts ts t) (u.text body v) e);
      implicits = λ st k g. pair w (implied st k) (q.implicits st k g.0) (implicit_whole st k (u.good st g.0) g.1);
    }

  -- the words of elab_fits_units
  pub units : GivesUnit (words_with s (By s)) s
  units = record {
    good = λ st g. g.0;
    home = λ st n h. h;
    text = λ t h. h.text;
    texts = λ ts h. h.texts;
    grown = λ st at name kids home r c g n i t k. (l.classes st at name kids home r c g.0 n t.texts k
        ((names_beside s).classes st at name kids home r c g.0 g.1 n i t k).0).0.gone.grows.unit.classes;
  }
