-- What crates beside this one prove of each step of a unit: the unit goes on by steps, its types stay sound, and what stood in it stands there.
use Rattle.std.specs.Prelude.{◌≡◌, ℕ, true, false, None, Some, List, Ok}
use Rattle.elab_rules.specs.cpp_types.Typ.{Typ, func, Signature}
use Rattle.elab_rules.specs.cpp_types.declared.classes.At.{At}
use Rattle.elab_rules.specs.cpp_lex.Tokens.{Lexeme}
use Rattle.elab_rules.specs.cpp_ast.Trees as syntax
use Rattle.elab_rules.specs.cpp_tree.Typing.{form_in}
use Rattle.elab_rules.specs.cpp_tree.declared.program.FuncKind.{FuncKind}
use Rattle.elab_rules.specs.cpp_tree.declared.program.FuncKind.TheVariants.{Plain}
use Rattle.elab_rules.specs.cpp_tree.Units.{TypedProgram}
use Rattle.elab_rules.specs.elab_ctx.Ctx.{Ctx, Traits}
use Rattle.elab_rules.specs.Programs.{start_behind}
use Rattle.elab_rules.specs.Types.{Declared, is_nothing}
use Rattle.elab_rules.specs.Expressions.{type_of_specifiers, declared_by}
use Rattle.elab_rules.specs.Statements.{State}
use Rattle.elab_rules.specs.Functions.{Storage, Header, Placed, function_declared, with_definition}
use Rattle.elab_rules.specs.Classes.{Home, Members, Method, method_of}
use Rattle.elab_rules.specs.Members.{default_made, late_kept, late_method, outside_method, outside_defined, outside_body, declared_only}
use Rattle.elab_rules.specs.Implicit.{implied}
use Rattle.elab_rules.specs.Lambdas.{lambdas_of}
use Rattle.elab_rules.specs.Units.{file_declaration, alias_of, header_of, defined_with}
use Rattle.elab_rules.specs.Globals.{enum_declared}
use Rattle.elab_fits.specs.Standing.{On}
use Rattle.elab_contexts.specs.Holding.{UnitHolds}
use Rattle.elab_contexts.specs.Steps.{view, Steps as Goes}
use Rattle.elab_contexts.specs.Overriders.{HasOverriders}
use Rattle.elab_sound_types.specs.States.{IsSoundState, Kept}
use Rattle.elab_sound_units.specs.Headers.{IsSoundHeader, IsRead, IsOutside}
use Rattle.state_growth.specs.States.{Gone}
use Rattle.elab_fits_states.specs.States.{IsText, AreTexts}
use Rattle.elab_fits_parts.specs.Parts.{IsHome}
use Rattle.elab_fits_parts.specs.Implicit.{HasImplicits}
use Rattle.elab_fits_units.specs.Good.{UnitGood}
use Rattle.elab_fits_units.specs.Named.{IsNamedText, AreNamedTexts, IsTitle}
use Rattle.elab_fits_units.specs.Steps.{IsClosed}

pub record Leads (a b : State) : Type 0 where
  pub walk : Goes (view a.ctx) (view b.ctx)
  pub unit : UnitHolds b.ctx
  pub sound : IsSoundState b
  pub kept : Kept a.ctx.classes b.ctx.classes
  pub overriders : HasOverriders a.ctx.funcs → HasOverriders b.ctx.funcs
  pub gone : Gone a b

pub record Laws (s : List Lexeme) : Type 0 where
  -- behind steps implicit members are what they were
  pub implicits : (a b : Ctx) → Goes (view a) (view b) → UnitHolds a → HasImplicits a → HasImplicits b
  -- headers
  pub headers : (st : State) (x : Storage) (at : At) (base d : syntax.Tree) (t : Typ) (r : Declared) (sig : Signature) → IsSoundState st → IsText s base → IsText s d
      → type_of_specifiers s st.ctx st.work base ≡ Ok t → declared_by s st.ctx st.work at t d ≡ Ok r → form_in r.typ ≡ func sig
      → IsSoundHeader st.ctx.classes (header_of s at x r sig)
  pub read : (st : State) (n : ℕ) (name : List ℕ) (at : At) (kind : FuncKind) (ts : syntax.Trees) → IsSoundState st → AreTexts s ts
      → On (IsRead s st.ctx.classes n) (method_of s st n name at kind ts)
  pub read_outside : (st : State) (at : At) (x : Storage) (kind : FuncKind) (ts : syntax.Trees) → IsSoundState st → AreTexts s ts
      → On (IsOutside s st.ctx.classes) (outside_method s st at x kind ts)
  -- declarations without bodies
  pub variables : (st : State) (x : Storage) (at : At) (ts : syntax.Trees) → UnitGood st → AreTexts s ts → On (Leads st) (file_declaration s st x at ts)
  pub aliases : (st : State) (at : At) (name : List ℕ) (ts : syntax.Trees) → UnitGood st → AreTexts s ts → On (Leads st) (alias_of s st at name ts)
  pub enums : (st : State) (at : At) (name : List ℕ) (ts : syntax.Trees) → UnitGood st → AreTexts s ts → On (Leads st) (enum_declared s st at name ts)
  pub names : (st : State) (at : At) (name : List ℕ) → UnitGood st → is_nothing name ≡ false → On (Leads st) (declared_only st at name)
  pub classes : (st : State) (at : At) (name : List ℕ) (kids : syntax.Trees) (home : Home) (r : Members) (c : Ctx) → UnitGood st → is_nothing name ≡ false
      → AreTexts s kids → IsClosed s st at name kids home r c → HasOverriders r.state.ctx.funcs → Leads st (record r.state { ctx = c }) × IsHome c.classes home.number
  -- a function that is declared, and what a definition says of it
  pub declared : (st : State) (h : Header) (text : List ℕ) (closed : ℕ) (p : Placed) → UnitGood st → h.class ≡ None → h.kind ≡ Plain
      → IsSoundHeader st.ctx.classes h → function_declared st.ctx h true ≡ Ok p
      → Leads st (record st { ctx = with_definition p.ctx p.place h text closed })
  pub again : (st : State) (h : Header) (place closed : ℕ) (c : Ctx) → UnitGood st → late_kept st.ctx place h closed ≡ Ok c → Leads st (record st { ctx = c })
  pub elsewhere : (st : State) (h : Header) (place first last : ℕ) → UnitGood st → Leads st (record st { ctx = outside_defined s st.ctx place h first last })
  -- definitions with their bodies
  pub functions : (st : State) (x : Storage) (at : At) (first : ℕ) (base d body : syntax.Tree) (t : Typ) (r : Declared) → UnitGood st → IsText s base
      → IsText s d → IsText s body → type_of_specifiers s st.ctx st.work base ≡ Ok t → declared_by s st.ctx st.work at t d ≡ Ok r
      → On (Leads st) (defined_with s st x at first r body (form_in r.typ))
  pub outside : (st : State) (n : ℕ) (kind : FuncKind) (first : ℕ) (m : Method) (body : syntax.Tree) → UnitGood st → IsHome st.ctx.classes n
      → IsRead s st.ctx.classes n m → IsText s body → On (Leads st) (outside_body lambdas_of s st n kind first m body)
  pub methods : (st : State) (n : ℕ) (kind : FuncKind) (m : Method) (body : syntax.Tree) → UnitGood st → IsHome st.ctx.classes n
      → IsRead s st.ctx.classes n m → IsText s body → On (Leads st) (late_method lambdas_of s st n kind m (Some body))
  pub defaults : (st : State) (n i : ℕ) (t : Typ) (e : syntax.Tree) → UnitGood st → IsHome st.ctx.classes n → IsText s e
      → On (Leads st) (default_made lambdas_of s st n i t e)
  pub members : (st : State) (k : ℕ) → UnitGood st → On (Leads st) (implied st k)

-- What holds of states beside, where a unit begins and behind each step, and says of the members that a class declares that what overrides has a name that goes
-- with its kind
pub record Lasting (s : List Lexeme) (Also : State → Type 0) : Type 0 where
  pub begins : (source : ℕ) (p : TypedProgram) (traits : List Traits) → Also (start_behind source p traits)
  pub variables : (st : State) (x : Storage) (at : At) (ts : syntax.Trees) → UnitGood st → Also st → AreNamedTexts s ts → On Also (file_declaration s st x at ts)
  pub aliases : (st : State) (at : At) (name : List ℕ) (ts : syntax.Trees) → UnitGood st → Also st → AreNamedTexts s ts → On Also (alias_of s st at name ts)
  pub enums : (st : State) (at : At) (name : List ℕ) (ts : syntax.Trees) → UnitGood st → Also st → AreNamedTexts s ts → On Also (enum_declared s st at name ts)
  pub names : (st : State) (at : At) (name : List ℕ) → UnitGood st → Also st → is_nothing name ≡ false → On Also (declared_only st at name)
  pub functions : (st : State) (x : Storage) (at : At) (first : ℕ) (d body : syntax.Tree) (r : Declared) → UnitGood st → Also st → IsNamedText s d
      → IsNamedText s body → On Also (defined_with s st x at first r body (form_in r.typ))
  pub outside : (st : State) (n : ℕ) (kind : FuncKind) (first : ℕ) (m : Method) (body : syntax.Tree) → UnitGood st → Also st → IsNamedText s body
      → On Also (outside_body lambdas_of s st n kind first m body)
  pub classes : (st : State) (at : At) (name : List ℕ) (kids : syntax.Trees) (home : Home) (r : Members) (c : Ctx) → UnitGood st → Also st
      → is_nothing name ≡ false → IsTitle s name → AreNamedTexts s kids → IsClosed s st at name kids home r c
      → HasOverriders r.state.ctx.funcs × Also (record r.state { ctx = c })
  pub defaults : (st : State) (n i : ℕ) (t : Typ) (e : syntax.Tree) → UnitGood st → Also st → IsHome st.ctx.classes n → IsNamedText s e
      → On Also (default_made lambdas_of s st n i t e)
  pub methods : (st : State) (n : ℕ) (kind : FuncKind) (m : Method) (body : syntax.Tree) → UnitGood st → Also st → IsHome st.ctx.classes n
      → IsNamedText s body → On Also (late_method lambdas_of s st n kind m (Some body))
  pub members : (st : State) (k : ℕ) → UnitGood st → Also st → On Also (implied st k)
