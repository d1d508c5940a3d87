-- Functions that no text declares: the implicit members of classes that have their brace.
use Rattle.std.specs.Prelude.{◌≡◌, ℕ, Bool, true, false, List, [], Option, Some, Ok, slice_get}
use Rattle.elab_rules.specs.cpp_types.Class.{Class}
use Rattle.elab_rules.specs.cpp_types.Typ.{void, Signature, signature, none as no_typs, more as and_typ}
use Rattle.elab_rules.specs.cpp_types.declared.classes.At.{At}
use Rattle.elab_rules.specs.cpp_types.Typ.{Typ}
use Rattle.elab_rules.specs.cpp_lex.Tokens.{Lexeme}
use Rattle.elab_rules.specs.cpp_ast.Trees as syntax
use Rattle.elab_rules.specs.cpp_tree.declared.program.FuncKind.{FuncKind}
use Rattle.elab_rules.specs.cpp_tree.declared.program.FuncKind.TheVariants.{Constructor, Destructor}
use Rattle.elab_rules.specs.cpp_tree.Notation.{plain}
use Rattle.elab_rules.specs.cpp_tree.Typing.{form_in}
use Rattle.elab_rules.specs.cpp_tree.Units.{TypedProgram}
use Rattle.elab_rules.specs.elab_ctx.Ctx.{Ctx, Func}
use Rattle.elab_rules.specs.Classes.{own_reference, Home, Members, Begun, Method, begun, members_of, completed, closed_class}
use Rattle.elab_rules.specs.Functions.{Storage}
use Rattle.elab_rules.specs.Globals.{enum_declared}
use Rattle.elab_rules.specs.Implicit.{implied}
use Rattle.elab_rules.specs.Lambdas.{lambdas_of}
use Rattle.elab_rules.specs.Members.{base_named, members_among, declared_only, default_made, late_method, outside_body}
use Rattle.elab_rules.specs.Programs.{Source, start_behind, with_unit}
use Rattle.elab_rules.specs.Statements.{State, Done, Full, full_operand, statements_of}
use Rattle.elab_rules.specs.Types.{Declared}
use Rattle.elab_rules.specs.Units.{start, file_declaration, alias_of, defined_with, declarations_of, unit_from}
use Rattle.elab_fits.specs.Standing.{On}
use Rattle.elab_contexts.specs.Holding.{UnitHolds}
use Rattle.elab_contexts.specs.Steps.{view, Steps}
use Rattle.elab_contexts.specs.Texts.{is_no_name, have_class_names}
use Rattle.elab_fits_parts.specs.Parts.{IsHome}

-- a constructor without parameters, a copy of another object of the class, or a destructor
pub data IsImplied (n : ℕ) : FuncKind → Signature → Type 0 where
  default : (safe : Bool) → IsImplied n Constructor (signature no_typs (plain void) safe)
  copy : (const safe : Bool) → IsImplied n Constructor (signature (and_typ (own_reference n const) no_typs) (plain void) safe)
  destructor : (safe : Bool) → IsImplied n Destructor (signature no_typs (plain void) safe)

-- such a member of a class that has a name and its brace
pub record IsImplicit (classes : List Class) (f : Func) : Type 0 where
  pub class : ℕ
  pub of : f.class ≡ Some class
  pub home : IsHome classes class
  pub implied : IsImplied class f.kind f.declared.signature

abbrev pub HasImplicits : Ctx → Type 0
HasImplicits c = (k : ℕ) (f : Func) → slice_get c.funcs k ≡ Some f → f.implicit ≡ true → IsImplicit c.classes f

abbrev pub Implicits : State → Type 0
Implicits st = HasImplicits st.ctx

-- Laws

-- each unit begins without any
abbrev pub StartsImplicit : Type 0
StartsImplicit = (source : ℕ) → Implicits (start source)

abbrev pub LaterStartsImplicit : Type 0
LaterStartsImplicit = (source : ℕ) (p : TypedProgram) (x : Source) (st : State) → Implicits (start_behind source (with_unit p x st) st.ctx.traits)

-- each step of a unit keeps it, and a class that has its brace has it still
abbrev pub StepsImplicit : Type 0
StepsImplicit = (a b : Ctx) → Steps (view a) (view b) → HasImplicits a → HasImplicits b

abbrev pub HomesStay : Type 0
HomesStay = (a b : Ctx) (n : ℕ) → Steps (view a) (view b) → IsHome a.classes n → IsHome b.classes n

-- so do declarations, and the whole unit
abbrev pub DeclarationsImplicit : Type 0
DeclarationsImplicit = (s : List Lexeme) (x : Storage) (st : State) (ts : syntax.Trees) → UnitHolds st.ctx → have_class_names s ts ≡ true → Implicits st
    → On Implicits (declarations_of s x st ts)

abbrev pub UnitsImplicit : Type 0
UnitsImplicit = (s : List Lexeme) (st : State) (decls : syntax.Trees) → UnitHolds st.ctx → have_class_names s decls ≡ true → Implicits st
    → On Implicits (unit_from s st decls)

-- the lambdas of a full-expression, a full-expression behind them, and statements of a body
abbrev pub LambdasImplicit : Type 0
LambdasImplicit = (s : List Lexeme) (st : State) (e : syntax.Tree) → Implicits st → On Implicits (lambdas_of s st e)

abbrev pub OperandsImplicit : Type 0
OperandsImplicit = (s : List Lexeme) (st : State) (e : syntax.Tree) → Implicits st → On (λ (f : Full). Implicits f.state) (full_operand lambdas_of s st e)

abbrev pub StatementsImplicit : Type 0
StatementsImplicit = (s : List Lexeme) (st : State) (ts : syntax.Trees) → Implicits st → On (λ (d : Done). Implicits d.state) (statements_of lambdas_of s st ts)

-- Each kind of declaration

abbrev pub VariablesImplicit : Type 0
VariablesImplicit = (s : List Lexeme) (st : State) (x : Storage) (at : At) (ts : syntax.Trees) → Implicits st → On Implicits (file_declaration s st x at ts)

abbrev pub AliasesImplicit : Type 0
AliasesImplicit = (s : List Lexeme) (st : State) (at : At) (name : List ℕ) (ts : syntax.Trees) → UnitHolds st.ctx → Implicits st
    → On Implicits (alias_of s st at name ts)

abbrev pub EnumsImplicit : Type 0
EnumsImplicit = (s : List Lexeme) (st : State) (at : At) (name : List ℕ) (ts : syntax.Trees) → Implicits st → On Implicits (enum_declared s st at name ts)

abbrev pub NamesImplicit : Type 0
NamesImplicit = (st : State) (at : At) (name : List ℕ) → is_no_name name ≡ false → Implicits st → On Implicits (declared_only st at name)

abbrev pub FunctionsImplicit : Type 0
FunctionsImplicit = (s : List Lexeme) (st : State) (x : Storage) (at : At) (first : ℕ) (r : Declared) (body : syntax.Tree) → Implicits st
    → On Implicits (defined_with s st x at first r body (form_in r.typ))

abbrev pub OutsideImplicit : Type 0
OutsideImplicit = (s : List Lexeme) (st : State) (n : ℕ) (kind : FuncKind) (first : ℕ) (m : Method) (body : syntax.Tree) → Implicits st
    → On Implicits (outside_body lambdas_of s st n kind first m body)

-- a class up to its brace: the unit goes on by steps, the implicit members are made there, and from there on it has a name and its brace
pub record HasBrace (before c : Ctx) (n : ℕ) : Type 0 where
  pub walk : Steps (view before) (view c)
  pub implicits : HasImplicits c
  pub home : IsHome c.classes n

abbrev pub ClassesImplicit : Type 0
ClassesImplicit = (s : List Lexeme) (st : State) (at : At) (kids : syntax.Trees) (home : Home) (b : Begun) (r : Members) (d : Ctx) → UnitHolds st.ctx
    → is_no_name home.name ≡ false → begun st.ctx at home.name true ≡ Ok b → base_named s b.ctx kids ≡ Ok home.base → home.number ≡ b.number
    → members_of s home (record { state = record st { ctx = b.ctx }; members = []; initialised = [] }) (members_among kids) ≡ Ok r
    → closed_class at home.number (completed r.state.ctx home at r.members r.initialised) ≡ Ok d → Implicits st → HasBrace st.ctx d home.number

abbrev pub MemberDefaultsImplicit : Type 0
MemberDefaultsImplicit = (s : List Lexeme) (st : State) (n i : ℕ) (t : Typ) (e : syntax.Tree) → Implicits st → On Implicits (default_made lambdas_of s st n i t e)

abbrev pub MethodsImplicit : Type 0
MethodsImplicit = (s : List Lexeme) (st : State) (n : ℕ) (kind : FuncKind) (m : Method) (body : Option syntax.Tree) → Implicits st
    → On Implicits (late_method lambdas_of s st n kind m body)

-- the body of an implicit member
abbrev pub BodiesImplicit : Type 0
BodiesImplicit = (st : State) (k : ℕ) → Implicits st → On Implicits (implied st k)
