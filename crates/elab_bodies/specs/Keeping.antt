-- Behind each step that makes bodies, all bodies fit still.
use Rattle.std.specs.Prelude.{◌≡◌, ℕ, ◌+◌, true, List, [], map, slice_get, Option, Some, None, Ok}
use Rattle.elab_rules.specs.cpp_types.Typ.{Typ}
use Rattle.elab_rules.specs.cpp_types.Class.{Member}
use Rattle.elab_rules.specs.cpp_types.declared.classes.At.{At}
use Rattle.elab_rules.specs.cpp_lex.Tokens.{Lexeme}
use Rattle.elab_rules.specs.cpp_ast.Trees as syntax
use Rattle.elab_rules.specs.cpp_tree.declared.program.FuncKind.TheVariants.{Constructor, Destructor}
use Rattle.elab_rules.specs.cpp_tree.Rows.{is_special}
use Rattle.elab_rules.specs.elab_ctx.Ctx.{Ctx, Func}
use Rattle.elab_rules.specs.Initialising.{signature_parameters}
use Rattle.elab_rules.specs.Statements.{State, Body}
use Rattle.elab_rules.specs.Functions.{Header, param_of, function_body}
use Rattle.elab_rules.specs.Classes.{Home, completed}
use Rattle.elab_rules.specs.Members.{constructor_body, destructor_body, all_defaults}
use Rattle.elab_rules.specs.Implicit.{with_implied}
use Rattle.elab_rules.specs.Lambdas.{lambdas_of}
use Rattle.elab_bodies.specs.Bodies.{WellSigned, param_items, times_made, due_to, BodiesFit, OthersFit}
use Rattle.elab_bodies.specs.Making.{Defines, source_items}

-- Bodies that are written

-- the function of that number is defined, and its callers know what to pass
pub record HasFunction (st : State) (func : ℕ) (f : Func) : Type 0 where
  pub at : slice_get st.ctx.funcs func ≡ Some f
  pub defined : f.is_defined ≡ true
  pub signed : WellSigned f

abbrev pub FunctionsKeep : Type 0
FunctionsKeep = (s : List Lexeme) (st : State) (h : Header) (this : Option Typ) (func : ℕ) (t : syntax.Tree) (x : State) (f : Func) → OthersFit st func
    → HasFunction st func f → Defines h this f → function_body lambdas_of s st h this func t ≡ Ok x → BodiesFit x

abbrev pub ConstructorsKeep : Type 0
ConstructorsKeep = (s : List Lexeme) (st : State) (h : Header) (n func : ℕ) (inits : syntax.Trees) (t : syntax.Tree) (x : State) (f : Func) → OthersFit st func
    → HasFunction st func f → f.kind ≡ Constructor → f.class ≡ Some n → f.params ≡ map param_of h.params
    → constructor_body lambdas_of s st h n func inits t ≡ Ok x → BodiesFit x

abbrev pub DestructorsKeep : Type 0
DestructorsKeep = (s : List Lexeme) (st : State) (h : Header) (n func : ℕ) (t : syntax.Tree) (x : State) (f : Func) → OthersFit st func
    → HasFunction st func f → f.kind ≡ Destructor → f.class ≡ Some n → f.params ≡ [] → destructor_body lambdas_of s st h n func t ≡ Ok x → BodiesFit x

-- initialisers of members have no bodies, but lambdas in them do
abbrev pub DefaultsKeep : Type 0
DefaultsKeep = (s : List Lexeme) (n : ℕ) (st : State) (ts : syntax.Trees) (x : State) → BodiesFit st → all_defaults lambdas_of s n st ts ≡ Ok x → BodiesFit x

-- Bodies that are implied

-- a constructor that takes what its copy is made from or nothing, or a destructor
pub record StandsImplicit (f : Func) : Type 0 where
  pub defined : f.is_defined ≡ true
  pub signed : WellSigned f
  pub special : is_special f.kind ≡ true

-- its words are those with which its body is made
abbrev pub HasSource : Func → Type 0
HasSource f = param_items f.params ≡ source_items f.kind (signature_parameters f.declared.signature)

-- so is each, and has the words as long as no body is made
pub record ImplicitsStand (now : Option ℕ) (funcs : List Func) (bodies : List Body) : Type 0 where
  pub each : (i : ℕ) (f : Func) → slice_get funcs i ≡ Some f → f.implicit ≡ true → StandsImplicit f
  pub source : (i : ℕ) (f : Func) → slice_get funcs i ≡ Some f → f.implicit ≡ true → times_made i bodies + due_to now i ≡ 0 → HasSource f

-- all implicit members are such ones, where a class that becomes complete gets its own
abbrev pub CompletedStand : Type 0
CompletedStand = (c : Ctx) (home : Home) (at : At) (ms : List Member) (initialised : List ℕ) (bodies : List Body) → ImplicitsStand None c.funcs bodies
    → ImplicitsStand None (completed c home at ms initialised).funcs bodies

abbrev pub ImpliedKeep : Type 0
ImpliedKeep = (st : State) (x : State) → BodiesFit st → ImplicitsStand None st.ctx.funcs st.bodies → with_implied st ≡ Ok x → BodiesFit x
