-- The steps of a unit, one by one: each leads from a sound state to a sound one.
use Rattle.std.specs.Prelude.{◌≡◌, ℕ, Bool, true, false, List, [], Option, Some, Ok}
use Rattle.std.specs.List.{list_all}
use Rattle.elab_rules.specs.cpp_types.Typ.{Typ}
use Rattle.elab_rules.specs.cpp_types.Class.{Class}
use Rattle.elab_rules.specs.cpp_types.declared.classes.At.{At}
use Rattle.elab_rules.specs.cpp_lex.Tokens.{Lexeme}
use Rattle.elab_rules.specs.cpp_ast.Trees as syntax
use Rattle.elab_rules.specs.cpp_tree.Trees.{Tree}
use Rattle.elab_rules.specs.cpp_tree.Typing.{form_in}
use Rattle.elab_rules.specs.cpp_tree.declared.program.FuncKind.{FuncKind}
use Rattle.elab_rules.specs.elab_ctx.Ctx.{Ctx}
use Rattle.elab_rules.specs.Types.{is_nothing, Declared, Parameter}
use Rattle.elab_rules.specs.Statements.{State, Done}
use Rattle.elab_rules.specs.Functions.{Storage, Header, Placed, entered, with_parameters, function_declared}
use Rattle.elab_rules.specs.Classes.{Home, Members, Begun, Method, begun, members_of, completed, closed_class, method_of}
use Rattle.elab_rules.specs.Members.{Given, Giving, in_object, all_given, parts_built, default_made, constructor_body, destructor_body, method_body}
use Rattle.elab_rules.specs.Members.{late_method}
use Rattle.elab_rules.specs.Members.{outside_method, outside_body, declared_only, members_among}
use Rattle.elab_rules.specs.Implicit.{parts_copied, implied}
use Rattle.elab_rules.specs.Lambdas.{lambdas_of}
use Rattle.elab_rules.specs.Globals.{enum_declared}
use Rattle.elab_rules.specs.Units.{file_declaration, alias_of, defined_with}
use Rattle.elab_fits.specs.Standing.{On}
use Rattle.elab_sound_types.specs.Types.{is_class}
use Rattle.elab_sound_types.specs.Laws.{IsSoundDeclared}
use Rattle.elab_sound_types.specs.Contexts.{is_spelled, are_spelled, is_sound_parameter}
use Rattle.elab_sound_types.specs.States.{IsSoundState, IsSoundAfter, is_sound_object}
use Rattle.elab_sound_units.specs.Headers.{IsSoundHeader, IsRead, IsOutside, IsSoundClass}

-- Declarations of a file

-- variables, and functions that are only declared
abbrev pub VariablesKeepSound : Type 0
VariablesKeepSound = (s : List Lexeme) (st : State) (x : Storage) (at : At) (ts : syntax.Trees) → IsSoundState st → are_spelled s ts ≡ true
    → On (IsSoundAfter true st) (file_declaration s st x at ts)

abbrev pub AliasesKeepSound : Type 0
AliasesKeepSound = (s : List Lexeme) (st : State) (at : At) (name : List ℕ) (ts : syntax.Trees) → IsSoundState st
    → On (IsSoundAfter true st) (alias_of s st at name ts)

abbrev pub EnumsKeepSound : Type 0
EnumsKeepSound = (s : List Lexeme) (st : State) (at : At) (name : List ℕ) (ts : syntax.Trees) → IsSoundState st
    → On (IsSoundAfter true st) (enum_declared s st at name ts)

-- classes that are only declared
abbrev pub NamesKeepSound : Type 0
NamesKeepSound = (st : State) (at : At) (name : List ℕ) → is_nothing name ≡ false → IsSoundState st → On (IsSoundAfter true st) (declared_only st at name)

abbrev pub FunctionsAreSound : Type 0
FunctionsAreSound = (st : State) (h : Header) (defines : Bool) → IsSoundState st → IsSoundHeader st.ctx.classes h
    → On (λ (p : Placed). IsSoundAfter true st (record st { ctx = p.ctx })) (function_declared st.ctx h defines)

-- functions with their bodies
abbrev pub DefinitionsKeepSound : Type 0
DefinitionsKeepSound = (s : List Lexeme) (st : State) (x : Storage) (at : At) (first : ℕ) (d : Declared) (body : syntax.Tree)
    → IsSoundDeclared st.ctx.classes d → IsSoundState st → is_spelled s body ≡ true
    → On (IsSoundAfter true st) (defined_with s st x at first d body (form_in d.typ))

-- Headers of members

abbrev pub MethodsAreSound : Type 0
MethodsAreSound = (s : List Lexeme) (st : State) (n : ℕ) (class_name : List ℕ) (at : At) (kind : FuncKind) (kids : syntax.Trees) → IsSoundState st
    → are_spelled s kids ≡ true → On (IsRead s st.ctx.classes n) (method_of s st n class_name at kind kids)

abbrev pub OutsideMethodsAreSound : Type 0
OutsideMethodsAreSound = (s : List Lexeme) (st : State) (at : At) (x : Storage) (kind : FuncKind) (ts : syntax.Trees) → IsSoundState st
    → are_spelled s ts ≡ true → On (IsOutside s st.ctx.classes) (outside_method s st at x kind ts)

-- Classes

-- a class up to its brace
abbrev pub MembersAreSound : Type 0
MembersAreSound = (classes : List Class) (s : List Lexeme) (home : Home) (r : Members) (ts : syntax.Trees) → IsSoundClass classes r → are_spelled s ts ≡ true
    → On (IsSoundClass classes) (members_of s home r ts)

-- a class that is named, read and closed
pub record IsSoundBehind (st : State) (r : Members) (n : ℕ) (c : Ctx) : Type 0 where
  pub after : IsSoundAfter true st (record r.state { ctx = c })
  pub class : is_class c.classes n ≡ true

abbrev pub ClassesAreSound : Type 0
ClassesAreSound = (s : List Lexeme) (st : State) (at : At) (name : List ℕ) (b : Begun) (home : Home) (members : syntax.Trees) (r : Members) (c : Ctx)
    → IsSoundState st → is_nothing name ≡ false → are_spelled s members ≡ true → begun st.ctx at name true ≡ Ok b → home.number ≡ b.number → home.name ≡ name
    → members_of s home (record { state = record st { ctx = b.ctx }; members = []; initialised = [] }) members ≡ Ok r
    → closed_class at home.number (completed r.state.ctx home at r.members r.initialised) ≡ Ok c → IsSoundBehind st r home.number c

-- the members of a class are spelled as it is
abbrev pub MembersAreSpelled : Type 0
MembersAreSpelled = (s : List Lexeme) (ts : syntax.Trees) → are_spelled s ts ≡ true → are_spelled s (members_among ts) ≡ true

-- Bodies

-- into a function, and into an object
abbrev pub EnteredIsSound : Type 0
EnteredIsSound = (st : State) (r : Typ) (this : Option Typ) (class : Option ℕ) → IsSoundState st → is_sound_object st.ctx.classes this ≡ true
    → IsSoundState (entered st r this class)

abbrev pub ObjectsAreSound : Type 0
ObjectsAreSound = (st : State) (n : ℕ) → IsSoundState st → is_class st.ctx.classes n ≡ true → IsSoundState (in_object st n)

abbrev pub ParametersKeepSound : Type 0
ParametersKeepSound = (s : List Lexeme) (st : State) (ps : List Parameter) → IsSoundState st → list_all (is_sound_parameter st.ctx.classes) ps ≡ true
    → On (IsSoundAfter true st) (with_parameters s st ps)

-- initialisers of a constructor, and the parts that it makes or copies
abbrev pub GivenKeepsSound : Type 0
GivenKeepsSound = (s : List Lexeme) (n : ℕ) (g : Giving) (ts : syntax.Trees) → IsSoundState g.state → are_spelled s ts ≡ true
    → On (λ (x : Giving). IsSoundAfter true g.state x.state) (all_given lambdas_of s n g ts)

abbrev pub PartsKeepSound : Type 0
PartsKeepSound = (st : State) (at : At) (n : ℕ) (gs : List Given) → IsSoundState st
    → On (λ (d : Done). IsSoundAfter true st d.state) (parts_built st at n gs)

abbrev pub CopiesKeepSound : Type 0
CopiesKeepSound = (st : State) (at : At) (n : ℕ) (source : Tree) (is_const : Bool) → IsSoundState st
    → On (λ (d : Done). IsSoundAfter true st d.state) (parts_copied st at n source is_const)

abbrev pub ConstructorsKeepSound : Type 0
ConstructorsKeepSound = (s : List Lexeme) (st : State) (h : Header) (n place : ℕ) (inits : syntax.Trees) (body : syntax.Tree) → IsSoundState st
    → is_class st.ctx.classes n ≡ true → IsSoundHeader st.ctx.classes h → are_spelled s inits ≡ true → is_spelled s body ≡ true
    → On (IsSoundAfter true st) (constructor_body lambdas_of s st h n place inits body)

abbrev pub DestructorsKeepSound : Type 0
DestructorsKeepSound = (s : List Lexeme) (st : State) (h : Header) (n place : ℕ) (body : syntax.Tree) → IsSoundState st → is_class st.ctx.classes n ≡ true
    → is_spelled s body ≡ true → On (IsSoundAfter true st) (destructor_body lambdas_of s st h n place body)

abbrev pub MethodsKeepSound : Type 0
MethodsKeepSound = (s : List Lexeme) (st : State) (n place : ℕ) (kind : FuncKind) (m : Method) (body : syntax.Tree) → IsSoundState st
    → is_class st.ctx.classes n ≡ true → IsRead s st.ctx.classes n m → is_spelled s body ≡ true
    → On (IsSoundAfter true st) (method_body lambdas_of s st n place kind m body)

-- an initialiser of a member in its class, and a body behind the brace
abbrev pub DefaultsKeepSound : Type 0
DefaultsKeepSound = (s : List Lexeme) (st : State) (n i : ℕ) (t : Typ) (e : syntax.Tree) → IsSoundState st → is_class st.ctx.classes n ≡ true
    → is_spelled s e ≡ true → On (IsSoundAfter true st) (default_made lambdas_of s st n i t e)

abbrev pub LateMethodsKeepSound : Type 0
LateMethodsKeepSound = (s : List Lexeme) (st : State) (n : ℕ) (kind : FuncKind) (m : Method) (body : syntax.Tree) → IsSoundState st
    → is_class st.ctx.classes n ≡ true → IsRead s st.ctx.classes n m → is_spelled s body ≡ true
    → On (IsSoundAfter true st) (late_method lambdas_of s st n kind m (Some body))

-- a member that is defined outside of its class
abbrev pub OutsideBodiesKeepSound : Type 0
OutsideBodiesKeepSound = (s : List Lexeme) (st : State) (n : ℕ) (kind : FuncKind) (first : ℕ) (m : Method) (body : syntax.Tree) → IsSoundState st
    → is_class st.ctx.classes n ≡ true → IsRead s st.ctx.classes n m → is_spelled s body ≡ true
    → On (IsSoundAfter true st) (outside_body lambdas_of s st n kind first m body)

-- an implicit member
abbrev pub ImpliedKeepsSound : Type 0
ImpliedKeepsSound = (st : State) (k : ℕ) → IsSoundState st → On (IsSoundAfter true st) (implied st k)
