-- Member functions that may be virtual, behind each kind of declaration.
use Rattle.std.specs.Prelude.{◌≡◌, ℕ, Bool, true, not, ◌&&◌, ◌||◌, List, Option, Some, Ok, slice_get}
use Rattle.elab_rules.specs.cpp_types.Typ.{Typ}
use Rattle.elab_rules.specs.cpp_types.Trivial.{is_destructor_name}
use Rattle.elab_rules.specs.cpp_types.declared.classes.At.{At}
use Rattle.elab_rules.specs.cpp_lex.Tokens.{Lexeme}
use Rattle.elab_rules.specs.cpp_ast.Trees as syntax
use Rattle.elab_rules.specs.cpp_tree.Typing.{form_in}
use Rattle.elab_rules.specs.cpp_tree.declared.program.FuncKind.{FuncKind}
use Rattle.elab_rules.specs.cpp_tree.declared.program.FuncKind.TheVariants.{Plain, Constructor, Destructor}
use Rattle.elab_rules.specs.elab_ctx.Ctx.{Ctx, Func}
use Rattle.elab_rules.specs.Types.{Declared}
use Rattle.elab_rules.specs.Functions.{Storage, same_kind}
use Rattle.elab_rules.specs.Classes.{Home, Members, Method, completed, closed_class}
use Rattle.elab_rules.specs.Globals.{enum_declared}
use Rattle.elab_rules.specs.Implicit.{implied}
use Rattle.elab_rules.specs.Lambdas.{lambdas_of}
use Rattle.elab_rules.specs.Members.{declared_only, default_made, late_method, outside_body}
use Rattle.elab_rules.specs.Statements.{State, Done, Full, full_operand, statements_of}
use Rattle.elab_rules.specs.Units.{start, file_declaration, alias_of, defined_with}
use Rattle.elab_fits.specs.Standing.{On}

-- Of the virtual functions of classes: a plain one has a name that does not begin with `~` and is no class's, a constructor, which overrides where a function of
-- the base has its name, that of a class, and a destructor one that begins with `~`; `classes` tells which are names of classes
abbrev pub is_overrider_by : (classes : List ℕ → Bool) → Func → Bool
is_overrider_by classes f = not f.declared.is_virtual
    || (same_kind f.kind Plain && (not (is_destructor_name f.declared.name) && not (classes f.declared.name))
    || (same_kind f.kind Constructor && (not (is_destructor_name f.declared.name) && classes f.declared.name)
    || same_kind f.kind Destructor && is_destructor_name f.declared.name))

abbrev pub HasOverridersBy : (classes : List ℕ → Bool) → List Func → Type 0
HasOverridersBy classes funcs = (k n : ℕ) (f : Func) → slice_get funcs k ≡ Some f → f.class ≡ Some n → is_overrider_by classes f ≡ true

-- where some words are the names of classes
pub record HasOverriders (funcs : List Func) : Type 0 where
  pub classes : List ℕ → Bool
  pub by : HasOverridersBy classes funcs

-- Laws: only the members of a class that a text declares are asked

abbrev pub Overrides : State → State → Type 0
Overrides a b = (classes : List ℕ → Bool) → HasOverridersBy classes a.ctx.funcs → HasOverridersBy classes b.ctx.funcs

-- in the state in which a unit begins, the first one or one behind others
abbrev pub StartsOverride : Type 0
StartsOverride = (classes : List ℕ → Bool) (source : ℕ) → HasOverridersBy classes (start source).ctx.funcs

abbrev pub LambdasOverride : Type 0
LambdasOverride = (s : List Lexeme) (st : State) (e : syntax.Tree) → On (Overrides st) (lambdas_of s st e)

abbrev pub OperandsOverride : Type 0
OperandsOverride = (s : List Lexeme) (st : State) (e : syntax.Tree) → On (λ (f : Full). Overrides st f.state) (full_operand lambdas_of s st e)

abbrev pub StatementsOverride : Type 0
StatementsOverride = (s : List Lexeme) (st : State) (ts : syntax.Trees) → On (λ (d : Done). Overrides st d.state) (statements_of lambdas_of s st ts)

abbrev pub VariablesOverride : Type 0
VariablesOverride = (s : List Lexeme) (st : State) (x : Storage) (at : At) (ts : syntax.Trees) → On (Overrides st) (file_declaration s st x at ts)

abbrev pub AliasesOverride : Type 0
AliasesOverride = (s : List Lexeme) (st : State) (at : At) (name : List ℕ) (ts : syntax.Trees) → On (Overrides st) (alias_of s st at name ts)

abbrev pub EnumsOverride : Type 0
EnumsOverride = (s : List Lexeme) (st : State) (at : At) (name : List ℕ) (ts : syntax.Trees) → On (Overrides st) (enum_declared s st at name ts)

abbrev pub NamesOverride : Type 0
NamesOverride = (st : State) (at : At) (name : List ℕ) → On (Overrides st) (declared_only st at name)

abbrev pub FunctionsOverride : Type 0
FunctionsOverride = (s : List Lexeme) (st : State) (x : Storage) (at : At) (first : ℕ) (r : Declared) (body : syntax.Tree)
    → On (Overrides st) (defined_with s st x at first r body (form_in r.typ))

abbrev pub OutsideOverride : Type 0
OutsideOverride = (s : List Lexeme) (st : State) (n : ℕ) (kind : FuncKind) (first : ℕ) (m : Method) (body : syntax.Tree)
    → On (Overrides st) (outside_body lambdas_of s st n kind first m body)

-- the members of a class, and those that no text declares
abbrev pub ClassesOverride : Type 0
ClassesOverride = (classes : List ℕ → Bool) (at : At) (home : Home) (r : Members) (d : Ctx)
    → closed_class at home.number (completed r.state.ctx home at r.members r.initialised) ≡ Ok d → HasOverridersBy classes r.state.ctx.funcs
    → HasOverridersBy classes d.funcs

abbrev pub MemberDefaultsOverride : Type 0
MemberDefaultsOverride = (s : List Lexeme) (st : State) (n i : ℕ) (t : Typ) (e : syntax.Tree) → On (Overrides st) (default_made lambdas_of s st n i t e)

abbrev pub MethodsOverride : Type 0
MethodsOverride = (s : List Lexeme) (st : State) (n : ℕ) (kind : FuncKind) (m : Method) (body : Option syntax.Tree)
    → On (Overrides st) (late_method lambdas_of s st n kind m body)

abbrev pub ImpliedOverride : Type 0
ImpliedOverride = (st : State) (k : ℕ) → On (Overrides st) (implied st k)
