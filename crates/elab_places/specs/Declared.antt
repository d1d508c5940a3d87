-- The initialisers that are kept for members own their places wherever elaboration comes: what the laws of statements and bodies ask of a context holds.
use Rattle.std.specs.Prelude.{◌≡◌, ℕ, List, Ok}
use Rattle.elab_rules.specs.cpp_lex.Tokens.{Lexeme}
use Rattle.elab_rules.specs.cpp_ast.Trees as syntax
use Rattle.elab_rules.specs.cpp_tree.Units.{TypedProgram}
use Rattle.elab_rules.specs.elab_ctx.Ctx.{Traits}
use Rattle.elab_rules.specs.Statements.{State, Lambdas}
use Rattle.elab_rules.specs.Functions.{Storage}
use Rattle.elab_rules.specs.Members.{all_defaults}
use Rattle.elab_rules.specs.Units.{declaration_of, declarations_of, unit_from}
use Rattle.elab_rules.specs.Programs.{start_behind}
use Rattle.elab_places.specs.Bodies.{DefaultsOwn, LeavesFrame}

abbrev pub Sound : State → Type 0
Sound st = DefaultsOwn st.ctx.defaults

abbrev pub DeclarationsKeep : Type 0
DeclarationsKeep = (s : List Lexeme) (x : Storage) (st : State) (t : syntax.Tree) (y : State) → Sound st → declaration_of s x st t ≡ Ok y → Sound y

abbrev pub AllDeclarationsKeep : Type 0
AllDeclarationsKeep = (s : List Lexeme) (x : Storage) (st : State) (ts : syntax.Trees) (y : State) → Sound st → declarations_of s x st ts ≡ Ok y → Sound y

abbrev pub UnitsKeep : Type 0
UnitsKeep = (s : List Lexeme) (st : State) (ts : syntax.Trees) (y : State) → Sound st → unit_from s st ts ≡ Ok y → Sound y

-- a unit begins with none
abbrev pub UnitsBegin : Type 0
UnitsBegin = (source : ℕ) (p : TypedProgram) (traits : List Traits) → Sound (start_behind source p traits)

-- inside a class: behind its brace all initialisers are made, and then the bodies
abbrev pub AllDefaultsOwn : Type 0
AllDefaultsOwn = (lams : Lambdas) → LeavesFrame lams → (s : List Lexeme) (n : ℕ) (st : State) (ts : syntax.Trees) (y : State) → Sound st
    → all_defaults lams s n st ts ≡ Ok y → Sound y
