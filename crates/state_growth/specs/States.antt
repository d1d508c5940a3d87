-- What stands in a state of elaboration stands in each later one.
use Rattle.std.specs.Prelude.{◌≡◌, ◌<◌, ◌≤◌, ℕ, List, length, count_by, Option, Some, None}
use Rattle.elab_rules.specs.cpp_types.Typ.{Typ}
use Rattle.elab_rules.specs.cpp_types.Class.{Class, completion_of}
use Rattle.elab_rules.specs.cpp_lex.Tokens.{Lexeme}
use Rattle.elab_rules.specs.cpp_ast.Trees as syntax
use Rattle.elab_rules.specs.elab_ctx.Ctx.{Ctx}
use Rattle.elab_rules.specs.Classes.{is_completed}
use Rattle.elab_rules.specs.cpp_tree.Units.{TypedProgram}
use Rattle.elab_rules.specs.Functions.{Storage, Header, function_body, with_parameters}
use Rattle.elab_rules.specs.Lambdas.{lambdas_of}
use Rattle.elab_rules.specs.Programs.{Source, start_behind, with_unit}
use Rattle.elab_rules.specs.Statements.{State, Done, Full, full_operand, statement_of, statements_of}
use Rattle.elab_rules.specs.Types.{Parameter}
use Rattle.elab_rules.specs.Units.{declarations_of, unit_from, start}
use Rattle.elab_fits.specs.Standing.{On}
use Rattle.setting_growth.specs.Growth.{ClassesGrow, HeldEarlier, slot_at}
use Rattle.state_growth.specs.Settings.{StateGrows}

-- a class that has become complete has a number behind those of all that were so before
pub record NumbersGrow (old new : List Class) : Type 0 where
  pub later : (n k : ℕ) → completion_of old n ≡ None → completion_of new n ≡ Some k → count_by is_completed old ≤ k
  pub more : count_by is_completed old ≤ count_by is_completed new

-- each class has a list of slots, which is empty while the class is not complete, and a number below that of complete classes where it is
pub record IsTidy (c : Ctx) : Type 0 where
  pub many : length c.slots ≡ length c.classes
  pub empty : (n i : ℕ) → completion_of c.classes n ≡ None → slot_at c.slots n i ≡ None
  pub numbered : (n k : ℕ) → completion_of c.classes n ≡ Some k → k < count_by is_completed c.classes

-- the state has grown, and is as tidy as before
pub record Goes (old new : State) : Type 0 where
  pub grows : StateGrows old new
  pub numbers : NumbersGrow old.ctx.classes new.ctx.classes
  pub tidy : IsTidy old.ctx → IsTidy new.ctx

abbrev pub GoesOn : Type 0
GoesOn = (a b c : State) → Goes a b → Goes b c → Goes a c

abbrev pub NumbersGoOn : Type 0
NumbersGoOn = (a b c : List Class) → NumbersGrow a b → ClassesGrow b c → NumbersGrow b c → NumbersGrow a c

-- the lambdas of a full-expression
abbrev pub LambdasGo : Type 0
LambdasGo = (s : List Lexeme) (st : State) (e : syntax.Tree) → On (Goes st) (lambdas_of s st e)

-- a full-expression behind them
abbrev pub OperandsGo : Type 0
OperandsGo = (s : List Lexeme) (st : State) (e : syntax.Tree) → On (λ (f : Full). Goes st f.state) (full_operand lambdas_of s st e)

abbrev pub ParametersGo : Type 0
ParametersGo = (s : List Lexeme) (st : State) (ps : List Parameter) → On (Goes st) (with_parameters s st ps)

abbrev pub StatementGo : Type 0
StatementGo = (s : List Lexeme) (st : State) (t : syntax.Tree) → On (λ (d : Done). Goes st d.state) (statement_of lambdas_of s st t)

abbrev pub StatementsGo : Type 0
StatementsGo = (s : List Lexeme) (st : State) (ts : syntax.Trees) → On (λ (d : Done). Goes st d.state) (statements_of lambdas_of s st ts)

-- the body of a function, behind which the frame is what it was
abbrev pub BodiesGo : Type 0
BodiesGo = (s : List Lexeme) (st : State) (h : Header) (this : Option Typ) (place : ℕ) (t : syntax.Tree)
    → On (Goes st) (function_body lambdas_of s st h this place t)

-- Declarations

-- from a tidy state to one that has grown, and is tidy
pub record Gone (old new : State) : Type 0 where
  pub grows : StateGrows old new
  pub numbers : NumbersGrow old.ctx.classes new.ctx.classes
  pub tidy : IsTidy new.ctx

abbrev pub DeclarationsGo : Type 0
DeclarationsGo = (s : List Lexeme) (x : Storage) (st : State) (ts : syntax.Trees) → IsTidy st.ctx → On (Gone st) (declarations_of s x st ts)

-- all of a unit, the bodies of implicit members too
abbrev pub UnitsGo : Type 0
UnitsGo = (s : List Lexeme) (st : State) (decls : syntax.Trees) → IsTidy st.ctx → On (Gone st) (unit_from s st decls)

-- the first unit begins tidy, and each other one where the one before it ended so
abbrev pub UnitsBegin : Type 0
UnitsBegin = ((source : ℕ) → IsTidy (start source).ctx)
    × ((source : ℕ) (p : TypedProgram) (x : Source) (st : State) → IsTidy st.ctx → IsTidy (start_behind source (with_unit p x st) st.ctx.traits).ctx)

-- where what the complete classes of a later state hold was complete before them, it was so in the earlier state
abbrev pub HeldBefore : Type 0
HeldBefore = (old : Ctx) (new : List Class) → IsTidy old → ClassesGrow old.classes new → NumbersGrow old.classes new → HeldEarlier new
    → HeldEarlier old.classes
