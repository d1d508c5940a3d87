-- The states of elaboration inside of the body of a function.
use Rattle.std.specs.Prelude.{◌≡◌, Bool, true, false, ◌&&◌, List, [], Some, is_some}
use Rattle.elab_rules.specs.cpp_types.Typ.{Typ, ptr}
use Rattle.elab_rules.specs.cpp_lex.Tokens.{Lexeme}
use Rattle.elab_rules.specs.cpp_ast.declared.kinds.NodeKind.{NodeKind}
use Rattle.elab_rules.specs.cpp_ast.declared.kinds.NodeKind.TheVariants as k
use Rattle.elab_rules.specs.cpp_ast.Trees as syntax
use Rattle.elab_rules.specs.cpp_tree.declared.program.FuncKind.TheVariants.{ClosureCall}
use Rattle.elab_rules.specs.cpp_tree.Notation.{plain}
use Rattle.elab_rules.specs.cpp_tree.Typing.{is_class_typ}
use Rattle.elab_rules.specs.cpp_tree.Parts.{size_in}
use Rattle.elab_rules.specs.cpp_tree.Units.{Func as UnitFunc}
use Rattle.elab_rules.specs.cpp_tree.Rows.{Setting, result_of}
use Rattle.elab_rules.specs.elab_ctx.Ctx.{Lambda, known}
use Rattle.elab_rules.specs.elab_ctx.Steps.{Operand}
use Rattle.elab_rules.specs.Statements.{State}
use Rattle.elab_contexts.specs.Holding.{UnitHolds}
use Rattle.elab_sound_types.specs.Types.{is_sound, IsExpression, variable as a_variable, denoted as a_denoted, result as a_result}
use Rattle.elab_sound_types.specs.States.{IsSoundState, Kept}
use Rattle.elab_throws_apart.specs.Throws.{is_apart}
use Rattle.elab_fits_forms.specs.Meaning.{ProperOperand}
use Rattle.elab_fits_forms.specs.Expressions.{is_spelled, are_spelled, ClosuresHold}
use Rattle.elab_fits_statements.specs.Variables.{HasItem}
use Rattle.elab_fits_statements.specs.Discipline.{Words}
use Rattle.elab_fits_braces.specs.Defaults.{AllDefaultsFit}
use Rattle.state_growth.specs.Settings.{setting_at}
use Rattle.state_growth.specs.States.{Goes}
use Rattle.elab_contexts.specs.Overriders.{HasOverriders}
use Rattle.elab_holds.specs.Locals.{LocalsHold}
use Rattle.elab_fits_states.specs.Made.{AllBodiesFit}

-- The text of a body

-- a `try` has a handler
abbrev pub is_handled : NodeKind → syntax.Trees → Bool
is_handled k.TryBlock (syntax.more t syntax.none) = false
is_handled kind ts = true

abbrev mutual
  pub has_handlers : syntax.Tree → Bool
  has_handlers (syntax.node kind p token kids) = is_handled kind kids && have_handlers kids

  pub have_handlers : syntax.Trees → Bool
  have_handlers syntax.none = true
  have_handlers (syntax.more t ts) = has_handlers t && have_handlers ts

-- as the parser makes it: each token is spelled, and each `try` has a handler
pub record IsText (s : List Lexeme) (t : syntax.Tree) : Type 0 where
  pub spelled : is_spelled s t ≡ true
  pub handled : has_handlers t ≡ true

pub record AreTexts (s : List Lexeme) (ts : syntax.Trees) : Type 0 where
  pub spelled : are_spelled s ts ≡ true
  pub handled : have_handlers ts ≡ true

-- States

-- the setting of the body of a function, as it is in a state
abbrev pub setting : UnitFunc → State → Setting
setting f st = setting_at f st.ctx st.work

-- a state in the body of a function whose result is known
pub record IsGood (f : UnitFunc) (st : State) : Type 0 where
  -- the classes and functions of the unit are as elaboration makes them
  pub unit : UnitHolds st.ctx
  -- what overrides has a name that goes with its kind
  pub overriders : HasOverriders st.ctx.funcs
  -- what is declared has types that can be declared
  pub sound : IsSoundState st
  -- variables and the object at hand have their items in the frame, and the classes around are complete
  pub locals : LocalsHold st.ctx st.work
  -- a lambda is around in the body of its call alone
  pub around : (l : Lambda) → st.ctx.lambda ≡ Some l → f.kind ≡ ClosureCall
  -- what the laws of expressions ask of the lambdas at hand
  pub closures : ClosuresHold st.ctx st.ctx.closures
  pub returns : st.ctx.returns ≡ known (result_of f)
  pub typed : is_sound st.ctx.classes a_result (result_of f) ≡ true
  -- the address of a result of class type is the first item of the frame
  pub result : is_class_typ (result_of f) ≡ true → HasItem (setting f st) 0 (plain (ptr (result_of f)))
  -- the bodies that were made fit, and so do the initialisers of members
  pub bodies : AllBodiesFit st
  pub defaults : AllDefaultsFit (setting f st) st.ctx.defaults

-- the same between full-expressions, where no lambdas are at hand
pub record IsSettled (f : UnitFunc) (st : State) : Type 0 where
  pub good : IsGood f st
  pub none : st.ctx.closures ≡ []

-- an operand that was read in a state
pub record IsRead (f : UnitFunc) (st : State) (o : Operand) : Type 0 where
  pub proper : ProperOperand (setting f st) st.ctx o
  pub sound : IsExpression st.ctx.classes o.tree
  pub apart : is_apart o.tree ≡ true

-- States that come of others: what stood in the one stands in the other, and a class has a name or none as before
pub record Comes (a b : State) : Type 0 where
  pub goes : Goes a b
  pub kept : Kept a.ctx.classes b.ctx.classes

-- Types

-- a type that specifiers and declarators write
abbrev pub IsWritten : UnitFunc → State → Typ → Type 0
IsWritten f a t = is_sound a.ctx.classes a_denoted t ≡ true

-- a type of variables, whose objects have a size, whatever is elaborated behind it
pub record IsVariableType (st : State) (t : Typ) : Type 0 where
  pub sound : is_sound st.ctx.classes a_variable t ≡ true
  pub sized : (z : State) → Comes st z → is_some (size_in z.ctx.classes t) ≡ true

abbrev pub IsObjectType : UnitFunc → State → Typ → Type 0
IsObjectType f a t = IsVariableType a t

-- What the theorem of elab_fits_statements asks for

abbrev pub words : UnitFunc → List Lexeme → Words
words f s = record {
  Good = IsSettled f;
  Leads = Comes;
  Reads = IsRead f;
  Written = IsWritten f;
  Object = IsObjectType f;
  Text = IsText s;
  Texts = AreTexts s;
  at = setting f;
}
