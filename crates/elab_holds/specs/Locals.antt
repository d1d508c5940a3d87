-- What the laws of expressions ask of the function at hand, and where it holds.
use Rattle.std.specs.Prelude.{◌≡◌, ℕ, true, List, Option, Some, None, is_some, slice_get}
use Rattle.elab_rules.specs.cpp_types.Typ.{Typ, Signature, ptr}
use Rattle.elab_rules.specs.cpp_types.Class.{Class, completion_of}
use Rattle.elab_rules.specs.cpp_lex.Tokens.{Lexeme}
use Rattle.elab_rules.specs.cpp_tree.Notation.{plain}
use Rattle.elab_rules.specs.elab_ctx.Ctx.{Ctx, Work, Variable, This, Returns, Lambda}
use Rattle.elab_rules.specs.Names.{is_outer}
use Rattle.elab_rules.specs.Types.{Parameter}
use Rattle.elab_rules.specs.Statements.{State, placed_variable, declared_variable}
use Rattle.elab_rules.specs.Functions.{entered, with_parameters}
use Rattle.elab_rules.specs.Lambdas.{Written, lambda_entered, declared_closure, inside}
use Rattle.elab_rules.specs.Members.{in_object}
use Rattle.elab_fits.specs.Standing.{On}
use Rattle.elab_fits_forms.specs.Context.{is_item_of}
use Rattle.state_growth.specs.Settings.{StateGrows}

-- the function at hand: its variables, its object, the class around it and the lambda around it
pub record Locals : Type 0 where
  pub classes : List Class
  pub variables : List Variable
  pub this : Option This
  pub class : Option ℕ
  pub lambda : Option Lambda

abbrev pub locals : Ctx → Locals
locals c = record { classes = c.classes; variables = c.variables; this = c.this; class = c.class; lambda = c.lambda }

-- the item of a variable stands in its place
pub record HasItemOf (frame : List Typ) (place : ℕ) (t : Typ) : Type 0 where
  pub item : Typ
  pub at : slice_get frame place ≡ Some item
  pub is : is_item_of t item ≡ true

pub record HoldIn (l : Locals) (frame : List Typ) : Type 0 where
  -- a variable of the function itself, whose type is known, has its item in the frame
  pub variables : (i : ℕ) (v : Variable) (t : Typ) → is_outer i l.lambda ≡ None → slice_get l.variables i ≡ Some v → v.typ ≡ Some t
      → HasItemOf frame v.place t
  -- the pointer to the object at hand stands in its place
  pub this : (t : This) → l.this ≡ Some t → slice_get frame t.place ≡ Some (plain (ptr t.typ))
  -- the class around is complete
  pub inside : (n : ℕ) → l.class ≡ Some n → is_some (completion_of l.classes n) ≡ true
  -- the class of the lambda around is complete
  pub lambda : (x : Lambda) → l.lambda ≡ Some x → is_some (completion_of l.classes x.class) ≡ true

abbrev pub LocalsHold : Ctx → Work → Type 0
LocalsHold c w = HoldIn (locals c) w.frame

-- where classes stay complete, and items stay in the frame, it holds as before
pub record Stays (old new : Locals) (before now : List Typ) : Type 0 where
  pub complete : (n : ℕ) → is_some (completion_of old.classes n) ≡ true → is_some (completion_of new.classes n) ≡ true
  pub frame : (i : ℕ) (t : Typ) → slice_get before i ≡ Some t → slice_get now i ≡ Some t
  pub variables : new.variables ≡ old.variables
  pub this : new.this ≡ old.this
  pub class : new.class ≡ old.class
  pub lambda : new.lambda ≡ old.lambda

-- Laws

abbrev pub LocalsStay : Type 0
LocalsStay = (old new : Locals) (before now : List Typ) → Stays old new before now → HoldIn old before → HoldIn new now

-- and where the state has grown
abbrev pub LocalsGrow : Type 0
LocalsGrow = (a b : State) → StateGrows a b → b.ctx.variables ≡ a.ctx.variables → b.ctx.this ≡ a.ctx.this → b.ctx.class ≡ a.ctx.class
    → b.ctx.lambda ≡ a.ctx.lambda → LocalsHold a.ctx a.work → LocalsHold b.ctx b.work

-- into a function whose class, if it has one, is complete
abbrev pub FunctionsEntered : Type 0
FunctionsEntered = (st : State) (r : Typ) (this : Option Typ) (class : Option ℕ)
    → ((n : ℕ) → class ≡ Some n → is_some (completion_of st.ctx.classes n) ≡ true)
    → LocalsHold (entered st r this class).ctx (entered st r this class).work

-- into a constructor, a destructor or an initialiser of a member
abbrev pub ObjectsEntered : Type 0
ObjectsEntered = (st : State) (n : ℕ) → is_some (completion_of st.ctx.classes n) ≡ true → LocalsHold (in_object st n).ctx (in_object st n).work

-- its parameters
abbrev pub ParametersPlaced : Type 0
ParametersPlaced = (s : List Lexeme) (st : State) (ps : List Parameter) → LocalsHold st.ctx st.work
    → On (λ (y : State). LocalsHold y.ctx y.work) (with_parameters s st ps)

-- into the body of a lambda
abbrev pub LambdasEntered : Type 0
LambdasEntered = (st before : State) (x : Written) (rs : Returns) (r : Typ) (sig : Signature) → LocalsHold st.ctx st.work
    → LocalsHold (inside before (lambda_entered st x rs r) (declared_closure st x sig)).ctx
    (inside before (lambda_entered st x rs r) (declared_closure st x sig)).work

-- a further variable, and one whose type is not known yet
abbrev pub VariablesPlaced : Type 0
VariablesPlaced = (st : State) (name : List ℕ) (t : Typ) → LocalsHold st.ctx st.work
    → LocalsHold (placed_variable st name t).ctx (placed_variable st name t).work

abbrev pub VariablesDeclared : Type 0
VariablesDeclared = (st : State) (name : List ℕ) → LocalsHold st.ctx st.work
    → LocalsHold (declared_variable st name None).ctx (declared_variable st name None).work
