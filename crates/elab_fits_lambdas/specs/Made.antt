-- One lambda: what its text says, and the state behind it.
use Rattle.std.specs.Prelude.{◌≡◌, ℕ, Bool, true, false, List, [], ◌∷◌, ◌++◌, length, None, Some, is_some, slice_get, Ok}
use Rattle.elab_rules.specs.cpp_types.Typ.{Typ, Signature, signature, func}
use Rattle.elab_rules.specs.cpp_types.Class.{Class, held}
use Rattle.elab_rules.specs.cpp_types.declared.classes.At.{At}
use Rattle.elab_rules.specs.cpp_lex.Tokens.{Lexeme}
use Rattle.elab_rules.specs.cpp_ast.Trees as syntax
use Rattle.elab_rules.specs.cpp_tree.declared.kinds.TKind.TheVariants as forms
use Rattle.elab_rules.specs.cpp_tree.Trees.{Tree}
use Rattle.elab_rules.specs.cpp_tree.Notation.{plain}
use Rattle.elab_rules.specs.elab_ctx.Ctx.{Capture, Returns, known}
use Rattle.elab_rules.specs.Objects.{followed_by}
use Rattle.elab_rules.specs.Operators.{is_complete}
use Rattle.elab_rules.specs.Types.{types_of, is_declared_safe}
use Rattle.elab_rules.specs.Statements.{State, Done, statement}
use Rattle.elab_rules.specs.Functions.{leaving, within_frame, end_of}
use Rattle.elab_rules.specs.Lambdas.{Written, lambda_of, lambdas_of, lambda_entered, inside, declared_closure, closure_sized, lambda_type, result_of}
use Rattle.elab_rules.specs.Lambdas.{body_statements, with_written, kids_of, explicit_captures, default_captures, default_in, used_in, parameters_among, result_among}
use Rattle.elab_fits.specs.Standing.{On}
use Rattle.elab_contexts.specs.Holding.{UnitHolds}
use Rattle.elab_fits_forms.specs.Types.{is_empty}
use Rattle.elab_fits_forms.specs.Expressions.{ClosuresHold}

-- into the body of a lambda
abbrev pub lambda_inside : State → Written → Returns → Typ → Signature → State
lambda_inside st x rs r sig = inside st (lambda_entered st x rs r) (declared_closure st x sig)

-- The text

-- what the parts of a lambda say
pub record IsWritten (s : List Lexeme) (st : State) (intro parts : syntax.Trees) (body : syntax.Tree) (x : Written) : Type 0 where
  pub named : List Capture
  pub explicit : explicit_captures s st.ctx (default_in s intro) intro ≡ Ok named
  pub params : parameters_among s st.ctx st.work parts ≡ Ok x.params
  pub result : result_among s st.ctx st.work parts ≡ Ok x.result
  pub defaults : default_captures st.ctx (default_in s intro) named (used_in s st.ctx x.params body) ≡ Ok x.captures
  pub read : x.body ≡ kids_of body

-- The state behind it

-- the signature of its call
abbrev pub call_signature : Written → Typ → Signature
call_signature x r = signature (types_of x.params) r (is_declared_safe x.qualifiers)

-- the tree of its body
abbrev pub lambda_block : Written → Typ → Done → Tree
lambda_block x r d = statement (forms.Block false) x.body_at (followed_by d.trees (end_of d.state.ctx r x.body_at))

-- the state behind the body
abbrev pub lambda_left : State → Written → Signature → Tree → State → State
lambda_left st x sig tree y = record (leaving (record st { ctx = declared_closure st x sig }) y) {
  bodies = y.bodies ++ record { func = length st.ctx.funcs; tree = tree; frame = y.work.frame } ∷ [];
}

-- a lambda whose result is known, and what its body left
pub record IsKnown (s : List Lexeme) (st : State) (x : Written) (r : Typ) (y : State) : Type 0 where
  pub typed : lambda_type st.ctx x r ≡ Ok (plain (func (call_signature x r)))
  pub complete : is_complete st.ctx (held r) ≡ true
  pub size : Bool
  pub sized : closure_sized st x (call_signature x r) ≡ Ok size
  pub done : Done
  pub read : body_statements s (lambda_inside st x (known r) r (call_signature x r)) x ≡ Ok done
  pub room : Bool
  pub within : within_frame done.state.ctx x.at done.state.work.frame ≡ Ok room
  pub is : y ≡ lambda_left st x (call_signature x r) (lambda_block x r done) done.state

-- and any lambda
pub record IsMade (s : List Lexeme) (st : State) (x : Written) (y : State) : Type 0 where
  pub result : Typ
  pub said : result_of s st x x.result ≡ Ok result
  pub before : State
  pub known : IsKnown s st x result before
  pub is : y ≡ with_written before (length st.ctx.classes) x

-- its brackets, its declarator, where there is one, and its block
pub data HasParts (kids intro parts : syntax.Trees) (body : syntax.Tree) : Type 0 where
  three : (i p : syntax.Tree) → kids ≡ syntax.more i (syntax.more p (syntax.more body syntax.none)) → intro ≡ kids_of i → parts ≡ kids_of p
      → HasParts kids intro parts body
  two : (i : syntax.Tree) → kids ≡ syntax.more i (syntax.more body syntax.none) → intro ≡ kids_of i → parts ≡ syntax.none → HasParts kids intro parts body

pub record IsLambda (s : List Lexeme) (st : State) (kids : syntax.Trees) (y : State) : Type 0 where
  pub intro : syntax.Trees
  pub parts : syntax.Trees
  pub body : syntax.Tree
  pub has : HasParts kids intro parts body
  pub text : Written
  pub written : IsWritten s st intro parts body text
  pub made : IsMade s st text y

-- Laws

abbrev pub LambdasAreMade : Type 0
LambdasAreMade = (s : List Lexeme) (st : State) (at : At) (kids : syntax.Trees) → On (IsLambda s st kids) (lambda_of s st at kids)

-- the class of a lambda, which has no name, is complete
abbrev pub AreComplete : List Class → Type 0
AreComplete classes = (n : ℕ) (k : Class) → slice_get classes n ≡ Some k → is_empty k.name ≡ true → is_some k.complete ≡ true

-- a lambda is at hand behind itself, and so are those before it
abbrev pub OneAtHand : Type 0
OneAtHand = (s : List Lexeme) (st : State) (kids : syntax.Trees) (y : State) → IsLambda s st kids y → AreComplete st.ctx.classes → st.ctx.lambda ≡ None → ClosuresHold st.ctx st.ctx.closures
    → ClosuresHold y.ctx y.ctx.closures

-- and so are all of a full-expression behind them, in the order of the text
abbrev pub AllAtHand : Type 0
AllAtHand = (s : List Lexeme) (st : State) (e : syntax.Tree) → UnitHolds st.ctx → st.ctx.lambda ≡ None → ClosuresHold st.ctx st.ctx.closures
    → On (λ (y : State). ClosuresHold y.ctx y.ctx.closures) (lambdas_of s st e)
