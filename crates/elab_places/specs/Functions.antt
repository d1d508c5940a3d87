-- Places of the frame that bodies of functions have: behind the words of the call, each once.
use Rattle.std.specs.Prelude.{◌≡◌, ℕ, ◌+◌, List, [], ◌∷◌, ◌++◌, length, true, Option, is_some, Ok}
use Rattle.std.specs.List.{list_all}
use Rattle.elab_rules.specs.cpp_types.Typ.{Typ, Signature, Typs, none as no_typs, more as and_typ}
use Rattle.elab_rules.specs.cpp_types.declared.classes.At.{At}
use Rattle.elab_rules.specs.cpp_lex.Tokens.{Lexeme}
use Rattle.elab_rules.specs.cpp_ast.Trees as syntax
use Rattle.elab_rules.specs.cpp_tree.Units.{Func as Shown}
use Rattle.elab_rules.specs.elab_ctx.Ctx.{Func}
use Rattle.elab_rules.specs.Programs.{words_of}
use Rattle.elab_rules.specs.cpp_tree.WellFormed.{places_of, is_free_place}
use Rattle.elab_rules.specs.cpp_tree.declared.program.FuncKind.{FuncKind}
use Rattle.elab_rules.specs.cpp_tree.declared.program.FuncKind.TheVariants.{Destructor}
use Rattle.elab_rules.specs.Initialising.{signature_result}
use Rattle.elab_rules.specs.Statements.{State, Body, Lambdas}
use Rattle.elab_rules.specs.Functions.{Header, result_items, this_items, function_body}
use Rattle.elab_rules.specs.Members.{constructor_body, destructor_body, default_made}
use Rattle.elab_rules.specs.Implicit.{body_implied}
use Rattle.elab_rules.specs.Lambdas.{Written, lambda_with, lambdas_of, no_lambda}
use Rattle.elab_places.specs.Places.{Owned}
use Rattle.elab_places.specs.Bodies.{DefaultsOwn, FrameKept, LeavesFrame}

-- how many words a call has: the address of a result of class type, the object, and the parameters
abbrev pub call_words : Typ → Option Typ → ℕ → ℕ
call_words result this params = length (result_items result) + length (this_items this) + params

-- that many words has the function that is shown, where it has this result, is a member where the object is told, and has these parameters
abbrev pub WordsCounted : Type 0
WordsCounted = (f : Func) (this : Option Typ) → is_some this ≡ is_some f.class
    → words_of f ≡ call_words (signature_result f.declared.signature) this (length f.params)

-- behind a function: what stands round it is as it was, and the last body is that of the function, whose places are those behind the words of its call
pub record MakesBody (words func : ℕ) (old new : State) : Type 0 where
  pub kept : FrameKept old new
  pub others : List Body
  pub body : Body
  pub bodies : new.bodies ≡ others ++ body ∷ []
  pub is : body.func ≡ func
  pub owns : Owned words (length body.frame) (places_of body.tree)

-- what that says of a function that is shown with these words and this frame
abbrev pub PlacesFree : Type 0
PlacesFree = (f : Shown) (places : List ℕ) → Owned f.words (length f.frame) places → list_all (is_free_place f) places ≡ true

abbrev pub FunctionBodiesOwn : Type 0
FunctionBodiesOwn = (lams : Lambdas) → LeavesFrame lams → (s : List Lexeme) (st : State) (h : Header) (this : Option Typ) (func : ℕ) (t : syntax.Tree) (x : State)
    → DefaultsOwn st.ctx.defaults → function_body lams s st h this func t ≡ Ok x
    → MakesBody (call_words (signature_result h.signature) this (length h.params)) func st x

-- a constructor has its object and its parameters
abbrev pub ConstructorBodiesOwn : Type 0
ConstructorBodiesOwn = (lams : Lambdas) → LeavesFrame lams → (s : List Lexeme) (st : State) (h : Header) (n func : ℕ) (inits : syntax.Trees) (t : syntax.Tree)
    (x : State) → DefaultsOwn st.ctx.defaults → constructor_body lams s st h n func inits t ≡ Ok x → MakesBody (1 + length h.params) func st x

abbrev pub DestructorBodiesOwn : Type 0
DestructorBodiesOwn = (lams : Lambdas) → LeavesFrame lams → (s : List Lexeme) (st : State) (h : Header) (n func : ℕ) (t : syntax.Tree) (x : State)
    → DefaultsOwn st.ctx.defaults → destructor_body lams s st h n func t ≡ Ok x → MakesBody 1 func st x

-- the parameter of an implicit member: that of a copy
abbrev pub copy_words : Typs → ℕ
copy_words (and_typ t ps) = 1
copy_words no_typs = 0

abbrev pub implied_words : FuncKind → Typs → ℕ
implied_words Destructor ps = 1
implied_words kind ps = 1 + copy_words ps

abbrev pub ImpliedBodiesOwn : Type 0
ImpliedBodiesOwn = (st : State) (at : At) (func n : ℕ) (kind : FuncKind) (ps : Typs) (x : State) → DefaultsOwn st.ctx.defaults
    → body_implied st at func n kind ps ≡ Ok x → MakesBody (implied_words kind ps) func st x

-- the call of a lambda, whose object is of its own class
abbrev pub LambdaBodiesOwn : Type 0
LambdaBodiesOwn = (s : List Lexeme) (st : State) (w : Written) (r : Typ) (sig : Signature) (x : State) → DefaultsOwn st.ctx.defaults
    → lambda_with s st w r sig ≡ Ok x → MakesBody (length (result_items r) + 1 + length w.params) (length st.ctx.funcs) st x

-- what makes lambdas leaves the frame
abbrev pub LambdasLeave : Type 0
LambdasLeave = LeavesFrame lambdas_of

abbrev pub NoLambdasLeave : Type 0
NoLambdasLeave = LeavesFrame no_lambda

-- an initialiser that is kept for a member owns its places, as those before it do
abbrev pub DefaultsMadeOwn : Type 0
DefaultsMadeOwn = (lams : Lambdas) → LeavesFrame lams → (s : List Lexeme) (st : State) (n i : ℕ) (t : Typ) (e : syntax.Tree) (x : State)
    → DefaultsOwn st.ctx.defaults → default_made lams s st n i t e ≡ Ok x → DefaultsOwn x.ctx.defaults
