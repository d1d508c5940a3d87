-- What makes the body of a function makes one that is what the function asks for.
use Rattle.std.specs.Prelude.{◌≡◌, ℕ, true, false, List, [], ◌∷◌, ◌++◌, map, Option, Some, Ok}
use Rattle.elab_rules.specs.cpp_types.Typ.{Typ, Typs, more as and_typ}
use Rattle.elab_rules.specs.cpp_types.declared.classes.At.{At}
use Rattle.elab_rules.specs.cpp_lex.Tokens.{Lexeme}
use Rattle.elab_rules.specs.cpp_ast.Trees as syntax
use Rattle.elab_rules.specs.cpp_tree.declared.program.FuncKind.{FuncKind}
use Rattle.elab_rules.specs.cpp_tree.declared.program.FuncKind.TheVariants.{Constructor, Destructor}
use Rattle.elab_rules.specs.cpp_tree.Rows.{is_special}
use Rattle.elab_rules.specs.elab_ctx.Ctx.{Func}
use Rattle.elab_rules.specs.Initialising.{signature_result}
use Rattle.elab_rules.specs.Statements.{State, Done, Body, statements_of}
use Rattle.elab_rules.specs.Functions.{Header, param_of, function_body}
use Rattle.elab_rules.specs.Members.{constructor_body, destructor_body}
use Rattle.elab_rules.specs.Implicit.{body_implied}
use Rattle.elab_rules.specs.Lambdas.{lambdas_of}
use Rattle.elab_bodies.specs.Bodies.{is_object_of, param_items, IsBodyOf, BodiesFit}

-- the last body is one of this function, under this number
pub record MakesBody (f : Func) (func : ℕ) (x : State) : Type 0 where
  pub others : List Body
  pub body : Body
  pub bodies : x.bodies ≡ others ++ body ∷ []
  pub is : body.func ≡ func
  pub fits : IsBodyOf f body

-- Functions: the header of the definition, and the object that the body has, are those of the function

pub record Defines (h : Header) (this : Option Typ) (f : Func) : Type 0 where
  pub kind : is_special f.kind ≡ false
  pub object : is_object_of f.class this ≡ true
  pub result : signature_result f.declared.signature ≡ signature_result h.signature
  pub params : f.params ≡ map param_of h.params

abbrev pub FunctionBodiesFit : Type 0
FunctionBodiesFit = (s : List Lexeme) (st : State) (h : Header) (this : Option Typ) (func : ℕ) (t : syntax.Tree) (x : State) (f : Func) → Defines h this f
    → function_body lambdas_of s st h this func t ≡ Ok x → MakesBody f func x

-- Constructors and destructors of a class

abbrev pub ConstructorBodiesFit : Type 0
ConstructorBodiesFit = (s : List Lexeme) (st : State) (h : Header) (n func : ℕ) (inits : syntax.Trees) (t : syntax.Tree) (x : State) (f : Func)
    → f.kind ≡ Constructor → f.class ≡ Some n → f.params ≡ map param_of h.params → constructor_body lambdas_of s st h n func inits t ≡ Ok x
    → MakesBody f func x

abbrev pub DestructorBodiesFit : Type 0
DestructorBodiesFit = (s : List Lexeme) (st : State) (h : Header) (n func : ℕ) (t : syntax.Tree) (x : State) (f : Func)
    → f.kind ≡ Destructor → f.class ≡ Some n → f.params ≡ [] → destructor_body lambdas_of s st h n func t ≡ Ok x → MakesBody f func x

-- Implicit members: a copy has the object that is copied for its one parameter

abbrev pub source_items : FuncKind → Typs → List Typ
source_items Constructor (and_typ t ps) = t ∷ []
source_items kind ps = []

abbrev pub ImpliedBodiesFit : Type 0
ImpliedBodiesFit = (st : State) (at : At) (func n : ℕ) (ps : Typs) (x : State) (f : Func) → is_special f.kind ≡ true → f.class ≡ Some n
    → param_items f.params ≡ source_items f.kind ps → body_implied st at func n f.kind ps ≡ Ok x → MakesBody f func x

-- Lambdas: with the bodies of their calls all bodies fit still, whatever statements they stand in

abbrev pub LambdasFit : Type 0
LambdasFit = (s : List Lexeme) (st : State) (t : syntax.Tree) (x : State) → BodiesFit st → lambdas_of s st t ≡ Ok x → BodiesFit x

abbrev pub StatementsFit : Type 0
StatementsFit = (s : List Lexeme) (st : State) (ts : syntax.Trees) (d : Done) → BodiesFit st → statements_of lambdas_of s st ts ≡ Ok d → BodiesFit d.state
