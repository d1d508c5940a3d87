-- Bodies that are made so far: each owns the places behind the words that its function is shown with.
use Rattle.std.specs.Prelude.{◌≡◌, ℕ, ◌+◌, ◌<◌, List, [], ◌∷◌, length, Option, Ok}
use Rattle.elab_rules.specs.cpp_types.Typ.{Typ, Typs}
use Rattle.elab_rules.specs.cpp_types.declared.classes.At.{At}
use Rattle.elab_rules.specs.cpp_lex.Tokens.{Lexeme}
use Rattle.elab_rules.specs.cpp_ast.Trees as syntax
use Rattle.elab_rules.specs.cpp_tree.WellFormed.{places_of}
use Rattle.elab_rules.specs.cpp_tree.declared.program.FuncKind.{FuncKind}
use Rattle.elab_rules.specs.elab_ctx.Ctx.{Func, Default}
use Rattle.elab_rules.specs.Initialising.{func_at, signature_result}
use Rattle.elab_rules.specs.Statements.{State, Done, Body, statement_of}
use Rattle.elab_rules.specs.Functions.{Header, function_body}
use Rattle.elab_rules.specs.Implicit.{body_implied}
use Rattle.elab_rules.specs.Lambdas.{lambdas_of}
use Rattle.elab_rules.specs.Members.{constructor_body, destructor_body, all_defaults}
use Rattle.elab_rules.specs.Programs.{words_of}
use Rattle.elab_places.specs.Places.{Owned}
use Rattle.elab_places.specs.Bodies.{DefaultsOwn}
use Rattle.elab_places.specs.Functions.{call_words, implied_words}

-- what statements leave as it is, but for the lambdas in them
pub record Round : Type 0 where
  pub defaults : List Default
  pub funcs : List Func
  pub bodies : List Body

abbrev pub round_of : State → Round
round_of st = record { defaults = st.ctx.defaults; funcs = st.ctx.funcs; bodies = st.bodies }

pub record BodyOwns (funcs : List Func) (b : Body) : Type 0 where
  pub known : b.func < length funcs
  pub owns : Owned (words_of (func_at funcs b.func)) (length b.frame) (places_of b.tree)

abbrev pub BodiesOwn : List Func → List Body → Type 0
BodiesOwn funcs [] = Unit {0}
BodiesOwn funcs (b ∷ bs) = BodyOwns funcs b × BodiesOwn funcs bs

-- the initialisers of members, and all bodies
pub record AllOwned (r : Round) : Type 0 where
  pub defaults : DefaultsOwn r.defaults
  pub bodies : BodiesOwn r.funcs r.bodies

abbrev pub LambdasKeepBodies : Type 0
LambdasKeepBodies = (s : List Lexeme) (st : State) (t : syntax.Tree) (x : State) → AllOwned (round_of st) → lambdas_of s st t ≡ Ok x → AllOwned (round_of x)

abbrev pub StatementsKeepBodies : Type 0
StatementsKeepBodies = (s : List Lexeme) (st : State) (t : syntax.Tree) (d : Done) → AllOwned (round_of st) → statement_of lambdas_of s st t ≡ Ok d
    → AllOwned (round_of d.state)

-- a function that is known with the words of the call
abbrev pub FunctionsKeepBodies : Type 0
FunctionsKeepBodies = (s : List Lexeme) (st : State) (h : Header) (this : Option Typ) (func : ℕ) (t : syntax.Tree) (x : State) → AllOwned (round_of st)
    → func < length st.ctx.funcs → words_of (func_at st.ctx.funcs func) ≡ call_words (signature_result h.signature) this (length h.params)
    → function_body lambdas_of s st h this func t ≡ Ok x → AllOwned (round_of x)

abbrev pub ConstructorsKeepBodies : Type 0
ConstructorsKeepBodies = (s : List Lexeme) (st : State) (h : Header) (n func : ℕ) (inits : syntax.Trees) (t : syntax.Tree) (x : State) → AllOwned (round_of st)
    → func < length st.ctx.funcs → words_of (func_at st.ctx.funcs func) ≡ 1 + length h.params
    → constructor_body lambdas_of s st h n func inits t ≡ Ok x → AllOwned (round_of x)

abbrev pub DestructorsKeepBodies : Type 0
DestructorsKeepBodies = (s : List Lexeme) (st : State) (h : Header) (n func : ℕ) (t : syntax.Tree) (x : State) → AllOwned (round_of st)
    → func < length st.ctx.funcs → words_of (func_at st.ctx.funcs func) ≡ 1 → destructor_body lambdas_of s st h n func t ≡ Ok x → AllOwned (round_of x)

abbrev pub ImpliedKeepBodies : Type 0
ImpliedKeepBodies = (st : State) (at : At) (func n : ℕ) (kind : FuncKind) (ps : Typs) (x : State) → AllOwned (round_of st)
    → func < length st.ctx.funcs → words_of (func_at st.ctx.funcs func) ≡ implied_words kind ps → body_implied st at func n kind ps ≡ Ok x
    → AllOwned (round_of x)

-- initialisers of members
abbrev pub DefaultsKeepBodies : Type 0
DefaultsKeepBodies = (s : List Lexeme) (n : ℕ) (st : State) (ts : syntax.Trees) (x : State) → AllOwned (round_of st) → all_defaults lambdas_of s n st ts ≡ Ok x
    → AllOwned (round_of x)
