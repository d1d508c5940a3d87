-- Statements keep the types of a context sound.
use Rattle.std.specs.Prelude.{◌≡◌, ◌≤◌, ℕ, nat_lt, Bool, true, false, List, length, Option, Some, None, is_some, Ok}
use Rattle.std.specs.List.{list_all}
use Rattle.elab_rules.specs.cpp_types.Typ.{Typ, Signature}
use Rattle.elab_rules.specs.cpp_types.Class.{Class, completion_of}
use Rattle.elab_rules.specs.cpp_lex.Tokens.{Lexeme}
use Rattle.elab_rules.specs.cpp_ast.Trees as syntax
use Rattle.elab_rules.specs.cpp_tree.Typing.{form_in}
use Rattle.elab_rules.specs.elab_ctx.Ctx.{Returns, known, deduced}
use Rattle.elab_rules.specs.Statements.{State, Done, Lambdas, statement_of, statements_of}
use Rattle.elab_rules.specs.Functions.{Header, function_body}
use Rattle.elab_rules.specs.Lambdas.{no_lambda, lambdas_of}
use Rattle.elab_sound_types.specs.Types.{is_lambda, is_sound, is_sound_signature, Use, declared}
use Rattle.elab_sound_types.specs.Contexts.{is_object_of_class, is_sound_parameter}
use Rattle.elab_sound_types.specs.Contexts.{HasSoundTypes, are_sound_closures, is_spelled, are_spelled}

-- what a lambda's body has returned so far
abbrev pub is_sound_return : List Class → Returns → Bool
is_sound_return classes (known t) = true
is_sound_return classes (deduced None) = true
is_sound_return classes (deduced (Some t)) = is_sound classes declared t

pub record IsSoundState (st : State) : Type 0 where
  -- what is declared has types that can be declared
  pub context : HasSoundTypes st.ctx st.work
  -- the lambdas at hand have classes of lambdas
  pub closures : are_sound_closures st.ctx.classes st.ctx.closures ≡ true
  -- what a lambda's body has returned is of a type that can be declared
  pub returned : is_sound_return st.ctx.classes st.ctx.returns ≡ true

-- no class is taken back; each has a name or none as before, and is complete if it was
pub record Kept (before now : List Class) : Type 0 where
  pub longer : length before ≤ length now
  pub names : (n : ℕ) → nat_lt n (length before) ≡ true → is_lambda now n ≡ is_lambda before n
  pub complete : (n : ℕ) → is_some (completion_of before n) ≡ true → is_some (completion_of now n) ≡ true

-- classes are kept; where there are no lambdas, none is added
pub record Grown (lambdas : Bool) (before now : List Class) : Type 0 where
  pub kept : Kept before now
  pub same : lambdas ≡ false → now ≡ before

-- where classes are kept, what was sound is so still
abbrev pub TypesStay : Type 0
TypesStay = (before now : List Class) (way : Use) (t : Typ) → Kept before now → is_sound before way t ≡ true → is_sound now way t ≡ true

abbrev pub SignaturesStay : Type 0
SignaturesStay = (before now : List Class) (s : Signature) → Kept before now → is_sound_signature before s ≡ true → is_sound_signature now s ≡ true

-- step by step
abbrev pub KeptStepwise : Type 0
KeptStepwise = (before now later : List Class) → Kept before now → Kept now later → Kept before later

pub record IsSoundAfter (lambdas : Bool) (before now : State) : Type 0 where
  pub sound : IsSoundState now
  pub grown : Grown lambdas before.ctx.classes now.ctx.classes

-- what makes the lambdas of a full-expression leaves the state sound
abbrev pub KeepsSound : (lambdas : Bool) → List Lexeme → Lambdas → Type 0
KeepsSound lambdas s lams = (st : State) (t : syntax.Tree) (x : State) → IsSoundState st → is_spelled s t ≡ true → lams s st t ≡ Ok x
    → IsSoundAfter lambdas st x

-- so does each statement
abbrev pub StatementsKeep : Type 0
StatementsKeep = (lambdas : Bool) (lams : Lambdas) (s : List Lexeme) (st : State) (t : syntax.Tree) (d : Done) → KeepsSound lambdas s lams → IsSoundState st
    → is_spelled s t ≡ true → statement_of lams s st t ≡ Ok d → IsSoundAfter lambdas st d.state

-- and several of them
abbrev pub BlocksKeep : Type 0
BlocksKeep = (lambdas : Bool) (lams : Lambdas) (s : List Lexeme) (st : State) (ts : syntax.Trees) (d : Done) → KeepsSound lambdas s lams → IsSoundState st
    → are_spelled s ts ≡ true → statements_of lams s st ts ≡ Ok d → IsSoundAfter lambdas st d.state

-- so do the lambdas of an expression, and, in a lambda, that there are none
abbrev pub LambdasKeep : Type 0
LambdasKeep = (s : List Lexeme) → KeepsSound true s lambdas_of

abbrev pub NoLambdasKeep : Type 0
NoLambdasKeep = (s : List Lexeme) → KeepsSound false s no_lambda

-- Functions

-- the object of a member function
abbrev pub is_sound_object : List Class → Option Typ → Bool
is_sound_object classes None = true
is_sound_object classes (Some t) = is_object_of_class classes (form_in t)

-- so does the body of a function, in which its parameters and its object are known
abbrev pub FunctionsKeep : Type 0
FunctionsKeep = (lams : Lambdas) (s : List Lexeme) (st : State) (f : Header) (this : Option Typ) (place : ℕ) (body : syntax.Tree) (x : State)
    → KeepsSound true s lams → IsSoundState st → list_all (is_sound_parameter st.ctx.classes) f.params ≡ true
    → is_sound_object st.ctx.classes this ≡ true → is_spelled s body ≡ true → function_body lams s st f this place body ≡ Ok x
    → IsSoundAfter true st x
