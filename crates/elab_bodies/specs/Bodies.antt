-- Bodies that are what their functions ask for.
use Rattle.std.specs.Prelude.{◌≡◌, ℕ, suc, ◌+◌, ◌≤◌, ◌==◌, Bool, true, false, List, [], ◌∷◌, ◌++◌, map, length, slice_get, Option, Some, None}
use Rattle.elab_rules.specs.cpp_types.Typ.{Typ, Typs, none as no_typs, more as and_typ}
use Rattle.elab_rules.specs.cpp_types.Class.{Class}
use Rattle.elab_rules.specs.cpp_lex.Tokens.{Lexeme}
use Rattle.elab_rules.specs.cpp_ast.Trees as syntax
use Rattle.elab_rules.specs.cpp_tree.Trees.{Tree, kind_of}
use Rattle.elab_rules.specs.cpp_tree.Units.{Param, Func as UnitFunc}
use Rattle.elab_rules.specs.cpp_tree.Typing.{is_class, is_class_typ, form_in}
use Rattle.elab_rules.specs.cpp_tree.Rows.{result_in}
use Rattle.elab_rules.specs.cpp_tree.Rows.{result_of as shown_result}
use Rattle.elab_rules.specs.cpp_tree.WellFormed.{is_body_of, ends_well, words_fit}
use Rattle.elab_rules.specs.elab_ctx.Ctx.{Func}
use Rattle.elab_rules.specs.Initialising.{signature_parameters, signature_result}
use Rattle.elab_rules.specs.Functions.{word_item, result_items, this_items}
use Rattle.elab_rules.specs.Statements.{State, Body}
use Rattle.elab_rules.specs.Programs.{typed_func, unit_shown, one_if}

-- A function as its callers see it

-- constructors and destructors have none
abbrev pub result_of : Func → Typ
result_of f = result_in f.kind f.declared.signature

abbrev pub number_of : Typs → ℕ
number_of no_typs = 0
number_of (and_typ t ts) = suc (number_of ts)

-- it has as many parameters as its signature; where it has no result, its signature has no class for one
pub record WellSigned (f : Func) : Type 0 where
  pub params : number_of (signature_parameters f.declared.signature) ≡ length f.params
  pub result : is_class_typ (signature_result f.declared.signature) ≡ is_class_typ (result_of f)

-- The words of a call

-- a member function has an object of its class, and no other has one
abbrev pub is_object_of : Option ℕ → Option Typ → Bool
is_object_of None None = true
is_object_of None (Some t) = false
is_object_of (Some n) None = false
is_object_of (Some n) (Some t) = is_class n (form_in t)

abbrev pub param_items : List Param → List Typ
param_items ps = map (λ (p : Param). word_item p.typ) ps

abbrev pub call_items : Typ → Option Typ → List Typ → List Typ
call_items r this items = result_items r ++ (this_items this ++ items)

-- the frame begins with these items
abbrev pub Begin : List Typ → List Typ → Type 0
Begin items frame = (i : ℕ) (t : Typ) → slice_get items i ≡ Some t → slice_get frame i ≡ Some t

pub record BeginsWithCall (f : Func) (frame : List Typ) : Type 0 where
  pub this : Option Typ
  pub object : is_object_of f.class this ≡ true
  pub words : Begin (call_items (result_of f) this (param_items f.params)) frame

-- The body of a function: the block that it asks for, which ends in `return` where there is a result, and a frame that begins with the words of a call
pub record IsBodyOf (f : Func) (b : Body) : Type 0 where
  pub block : is_body_of f.kind (kind_of b.tree) ≡ true
  pub end : ends_well (result_of f) b.tree ≡ true
  pub words : BeginsWithCall f b.frame

-- the function of that number is there and defined, and the body is one of it
pub record BodyFits (funcs : List Func) (b : Body) : Type 0 where
  pub func : Func
  pub at : slice_get funcs b.func ≡ Some func
  pub defined : func.is_defined ≡ true
  pub signed : WellSigned func
  pub fits : IsBodyOf func b

-- Something is said only of bodies whose functions have no other. That none has another is a law of whole units.

-- how many of the bodies are ones of the function
abbrev pub times_made : ℕ → List Body → ℕ
times_made func [] = 0
times_made func (b ∷ bs) = one_if (b.func == func) + times_made func bs

-- one more is due to the function that gets its body now, if one does
abbrev pub due_to : Option ℕ → ℕ → ℕ
due_to None func = 0
due_to (Some now) func = one_if (now == func)

pub record AllFit (now : Option ℕ) (funcs : List Func) (bodies : List Body) : Type 0 where
  pub each : (i : ℕ) (b : Body) → slice_get bodies i ≡ Some b → times_made b.func bodies + due_to now b.func ≤ 1 → BodyFits funcs b

abbrev pub BodiesFit : State → Type 0
BodiesFit st = AllFit None st.ctx.funcs st.bodies

-- but for those of this function
abbrev pub OthersFit : State → ℕ → Type 0
OthersFit st func = AllFit (Some func) st.ctx.funcs st.bodies

-- In the unit: the test of well-formed bodies asks this of a function and its body, beside its nodes, their places and the sizes of the items
pub record FitsFunction (f : UnitFunc) (tree : Tree) : Type 0 where
  pub block : is_body_of f.kind (kind_of tree) ≡ true
  pub end : ends_well (shown_result f) tree ≡ true
  pub words : words_fit f ≡ true

-- a function that the unit shows with a body of it
abbrev pub ShownFit : Type 0
ShownFit = (classes : List Class) (f : Func) (b : Body) → WellSigned f → IsBodyOf f b → FitsFunction (typed_func classes f (Some b)) b.tree

-- each function that a unit shows with its only body, where the bodies of its state fit
abbrev pub UnitsFit : Type 0
UnitsFit = (s : List Lexeme) (decls : syntax.Trees) (st : State) → BodiesFit st → (k : ℕ) (f : UnitFunc) (tree : Tree) → times_made k st.bodies ≤ 1
    → slice_get (unit_shown s decls st).funcs k ≡ Some f → f.body ≡ Some tree → FitsFunction f tree
