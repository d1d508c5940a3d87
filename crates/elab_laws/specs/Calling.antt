-- Calls (C++14 5.2.2), and which function they mean (13.3).
use Rattle.std.specs.Prelude.{◌≡◌, ℕ, Bool, true, false, List, [], ◌∷◌, Option, Some, slice_get, Result, Ok, Err}
use Rattle.elab_rules.specs.cpp_types.Typ.{Typ, typ, void, ref, ptr, func, closure, tx_ex, Signature}
use Rattle.elab_rules.specs.cpp_types.Conversion.{is_object_form}
use Rattle.elab_rules.specs.cpp_overload.Overload.{Argument, IsChosen}
use Rattle.elab_rules.specs.cpp_overload.declared.calls.NoBest.{NoBest}
use Rattle.elab_rules.specs.cpp_lex.Tokens.{Lexeme}
use Rattle.elab_rules.specs.cpp_ast.Trees as syntax
use Rattle.elab_rules.specs.cpp_ast.declared.arena.At.{At as SyntaxAt}
use Rattle.elab_rules.specs.cpp_ast.declared.kinds.NodeKind.TheVariants as k
use Rattle.elab_rules.specs.cpp_tree.declared.kinds.TKind.TheVariants.{Function, Default, Builtin}
use Rattle.elab_rules.specs.cpp_tree.declared.kinds.Builtin.{Builtin as BuiltinKind}
use Rattle.elab_rules.specs.cpp_tree.Trees.{Tree, none, one, kind_of, kids_of, typ_in, cat_of}
use Rattle.elab_rules.specs.cpp_tree.Typing.{form_in, unqualified, is_volatile_typ}
use Rattle.elab_rules.specs.cpp_tree.Notation.{plain}
use Rattle.elab_rules.specs.elab_ctx.Ctx.{Ctx, Work}
use Rattle.elab_rules.specs.elab_ctx.Steps.{Operand, Typed, TypedAll}
use Rattle.elab_rules.specs.Initialising.{candidate, candidates_at, arguments, func_at, places_from, signature_result}
use Rattle.elab_rules.specs.Names.{is_free, is_method}
use Rattle.elab_rules.specs.Calls.{is_closure_call}
use Rattle.elab_rules.specs.Expressions.{expression_of, operands_of}
use Rattle.elab_laws.specs.Reading.{On, IsPrvalue, IsLvalue, value_type}

-- What a call gives, by the result of the function (5.2.2 p10; 5 p5, p6): an lvalue for a reference, an object of a class as it is, another value without
-- qualifiers
pub data Returns (r : Typ) (e : Tree) : Type 0 where
  a_reference : (t : Typ) → form_in r ≡ ref t → IsLvalue t e → Returns r e
  an_object : is_object_form (form_in r) ≡ true → IsPrvalue r e → Returns r e
  a_value : is_object_form (form_in r) ≡ false → IsPrvalue (unqualified r) e → Returns r e

-- an answer of overload resolution over these functions that is this one
abbrev pub IsThis : List ℕ → ℕ → Result ℕ NoBest → Type 0
IsThis places i (Ok j) = slice_get places j ≡ Some i
IsThis places i (Err why) = ⊥

-- of the functions in these places, a call with these arguments means the one in place `i`: whatever is the answer of overload resolution (13.3.3), it is that
-- one
pub record Means (c : Ctx) (places : List ℕ) (args : List Argument) (i : ℕ) : Type 0 where
  pub each : (r : Result ℕ NoBest) → IsChosen c.classes (candidates_at candidate c.funcs places) args r → IsThis places i r

-- the object of a member function, as the first argument (13.3.1 p2)
abbrev pub object_argument : Tree → Argument
object_argument e = record { typ = typ_in e; cat = cat_of e; literal = false }

abbrev pub result_at : Ctx → ℕ → Typ
result_at c i = signature_result (func_at c.funcs i).declared.signature

abbrev pub name_at : Ctx → ℕ → List ℕ
name_at c k = (func_at c.funcs k).declared.name

pub data OfCall (c : Ctx) (callee : Operand) (args : List Operand) (e : Tree) : Type 0 where
  -- by name: one of the functions at file scope of that name
  of_function : (k i : ℕ) → kind_of callee.tree ≡ Function k → kids_of callee.tree ≡ none
      → Means c (places_from (is_free (name_at c k)) 0 c.funcs) (arguments args) i → Returns (result_at c i) e → OfCall c callee args e
  -- of a member: one of the functions of that name in its class
  of_member : (k n i : ℕ) (object : Tree) → kind_of callee.tree ≡ Function k → kids_of callee.tree ≡ one object → (func_at c.funcs k).class ≡ Some n →
      Means c (places_from (is_method n (name_at c k)) 0 c.funcs) (object_argument object ∷ arguments args) i → Returns (result_at c i) e
      → OfCall c callee args e
  -- of a lambda: its call operator
  of_closure : (n i : ℕ) (object : Tree) → form_in (typ_in callee.tree) ≡ closure n → typ_in object ≡ typ_in callee.tree →
      Means c (places_from (is_closure_call n) 0 c.funcs) (object_argument object ∷ arguments args) i → Returns (result_at c i) e → OfCall c callee args e
  -- of a function by its address
  of_pointer : (sig : Signature) (d v : Bool) → value_type callee ≡ ptr (typ (func sig) d v) → Returns (signature_result sig) e → OfCall c callee args e
  -- `get()` of a `std::tx_exception`, which is not volatile: the value in it
  of_get : (t : Typ) (object : Tree) → kind_of callee.tree ≡ Default → kids_of callee.tree ≡ one object → form_in (typ_in object) ≡ tx_ex t
      → is_volatile_typ (typ_in object) ≡ false → args ≡ [] → IsPrvalue (unqualified t) e → OfCall c callee args e
  -- `std::abort()`
  of_abort : (b : BuiltinKind) → kind_of callee.tree ≡ Builtin b → args ≡ [] → IsPrvalue (plain void) e → OfCall c callee args e

-- the callee first, then the arguments
pub record Called (s : List Lexeme) (c : Ctx) (w : Work) (f : syntax.Tree) (es : syntax.Trees) (r : Typed) : Type 0 where
  pub callee : Typed
  pub callee_is : expression_of s c w f ≡ Ok callee
  pub args : TypedAll
  pub args_are : operands_of s c callee.work es ≡ Ok args
  pub holds : OfCall c callee.operand args.operands r.operand.tree

-- The law

abbrev pub Calls : Type 0
Calls = (s : List Lexeme) (c : Ctx) (w : Work) (p : SyntaxAt) (t : Option ℕ) (f : syntax.Tree) (es : syntax.Trees)
    → On (Called s c w f es) (expression_of s c w (syntax.node k.FunctionCall p t (syntax.more f es)))
