-- Typed trees as text: a line for each node, deeper ones indented, with the offset of its place, and its category and type where it has one.
use Rattle.std.specs.Prelude.{ℕ, zero, suc, Bool, true, false, List, [], ◌∷◌, ◌++◌, ◌+◌, ◌/◌, ◌%◌, nat_lt, Option, Some, None, Result, Ok, Err}
use Rattle.std.specs.Prelude.{if◌then◌else◌, slice_get, codes}
use Rattle.elab_ctx.specs.tx_events.declared.BlockKind.{BlockKind}
use Rattle.elab_ctx.specs.tx_events.declared.BlockKind.TheVariants.{NoExcept, Cancel, Commit}
use Rattle.elab_ctx.specs.tx_ints.declared.kinds.IntKind.{IntKind}
use Rattle.elab_ctx.specs.tx_ints.declared.kinds.IntKind.TheVariants.{Bool as BoolKind, Char, SChar, UChar, Short, UShort, Int, UInt, Long, ULong, LLong}
use Rattle.elab_ctx.specs.tx_ints.declared.kinds.IntKind.TheVariants.{ULLong}
use Rattle.elab_ctx.specs.tx_ints.declared.kinds.BinOp.{BinOp}
use Rattle.elab_ctx.specs.tx_ints.declared.kinds.BinOp.TheVariants.{Add, Sub, Mul, Div, Rem, Shl, Shr, And, Xor, Or, Lt, Gt, Le, Ge, Eq, Ne}
use Rattle.elab_ctx.specs.cpp_types.Typ.{Typ, typ, void, null, class, int, ptr, array, closure}
use Rattle.elab_ctx.specs.cpp_types.Spelling.{spelling as type_spelling, before, behind}
use Rattle.elab_ctx.specs.cpp_types.declared.classes.At.{At}
use Rattle.elab_ctx.specs.cpp_types.declared.ranks.Cat.{Cat}
use Rattle.elab_ctx.specs.cpp_types.declared.ranks.Cat.TheVariants.{Lvalue, Prvalue}
use Rattle.elab_ctx.specs.cpp_tree.declared.kinds.TKind.{TKind}
use Rattle.elab_ctx.specs.cpp_tree.declared.kinds.TKind.TheVariants as forms
use Rattle.elab_ctx.specs.cpp_tree.declared.kinds.Builtin.{Builtin}
use Rattle.elab_ctx.specs.cpp_tree.declared.kinds.Builtin.TheVariants.{PutChar, GetChar, Spawn, Join, Abort}
use Rattle.elab_ctx.specs.cpp_tree.declared.faults.ElabFault.{ElabFault}
use Rattle.elab_ctx.specs.cpp_tree.declared.faults.ElabFault.TheVariants.{Ill}
use Rattle.elab_ctx.specs.cpp_tree.Trees.{Tree, node, Trees, none, more}
use Rattle.elab_ctx.specs.cpp_tree.Notation.{plain}
use Rattle.elab_rules.specs.Initialising.{func_at}
use Rattle.elab_rules.specs.Globals.{symbol_of, global_symbol, symbol_behind}
use Rattle.elab_rules.specs.Statements.{State, Body}
use Rattle.elab_ctx.specs.cpp_types.Class.{Class, Function}
use Rattle.elab_ctx.specs.cpp_tree.declared.program.FuncKind.{FuncKind}
use Rattle.elab_ctx.specs.cpp_tree.declared.program.FuncKind.TheVariants.{ClosureCall}
use Rattle.elab_ctx.specs.Ctx.{Func}

-- a number in decimal digits, which the checker computes
abbrev pub digits : ℕ → ℕ → List ℕ
digits zero n = []
digits (suc most) n = (if nat_lt n 10 then [] else digits most (n / 10)) ++ (48 + n % 10) ∷ []

abbrev pub decimal : ℕ → List ℕ
decimal n = if nat_lt n 100000 then digits 5 n else digits 20 n

abbrev pub kind_name : IntKind → List ℕ
kind_name BoolKind = codes "Bool"
kind_name Char = codes "Char"
kind_name SChar = codes "SChar"
kind_name UChar = codes "UChar"
kind_name Short = codes "Short"
kind_name UShort = codes "UShort"
kind_name Int = codes "Int"
kind_name UInt = codes "UInt"
kind_name Long = codes "Long"
kind_name ULong = codes "ULong"
kind_name LLong = codes "LLong"
kind_name ULLong = codes "ULLong"

abbrev pub operator_name : BinOp → List ℕ
operator_name Add = codes "Add"
operator_name Sub = codes "Sub"
operator_name Mul = codes "Mul"
operator_name Div = codes "Div"
operator_name Rem = codes "Rem"
operator_name Shl = codes "Shl"
operator_name Shr = codes "Shr"
operator_name And = codes "And"
operator_name Xor = codes "Xor"
operator_name Or = codes "Or"
operator_name Lt = codes "Lt"
operator_name Gt = codes "Gt"
operator_name Le = codes "Le"
operator_name Ge = codes "Ge"
operator_name Eq = codes "Eq"
operator_name Ne = codes "Ne"

abbrev pub builtin_name : Builtin → List ℕ
builtin_name PutChar = codes "PutChar"
builtin_name GetChar = codes "GetChar"
builtin_name Spawn = codes "Spawn"
builtin_name Join = codes "Join"
builtin_name Abort = codes "Abort"

abbrev pub block_name : BlockKind → List ℕ
block_name NoExcept = codes "NoExcept"
block_name Cancel = codes "Cancel"
block_name Commit = codes "Commit"

abbrev pub word : List ℕ → List ℕ
word text = 32 ∷ text

abbrev pub number : ℕ → List ℕ
number n = word (decimal n)

abbrev pub flag : Bool → List ℕ → List ℕ
flag true text = word text
flag false text = []

-- a lambda by the place of its call
abbrev pub place_text : At → List ℕ
place_text at = codes "lambda:" ++ (decimal at.source ++ (codes ":" ++ decimal at.offset))

abbrev pub call_text : List Function → List ℕ
call_text [] = []
call_text (f ∷ fs) = place_text f.at

abbrev pub closure_in : Option Class → List ℕ
closure_in (Some c) = call_text c.functions
closure_in None = []

abbrev pub closure_text : State → ℕ → List ℕ
closure_text st n = closure_in (slice_get st.ctx.classes n)

abbrev pub function_text : State → FuncKind → Func → List ℕ
function_text st ClosureCall f = place_text f.declared.at ++ symbol_behind st.ctx.classes f.declared
function_text st kind f = symbol_of st.ctx.classes f

abbrev pub function_symbol : State → ℕ → List ℕ
function_symbol st k = word (function_text st (func_at st.ctx.funcs k).kind (func_at st.ctx.funcs k))

abbrev pub class_spelling : State → ℕ → List ℕ
class_spelling st n = word (type_spelling st.ctx.classes (plain (class n)))

abbrev pub place_number : Option ℕ → List ℕ
place_number (Some n) = number n
place_number None = []

abbrev pub kind_text : State → TKind → List ℕ
kind_text st (forms.Literal w) = codes "Literal" ++ number w
kind_text st (forms.Local p) = codes "Local" ++ number p
kind_text st (forms.Global g) = codes "Global" ++ word (global_symbol (slice_get st.work.globals g))
kind_text st (forms.Function f) = codes "Function" ++ function_symbol st f
kind_text st (forms.ClassTable n) = codes "ClassTable" ++ class_spelling st n
kind_text st (forms.Load kind v) = codes "Load" ++ word (kind_name kind) ++ flag v (codes "volatile")
kind_text st (forms.Convert kind) = codes "Convert" ++ word (kind_name kind)
kind_text st forms.Retype = codes "Retype"
kind_text st (forms.Binary op kind) = codes "Binary" ++ word (operator_name op) ++ word (kind_name kind)
kind_text st forms.Conditional = codes "Conditional"
kind_text st forms.Comma = codes "Comma"
kind_text st (forms.Assign kind v) = codes "Assign" ++ word (kind_name kind) ++ flag v (codes "volatile")
kind_text st (forms.Update op j kind v old) = codes "Update" ++ word (operator_name op) ++ word (kind_name j) ++ word (kind_name kind)
    ++ flag v (codes "volatile") ++ flag old (codes "old")
kind_text st forms.CopyAssign = codes "CopyAssign"
kind_text st (forms.Materialize p argument) = codes "Materialize" ++ number p ++ flag argument (codes "argument")
kind_text st forms.FullExpression = codes "FullExpression"
kind_text st (forms.Call f) = codes "Call" ++ function_symbol st f
kind_text st (forms.VirtualCall f n slot pointer) = codes "VirtualCall" ++ function_symbol st f ++ class_spelling st n ++ number slot ++ number pointer
kind_text st forms.PointerCall = codes "PointerCall"
kind_text st (forms.Builtin b) = codes "Builtin" ++ word (builtin_name b)
kind_text st forms.Throw = codes "Throw"
kind_text st forms.Rethrow = codes "Rethrow"
kind_text st (forms.Store kind v) = codes "Store" ++ word (kind_name kind) ++ flag v (codes "volatile")
kind_text st (forms.CopyScalar kind v) = codes "CopyScalar" ++ word (kind_name kind) ++ flag v (codes "volatile")
kind_text st (forms.Construct f) = codes "Construct" ++ function_symbol st f
kind_text st (forms.CopyConstruct f) = codes "CopyConstruct" ++ function_symbol st f
kind_text st forms.CopyFrom = codes "CopyFrom"
kind_text st forms.Pieces = codes "Pieces"
kind_text st (forms.Piece offset) = codes "Piece" ++ number offset
kind_text st (forms.Elements n stride) = codes "Elements" ++ number n ++ number stride
kind_text st (forms.Block subobjects) = codes "Block" ++ flag subobjects (codes "subobjects")
kind_text st forms.Init = codes "Init"
kind_text st forms.Defer = codes "Defer"
kind_text st (forms.Loop first) = codes "Loop" ++ flag first (codes "test_first")
kind_text st forms.Switch = codes "Switch"
kind_text st (forms.Case w) = codes "Case" ++ number w
kind_text st forms.Default = codes "Default"
kind_text st forms.Break = codes "Break"
kind_text st forms.Continue = codes "Continue"
kind_text st forms.Return = codes "Return"
kind_text st forms.Try = codes "Try"
kind_text st (forms.Handler p) = codes "Handler" ++ place_number p
kind_text st (forms.Atomic kind) = codes "Atomic" ++ word (block_name kind)
kind_text st forms.Synchronized = codes "Synchronized"
kind_text st (forms.Destroy f offset n stride) = codes "Destroy" ++ function_symbol st f ++ number offset ++ number n ++ number stride
kind_text st (forms.Field offset kind) = codes "Field" ++ number offset ++ word (kind_name kind)

abbrev pub indent : ℕ → List ℕ
indent zero = []
indent (suc n) = 32 ∷ 32 ∷ indent n

abbrev pub category_name : Cat → List ℕ
category_name Lvalue = codes " l "
category_name Prvalue = codes " p "

abbrev pub type_name : State → Typ → List ℕ
type_name st (typ null c v) = codes "nullptr"
type_name st (typ (closure n) c v) = before c v ++ closure_text st n
type_name st (typ (ptr (typ (closure n) c v)) d w) = before c v ++ (closure_text st n ++ (codes "*" ++ behind d w))
type_name st (typ (array (typ (int kind) c v) n) d w) = type_spelling st.ctx.classes (typ (int kind) c v) ++ (codes "[" ++ (decimal n ++ codes "]"))
type_name st t = type_spelling st.ctx.classes t

abbrev pub is_untyped : Cat → Typ → Bool
is_untyped Prvalue (typ void false false) = true
is_untyped cat t = false

abbrev pub typed_text : State → Cat → Typ → Bool → List ℕ
typed_text st cat t true = []
typed_text st cat t false = category_name cat ++ type_name st t

abbrev mutual
  pub tree_text : State → ℕ → Tree → List ℕ
  tree_text st depth (node kind t cat at kids) = indent depth
      ++ (kind_text st kind ++ (codes " @" ++ (decimal at.offset ++ (typed_text st cat t (is_untyped cat t) ++ (10 ∷ trees_text st (suc depth) kids)))))

  pub trees_text : State → ℕ → Trees → List ℕ
  trees_text st depth none = []
  trees_text st depth (more t ts) = tree_text st depth t ++ trees_text st depth ts

abbrev pub frame_text : State → ℕ → List Typ → List ℕ
frame_text st i [] = []
frame_text st i (t ∷ ts) = codes "  frame " ++ (decimal i ++ (word (type_name st t) ++ (10 ∷ frame_text st (suc i) ts)))

abbrev pub body_text : State → Body → List ℕ
body_text st b = codes "function" ++ (function_symbol st b.func ++ (10 ∷ (frame_text st 0 b.frame ++ tree_text st 1 b.tree)))

abbrev pub bodies_text : State → List Body → List ℕ
bodies_text st [] = []
bodies_text st (b ∷ bs) = body_text st b ++ bodies_text st bs

-- the bodies of a unit as text, or the place of its fault
abbrev pub dumped : Result State ElabFault → List ℕ
dumped (Ok st) = bodies_text st st.bodies
dumped (Err (Ill at rule)) = codes "fault " ++ decimal at.offset
dumped (Err e) = codes "fault"
