-- Trees that are well-formed, and for each rule the nearest ones that are not. All stand in
--
--     int x; struct D { int v; D(int); ~D(); }; struct W : D { virtual void h(); };   void g(D, int&);   D k();
--     int f(int p) { D d(..); int i; int j; W w(..); auto l = [&i, d] { .. }; const D c = k(); .. }
use Rattle.std.specs.Prelude.{ℕ, Bool, true, false, List, [], ◌∷◌, Option, Some, None, map}
use Rattle.tx_ints.specs.declared.kinds.IntKind.TheVariants.{Bool as BoolKind, Int, ULong}
use Rattle.tx_ints.specs.declared.kinds.BinOp.TheVariants.{Add}
use Rattle.cpp_layout.specs.cpp_types.Typ.{Typ, typ, int, ptr, ref, class, closure, void, Typs, signature, none as none_typs, more as more_typs}
use Rattle.cpp_layout.specs.cpp_types.Class.{Class, Member, Function}
use Rattle.cpp_layout.specs.cpp_types.declared.classes.Safety.TheVariants.{None as Unsaid}
use Rattle.cpp_tree.specs.declared.kinds.TKind.TheVariants.{Literal, Local, Load, Binary, Conditional, Materialize, Throw, Call, VirtualCall, Store, Construct}
use Rattle.cpp_tree.specs.declared.kinds.TKind.TheVariants.{Pieces, Piece, Block, Init, Loop, Switch, Return, Destroy, Field}
use Rattle.cpp_tree.specs.declared.program.FuncKind.{FuncKind}
use Rattle.cpp_tree.specs.declared.program.FuncKind.TheVariants.{Plain, Constructor, Destructor}
use Rattle.cpp_tree.specs.declared.program.Linkage.TheVariants.{External}
use Rattle.cpp_tree.specs.declared.roles.Role.TheVariants.{BlockItem}
use Rattle.cpp_tree.specs.Trees.{Tree, nowhere}
use Rattle.cpp_tree.specs.Units.{Func, SlotFunc}
use Rattle.cpp_tree.specs.Notation.{plain, effect, prvalue, lvalue}
use Rattle.cpp_tree.specs.Rows.{Setting}
use Rattle.cpp_tree.specs.WellFormed.{outermost, fits, body_fits}

abbrev pub declared_as : (virtual : Bool) → Typs → Typ → Function
declared_as virtual typs result = record {
  name = [];
  signature = signature typs result false;
  is_const = false;
  is_virtual = virtual;
  is_override = false;
  is_final = false;
  pure_virtual = false;
  safety = Unsaid;
  considered = false;
  no_except = false;
  at = nowhere;
}

abbrev pub func : FuncKind → Option ℕ → Typ → Typs → List Typ → ℕ → List Typ → Func
func kind owner result typs params words frame = record {
  symbol = [];
  declared = declared_as false typs result;
  linkage = External;
  text = [];
  kind = kind;
  class = owner;
  implicit = false;
  words = words;
  params = map (λ (t : Typ). record { typ = t; at = nowhere }) params;
  frame = frame;
  body = None;
  closed_at =
      0;
}

abbrev pub int_type : Typ
int_type = plain (int Int)

abbrev pub d : Typ
d = plain (class 0)

abbrev pub w : Typ
w = plain (class 1)

abbrev pub lambda : Typ
lambda = plain (closure 2)

abbrev pub const_d : Typ
const_d = typ (class 0) true false

-- the function f, in whose body the trees stand: its words and then d, i, j, w, l and c
abbrev pub f : Func
f = func Plain None int_type (more_typs int_type none_typs) (int_type ∷ []) 1 (int_type ∷ d ∷ int_type ∷ int_type ∷ w ∷ lambda ∷ const_d ∷ [])

-- the function k, which has an object as its result
abbrev pub k : Func
k = func Plain None d none_typs [] 1 (plain (ptr d) ∷ [])

abbrev pub h : Func
h = record (func Plain (Some 1) (plain void) none_typs [] 1 []) { declared = declared_as true none_typs (plain void) }

abbrev pub member_of : Typ → Member
member_of t = record { name = []; typ = t }

-- D, W and the lambda's class
abbrev pub classes : List Class
classes = record { name = []; base = None; members = member_of int_type ∷ []; functions = []; is_final = false; complete = Some 0 }
    ∷ record { name = []; base = Some 0; members = []; functions = declared_as true none_typs (plain void) ∷ []; is_final = false; complete = Some 1 }
    ∷ record { name = []; base = None; members = member_of (plain (ref int_type)) ∷ member_of d ∷ []; functions = []; is_final = false; complete = Some 2 }
    ∷ []

abbrev pub funcs : List Func
funcs = f
    ∷ func Constructor (Some 0) (plain void) (more_typs int_type none_typs) (int_type ∷ []) 2 []
    ∷ func Destructor (Some 0) (plain void) none_typs [] 1 []
    ∷ func Plain None (plain void) (more_typs d (more_typs (plain (ref int_type)) none_typs)) (d ∷ plain (ref int_type) ∷ []) 2 []
    ∷ h
    ∷ k
    ∷ []

abbrev pub slots : List (List SlotFunc)
slots = []
    ∷ (record { name = []; signature = signature none_typs (plain void) false; class = 1; func = 0; safe = false; dynamic = false }
    ∷ [])
    ∷ []
    ∷ []

abbrev pub setting_in : Func → Setting
setting_in function = record {
  classes = classes;
  slots = slots;
  funcs = funcs;
  globals = record { symbol = []; typ = int_type; linkage = External; init = []; defined = true }
      ∷ [];
  function = function;
}

abbrev pub setting : Setting
setting = setting_in f

-- right in a block of f
abbrev pub item_fits : Tree → Bool
item_fits t = fits setting outermost BlockItem t

-- right in a block of k
abbrev pub item_of_k_fits : Tree → Bool
item_of_k_fits t = fits (setting_in k) outermost BlockItem t

-- Parts

abbrev pub number : ℕ → Tree
number n = prvalue (Literal n) int_type []

abbrev pub place : ℕ → Tree
place n = lvalue (Local n) int_type []

abbrev pub read : Tree → Tree
read a = prvalue (Load Int false) int_type (a ∷ [])

abbrev pub returned : Tree → Tree
returned e = effect Return (e ∷ [])

abbrev pub block : List Tree → Tree
block ts = effect (Block false) ts

abbrev pub build : Tree
build = prvalue (Construct 1) d (number 1 ∷ [])

abbrev pub destroy : Tree
destroy = effect (Destroy 2 0 1 0) []

-- `const D c = ..;`
abbrev pub constant : Tree → Tree
constant init = effect Init (lvalue (Local 6) const_d [] ∷ init ∷ destroy ∷ [])

-- `k()`
abbrev pub call_of_k : Tree
call_of_k = prvalue (Call 5) d []

abbrev pub variable : ℕ → Tree → Tree
variable n init = effect Init (place n ∷ init ∷ [])

abbrev pub stored : ℕ → Tree
stored n = prvalue (Store Int false) int_type (number n ∷ [])

abbrev pub temporary : List Tree → Tree
temporary destroys = lvalue (Materialize 1 false) d (build ∷ destroys)

-- the member of a temporary
abbrev pub member : Tree → Tree
member object = read (lvalue (Binary Add ULong) int_type (object ∷ prvalue (Literal 0) (plain (int ULong)) [] ∷ []))

abbrev pub argument : Tree
argument = lvalue (Materialize 1 true) d (build ∷ destroy ∷ [])

abbrev pub loop : List Tree → Tree
loop ts = effect (Loop true) (prvalue (Literal 1) (plain (int BoolKind)) [] ∷ block ts ∷ block [] ∷ [])

abbrev pub switch : List Tree → Tree
switch ts = effect Switch (number 1 ∷ ts)

abbrev pub thrown : List Tree → Tree
thrown fields = prvalue Throw int_type (number 5 ∷ fields)

abbrev pub field : ℕ → Tree
field offset = effect (Field offset Int) []

abbrev pub when : Tree → Tree
when t = effect Conditional (prvalue (Literal 1) (plain (int BoolKind)) [] ∷ t ∷ block [] ∷ [])

-- `w.h()`, where objects of W have their class pointer at an offset
abbrev pub virtual_call : ℕ → Tree
virtual_call pointer = effect (VirtualCall 4 1 0 pointer) (lvalue (Local 4) w [] ∷ [])

-- `throw d;`
abbrev pub thrown_object : List Tree → Tree
thrown_object fields = prvalue Throw d (lvalue (Local 1) d [] ∷ fields)

abbrev pub capture : ℕ → Typ → Tree → Tree
capture offset t init = prvalue (Piece offset) t (init ∷ [])

-- `auto l = [&i, d] { .. };`, with these destructions
abbrev pub lambda_variable : List Tree → Tree
lambda_variable destroys = effect Init (lvalue (Local 5) lambda [] ∷ prvalue Pieces lambda
    (capture 0 (plain (ref int_type)) (prvalue (Store ULong false) (plain (ref int_type)) (place 2 ∷ []))
    ∷ capture 8 d build
    ∷ []) ∷ destroys)

abbrev pub destroy_at : ℕ → Tree
destroy_at offset = effect (Destroy 2 offset 1 0) []

-- the zeros at the end of k, with the member at an offset
abbrev pub no_result : ℕ → Tree
no_result offset = effect Init (prvalue (Load ULong false) (plain void) (lvalue (Local 0) (plain (ptr d)) [] ∷ []) ∷ effect Pieces
    (effect (Piece offset) (effect (Store Int false) (number 0 ∷ []) ∷ [])
    ∷ []) ∷ [])

-- Bodies of f: the block in which the statements stand ends in a `return`
abbrev pub body : List Tree → Bool
body ts = body_fits setting (block ts)
