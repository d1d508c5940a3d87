-- Programs that are judged by the definition: each in C++, as far as it matters beside its typed trees. Places are made up; they go upwards as in the text.
use Rattle.std.specs.Prelude.{ℕ, Bool, true, false, List, [], ◌∷◌, Option, Some, None}
use Rattle.cpp_tree.specs.tx_ints.declared.kinds.IntKind.TheVariants.{Int, ULong}
use Rattle.cpp_tree.specs.tx_ints.declared.kinds.BinOp.TheVariants.{Add}
use Rattle.cpp_tree.specs.tx_events.declared.BlockKind.TheVariants.{NoExcept}
use Rattle.cpp_tree.specs.cpp_types.Typ.{Typ, typ, int, class, ptr, func, void, signature, none as none_typs}
use Rattle.cpp_tree.specs.cpp_types.Class.{Class}
use Rattle.cpp_tree.specs.cpp_types.declared.classes.At.{At}
use Rattle.cpp_tree.specs.cpp_types.declared.classes.Safety.{Safety}
use Rattle.cpp_tree.specs.cpp_types.declared.classes.Safety.TheVariants.{None as Undeclared, Safe, Dynamic}
use Rattle.cpp_tree.specs.cpp_types.declared.ranks.Cat.TheVariants.{Lvalue, Prvalue}
use Rattle.cpp_tree.specs.declared.faults.UnsafeReason.{UnsafeReason}
use Rattle.cpp_tree.specs.declared.kinds.Builtin.TheVariants.{PutChar}
use Rattle.cpp_tree.specs.declared.kinds.TKind.{TKind}
use Rattle.cpp_tree.specs.declared.kinds.TKind.TheVariants.{Literal, Local, Global, Load, Assign, Update, Call, VirtualCall, PointerCall, Builtin, Construct}
use Rattle.cpp_tree.specs.declared.kinds.TKind.TheVariants.{Store, Block, Init, Atomic, Destroy, CopyConstruct, Materialize}
use Rattle.cpp_tree.specs.declared.program.FuncKind.{FuncKind}
use Rattle.cpp_tree.specs.declared.program.FuncKind.TheVariants.{Plain, Constructor, Destructor}
use Rattle.cpp_tree.specs.declared.program.Linkage.TheVariants.{External}
use Rattle.cpp_tree.specs.Trees.{Tree, node}
use Rattle.cpp_tree.specs.Notation.{plain, kids}
use Rattle.cpp_tree.specs.Units.{Param, Func, TypedProgram}
use Rattle.tx_unsafe.specs.declared.finding.Finding.{Finding}

abbrev pub at : ℕ → At
at n = record { source = 0; offset = n }

abbrev pub found : ℕ → UnsafeReason → Option Finding
found n reason = Some (record { at = at n; reason = reason })

-- Trees

abbrev pub stmt : ℕ → TKind → List Tree → Tree
stmt n kind ts = node kind (plain void) Prvalue (at n) (kids ts)

abbrev pub value : ℕ → TKind → Typ → List Tree → Tree
value n kind t ts = node kind t Prvalue (at n) (kids ts)

abbrev pub place : ℕ → TKind → Typ → List Tree → Tree
place n kind t ts = node kind t Lvalue (at n) (kids ts)

abbrev pub block : ℕ → List Tree → Tree
block n ts = stmt n (Block false) ts

abbrev pub atomic : ℕ → List Tree → Tree
atomic n ts = stmt n (Atomic NoExcept) (block n ts ∷ [])

abbrev pub number : ℕ → Tree
number n = value n (Literal 1) (plain (int Int)) []

abbrev pub put : ℕ → Tree
put n = value n (Builtin PutChar) (plain (int Int)) (number (n) ∷ [])

abbrev pub call : ℕ → ℕ → Tree
call n f = stmt n (Call f) []

abbrev pub volatile_int : Typ
volatile_int = typ (int Int) false true

-- Functions: a plain one with a body that ends at a place, and others with one part changed

abbrev pub written : ℕ → Tree → Func
written closed body = record {
  symbol = [];
  declared =
      record {
        name = [];
        signature = signature none_typs (plain void) false;
        is_const = false;
        is_virtual = false;
        is_override = false;
        is_final = false;
        pure_virtual = false;
        safety = Undeclared;
        considered = false;
        no_except = false;
        at = at closed;
      };
  linkage = External;
  text = [];
  kind = Plain;
  class =
      None;
  implicit = false;
  words = 0;
  params = [];
  frame = [];
  body = Some body;
  closed_at = closed;
}

abbrev pub as_kind : FuncKind → ℕ → Func → Func
as_kind kind n f = record f { kind = kind; class = Some n }

abbrev pub as_implicit : Func → Func
as_implicit f = record f { implicit = true }

abbrev pub as_virtual : Func → Func
as_virtual f = record f { declared = record f.declared { is_virtual = true } }

abbrev pub as_considered : Func → Func
as_considered f = record f { declared = record f.declared { is_virtual = true; considered = true } }

abbrev pub promised : Safety → Func → Func
promised s f = record f { declared = record f.declared { safety = s } }

abbrev pub with_param : Param → Func → Func
with_param p f = record f { params = p ∷ [] }

-- Programs of one unit

-- a class with one member
abbrev pub class_with : Option ℕ → Typ → Class
class_with base t = record { name = []; base = base; members = record { name = []; typ = t } ∷ []; functions = []; is_final = false; complete = Some 0 }

abbrev pub program : List Class → List Func → TypedProgram
program classes funcs = record { units = record { funcs = funcs; globals = []; classes = [] } ∷ []; classes = classes; slots = [] }

-- three-unsafe

-- `atomic_noexcept { putchar(65); }`
abbrev pub puts_inside : TypedProgram
puts_inside = program [] (written 90 (block 11 (atomic 13 (put 31 ∷ []) ∷ [])) ∷ [])

-- the nearest that is not: `atomic_noexcept { } putchar(65);`
abbrev pub puts_behind : TypedProgram
puts_behind = program [] (written 90 (block 11 (atomic 13 [] ∷ put 50 ∷ [])) ∷ [])

-- `x = v;` with a volatile v
abbrev pub load : ℕ → Tree
load n = value n (Load Int true) (plain (int Int)) (place n (Global 0) volatile_int [] ∷ [])

abbrev pub reads_inside : TypedProgram
reads_inside = program [] (written 90 (block 30 (atomic 36
    (place 54 (Assign Int false) (plain (int Int)) (place 54 (Local 0) (plain (int Int)) [] ∷ load 58 ∷ []) ∷ []) ∷ [])) ∷ [])

-- `v += 1;`: the write comes before the read
abbrev pub updates_inside : TypedProgram
updates_inside = program [] (written 90 (block 30 (atomic 36
    (place 47 (Update Add Int Int true false) volatile_int (place 47 (Global 0) volatile_int [] ∷ number 52 ∷ []) ∷ []) ∷ [])) ∷ [])

-- `struct C { virtual ~C() {} }; .. atomic_noexcept { C c; }`: the constructor is implicit and safe, the destructor is not, since it is virtual
abbrev pub object : ℕ → (constructor destructor : ℕ) → Tree
object n constructor destructor = stmt n Init (place n (Local 0) (plain (class 0)) [] ∷ value n (Construct constructor) (plain (class 0)) [] ∷ stmt n
    (Destroy destructor 0 1 0) [] ∷ [])

abbrev pub plain_class : List Class
plain_class = class_with None (plain (int Int)) ∷ []

abbrev pub virtual_destructor : TypedProgram
virtual_destructor = program plain_class (
    as_implicit (as_kind Constructor 0 (written 29 (block 8 []))) ∷ as_virtual (as_kind Destructor 0 (written 26 (block 24 [])))
    ∷ written 90 (block 40 (atomic 42 (object 63 0 1 ∷ []) ∷ [])) ∷ [])

abbrev pub plain_destructor : TypedProgram
plain_destructor = program plain_class (
    as_implicit (as_kind Constructor 0 (written 29 (block 8 []))) ∷ as_kind Destructor 0 (written 26 (block 24 []))
    ∷ written 90 (block 40 (atomic 42 (object 63 0 1 ∷ []) ∷ [])) ∷ [])

-- recursion-and-later-definition

-- `int f(int x) { .. f(x - 1) .. } .. atomic_noexcept { f(3); }`
abbrev pub recursion : TypedProgram
recursion = program [] (written 57 (block 11 (call 48 0 ∷ [])) ∷ written 99 (block 70 (atomic 72 (call 90 0 ∷ []) ∷ put 95 ∷ [])) ∷ [])

-- the same where f also writes: its own call in a block of its own is no safe one, though it stands in its own body
abbrev pub unsafe_recursion : TypedProgram
unsafe_recursion = program [] (written 57 (block 11 (atomic 20 (call 30 0 ∷ []) ∷ put 48 ∷ [])) ∷ [])

abbrev pub recursion_inside : TypedProgram
recursion_inside = program [] (written 57 (block 11 (atomic 20 (call 30 0 ∷ []) ∷ [])) ∷ [])

-- `int g(int x); int f(int x) { .. g(x - 1) } int g(int x) { return f(x); } .. atomic_noexcept { f(1); }`
abbrev pub mutual_pair : TypedProgram
mutual_pair = program [] (written 97 (block 80 (call 88 1 ∷ [])) ∷ written 60 (block 28 (call 50 0 ∷ [])) ∷ written 149
    (block 111 (atomic 113 (call 129 1 ∷ []) ∷ [])) ∷ [])

-- a call of a function that is defined behind it
abbrev pub called_early : TypedProgram
called_early = program [] (written 80 (block 70 []) ∷ written 60 (block 20 (atomic 22 (call 40 0 ∷ []) ∷ [])) ∷ [])

-- implicit members are judged where they are called: `struct D { ~D(); }; struct S { D d; }; D::~D() { } .. { S s; }`, and the same in front of the definition
abbrev pub implicit_destructor : (at_use : ℕ) → TypedProgram
implicit_destructor n = program plain_class (
    as_kind Destructor 0 (written 60 (block 55 [])) ∷ as_implicit (as_kind Destructor 0 (written 20 (block 25 (stmt 25 (Destroy 0 0 1 0) [] ∷ []))))
    ∷ written 90 (block 40 (atomic 42 (stmt n (Destroy 1 0 1 0) [] ∷ []) ∷ [])) ∷ [])

-- Overriders

-- `virtual void f() transaction_safe_dynamic`: a virtual call of it is safe, of a virtual function without the word it is not
abbrev pub virtual_call : Func → TypedProgram
virtual_call f = program [] (f ∷ promised Safe (written 90 (block 40 (stmt 50 (VirtualCall 0 0 0 0) [] ∷ []))) ∷ [])

abbrev pub quiet_virtual : Func
quiet_virtual = as_virtual (written 30 (block 20 []))

-- an overrider of what is declared safe has to be safe itself, and so has a dynamic function
abbrev pub loud : Func
loud = as_virtual (written 30 (block 20 (put 25 ∷ [])))

abbrev pub only : Func → TypedProgram
only f = program [] (f ∷ [])

-- Lambdas are functions of their own: `auto g = []() { putchar('a'); }; atomic_commit { g(); }`, without the call, and declared safe
abbrev pub lambda_called : TypedProgram
lambda_called = program [] (written 45 (block 29 (put 30 ∷ [])) ∷ written 90 (block 11 (atomic 46 (call 60 0 ∷ []) ∷ [])) ∷ [])

-- Volatile objects

-- a class with a volatile part, and one that holds the first
abbrev pub volatile_classes : List Class
volatile_classes = class_with None (plain (class 1)) ∷ class_with None volatile_int ∷ []

-- `S s;` in a block
abbrev pub variable : Typ → Tree
variable t = stmt 50 Init (place 50 (Local 0) t [] ∷ value 52 (Store Int false) t (number 52 ∷ []) ∷ [])

abbrev pub declares : Typ → TypedProgram
declares t = program volatile_classes (written 90 (block 40 (atomic 42 (variable t ∷ []) ∷ [])) ∷ [])

abbrev pub makes : Typ → TypedProgram
makes t = program volatile_classes (written 90 (block 40 (atomic 42 (place 50 (Materialize 0 false) t (number 50 ∷ []) ∷ []) ∷ [])) ∷ [])

abbrev pub takes : Typ → TypedProgram
takes t = program volatile_classes (with_param (record { typ = t; at = at 21 }) (promised Safe (written 90 (block 40 []))) ∷ [])

-- a constructor of a class with a volatile part
abbrev pub constructs : ℕ → TypedProgram
constructs n = program (class_with None (plain (int Int)) ∷ class_with None volatile_int ∷ [])
    (promised Safe (as_kind Constructor n (written 30 (block 28 []))) ∷ [])

-- A call through a pointer whose type has `transaction_safe` or not

abbrev pub through_pointer : Bool → TypedProgram
through_pointer safe = program [] (written 90 (block 40
    (atomic 42 (stmt 50 PointerCall (value 50 (Load ULong false) (plain (ptr (plain (func (signature none_typs (plain void) safe))))) [] ∷ []) ∷ []) ∷ []))
    ∷ [])
