-- Worked programs on objects: each in C++, its functions as typed trees, and its events but the silent ones, which it ends with.
use Rattle.std.specs.Prelude.{pos, true, false, List, [], ◌∷◌, Some, None, codes}
use Rattle.cpp_tree.specs.tx_ints.declared.kinds.IntKind.TheVariants.{Bool as BoolKind, Char, Int, ULong}
use Rattle.cpp_tree.specs.tx_ints.declared.kinds.BinOp.TheVariants.{Add}
use Rattle.cpp_tree.specs.tx_events.declared.BlockKind.TheVariants.{NoExcept}
use Rattle.cpp_tree.specs.tx_events.declared.End.TheVariants.{Exit}
use Rattle.cpp_tree.specs.tx_events.declared.Event.{Event}
use Rattle.cpp_tree.specs.tx_events.declared.Event.TheVariants.{Load as Reads, Store as Writes, Out, BeginAtomic, EndAtomic, Stop}
use Rattle.cpp_tree.specs.cpp_types.Typ.{int, ptr, ref, class, closure, void, signature, none as none_typs, more as more_typs}
use Rattle.cpp_tree.specs.declared.kinds.Builtin.TheVariants.{PutChar}
use Rattle.cpp_tree.specs.declared.kinds.TKind.TheVariants.{Literal, Local, ClassTable, Load, Convert, Retype, Binary, Conditional, Assign, Update, Materialize}
use Rattle.cpp_tree.specs.declared.kinds.TKind.TheVariants.{FullExpression, Call, VirtualCall, Builtin, Throw, Store, Construct, Pieces, Piece, Block, Init}
use Rattle.cpp_tree.specs.declared.kinds.TKind.TheVariants.{Defer, Return, Try, Handler, Atomic, Destroy, Field}
use Rattle.cpp_tree.specs.declared.program.FuncKind.TheVariants.{Plain, Constructor, Destructor, ClosureCall}
use Rattle.cpp_tree.specs.Units.{Func, TypedProgram}
use Rattle.cpp_tree.specs.Notation.{plain, const, effect, prvalue, lvalue}
use Rattle.src_mean.specs.Notation.{defined, class_of, slot_of, one_unit}

--     struct D { int k; D(int x) : k(x) { } ~D() { putchar('0' + k); } };
--     int main() { D a(1); { D b(2); D c(3); } return 0; }

-- D::D(int)
abbrev pub destruction_0 : Func
destruction_0 = defined (codes "D::D(int)") (codes "D") Constructor (Some 0)
    (signature (more_typs (plain (int Int)) none_typs) (plain void) false) false false 2
    ((plain (int Int)) ∷ []) ((plain (ptr (plain (class 0)))) ∷ (plain (int Int)) ∷ []) (
    effect (Block true) (
    (effect Init (
    (lvalue (Binary Add ULong) (plain (int Int)) (
    (prvalue (Load ULong false) (plain (ptr (plain (class 0)))) ((lvalue (Local 0) (plain (ptr (plain (class 0)))) []) ∷ [])) ∷
    (prvalue (Literal 0) (plain (int ULong)) []) ∷ [])) ∷
    (prvalue (Store Int false) (plain (int Int)) (
    (prvalue (Load Int false) (plain (int Int)) ((lvalue (Local 1) (plain (int Int)) []) ∷ [])) ∷ [])) ∷ [])) ∷
    (effect (Block false) []) ∷ []))

-- D::~D()
abbrev pub destruction_1 : Func
destruction_1 = defined (codes "D::~D()") (codes "~D") Destructor (Some 0)
    (signature none_typs (plain void) false) false true 1
    [] ((plain (ptr (plain (class 0)))) ∷ []) (
    effect (Block false) (
    (effect (Block false) (
    (prvalue (Builtin PutChar) (plain (int Int)) (
    (prvalue (Binary Add Int) (plain (int Int)) (
    (prvalue (Convert Int) (plain (int Int)) ((prvalue (Literal 48) (plain (int Char)) []) ∷ [])) ∷
    (prvalue (Load Int false) (plain (int Int)) (
    (lvalue (Binary Add ULong) (plain (int Int)) (
    (lvalue Retype (plain (class 0)) (
    (prvalue (Load ULong false) (plain (ptr (plain (class 0)))) ((lvalue (Local 0) (plain (ptr (plain (class 0)))) []) ∷ [])) ∷ [])) ∷
    (prvalue (Literal 0) (plain (int ULong)) []) ∷ [])) ∷ [])) ∷ [])) ∷ [])) ∷ [])) ∷ []))

-- main()
abbrev pub destruction_main : Func
destruction_main = defined (codes "main()") (codes "main") Plain None
    (signature none_typs (plain (int Int)) false) false false 0
    [] ((plain (class 0)) ∷ (plain (class 0)) ∷ (plain (class 0)) ∷ []) (
    effect (Block false) (
    (effect Init (
    (lvalue (Local 0) (plain (class 0)) []) ∷
    (prvalue (Construct 0) (plain (class 0)) ((prvalue (Literal 1) (plain (int Int)) []) ∷ [])) ∷
    (effect (Destroy 1 0 1 0) []) ∷ [])) ∷
    (effect (Block false) (
    (effect Init (
    (lvalue (Local 1) (plain (class 0)) []) ∷
    (prvalue (Construct 0) (plain (class 0)) ((prvalue (Literal 2) (plain (int Int)) []) ∷ [])) ∷
    (effect (Destroy 1 0 1 0) []) ∷ [])) ∷
    (effect Init (
    (lvalue (Local 2) (plain (class 0)) []) ∷
    (prvalue (Construct 0) (plain (class 0)) ((prvalue (Literal 3) (plain (int Int)) []) ∷ [])) ∷
    (effect (Destroy 1 0 1 0) []) ∷ [])) ∷ [])) ∷
    (effect Return ((prvalue (Literal 0) (plain (int Int)) []) ∷ [])) ∷
    (effect Return ((prvalue (Literal 0) (plain (int Int)) []) ∷ [])) ∷ []))

abbrev pub destruction : TypedProgram
destruction = one_unit
    (destruction_0 ∷ destruction_1 ∷ destruction_main ∷ [])
    []
    ((class_of (codes "D") None ((plain (int Int)) ∷ []) false 0) ∷ [])
    ([] ∷ [])

abbrev pub destruction_events : List Event
destruction_events =
    (Writes 16777232 8 16777216 false) ∷ (Writes 16777240 4 1 false) ∷ (Reads 16777232 8 false) ∷ (Reads 16777240 4 false) ∷
    (Writes 16777216 4 1 false) ∷ (Writes 16777232 8 16777220 false) ∷ (Writes 16777240 4 2 false) ∷ (Reads 16777232 8 false) ∷
    (Reads 16777240 4 false) ∷ (Writes 16777220 4 2 false) ∷ (Writes 16777232 8 16777224 false) ∷ (Writes 16777240 4 3 false) ∷
    (Reads 16777232 8 false) ∷ (Reads 16777240 4 false) ∷ (Writes 16777224 4 3 false) ∷ (Writes 16777232 8 16777224 false) ∷
    (Reads 16777232 8 false) ∷ (Reads 16777224 4 false) ∷ (Out 51) ∷ (Writes 16777232 8 16777220 false) ∷ (Reads 16777232 8 false) ∷
    (Reads 16777220 4 false) ∷ (Out 50) ∷ (Writes 16777232 8 16777216 false) ∷ (Reads 16777232 8 false) ∷ (Reads 16777216 4 false) ∷
    (Out 49) ∷ (Stop (Exit (pos 0))) ∷ []

--     struct D { int k; D(int x) : k(x) { } ~D() { putchar('0' + k); } };
--     struct M { D a; D b; M() : a(1), b(2) { throw 5; } }; int main() { try { M m; } catch (int) { putchar('x'); } return 0; }

-- D::D(int)
abbrev pub destruction_of_parts_0 : Func
destruction_of_parts_0 = defined (codes "D::D(int)") (codes "D") Constructor (Some 0)
    (signature (more_typs (plain (int Int)) none_typs) (plain void) false) false false 2
    ((plain (int Int)) ∷ []) ((plain (ptr (plain (class 0)))) ∷ (plain (int Int)) ∷ []) (
    effect (Block true) (
    (effect Init (
    (lvalue (Binary Add ULong) (plain (int Int)) (
    (prvalue (Load ULong false) (plain (ptr (plain (class 0)))) ((lvalue (Local 0) (plain (ptr (plain (class 0)))) []) ∷ [])) ∷
    (prvalue (Literal 0) (plain (int ULong)) []) ∷ [])) ∷
    (prvalue (Store Int false) (plain (int Int)) (
    (prvalue (Load Int false) (plain (int Int)) ((lvalue (Local 1) (plain (int Int)) []) ∷ [])) ∷ [])) ∷ [])) ∷
    (effect (Block false) []) ∷ []))

-- D::~D()
abbrev pub destruction_of_parts_1 : Func
destruction_of_parts_1 = defined (codes "D::~D()") (codes "~D") Destructor (Some 0)
    (signature none_typs (plain void) false) false true 1
    [] ((plain (ptr (plain (class 0)))) ∷ []) (
    effect (Block false) (
    (effect (Block false) (
    (prvalue (Builtin PutChar) (plain (int Int)) (
    (prvalue (Binary Add Int) (plain (int Int)) (
    (prvalue (Convert Int) (plain (int Int)) ((prvalue (Literal 48) (plain (int Char)) []) ∷ [])) ∷
    (prvalue (Load Int false) (plain (int Int)) (
    (lvalue (Binary Add ULong) (plain (int Int)) (
    (lvalue Retype (plain (class 0)) (
    (prvalue (Load ULong false) (plain (ptr (plain (class 0)))) ((lvalue (Local 0) (plain (ptr (plain (class 0)))) []) ∷ [])) ∷ [])) ∷
    (prvalue (Literal 0) (plain (int ULong)) []) ∷ [])) ∷ [])) ∷ [])) ∷ [])) ∷ [])) ∷ []))

-- M::M()
abbrev pub destruction_of_parts_2 : Func
destruction_of_parts_2 = defined (codes "M::M()") (codes "M") Constructor (Some 1)
    (signature none_typs (plain void) false) false false 1
    [] ((plain (ptr (plain (class 1)))) ∷ []) (
    effect (Block true) (
    (effect Init (
    (lvalue (Binary Add ULong) (plain (class 0)) (
    (prvalue (Load ULong false) (plain (ptr (plain (class 1)))) ((lvalue (Local 0) (plain (ptr (plain (class 1)))) []) ∷ [])) ∷
    (prvalue (Literal 0) (plain (int ULong)) []) ∷ [])) ∷
    (prvalue (Construct 0) (plain (class 0)) ((prvalue (Literal 1) (plain (int Int)) []) ∷ [])) ∷
    (effect (Destroy 1 0 1 0) []) ∷ [])) ∷
    (effect Init (
    (lvalue (Binary Add ULong) (plain (class 0)) (
    (prvalue (Load ULong false) (plain (ptr (plain (class 1)))) ((lvalue (Local 0) (plain (ptr (plain (class 1)))) []) ∷ [])) ∷
    (prvalue (Literal 4) (plain (int ULong)) []) ∷ [])) ∷
    (prvalue (Construct 0) (plain (class 0)) ((prvalue (Literal 2) (plain (int Int)) []) ∷ [])) ∷
    (effect (Destroy 1 0 1 0) []) ∷ [])) ∷
    (effect (Block false) (
    (prvalue Throw (plain (int Int)) ((prvalue (Literal 5) (plain (int Int)) []) ∷ (effect (Field 0 Int) []) ∷ [])) ∷ [])) ∷ []))

-- M::~M()
abbrev pub destruction_of_parts_3 : Func
destruction_of_parts_3 = defined (codes "M::~M()") (codes "~M") Destructor (Some 1)
    (signature none_typs (plain void) false) false true 1
    [] ((plain (ptr (plain (class 1)))) ∷ []) (
    effect (Block false) (
    (effect Defer (
    (lvalue (Binary Add ULong) (plain (class 0)) (
    (prvalue (Load ULong false) (plain (ptr (plain (class 1)))) ((lvalue (Local 0) (plain (ptr (plain (class 1)))) []) ∷ [])) ∷
    (prvalue (Literal 0) (plain (int ULong)) []) ∷ [])) ∷
    (effect (Destroy 1 0 1 0) []) ∷ [])) ∷
    (effect Defer (
    (lvalue (Binary Add ULong) (plain (class 0)) (
    (prvalue (Load ULong false) (plain (ptr (plain (class 1)))) ((lvalue (Local 0) (plain (ptr (plain (class 1)))) []) ∷ [])) ∷
    (prvalue (Literal 4) (plain (int ULong)) []) ∷ [])) ∷
    (effect (Destroy 1 0 1 0) []) ∷ [])) ∷
    (effect (Block false) []) ∷ []))

-- main()
abbrev pub destruction_of_parts_main : Func
destruction_of_parts_main = defined (codes "main()") (codes "main") Plain None
    (signature none_typs (plain (int Int)) false) false false 0
    [] ((plain (class 1)) ∷ []) (
    effect (Block false) (
    (effect Try (
    (effect (Block false) (
    (effect Init (
    (lvalue (Local 0) (plain (class 1)) []) ∷
    (prvalue (Construct 2) (plain (class 1)) []) ∷
    (effect (Destroy 3 0 1 0) []) ∷ [])) ∷ [])) ∷
    (prvalue (Handler None) (plain (int Int)) (
    (effect (Block false) (
    (prvalue (Builtin PutChar) (plain (int Int)) (
    (prvalue (Convert Int) (plain (int Int)) ((prvalue (Literal 120) (plain (int Char)) []) ∷ [])) ∷ [])) ∷ [])) ∷ [])) ∷ [])) ∷
    (effect Return ((prvalue (Literal 0) (plain (int Int)) []) ∷ [])) ∷
    (effect Return ((prvalue (Literal 0) (plain (int Int)) []) ∷ [])) ∷ []))

abbrev pub destruction_of_parts : TypedProgram
destruction_of_parts = one_unit
    (destruction_of_parts_0 ∷ destruction_of_parts_1 ∷ destruction_of_parts_2 ∷ destruction_of_parts_3 ∷ destruction_of_parts_main ∷ [])
    []
    ((class_of (codes "D") None ((plain (int Int)) ∷ []) false 0) ∷ (class_of (codes "M") None ((plain (class 0)) ∷ (plain (class 0)) ∷ []) false 1) ∷ [])
    ([] ∷ [] ∷ [])

abbrev pub destruction_of_parts_events : List Event
destruction_of_parts_events =
    (Writes 16777232 8 16777216 false) ∷ (Reads 16777232 8 false) ∷ (Writes 16777248 8 16777216 false) ∷ (Writes 16777256 4 1 false) ∷
    (Reads 16777248 8 false) ∷ (Reads 16777256 4 false) ∷ (Writes 16777216 4 1 false) ∷ (Reads 16777232 8 false) ∷
    (Writes 16777248 8 16777220 false) ∷ (Writes 16777256 4 2 false) ∷ (Reads 16777248 8 false) ∷ (Reads 16777256 4 false) ∷
    (Writes 16777220 4 2 false) ∷ (Writes 16777248 8 16777220 false) ∷ (Reads 16777248 8 false) ∷ (Reads 16777220 4 false) ∷ (Out 50) ∷
    (Writes 16777248 8 16777216 false) ∷ (Reads 16777248 8 false) ∷ (Reads 16777216 4 false) ∷ (Out 49) ∷ (Out 120) ∷
    (Stop (Exit (pos 0))) ∷ []

--     struct A { A() { f(); } virtual void f() { putchar('A'); } }; struct B : A { void f() { putchar('B'); } }; int main() { B b; b.f(); return 0; }

-- A::A()
abbrev pub virtual_in_constructor_0 : Func
virtual_in_constructor_0 = defined (codes "A::A()") (codes "A") Constructor (Some 0)
    (signature none_typs (plain void) false) false false 1
    [] ((plain (ptr (plain (class 0)))) ∷ []) (
    effect (Block true) (
    (lvalue (Assign ULong false) (plain (int ULong)) (
    (lvalue (Binary Add ULong) (plain (int ULong)) (
    (prvalue (Load ULong false) (plain (ptr (plain (class 0)))) ((lvalue (Local 0) (plain (ptr (plain (class 0)))) []) ∷ [])) ∷
    (prvalue (Literal 0) (plain (int ULong)) []) ∷ [])) ∷
    (prvalue (ClassTable 0) (plain (int ULong)) []) ∷ [])) ∷
    (effect (Block false) (
    (effect (VirtualCall 1 0 0 0) (
    (lvalue Retype (plain (class 0)) (
    (prvalue (Load ULong false) (plain (ptr (plain (class 0)))) ((lvalue (Local 0) (plain (ptr (plain (class 0)))) []) ∷ [])) ∷ [])) ∷ [])) ∷ [])) ∷ []))

-- A::f()
abbrev pub virtual_in_constructor_1 : Func
virtual_in_constructor_1 = defined (codes "A::f()") (codes "f") Plain (Some 0)
    (signature none_typs (plain void) false) true false 1
    [] ((plain (ptr (plain (class 0)))) ∷ []) (
    effect (Block false) (
    (prvalue (Builtin PutChar) (plain (int Int)) (
    (prvalue (Convert Int) (plain (int Int)) ((prvalue (Literal 65) (plain (int Char)) []) ∷ [])) ∷ [])) ∷ []))

-- B::B()
abbrev pub virtual_in_constructor_2 : Func
virtual_in_constructor_2 = defined (codes "B::B()") (codes "B") Constructor (Some 1)
    (signature none_typs (plain void) false) false false 1
    [] ((plain (ptr (plain (class 1)))) ∷ []) (
    effect (Block true) (
    (effect Init (
    (lvalue (Load ULong false) (plain (class 0)) ((lvalue (Local 0) (plain (ptr (plain (class 1)))) []) ∷ [])) ∷
    (prvalue (Construct 0) (plain (class 0)) []) ∷ [])) ∷
    (lvalue (Assign ULong false) (plain (int ULong)) (
    (lvalue (Binary Add ULong) (plain (int ULong)) (
    (prvalue (Load ULong false) (plain (ptr (plain (class 1)))) ((lvalue (Local 0) (plain (ptr (plain (class 1)))) []) ∷ [])) ∷
    (prvalue (Literal 0) (plain (int ULong)) []) ∷ [])) ∷
    (prvalue (ClassTable 1) (plain (int ULong)) []) ∷ [])) ∷
    (effect (Block false) []) ∷ []))

-- B::f()
abbrev pub virtual_in_constructor_3 : Func
virtual_in_constructor_3 = defined (codes "B::f()") (codes "f") Plain (Some 1)
    (signature none_typs (plain void) false) true false 1
    [] ((plain (ptr (plain (class 1)))) ∷ []) (
    effect (Block false) (
    (prvalue (Builtin PutChar) (plain (int Int)) (
    (prvalue (Convert Int) (plain (int Int)) ((prvalue (Literal 66) (plain (int Char)) []) ∷ [])) ∷ [])) ∷ []))

-- main()
abbrev pub virtual_in_constructor_main : Func
virtual_in_constructor_main = defined (codes "main()") (codes "main") Plain None
    (signature none_typs (plain (int Int)) false) false false 0
    [] ((plain (class 1)) ∷ []) (
    effect (Block false) (
    (effect Init ((lvalue (Local 0) (plain (class 1)) []) ∷ (prvalue (Construct 2) (plain (class 1)) []) ∷ [])) ∷
    (effect (VirtualCall 3 1 0 0) ((lvalue (Local 0) (plain (class 1)) []) ∷ [])) ∷
    (effect Return ((prvalue (Literal 0) (plain (int Int)) []) ∷ [])) ∷
    (effect Return ((prvalue (Literal 0) (plain (int Int)) []) ∷ [])) ∷ []))

abbrev pub virtual_in_constructor : TypedProgram
virtual_in_constructor = one_unit
    (virtual_in_constructor_0 ∷ virtual_in_constructor_1 ∷ virtual_in_constructor_2 ∷ virtual_in_constructor_3 ∷ virtual_in_constructor_main ∷ [])
    []
    ((class_of (codes "A") None [] true 0) ∷ (class_of (codes "B") (Some 0) [] false 1) ∷ [])
    (((slot_of (codes "f") (signature none_typs (plain void) false) 0) ∷ []) ∷ ((slot_of (codes "f") (signature none_typs (plain void) false) 1) ∷ []) ∷ [])

abbrev pub virtual_in_constructor_events : List Event
virtual_in_constructor_events =
    (Writes 16777232 8 16777216 false) ∷ (Reads 16777232 8 false) ∷ (Writes 16777248 8 16777216 false) ∷ (Reads 16777248 8 false) ∷
    (Writes 16777216 8 2199023255552 false) ∷ (Reads 16777248 8 false) ∷ (Reads 16777216 8 false) ∷ (Writes 16777264 8 16777216 false) ∷
    (Out 65) ∷ (Reads 16777232 8 false) ∷ (Writes 16777216 8 2199023255568 false) ∷ (Reads 16777216 8 false) ∷
    (Writes 16777232 8 16777216 false) ∷ (Out 66) ∷ (Stop (Exit (pos 0))) ∷ []

--     int main() { int n = 4; auto add = [&](int k) { n += k; return n; }; atomic_noexcept { add(3); } putchar('0' + n); return 0; }

-- lambda:0:35(int)
abbrev pub lambda_capture_0 : Func
lambda_capture_0 = defined (codes "lambda:0:35(int)") (codes "lambda:0:35") ClosureCall (Some 0)
    (signature (more_typs (plain (int Int)) none_typs) (plain (int Int)) false) false false 2
    ((plain (int Int)) ∷ []) ((plain (ptr (const (closure 0)))) ∷ (plain (int Int)) ∷ []) (
    effect (Block false) (
    (lvalue (Update Add Int Int false false) (plain (int Int)) (
    (lvalue (Load ULong false) (plain (int Int)) (
    (lvalue (Binary Add ULong) (plain (ref (plain (int Int)))) (
    (prvalue (Load ULong false) (plain (ptr (const (closure 0)))) ((lvalue (Local 0) (plain (ptr (const (closure 0)))) []) ∷ [])) ∷
    (prvalue (Literal 0) (plain (int ULong)) []) ∷ [])) ∷ [])) ∷
    (prvalue (Load Int false) (plain (int Int)) ((lvalue (Local 1) (plain (int Int)) []) ∷ [])) ∷ [])) ∷
    (effect Return (
    (prvalue (Load Int false) (plain (int Int)) (
    (lvalue (Load ULong false) (plain (int Int)) (
    (lvalue (Binary Add ULong) (plain (ref (plain (int Int)))) (
    (prvalue (Load ULong false) (plain (ptr (const (closure 0)))) ((lvalue (Local 0) (plain (ptr (const (closure 0)))) []) ∷ [])) ∷
    (prvalue (Literal 0) (plain (int ULong)) []) ∷ [])) ∷ [])) ∷ [])) ∷ [])) ∷
    (effect Return ((prvalue (Literal 0) (plain (int Int)) []) ∷ [])) ∷ []))

-- main()
abbrev pub lambda_capture_main : Func
lambda_capture_main = defined (codes "main()") (codes "main") Plain None
    (signature none_typs (plain (int Int)) false) false false 0
    [] ((plain (int Int)) ∷ (plain (closure 0)) ∷ []) (
    effect (Block false) (
    (effect Init (
    (lvalue (Local 0) (plain (int Int)) []) ∷
    (prvalue (Store Int false) (plain (int Int)) ((prvalue (Literal 4) (plain (int Int)) []) ∷ [])) ∷ [])) ∷
    (effect Init (
    (lvalue (Local 1) (plain (closure 0)) []) ∷
    (prvalue Pieces (plain (closure 0)) (
    (prvalue (Piece 0) (plain (ref (plain (int Int)))) (
    (prvalue (Store ULong false) (plain (ref (plain (int Int)))) ((lvalue (Local 0) (plain (int Int)) []) ∷ [])) ∷ [])) ∷ [])) ∷ [])) ∷
    (effect (Atomic NoExcept) (
    (effect (Block false) (
    (prvalue (Call 0) (plain (int Int)) ((lvalue (Local 1) (plain (closure 0)) []) ∷ (prvalue (Literal 3) (plain (int Int)) []) ∷ [])) ∷ [])) ∷ [])) ∷
    (prvalue (Builtin PutChar) (plain (int Int)) (
    (prvalue (Binary Add Int) (plain (int Int)) (
    (prvalue (Convert Int) (plain (int Int)) ((prvalue (Literal 48) (plain (int Char)) []) ∷ [])) ∷
    (prvalue (Load Int false) (plain (int Int)) ((lvalue (Local 0) (plain (int Int)) []) ∷ [])) ∷ [])) ∷ [])) ∷
    (effect Return ((prvalue (Literal 0) (plain (int Int)) []) ∷ [])) ∷
    (effect Return ((prvalue (Literal 0) (plain (int Int)) []) ∷ [])) ∷ []))

abbrev pub lambda_capture : TypedProgram
lambda_capture = one_unit
    (lambda_capture_0 ∷ lambda_capture_main ∷ [])
    []
    ((class_of (codes "") None ((plain (ref (plain (int Int)))) ∷ []) false 0) ∷ [])
    ([] ∷ [])

abbrev pub lambda_capture_events : List Event
lambda_capture_events =
    (Writes 16777216 4 4 false) ∷ (Writes 16777224 8 16777216 false) ∷ (BeginAtomic NoExcept) ∷ (Writes 16777232 8 16777224 false) ∷
    (Writes 16777240 4 3 false) ∷ (Reads 16777232 8 false) ∷ (Reads 16777224 8 false) ∷ (Reads 16777216 4 false) ∷
    (Reads 16777240 4 false) ∷ (Writes 16777216 4 7 false) ∷ (Reads 16777232 8 false) ∷ (Reads 16777224 8 false) ∷
    (Reads 16777216 4 false) ∷ EndAtomic ∷ (Reads 16777216 4 false) ∷ (Out 55) ∷ (Stop (Exit (pos 0))) ∷ []

--     struct D { int v; D(int x) : v(x) {} ~D() {} };
--     int f(int c) { return c ? D(1).v : 2; }
--     int main() { f(1); f(0); return 0; }

-- D::D(int)
abbrev pub conditional_temporary_0 : Func
conditional_temporary_0 = defined (codes "D::D(int)") (codes "D") Constructor (Some 0)
    (signature (more_typs (plain (int Int)) none_typs) (plain void) false) false false 2
    ((plain (int Int)) ∷ []) ((plain (ptr (plain (class 0)))) ∷ (plain (int Int)) ∷ []) (
    effect (Block true) (
    (effect Init (
    (lvalue (Binary Add ULong) (plain (int Int)) (
    (prvalue (Load ULong false) (plain (ptr (plain (class 0)))) ((lvalue (Local 0) (plain (ptr (plain (class 0)))) []) ∷ [])) ∷
    (prvalue (Literal 0) (plain (int ULong)) []) ∷ [])) ∷
    (prvalue (Store Int false) (plain (int Int)) (
    (prvalue (Load Int false) (plain (int Int)) ((lvalue (Local 1) (plain (int Int)) []) ∷ [])) ∷ [])) ∷ [])) ∷
    (effect (Block false) []) ∷ []))

-- D::~D()
abbrev pub conditional_temporary_1 : Func
conditional_temporary_1 = defined (codes "D::~D()") (codes "~D") Destructor (Some 0)
    (signature none_typs (plain void) false) false true 1
    [] ((plain (ptr (plain (class 0)))) ∷ []) (
    effect (Block false) ((effect (Block false) []) ∷ []))

-- f(int)
abbrev pub conditional_temporary_2 : Func
conditional_temporary_2 = defined (codes "f(int)") (codes "f") Plain None
    (signature (more_typs (plain (int Int)) none_typs) (plain (int Int)) false) false false 1
    ((plain (int Int)) ∷ []) ((plain (int Int)) ∷ (plain (class 0)) ∷ []) (
    effect (Block false) (
    (effect Return (
    (prvalue FullExpression (plain (int Int)) (
    (prvalue Conditional (plain (int Int)) (
    (prvalue (Convert BoolKind) (plain (int BoolKind)) (
    (prvalue (Load Int false) (plain (int Int)) ((lvalue (Local 0) (plain (int Int)) []) ∷ [])) ∷ [])) ∷
    (prvalue (Load Int false) (plain (int Int)) (
    (lvalue (Binary Add ULong) (plain (int Int)) (
    (lvalue (Materialize 1 false) (plain (class 0)) (
    (prvalue (Construct 0) (plain (class 0)) ((prvalue (Literal 1) (plain (int Int)) []) ∷ [])) ∷
    (effect (Destroy 1 0 1 0) []) ∷ [])) ∷
    (prvalue (Literal 0) (plain (int ULong)) []) ∷ [])) ∷ [])) ∷
    (prvalue (Literal 2) (plain (int Int)) []) ∷ [])) ∷ [])) ∷ [])) ∷
    (effect Return ((prvalue (Literal 0) (plain (int Int)) []) ∷ [])) ∷ []))

-- main()
abbrev pub conditional_temporary_main : Func
conditional_temporary_main = defined (codes "main()") (codes "main") Plain None
    (signature none_typs (plain (int Int)) false) false false 0
    [] [] (
    effect (Block false) (
    (prvalue (Call 2) (plain (int Int)) ((prvalue (Literal 1) (plain (int Int)) []) ∷ [])) ∷
    (prvalue (Call 2) (plain (int Int)) ((prvalue (Literal 0) (plain (int Int)) []) ∷ [])) ∷
    (effect Return ((prvalue (Literal 0) (plain (int Int)) []) ∷ [])) ∷
    (effect Return ((prvalue (Literal 0) (plain (int Int)) []) ∷ [])) ∷ []))

abbrev pub conditional_temporary : TypedProgram
conditional_temporary = one_unit
    (conditional_temporary_0 ∷ conditional_temporary_1 ∷ conditional_temporary_2 ∷ conditional_temporary_main ∷ [])
    []
    ((class_of (codes "D") None ((plain (int Int)) ∷ []) false 0) ∷ [])
    ([] ∷ [])

abbrev pub conditional_temporary_events : List Event
conditional_temporary_events =
    (Writes 16777232 4 1 false) ∷ (Reads 16777232 4 false) ∷ (Writes 16777248 8 16777236 false) ∷ (Writes 16777256 4 1 false) ∷
    (Reads 16777248 8 false) ∷ (Reads 16777256 4 false) ∷ (Writes 16777236 4 1 false) ∷ (Reads 16777236 4 false) ∷
    (Writes 16777248 8 16777236 false) ∷ (Writes 16777232 4 0 false) ∷ (Reads 16777232 4 false) ∷ (Stop (Exit (pos 0))) ∷ []

--     struct D { int v; D(int x) : v(x) {} ~D() { putchar('0' + v); } };
--     int get(D d) { return d.v + 1; }
--     int main() { putchar('0' + get(D(2))); return 0; }

-- D::D(int)
abbrev pub argument_object_0 : Func
argument_object_0 = defined (codes "D::D(int)") (codes "D") Constructor (Some 0)
    (signature (more_typs (plain (int Int)) none_typs) (plain void) false) false false 2
    ((plain (int Int)) ∷ []) ((plain (ptr (plain (class 0)))) ∷ (plain (int Int)) ∷ []) (
    effect (Block true) (
    (effect Init (
    (lvalue (Binary Add ULong) (plain (int Int)) (
    (prvalue (Load ULong false) (plain (ptr (plain (class 0)))) ((lvalue (Local 0) (plain (ptr (plain (class 0)))) []) ∷ [])) ∷
    (prvalue (Literal 0) (plain (int ULong)) []) ∷ [])) ∷
    (prvalue (Store Int false) (plain (int Int)) (
    (prvalue (Load Int false) (plain (int Int)) ((lvalue (Local 1) (plain (int Int)) []) ∷ [])) ∷ [])) ∷ [])) ∷
    (effect (Block false) []) ∷ []))

-- D::~D()
abbrev pub argument_object_1 : Func
argument_object_1 = defined (codes "D::~D()") (codes "~D") Destructor (Some 0)
    (signature none_typs (plain void) false) false true 1
    [] ((plain (ptr (plain (class 0)))) ∷ []) (
    effect (Block false) (
    (effect (Block false) (
    (prvalue (Builtin PutChar) (plain (int Int)) (
    (prvalue (Binary Add Int) (plain (int Int)) (
    (prvalue (Convert Int) (plain (int Int)) ((prvalue (Literal 48) (plain (int Char)) []) ∷ [])) ∷
    (prvalue (Load Int false) (plain (int Int)) (
    (lvalue (Binary Add ULong) (plain (int Int)) (
    (lvalue Retype (plain (class 0)) (
    (prvalue (Load ULong false) (plain (ptr (plain (class 0)))) ((lvalue (Local 0) (plain (ptr (plain (class 0)))) []) ∷ [])) ∷ [])) ∷
    (prvalue (Literal 0) (plain (int ULong)) []) ∷ [])) ∷ [])) ∷ [])) ∷ [])) ∷ [])) ∷ []))

-- get(D)
abbrev pub argument_object_2 : Func
argument_object_2 = defined (codes "get(D)") (codes "get") Plain None
    (signature (more_typs (plain (class 0)) none_typs) (plain (int Int)) false) false false 1
    ((plain (class 0)) ∷ []) ((plain (ptr (plain (class 0)))) ∷ []) (
    effect (Block false) (
    (effect Return (
    (prvalue (Binary Add Int) (plain (int Int)) (
    (prvalue (Load Int false) (plain (int Int)) (
    (lvalue (Binary Add ULong) (plain (int Int)) (
    (lvalue (Load ULong false) (plain (class 0)) ((lvalue (Local 0) (plain (ptr (plain (class 0)))) []) ∷ [])) ∷
    (prvalue (Literal 0) (plain (int ULong)) []) ∷ [])) ∷ [])) ∷
    (prvalue (Literal 1) (plain (int Int)) []) ∷ [])) ∷ [])) ∷
    (effect Return ((prvalue (Literal 0) (plain (int Int)) []) ∷ [])) ∷ []))

-- main()
abbrev pub argument_object_main : Func
argument_object_main = defined (codes "main()") (codes "main") Plain None
    (signature none_typs (plain (int Int)) false) false false 0
    [] ((plain (class 0)) ∷ []) (
    effect (Block false) (
    (prvalue (Builtin PutChar) (plain (int Int)) (
    (prvalue (Binary Add Int) (plain (int Int)) (
    (prvalue (Convert Int) (plain (int Int)) ((prvalue (Literal 48) (plain (int Char)) []) ∷ [])) ∷
    (prvalue (Call 2) (plain (int Int)) (
    (lvalue (Materialize 0 true) (plain (class 0)) (
    (prvalue (Construct 0) (plain (class 0)) ((prvalue (Literal 2) (plain (int Int)) []) ∷ [])) ∷
    (effect (Destroy 1 0 1 0) []) ∷ [])) ∷ [])) ∷ [])) ∷ [])) ∷
    (effect Return ((prvalue (Literal 0) (plain (int Int)) []) ∷ [])) ∷
    (effect Return ((prvalue (Literal 0) (plain (int Int)) []) ∷ [])) ∷ []))

abbrev pub argument_object : TypedProgram
argument_object = one_unit
    (argument_object_0 ∷ argument_object_1 ∷ argument_object_2 ∷ argument_object_main ∷ [])
    []
    ((class_of (codes "D") None ((plain (int Int)) ∷ []) false 0) ∷ [])
    ([] ∷ [])

abbrev pub argument_object_events : List Event
argument_object_events =
    (Writes 16777232 8 16777216 false) ∷ (Writes 16777240 4 2 false) ∷ (Reads 16777232 8 false) ∷ (Reads 16777240 4 false) ∷
    (Writes 16777216 4 2 false) ∷ (Writes 16777232 8 16777216 false) ∷ (Reads 16777232 8 false) ∷ (Reads 16777216 4 false) ∷
    (Writes 16777232 8 16777216 false) ∷ (Reads 16777232 8 false) ∷ (Reads 16777216 4 false) ∷ (Out 50) ∷ (Out 51) ∷ (Stop (Exit (pos 0))) ∷ []
