-- Worked programs on ways out: each in C++, its functions as typed trees, and its events but the silent ones, which it ends with.
use Rattle.std.specs.Prelude.{pos, true, false, List, [], ◌∷◌, Some, None, codes}
use Rattle.cpp_tree.specs.tx_ints.declared.kinds.IntKind.TheVariants.{Bool as BoolKind, Char, Int, ULong}
use Rattle.cpp_tree.specs.tx_ints.declared.kinds.BinOp.TheVariants.{Add, Sub, Eq}
use Rattle.cpp_tree.specs.tx_events.declared.End.TheVariants.{Exit, Terminate}
use Rattle.cpp_tree.specs.tx_events.declared.Event.{Event}
use Rattle.cpp_tree.specs.tx_events.declared.Event.TheVariants.{Load as Reads, Store as Writes, Out, BeginSync, EndSync, Stop}
use Rattle.cpp_tree.specs.cpp_types.Typ.{int, ptr, ref, array, class, void, signature, none as none_typs, more as more_typs}
use Rattle.cpp_tree.specs.declared.kinds.Builtin.TheVariants.{PutChar}
use Rattle.cpp_tree.specs.declared.kinds.TKind.TheVariants.{Literal, Local, Global, Load, Convert, Retype, Binary, Conditional, Assign, Update, Call, Builtin}
use Rattle.cpp_tree.specs.declared.kinds.TKind.TheVariants.{Throw, Rethrow, Store, Construct, Elements, Block, Init, Switch, Case, Default, Break, Return, Try}
use Rattle.cpp_tree.specs.declared.kinds.TKind.TheVariants.{Handler, Synchronized, Destroy, Field}
use Rattle.cpp_tree.specs.declared.program.FuncKind.TheVariants.{Plain, Constructor, Destructor}
use Rattle.cpp_tree.specs.Units.{Func, TypedProgram}
use Rattle.cpp_tree.specs.Notation.{plain, const, effect, prvalue, lvalue}
use Rattle.src_mean.specs.Notation.{defined, class_of, global_of, one_unit}

--     int main() { throw 1; }

-- main()
abbrev pub terminate_main : Func
terminate_main = defined (codes "main()") (codes "main") Plain None
    (signature none_typs (plain (int Int)) false) false false 0
    [] [] (
    effect (Block false) (
    (prvalue Throw (plain (int Int)) ((prvalue (Literal 1) (plain (int Int)) []) ∷ (effect (Field 0 Int) []) ∷ [])) ∷
    (effect Return ((prvalue (Literal 0) (plain (int Int)) []) ∷ [])) ∷ []))

abbrev pub terminate : TypedProgram
terminate = one_unit
    (terminate_main ∷ [])
    []
    []
    []

abbrev pub terminate_events : List Event
terminate_events =
    (Stop Terminate) ∷ []

--     void f() noexcept { throw 1; } int main() { try { f(); } catch (...) { } return 0; }

-- f()
abbrev pub terminate_in_noexcept_0 : Func
terminate_in_noexcept_0 = defined (codes "f()") (codes "f") Plain None
    (signature none_typs (plain void) false) false true 0
    [] [] (
    effect (Block false) (
    (prvalue Throw (plain (int Int)) ((prvalue (Literal 1) (plain (int Int)) []) ∷ (effect (Field 0 Int) []) ∷ [])) ∷ []))

-- main()
abbrev pub terminate_in_noexcept_main : Func
terminate_in_noexcept_main = defined (codes "main()") (codes "main") Plain None
    (signature none_typs (plain (int Int)) false) false false 0
    [] [] (
    effect (Block false) (
    (effect Try ((effect (Block false) ((effect (Call 0) []) ∷ [])) ∷ (effect (Handler None) ((effect (Block false) []) ∷ [])) ∷ [])) ∷
    (effect Return ((prvalue (Literal 0) (plain (int Int)) []) ∷ [])) ∷
    (effect Return ((prvalue (Literal 0) (plain (int Int)) []) ∷ [])) ∷ []))

abbrev pub terminate_in_noexcept : TypedProgram
terminate_in_noexcept = one_unit
    (terminate_in_noexcept_0 ∷ terminate_in_noexcept_main ∷ [])
    []
    []
    []

abbrev pub terminate_in_noexcept_events : List Event
terminate_in_noexcept_events =
    (Stop Terminate) ∷ []

--     int main() {
--       int r = 0;
--       try {
--         try { throw 4; }
--         catch (int e) { r = e; throw; }
--       } catch (const int& e) { r += e; }
--       try {
--         try { throw 'x'; }
--         catch (...) { try { throw 2; } catch (int) { } throw; }
--       } catch (char c) { r += c == 'x'; }
--       return r;
--     }

-- main()
abbrev pub rethrow_main : Func
rethrow_main = defined (codes "main()") (codes "main") Plain None
    (signature none_typs (plain (int Int)) false) false false 0
    [] ((plain (int Int)) ∷ (plain (int Int)) ∷ (const (int Int)) ∷ (plain (int Char)) ∷ []) (
    effect (Block false) (
    (effect Init (
    (lvalue (Local 0) (plain (int Int)) []) ∷
    (prvalue (Store Int false) (plain (int Int)) ((prvalue (Literal 0) (plain (int Int)) []) ∷ [])) ∷ [])) ∷
    (effect Try (
    (effect (Block false) (
    (effect Try (
    (effect (Block false) (
    (prvalue Throw (plain (int Int)) ((prvalue (Literal 4) (plain (int Int)) []) ∷ (effect (Field 0 Int) []) ∷ [])) ∷ [])) ∷
    (prvalue (Handler (Some 1)) (plain (int Int)) (
    (effect (Block false) (
    (lvalue (Assign Int false) (plain (int Int)) (
    (lvalue (Local 0) (plain (int Int)) []) ∷
    (prvalue (Load Int false) (plain (int Int)) ((lvalue (Local 1) (plain (int Int)) []) ∷ [])) ∷ [])) ∷
    (effect Rethrow []) ∷ [])) ∷
    (effect (Field 0 Int) []) ∷ [])) ∷ [])) ∷ [])) ∷
    (prvalue (Handler (Some 2)) (plain (ref (const (int Int)))) (
    (effect (Block false) (
    (lvalue (Update Add Int Int false false) (plain (int Int)) (
    (lvalue (Local 0) (plain (int Int)) []) ∷
    (prvalue (Load Int false) (plain (int Int)) ((lvalue (Local 2) (const (int Int)) []) ∷ [])) ∷ [])) ∷ [])) ∷
    (effect (Field 0 Int) []) ∷ [])) ∷ [])) ∷
    (effect Try (
    (effect (Block false) (
    (effect Try (
    (effect (Block false) (
    (prvalue Throw (plain (int Char)) ((prvalue (Literal 120) (plain (int Char)) []) ∷ (effect (Field 0 Char) []) ∷ [])) ∷ [])) ∷
    (effect (Handler None) (
    (effect (Block false) (
    (effect Try (
    (effect (Block false) (
    (prvalue Throw (plain (int Int)) ((prvalue (Literal 2) (plain (int Int)) []) ∷ (effect (Field 0 Int) []) ∷ [])) ∷ [])) ∷
    (prvalue (Handler None) (plain (int Int)) ((effect (Block false) []) ∷ [])) ∷ [])) ∷
    (effect Rethrow []) ∷ [])) ∷ [])) ∷ [])) ∷ [])) ∷
    (prvalue (Handler (Some 3)) (plain (int Char)) (
    (effect (Block false) (
    (lvalue (Update Add Int Int false false) (plain (int Int)) (
    (lvalue (Local 0) (plain (int Int)) []) ∷
    (prvalue (Convert Int) (plain (int Int)) (
    (prvalue (Binary Eq Int) (plain (int BoolKind)) (
    (prvalue (Convert Int) (plain (int Int)) (
    (prvalue (Load Char false) (plain (int Char)) ((lvalue (Local 3) (plain (int Char)) []) ∷ [])) ∷ [])) ∷
    (prvalue (Convert Int) (plain (int Int)) ((prvalue (Literal 120) (plain (int Char)) []) ∷ [])) ∷ [])) ∷ [])) ∷ [])) ∷ [])) ∷
    (effect (Field 0 Char) []) ∷ [])) ∷ [])) ∷
    (effect Return ((prvalue (Load Int false) (plain (int Int)) ((lvalue (Local 0) (plain (int Int)) []) ∷ [])) ∷ [])) ∷
    (effect Return ((prvalue (Literal 0) (plain (int Int)) []) ∷ [])) ∷ []))

abbrev pub rethrow : TypedProgram
rethrow = one_unit
    (rethrow_main ∷ [])
    []
    []
    []

abbrev pub rethrow_events : List Event
rethrow_events =
    (Writes 16777216 4 0 false) ∷ (Writes 16777220 4 4 false) ∷ (Reads 16777220 4 false) ∷ (Writes 16777216 4 4 false) ∷
    (Writes 16777224 4 4 false) ∷ (Reads 16777216 4 false) ∷ (Reads 16777224 4 false) ∷ (Writes 16777216 4 8 false) ∷
    (Writes 16777228 1 120 false) ∷ (Reads 16777216 4 false) ∷ (Reads 16777228 1 false) ∷ (Writes 16777216 4 9 false) ∷
    (Reads 16777216 4 false) ∷ (Stop (Exit (pos 9))) ∷ []

--     struct D { int v; D(int x) : v(x) {} ~D() { putchar('0' + v); } };
--     int f() { D a(1); { D b(2); synchronized { D c(3); return 7; } } }
--     int main() { putchar('0' + f()); return 0; }

-- D::D(int)
abbrev pub return_through_scopes_0 : Func
return_through_scopes_0 = defined (codes "D::D(int)") (codes "D") Constructor (Some 0)
    (signature (more_typs (plain (int Int)) none_typs) (plain void) false) false false 2
    ((plain (int Int)) ∷ []) ((plain (ptr (plain (class 0)))) ∷ (plain (int Int)) ∷ []) (
    effect (Block true) (
    (effect Init (
    (lvalue (Binary Add ULong) (plain (int Int)) (
    (prvalue (Load ULong false) (plain (ptr (plain (class 0)))) ((lvalue (Local 0) (plain (ptr (plain (class 0)))) []) ∷ [])) ∷
    (prvalue (Literal 0) (plain (int ULong)) []) ∷ [])) ∷
    (prvalue (Store Int false) (plain (int Int)) (
    (prvalue (Load Int false) (plain (int Int)) ((lvalue (Local 1) (plain (int Int)) []) ∷ [])) ∷ [])) ∷ [])) ∷
    (effect (Block false) []) ∷ []))

-- D::~D()
abbrev pub return_through_scopes_1 : Func
return_through_scopes_1 = defined (codes "D::~D()") (codes "~D") Destructor (Some 0)
    (signature none_typs (plain void) false) false true 1
    [] ((plain (ptr (plain (class 0)))) ∷ []) (
    effect (Block false) (
    (effect (Block false) (
    (prvalue (Builtin PutChar) (plain (int Int)) (
    (prvalue (Binary Add Int) (plain (int Int)) (
    (prvalue (Convert Int) (plain (int Int)) ((prvalue (Literal 48) (plain (int Char)) []) ∷ [])) ∷
    (prvalue (Load Int false) (plain (int Int)) (
    (lvalue (Binary Add ULong) (plain (int Int)) (
    (lvalue Retype (plain (class 0)) (
    (prvalue (Load ULong false) (plain (ptr (plain (class 0)))) ((lvalue (Local 0) (plain (ptr (plain (class 0)))) []) ∷ [])) ∷ [])) ∷
    (prvalue (Literal 0) (plain (int ULong)) []) ∷ [])) ∷ [])) ∷ [])) ∷ [])) ∷ [])) ∷ []))

-- f()
abbrev pub return_through_scopes_2 : Func
return_through_scopes_2 = defined (codes "f()") (codes "f") Plain None
    (signature none_typs (plain (int Int)) false) false false 0
    [] ((plain (class 0)) ∷ (plain (class 0)) ∷ (plain (class 0)) ∷ []) (
    effect (Block false) (
    (effect Init (
    (lvalue (Local 0) (plain (class 0)) []) ∷
    (prvalue (Construct 0) (plain (class 0)) ((prvalue (Literal 1) (plain (int Int)) []) ∷ [])) ∷
    (effect (Destroy 1 0 1 0) []) ∷ [])) ∷
    (effect (Block false) (
    (effect Init (
    (lvalue (Local 1) (plain (class 0)) []) ∷
    (prvalue (Construct 0) (plain (class 0)) ((prvalue (Literal 2) (plain (int Int)) []) ∷ [])) ∷
    (effect (Destroy 1 0 1 0) []) ∷ [])) ∷
    (effect Synchronized (
    (effect (Block false) (
    (effect Init (
    (lvalue (Local 2) (plain (class 0)) []) ∷
    (prvalue (Construct 0) (plain (class 0)) ((prvalue (Literal 3) (plain (int Int)) []) ∷ [])) ∷
    (effect (Destroy 1 0 1 0) []) ∷ [])) ∷
    (effect Return ((prvalue (Literal 7) (plain (int Int)) []) ∷ [])) ∷ [])) ∷ [])) ∷ [])) ∷
    (effect Return ((prvalue (Literal 0) (plain (int Int)) []) ∷ [])) ∷ []))

-- main()
abbrev pub return_through_scopes_main : Func
return_through_scopes_main = defined (codes "main()") (codes "main") Plain None
    (signature none_typs (plain (int Int)) false) false false 0
    [] [] (
    effect (Block false) (
    (prvalue (Builtin PutChar) (plain (int Int)) (
    (prvalue (Binary Add Int) (plain (int Int)) (
    (prvalue (Convert Int) (plain (int Int)) ((prvalue (Literal 48) (plain (int Char)) []) ∷ [])) ∷
    (prvalue (Call 2) (plain (int Int)) []) ∷ [])) ∷ [])) ∷
    (effect Return ((prvalue (Literal 0) (plain (int Int)) []) ∷ [])) ∷
    (effect Return ((prvalue (Literal 0) (plain (int Int)) []) ∷ [])) ∷ []))

abbrev pub return_through_scopes : TypedProgram
return_through_scopes = one_unit
    (return_through_scopes_0 ∷ return_through_scopes_1 ∷ return_through_scopes_2 ∷ return_through_scopes_main ∷ [])
    []
    ((class_of (codes "D") None ((plain (int Int)) ∷ []) false 0) ∷ [])
    ([] ∷ [])

abbrev pub return_through_scopes_events : List Event
return_through_scopes_events =
    (Writes 16777248 8 16777232 false) ∷ (Writes 16777256 4 1 false) ∷ (Reads 16777248 8 false) ∷ (Reads 16777256 4 false) ∷
    (Writes 16777232 4 1 false) ∷ (Writes 16777248 8 16777236 false) ∷ (Writes 16777256 4 2 false) ∷ (Reads 16777248 8 false) ∷
    (Reads 16777256 4 false) ∷ (Writes 16777236 4 2 false) ∷ BeginSync ∷ (Writes 16777248 8 16777240 false) ∷ (Writes 16777256 4 3 false) ∷
    (Reads 16777248 8 false) ∷ (Reads 16777256 4 false) ∷ (Writes 16777240 4 3 false) ∷ (Writes 16777248 8 16777240 false) ∷
    (Reads 16777248 8 false) ∷ (Reads 16777240 4 false) ∷ (Out 51) ∷ EndSync ∷ (Writes 16777248 8 16777236 false) ∷
    (Reads 16777248 8 false) ∷ (Reads 16777236 4 false) ∷ (Out 50) ∷ (Writes 16777248 8 16777232 false) ∷ (Reads 16777248 8 false) ∷
    (Reads 16777232 4 false) ∷ (Out 49) ∷ (Out 55) ∷ (Stop (Exit (pos 0))) ∷ []

--     int main() { switch (2) { case 1: putchar('1'); case 2: putchar('2'); default: putchar('3'); break; case 4: putchar('4'); } return 0; }

-- main()
abbrev pub switch_skips_a_label_main : Func
switch_skips_a_label_main = defined (codes "main()") (codes "main") Plain None
    (signature none_typs (plain (int Int)) false) false false 0
    [] [] (
    effect (Block false) (
    (effect Switch (
    (prvalue (Literal 2) (plain (int Int)) []) ∷
    (effect (Case 1) []) ∷
    (prvalue (Builtin PutChar) (plain (int Int)) (
    (prvalue (Convert Int) (plain (int Int)) ((prvalue (Literal 49) (plain (int Char)) []) ∷ [])) ∷ [])) ∷
    (effect (Case 2) []) ∷
    (prvalue (Builtin PutChar) (plain (int Int)) (
    (prvalue (Convert Int) (plain (int Int)) ((prvalue (Literal 50) (plain (int Char)) []) ∷ [])) ∷ [])) ∷
    (effect Default []) ∷
    (prvalue (Builtin PutChar) (plain (int Int)) (
    (prvalue (Convert Int) (plain (int Int)) ((prvalue (Literal 51) (plain (int Char)) []) ∷ [])) ∷ [])) ∷
    (effect Break []) ∷
    (effect (Case 4) []) ∷
    (prvalue (Builtin PutChar) (plain (int Int)) (
    (prvalue (Convert Int) (plain (int Int)) ((prvalue (Literal 52) (plain (int Char)) []) ∷ [])) ∷ [])) ∷ [])) ∷
    (effect Return ((prvalue (Literal 0) (plain (int Int)) []) ∷ [])) ∷
    (effect Return ((prvalue (Literal 0) (plain (int Int)) []) ∷ [])) ∷ []))

abbrev pub switch_skips_a_label : TypedProgram
switch_skips_a_label = one_unit
    (switch_skips_a_label_main ∷ [])
    []
    []
    []

abbrev pub switch_skips_a_label_events : List Event
switch_skips_a_label_events =
    (Out 50) ∷ (Out 51) ∷ (Stop (Exit (pos 0))) ∷ []

--     int n; struct E { E() { n++; if (n == 3) throw 1; } ~E() { putchar('0' + n); n--; } };
--     int main() { try { E e[4]; } catch (...) { putchar('7'); } return 0; }

-- E::E()
abbrev pub third_element_throws_0 : Func
third_element_throws_0 = defined (codes "E::E()") (codes "E") Constructor (Some 0)
    (signature none_typs (plain void) false) false false 1
    [] ((plain (ptr (plain (class 0)))) ∷ []) (
    effect (Block true) (
    (effect (Block false) (
    (prvalue (Update Add Int Int false true) (plain (int Int)) (
    (lvalue (Global 0) (plain (int Int)) []) ∷
    (prvalue (Literal 1) (plain (int Int)) []) ∷ [])) ∷
    (effect Conditional (
    (prvalue (Binary Eq Int) (plain (int BoolKind)) (
    (prvalue (Load Int false) (plain (int Int)) ((lvalue (Global 0) (plain (int Int)) []) ∷ [])) ∷
    (prvalue (Literal 3) (plain (int Int)) []) ∷ [])) ∷
    (prvalue Throw (plain (int Int)) ((prvalue (Literal 1) (plain (int Int)) []) ∷ (effect (Field 0 Int) []) ∷ [])) ∷
    (effect (Block false) []) ∷ [])) ∷ [])) ∷ []))

-- E::~E()
abbrev pub third_element_throws_1 : Func
third_element_throws_1 = defined (codes "E::~E()") (codes "~E") Destructor (Some 0)
    (signature none_typs (plain void) false) false true 1
    [] ((plain (ptr (plain (class 0)))) ∷ []) (
    effect (Block false) (
    (effect (Block false) (
    (prvalue (Builtin PutChar) (plain (int Int)) (
    (prvalue (Binary Add Int) (plain (int Int)) (
    (prvalue (Convert Int) (plain (int Int)) ((prvalue (Literal 48) (plain (int Char)) []) ∷ [])) ∷
    (prvalue (Load Int false) (plain (int Int)) ((lvalue (Global 0) (plain (int Int)) []) ∷ [])) ∷ [])) ∷ [])) ∷
    (prvalue (Update Sub Int Int false true) (plain (int Int)) (
    (lvalue (Global 0) (plain (int Int)) []) ∷
    (prvalue (Literal 1) (plain (int Int)) []) ∷ [])) ∷ [])) ∷ []))

-- main()
abbrev pub third_element_throws_main : Func
third_element_throws_main = defined (codes "main()") (codes "main") Plain None
    (signature none_typs (plain (int Int)) false) false false 0
    [] ((plain (array (plain (class 0)) 4)) ∷ []) (
    effect (Block false) (
    (effect Try (
    (effect (Block false) (
    (effect Init (
    (lvalue (Local 0) (plain (array (plain (class 0)) 4)) []) ∷
    (prvalue (Elements 4 1) (plain (array (plain (class 0)) 4)) (
    (prvalue (Construct 0) (plain (class 0)) []) ∷
    (effect (Destroy 1 0 1 0) []) ∷ [])) ∷
    (effect (Destroy 1 0 4 1) []) ∷ [])) ∷ [])) ∷
    (effect (Handler None) (
    (effect (Block false) (
    (prvalue (Builtin PutChar) (plain (int Int)) (
    (prvalue (Convert Int) (plain (int Int)) ((prvalue (Literal 55) (plain (int Char)) []) ∷ [])) ∷ [])) ∷ [])) ∷ [])) ∷ [])) ∷
    (effect Return ((prvalue (Literal 0) (plain (int Int)) []) ∷ [])) ∷
    (effect Return ((prvalue (Literal 0) (plain (int Int)) []) ∷ [])) ∷ []))

abbrev pub third_element_throws : TypedProgram
third_element_throws = one_unit
    (third_element_throws_0 ∷ third_element_throws_1 ∷ third_element_throws_main ∷ [])
    ((global_of (codes "n") (plain (int Int)) []) ∷ [])
    ((class_of (codes "E") None [] false 0) ∷ [])
    ([] ∷ [])

abbrev pub third_element_throws_events : List Event
third_element_throws_events =
    (Writes 16777232 8 16777216 false) ∷ (Reads 65536 4 false) ∷ (Writes 65536 4 1 false) ∷ (Reads 65536 4 false) ∷
    (Writes 16777232 8 16777217 false) ∷ (Reads 65536 4 false) ∷ (Writes 65536 4 2 false) ∷ (Reads 65536 4 false) ∷
    (Writes 16777232 8 16777218 false) ∷ (Reads 65536 4 false) ∷ (Writes 65536 4 3 false) ∷ (Reads 65536 4 false) ∷
    (Writes 16777232 8 16777217 false) ∷ (Reads 65536 4 false) ∷ (Out 51) ∷ (Reads 65536 4 false) ∷ (Writes 65536 4 2 false) ∷
    (Writes 16777232 8 16777216 false) ∷ (Reads 65536 4 false) ∷ (Out 50) ∷ (Reads 65536 4 false) ∷ (Writes 65536 4 1 false) ∷ (Out 55) ∷
    (Stop (Exit (pos 0))) ∷ []
