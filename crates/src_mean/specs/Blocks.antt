-- Worked programs on blocks: each in C++, its functions as typed trees, and its events but the silent ones, which it ends with.
use Rattle.std.specs.Prelude.{pos, true, false, List, [], ◌∷◌, Some, None, codes}
use Rattle.cpp_tree.specs.tx_ints.declared.kinds.IntKind.TheVariants.{Char, Int, ULong}
use Rattle.cpp_tree.specs.tx_ints.declared.kinds.BinOp.TheVariants.{Add, Mul}
use Rattle.cpp_tree.specs.tx_events.declared.BlockKind.TheVariants.{NoExcept, Commit, Cancel}
use Rattle.cpp_tree.specs.tx_events.declared.End.TheVariants.{Exit, Trapped}
use Rattle.cpp_tree.specs.tx_events.declared.Trap.TheVariants.{Overflow}
use Rattle.cpp_tree.specs.tx_events.declared.Event.{Event}
use Rattle.cpp_tree.specs.tx_events.declared.Event.TheVariants.{Load as Reads, Store as Writes, Out, BeginAtomic, EndAtomic, Raise, Stop}
use Rattle.cpp_tree.specs.cpp_types.Typ.{int, ptr, ref, array, tx_ex, signature, none as none_typs}
use Rattle.cpp_tree.specs.declared.kinds.Builtin.TheVariants.{PutChar}
use Rattle.cpp_tree.specs.declared.kinds.TKind.TheVariants.{Literal, Local, Global, Load, Convert, Retype, Binary, Assign, Materialize, Builtin, Throw, Store}
use Rattle.cpp_tree.specs.declared.kinds.TKind.TheVariants.{Block, Init, Return, Try, Handler, Atomic, Field}
use Rattle.cpp_tree.specs.declared.program.FuncKind.TheVariants.{Plain}
use Rattle.cpp_tree.specs.declared.program.CellKind.TheVariants.{Number}
use Rattle.cpp_tree.specs.Units.{Func, TypedProgram}
use Rattle.cpp_tree.specs.Notation.{plain, const, effect, prvalue, lvalue}
use Rattle.src_mean.specs.Notation.{defined, global_of, one_unit}

--     int main() { return 0; }

-- main()
abbrev pub return_zero_main : Func
return_zero_main = defined (codes "main()") (codes "main") Plain None
    (signature none_typs (plain (int Int)) false) false false 0
    [] [] (
    effect (Block false) (
    (effect Return ((prvalue (Literal 0) (plain (int Int)) []) ∷ [])) ∷
    (effect Return ((prvalue (Literal 0) (plain (int Int)) []) ∷ [])) ∷ []))

abbrev pub return_zero : TypedProgram
return_zero = one_unit
    (return_zero_main ∷ [])
    []
    []
    []

abbrev pub return_zero_events : List Event
return_zero_events =
    (Stop (Exit (pos 0))) ∷ []

--     int x; int main() { atomic_noexcept { x = x + 1; } putchar('0' + x); return 0; }

-- main()
abbrev pub thin_path_main : Func
thin_path_main = defined (codes "main()") (codes "main") Plain None
    (signature none_typs (plain (int Int)) false) false false 0
    [] [] (
    effect (Block false) (
    (effect (Atomic NoExcept) (
    (effect (Block false) (
    (lvalue (Assign Int false) (plain (int Int)) (
    (lvalue (Global 0) (plain (int Int)) []) ∷
    (prvalue (Binary Add Int) (plain (int Int)) (
    (prvalue (Load Int false) (plain (int Int)) ((lvalue (Global 0) (plain (int Int)) []) ∷ [])) ∷
    (prvalue (Literal 1) (plain (int Int)) []) ∷ [])) ∷ [])) ∷ [])) ∷ [])) ∷
    (prvalue (Builtin PutChar) (plain (int Int)) (
    (prvalue (Binary Add Int) (plain (int Int)) (
    (prvalue (Convert Int) (plain (int Int)) ((prvalue (Literal 48) (plain (int Char)) []) ∷ [])) ∷
    (prvalue (Load Int false) (plain (int Int)) ((lvalue (Global 0) (plain (int Int)) []) ∷ [])) ∷ [])) ∷ [])) ∷
    (effect Return ((prvalue (Literal 0) (plain (int Int)) []) ∷ [])) ∷
    (effect Return ((prvalue (Literal 0) (plain (int Int)) []) ∷ [])) ∷ []))

abbrev pub thin_path : TypedProgram
thin_path = one_unit
    (thin_path_main ∷ [])
    ((global_of (codes "x") (plain (int Int)) []) ∷ [])
    []
    []

abbrev pub thin_path_events : List Event
thin_path_events =
    (BeginAtomic NoExcept) ∷ (Reads 65536 4 false) ∷ (Writes 65536 4 1 false) ∷ EndAtomic ∷ (Reads 65536 4 false) ∷ (Out 49) ∷
    (Stop (Exit (pos 0))) ∷ []

--     int x; int main() { x = 2147483647; x = x + 1; return 0; }

-- main()
abbrev pub thin_path_overflow_main : Func
thin_path_overflow_main = defined (codes "main()") (codes "main") Plain None
    (signature none_typs (plain (int Int)) false) false false 0
    [] [] (
    effect (Block false) (
    (lvalue (Assign Int false) (plain (int Int)) (
    (lvalue (Global 0) (plain (int Int)) []) ∷
    (prvalue (Literal 2147483647) (plain (int Int)) []) ∷ [])) ∷
    (lvalue (Assign Int false) (plain (int Int)) (
    (lvalue (Global 0) (plain (int Int)) []) ∷
    (prvalue (Binary Add Int) (plain (int Int)) (
    (prvalue (Load Int false) (plain (int Int)) ((lvalue (Global 0) (plain (int Int)) []) ∷ [])) ∷
    (prvalue (Literal 1) (plain (int Int)) []) ∷ [])) ∷ [])) ∷
    (effect Return ((prvalue (Literal 0) (plain (int Int)) []) ∷ [])) ∷
    (effect Return ((prvalue (Literal 0) (plain (int Int)) []) ∷ [])) ∷ []))

abbrev pub thin_path_overflow : TypedProgram
thin_path_overflow = one_unit
    (thin_path_overflow_main ∷ [])
    ((global_of (codes "x") (plain (int Int)) []) ∷ [])
    []
    []

abbrev pub thin_path_overflow_events : List Event
thin_path_overflow_events =
    (Writes 65536 4 2147483647 false) ∷ (Reads 65536 4 false) ∷ (Stop (Trapped Overflow)) ∷ []

--     int g = 1; int a[2] = {2, 3};
--     int main() { int l = 4;
--       try { atomic_cancel { g = 7; a[1] = 8; l = 9; throw std::tx_exception<int>(5); } }
--       catch (const std::tx_exception<int>& e) {
--         putchar('0' + g); putchar('0' + a[1]); putchar('0' + l); putchar('0' + e.get()); }
--       return 0; }

-- main()
abbrev pub cancelled_block_main : Func
cancelled_block_main = defined (codes "main()") (codes "main") Plain None
    (signature none_typs (plain (int Int)) false) false false 0
    [] ((plain (int Int)) ∷ (plain (tx_ex (plain (int Int)))) ∷ (const (tx_ex (plain (int Int)))) ∷ []) (
    effect (Block false) (
    (effect Init (
    (lvalue (Local 0) (plain (int Int)) []) ∷
    (prvalue (Store Int false) (plain (int Int)) ((prvalue (Literal 4) (plain (int Int)) []) ∷ [])) ∷ [])) ∷
    (effect Try (
    (effect (Block false) (
    (effect (Atomic Cancel) (
    (effect (Block false) (
    (lvalue (Assign Int false) (plain (int Int)) (
    (lvalue (Global 1) (plain (int Int)) []) ∷
    (prvalue (Literal 7) (plain (int Int)) []) ∷ [])) ∷
    (lvalue (Assign Int false) (plain (int Int)) (
    (lvalue Retype (plain (int Int)) (
    (prvalue (Binary Add ULong) (plain (ptr (plain (int Int)))) (
    (prvalue Retype (plain (ptr (plain (int Int)))) ((lvalue (Global 0) (plain (array (plain (int Int)) 2)) []) ∷ [])) ∷
    (prvalue (Binary Mul ULong) (plain (int ULong)) (
    (prvalue (Convert ULong) (plain (int ULong)) ((prvalue (Literal 1) (plain (int Int)) []) ∷ [])) ∷
    (prvalue (Literal 4) (plain (int ULong)) []) ∷ [])) ∷ [])) ∷ [])) ∷
    (prvalue (Literal 8) (plain (int Int)) []) ∷ [])) ∷
    (lvalue (Assign Int false) (plain (int Int)) (
    (lvalue (Local 0) (plain (int Int)) []) ∷
    (prvalue (Literal 9) (plain (int Int)) []) ∷ [])) ∷
    (prvalue Throw (plain (tx_ex (plain (int Int)))) (
    (lvalue (Materialize 1 false) (plain (tx_ex (plain (int Int)))) (
    (prvalue (Store Int false) (plain (int Int)) ((prvalue (Literal 5) (plain (int Int)) []) ∷ [])) ∷ [])) ∷
    (effect (Field 0 Int) []) ∷ [])) ∷ [])) ∷ [])) ∷ [])) ∷
    (prvalue (Handler (Some 2)) (plain (ref (const (tx_ex (plain (int Int)))))) (
    (effect (Block false) (
    (prvalue (Builtin PutChar) (plain (int Int)) (
    (prvalue (Binary Add Int) (plain (int Int)) (
    (prvalue (Convert Int) (plain (int Int)) ((prvalue (Literal 48) (plain (int Char)) []) ∷ [])) ∷
    (prvalue (Load Int false) (plain (int Int)) ((lvalue (Global 1) (plain (int Int)) []) ∷ [])) ∷ [])) ∷ [])) ∷
    (prvalue (Builtin PutChar) (plain (int Int)) (
    (prvalue (Binary Add Int) (plain (int Int)) (
    (prvalue (Convert Int) (plain (int Int)) ((prvalue (Literal 48) (plain (int Char)) []) ∷ [])) ∷
    (prvalue (Load Int false) (plain (int Int)) (
    (lvalue Retype (plain (int Int)) (
    (prvalue (Binary Add ULong) (plain (ptr (plain (int Int)))) (
    (prvalue Retype (plain (ptr (plain (int Int)))) ((lvalue (Global 0) (plain (array (plain (int Int)) 2)) []) ∷ [])) ∷
    (prvalue (Binary Mul ULong) (plain (int ULong)) (
    (prvalue (Convert ULong) (plain (int ULong)) ((prvalue (Literal 1) (plain (int Int)) []) ∷ [])) ∷
    (prvalue (Literal 4) (plain (int ULong)) []) ∷ [])) ∷ [])) ∷ [])) ∷ [])) ∷ [])) ∷ [])) ∷
    (prvalue (Builtin PutChar) (plain (int Int)) (
    (prvalue (Binary Add Int) (plain (int Int)) (
    (prvalue (Convert Int) (plain (int Int)) ((prvalue (Literal 48) (plain (int Char)) []) ∷ [])) ∷
    (prvalue (Load Int false) (plain (int Int)) ((lvalue (Local 0) (plain (int Int)) []) ∷ [])) ∷ [])) ∷ [])) ∷
    (prvalue (Builtin PutChar) (plain (int Int)) (
    (prvalue (Binary Add Int) (plain (int Int)) (
    (prvalue (Convert Int) (plain (int Int)) ((prvalue (Literal 48) (plain (int Char)) []) ∷ [])) ∷
    (prvalue (Load Int false) (plain (int Int)) ((lvalue (Local 2) (const (tx_ex (plain (int Int)))) []) ∷ [])) ∷ [])) ∷ [])) ∷ [])) ∷
    (effect (Field 0 Int) []) ∷ [])) ∷ [])) ∷
    (effect Return ((prvalue (Literal 0) (plain (int Int)) []) ∷ [])) ∷
    (effect Return ((prvalue (Literal 0) (plain (int Int)) []) ∷ [])) ∷ []))

abbrev pub cancelled_block : TypedProgram
cancelled_block = one_unit
    (cancelled_block_main ∷ [])
    ((global_of (codes "a") (plain (array (plain (int Int)) 2)) (record { offset = 0; size = 4; what = Number; value = 2; symbol = [] }
    ∷ record { offset = 4; size = 4; what = Number; value = 3; symbol = [] } ∷ [])) ∷
    (global_of (codes "g") (plain (int Int)) (record { offset = 0; size = 4; what = Number; value = 1; symbol = [] } ∷ [])) ∷ [])
    []
    []

abbrev pub cancelled_block_events : List Event
cancelled_block_events =
    (Writes 16777216 4 4 false) ∷ (BeginAtomic Cancel) ∷ (Writes 65544 4 7 false) ∷ (Writes 65540 4 8 false) ∷ (Writes 16777216 4 9 false) ∷
    (Writes 16777220 4 5 false) ∷ (Reads 16777220 4 false) ∷ (Raise Cancel true) ∷ (Writes 16777224 4 5 false) ∷ (Reads 65544 4 false) ∷
    (Out 49) ∷ (Reads 65540 4 false) ∷ (Out 51) ∷ (Reads 16777216 4 false) ∷ (Out 52) ∷ (Reads 16777224 4 false) ∷ (Out 53) ∷
    (Stop (Exit (pos 0))) ∷ []

-- int x; int main() { atomic_commit { x = 1; try { atomic_cancel { x = 2; throw std::tx_exception<int>(0); } } catch (...) { } } putchar('0' + x); return 0; }

-- main()
abbrev pub inner_cancel_main : Func
inner_cancel_main = defined (codes "main()") (codes "main") Plain None
    (signature none_typs (plain (int Int)) false) false false 0
    [] ((plain (tx_ex (plain (int Int)))) ∷ []) (
    effect (Block false) (
    (effect (Atomic Commit) (
    (effect (Block false) (
    (lvalue (Assign Int false) (plain (int Int)) (
    (lvalue (Global 0) (plain (int Int)) []) ∷
    (prvalue (Literal 1) (plain (int Int)) []) ∷ [])) ∷
    (effect Try (
    (effect (Block false) (
    (effect (Atomic Cancel) (
    (effect (Block false) (
    (lvalue (Assign Int false) (plain (int Int)) (
    (lvalue (Global 0) (plain (int Int)) []) ∷
    (prvalue (Literal 2) (plain (int Int)) []) ∷ [])) ∷
    (prvalue Throw (plain (tx_ex (plain (int Int)))) (
    (lvalue (Materialize 0 false) (plain (tx_ex (plain (int Int)))) (
    (prvalue (Store Int false) (plain (int Int)) ((prvalue (Literal 0) (plain (int Int)) []) ∷ [])) ∷ [])) ∷
    (effect (Field 0 Int) []) ∷ [])) ∷ [])) ∷ [])) ∷ [])) ∷
    (effect (Handler None) ((effect (Block false) []) ∷ [])) ∷ [])) ∷ [])) ∷ [])) ∷
    (prvalue (Builtin PutChar) (plain (int Int)) (
    (prvalue (Binary Add Int) (plain (int Int)) (
    (prvalue (Convert Int) (plain (int Int)) ((prvalue (Literal 48) (plain (int Char)) []) ∷ [])) ∷
    (prvalue (Load Int false) (plain (int Int)) ((lvalue (Global 0) (plain (int Int)) []) ∷ [])) ∷ [])) ∷ [])) ∷
    (effect Return ((prvalue (Literal 0) (plain (int Int)) []) ∷ [])) ∷
    (effect Return ((prvalue (Literal 0) (plain (int Int)) []) ∷ [])) ∷ []))

abbrev pub inner_cancel : TypedProgram
inner_cancel = one_unit
    (inner_cancel_main ∷ [])
    ((global_of (codes "x") (plain (int Int)) []) ∷ [])
    []
    []

abbrev pub inner_cancel_events : List Event
inner_cancel_events =
    (BeginAtomic Commit) ∷ (Writes 65536 4 1 false) ∷ (BeginAtomic Cancel) ∷ (Writes 65536 4 2 false) ∷ (Writes 16777216 4 0 false) ∷
    (Reads 16777216 4 false) ∷ (Raise Cancel true) ∷ EndAtomic ∷ (Reads 65536 4 false) ∷ (Out 49) ∷ (Stop (Exit (pos 0))) ∷ []

--     int x; int main() { try { atomic_commit { x = 5; throw 7; } } catch (int e) { putchar('0' + x); putchar('0' + e); } return 0; }

-- main()
abbrev pub commit_on_throw_main : Func
commit_on_throw_main = defined (codes "main()") (codes "main") Plain None
    (signature none_typs (plain (int Int)) false) false false 0
    [] ((plain (int Int)) ∷ []) (
    effect (Block false) (
    (effect Try (
    (effect (Block false) (
    (effect (Atomic Commit) (
    (effect (Block false) (
    (lvalue (Assign Int false) (plain (int Int)) (
    (lvalue (Global 0) (plain (int Int)) []) ∷
    (prvalue (Literal 5) (plain (int Int)) []) ∷ [])) ∷
    (prvalue Throw (plain (int Int)) ((prvalue (Literal 7) (plain (int Int)) []) ∷ (effect (Field 0 Int) []) ∷ [])) ∷ [])) ∷ [])) ∷ [])) ∷
    (prvalue (Handler (Some 0)) (plain (int Int)) (
    (effect (Block false) (
    (prvalue (Builtin PutChar) (plain (int Int)) (
    (prvalue (Binary Add Int) (plain (int Int)) (
    (prvalue (Convert Int) (plain (int Int)) ((prvalue (Literal 48) (plain (int Char)) []) ∷ [])) ∷
    (prvalue (Load Int false) (plain (int Int)) ((lvalue (Global 0) (plain (int Int)) []) ∷ [])) ∷ [])) ∷ [])) ∷
    (prvalue (Builtin PutChar) (plain (int Int)) (
    (prvalue (Binary Add Int) (plain (int Int)) (
    (prvalue (Convert Int) (plain (int Int)) ((prvalue (Literal 48) (plain (int Char)) []) ∷ [])) ∷
    (prvalue (Load Int false) (plain (int Int)) ((lvalue (Local 0) (plain (int Int)) []) ∷ [])) ∷ [])) ∷ [])) ∷ [])) ∷
    (effect (Field 0 Int) []) ∷ [])) ∷ [])) ∷
    (effect Return ((prvalue (Literal 0) (plain (int Int)) []) ∷ [])) ∷
    (effect Return ((prvalue (Literal 0) (plain (int Int)) []) ∷ [])) ∷ []))

abbrev pub commit_on_throw : TypedProgram
commit_on_throw = one_unit
    (commit_on_throw_main ∷ [])
    ((global_of (codes "x") (plain (int Int)) []) ∷ [])
    []
    []

abbrev pub commit_on_throw_events : List Event
commit_on_throw_events =
    (BeginAtomic Commit) ∷ (Writes 65536 4 5 false) ∷ (Raise Commit false) ∷ (Writes 16777216 4 7 false) ∷ (Reads 65536 4 false) ∷
    (Out 53) ∷ (Reads 16777216 4 false) ∷ (Out 55) ∷ (Stop (Exit (pos 0))) ∷ []

--     int main() { try { atomic_cancel { throw 7; } } catch (...) { putchar('c'); } return 0; }

-- main()
abbrev pub cancel_of_int_main : Func
cancel_of_int_main = defined (codes "main()") (codes "main") Plain None
    (signature none_typs (plain (int Int)) false) false false 0
    [] [] (
    effect (Block false) (
    (effect Try (
    (effect (Block false) (
    (effect (Atomic Cancel) (
    (effect (Block false) (
    (prvalue Throw (plain (int Int)) ((prvalue (Literal 7) (plain (int Int)) []) ∷ (effect (Field 0 Int) []) ∷ [])) ∷ [])) ∷ [])) ∷ [])) ∷
    (effect (Handler None) (
    (effect (Block false) (
    (prvalue (Builtin PutChar) (plain (int Int)) (
    (prvalue (Convert Int) (plain (int Int)) ((prvalue (Literal 99) (plain (int Char)) []) ∷ [])) ∷ [])) ∷ [])) ∷ [])) ∷ [])) ∷
    (effect Return ((prvalue (Literal 0) (plain (int Int)) []) ∷ [])) ∷
    (effect Return ((prvalue (Literal 0) (plain (int Int)) []) ∷ [])) ∷ []))

abbrev pub cancel_of_int : TypedProgram
cancel_of_int = one_unit
    (cancel_of_int_main ∷ [])
    []
    []
    []

abbrev pub cancel_of_int_events : List Event
cancel_of_int_events =
    (BeginAtomic Cancel) ∷ (Raise Cancel false) ∷ []
