use Rattle.std.proofs.Common.{◌≡◌, ◌++◌, take, false}
use Rattle.cpp_types.specs.Typ.{typs_of}
use Rattle.cpp_types.specs.Class.{classes_of}
use Rattle.cpp_types.specs.Spelling.{listed}
use Rattle.elab_globals.proofs.symbols.write_list.Given as goal

abbrev pub invariant-loop-i : goal.invariant-loop-i
invariant-loop-i l = l.out.items ≡ l.initial.out.items ++ listed (classes_of l.classes) false (typs_of (take l.i l.types))
