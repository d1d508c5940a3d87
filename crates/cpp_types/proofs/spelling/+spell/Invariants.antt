use Rattle.std.proofs.Common.{◌≡◌, ◌++◌, take, false}
use Rattle.cpp_types.specs.Typ.{typs_of}
use Rattle.cpp_types.specs.Class.{classes_of}
use Rattle.cpp_types.specs.Spelling.{listed}
use Rattle.cpp_types.proofs.spelling.+spell.Given as goal

abbrev pub invariant-write_list-loop-i : goal.invariant-write_list-loop-i
invariant-write_list-loop-i l = l.out.items ≡ l.initial.out.items ++ listed (classes_of l.classes) false (typs_of (take l.i l.types))
