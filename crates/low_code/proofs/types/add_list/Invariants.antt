use Rattle.std.proofs.Common.{◌≡◌, ◌++◌, drop}
use Rattle.cpp_tree.specs.cpp_types.Typ.{typs_of}
use Rattle.cpp_tree.specs.cpp_types.Class.{classes_of}
use Rattle.cpp_tree.specs.cpp_types.Spelling.{listed}
use Rattle.low_code.proofs.types.add_list.Given as goal

abbrev pub invariant-loop-ty : goal.invariant-loop-ty
invariant-loop-ty l = l.text.items ++ listed (classes_of l.classes) l.comma (typs_of (drop l.ty-index l.types)) ≡ l.initial.text.items
    ++ listed (classes_of l.classes) l.initial.comma (typs_of l.types)
