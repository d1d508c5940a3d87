use Rattle.std.proofs.Common.{◌≡◌, ◌++◌, drop, map, Some}
use Rattle.cpp_tree.specs.cpp_types.Typ.{Signature}
use Rattle.cpp_tree.specs.cpp_types.Class.{classes_of}
use Rattle.cpp_tree.specs.Units.{program_of}
use Rattle.src_bind.specs.declared.infos.FuncInfo.{FuncInfo}
use Rattle.src_bind.specs.Defs.{defs_of}
use Rattle.src_bind.specs.Infos.{info_of, body_found, is_of_type, type_found}
use Rattle.src_bind.specs.Tables.{func_found}
use Rattle.src_bind.proofs.binding.infos_of.Given as goal

abbrev pub invariant-loop-def : goal.invariant-loop-def
invariant-loop-def l = (map (λ (i : FuncInfo). Some (info_of l.program i)) l.infos.items ++ map
    (func_found (record { program = l.program; choices = l.choices })) (defs_of (drop l.def-index l.kept))
    ≡ map (func_found (record { program = l.program; choices = l.choices })) (defs_of l.kept))
    × (map (λ (i : FuncInfo). Some i.body) l.infos.items ++ map (body_found l.program) (defs_of (drop l.def-index l.kept))
    ≡ map (body_found l.program) (defs_of l.kept))
    × ((sig : Signature) → map (is_of_type (classes_of l.program.classes.items) sig) l.infos.items
    ++ map (type_found (program_of l.program) sig) (defs_of (drop l.def-index l.kept)) ≡ map (type_found (program_of l.program) sig) (defs_of l.kept))
