use Rattle.std.proofs.Common.{◌≡◌, ◌++◌, drop, map}
use Rattle.cpp_tree.specs.cpp_types.Class.{classes_of}
use Rattle.cpp_tree.specs.Arena.{trees_of}
use Rattle.cpp_tree.specs.Units.{func_of, definition_of, unit_of}
use Rattle.tx_code.specs.Objects.{bytes_of, func_view}
use Rattle.unit_entries.specs.Records.{naming, func_record}
use Rattle.unit_entries.specs.Marked.{marks_in}
use Rattle.unit_entries.specs.Entries.{funcs_from}
use Rattle.unit_entries.proofs.functions.func_entries.Given as goal

abbrev pub invariant-loop-i : goal.invariant-loop-i
invariant-loop-i l = map (func_record (naming (map bytes_of l.setting.names.now))) (map func_view l.funcs.items)
    ++ funcs_from (classes_of l.setting.program.now.classes.items) (map definition_of l.setting.unit.now.classes.items)
    (marks_in l.setting.uses.now) l.setting.safe.now l.i (map (func_of (trees_of l.setting.unit.now.nodes.items)) (drop l.i l.setting.unit.now.funcs.items))
    ≡ funcs_from (classes_of l.setting.program.now.classes.items) (map definition_of l.setting.unit.now.classes.items)
    (marks_in l.setting.uses.now) l.setting.safe.now 0 (unit_of l.setting.unit.now).funcs
