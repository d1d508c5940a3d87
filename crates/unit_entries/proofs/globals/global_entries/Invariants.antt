use Rattle.std.proofs.Common.{◌≡◌, ◌++◌, drop, map}
use Rattle.cpp_tree.specs.cpp_types.Class.{classes_of}
use Rattle.cpp_tree.specs.Units.{global_of, unit_of}
use Rattle.tx_code.specs.Objects.{bytes_of, global_view}
use Rattle.unit_entries.specs.Records.{naming, global_record}
use Rattle.unit_entries.specs.Marked.{marks_in}
use Rattle.unit_entries.specs.Entries.{globals_from}
use Rattle.unit_entries.proofs.globals.global_entries.Given as goal

abbrev pub invariant-loop-i : goal.invariant-loop-i
invariant-loop-i l = map (global_record (naming (map bytes_of l.setting.names.now))) (map global_view l.globals.items)
    ++ globals_from (classes_of l.setting.program.now.classes.items) (marks_in l.setting.uses.now) l.i
    (map global_of (drop l.i l.setting.unit.now.globals.items))
    ≡ globals_from (classes_of l.setting.program.now.classes.items) (marks_in l.setting.uses.now) 0 (unit_of l.setting.unit.now).globals
