use Rattle.std.proofs.Common.{◌≡◌, take, map}
use Rattle.cpp_tree.specs.Units.{definition_of, unit_of, program_of}
use Rattle.tx_code.specs.Objects.{bytes_of, class_view}
use Rattle.link_faults.specs.Faults.{class_record}
use Rattle.unit_entries.specs.Records.{naming}
use Rattle.unit_entries.specs.Entries.{class_entry_of}
use Rattle.unit_entries.proofs.classes.class_entries.Given as goal

abbrev pub invariant-loop-def : goal.invariant-loop-def
invariant-loop-def l = map (class_record (naming (map bytes_of l.setting.names.now))) (map class_view l.classes.items)
    ≡ map (class_entry_of (program_of l.setting.program.now) (unit_of l.setting.unit.now).funcs)
    (map definition_of (take l.def-index l.setting.unit.now.classes.items))
