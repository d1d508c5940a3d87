use Rattle.std.proofs.Common.{◌∙◌, List, map, ap, sym}
use Rattle.cpp_tree.specs.cpp_types.declared.classes.ClassRec.{ClassRec}
use Rattle.cpp_tree.specs.cpp_types.Class.{classes_of}
use Rattle.cpp_tree.specs.Units.{global_of}
use Rattle.tx_code.specs.Objects.{bytes_of, global_view}
use Rattle.unit_entries.specs.Records.{naming, global_record}
use Rattle.unit_entries.specs.Entries.{global_entry_of}
use Rattle.unit_entries.proofs.Steps.{one_more}
use Rattle.unit_entries.proofs.globals.add_global.Goals as goal

pub returns-in_ok-push : goal.returns-in_ok-push
returns-in_ok-push c = one_more global_view (global_record
    (naming (map bytes_of c.args.setting.names.now))) c.args.globals.now.items c.push.new.self.items c.in_ok-global_entry.field-0
    (global_entry_of (classes_of c.args.setting.program.now.classes.items) (global_of c.args.global.now)) _
    c.in_ok-push.ensures.items (c.in_ok-global_entry.ensures ∙ ap
    (λ (z : List ClassRec). global_entry_of (classes_of z) (global_of c.args.global.now)) c.as_slice-classes.ensures.value)
    (sym c.if-has_entry.true ∙ c.has_entry.ensures)
