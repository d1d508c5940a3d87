use Rattle.std.proofs.Common.{◌≡◌, take, map}
use Rattle.cpp_tree.specs.cpp_types.Class.{classes_of}
use Rattle.cpp_tree.specs.Units.{slot_of, unit_of}
use Rattle.tx_code.specs.Objects.{bytes_of}
use Rattle.link_faults.specs.Faults.{text_in}
use Rattle.unit_entries.specs.Records.{naming}
use Rattle.unit_entries.specs.Entries.{slot_symbol}
use Rattle.unit_entries.proofs.classes.slot_places.Given as goal

abbrev pub invariant-loop-slot : goal.invariant-loop-slot
invariant-loop-slot l = map (text_in (naming (map bytes_of l.names))) l.places.items
    ≡ map (slot_symbol (classes_of l.classes) (unit_of l.unit).funcs) (map slot_of (take l.slot-index l.slots))
