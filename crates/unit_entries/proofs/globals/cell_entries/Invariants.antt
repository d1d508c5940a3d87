use Rattle.std.proofs.Common.{◌≡◌, take, map}
use Rattle.cpp_tree.specs.Units.{cell_of}
use Rattle.tx_code.specs.Objects.{bytes_of}
use Rattle.unit_entries.specs.Records.{naming, cell_record}
use Rattle.unit_entries.specs.Entries.{cell_entry_of}
use Rattle.unit_entries.proofs.globals.cell_entries.Given as goal

abbrev pub invariant-loop-found : goal.invariant-loop-found
invariant-loop-found l = map (cell_record (naming (map bytes_of l.names))) l.cells.items ≡ map cell_entry_of (map cell_of (take l.found-index l.init))
