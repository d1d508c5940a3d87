use Rattle.std.proofs.Common.{◌≡◌, ◌++◌, drop, map}
use Rattle.elab_forms.specs.cpp_tree.Units.{cell_of}
use Rattle.elab_forms.specs.elab_rules.Casts.{byte_cells}
use Rattle.elab_casts.proofs.strings.byte_cells.Given as goal

abbrev pub invariant-loop-byte : goal.invariant-loop-byte
invariant-loop-byte l = map cell_of l.cells.items ++ byte_cells l.offset (drop l.byte-index l.bytes) ≡ byte_cells 0 l.bytes
