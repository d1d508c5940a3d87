use Rattle.std.proofs.Common.{◌≡◌, ◌+◌, length, drop, map}
use Rattle.std.specs.List.{flat_map}
use Rattle.tx_code.specs.Objects.{bytes_of}
use Rattle.object_bytes.specs.Spelling.{name_bytes}
use Rattle.object_file.proofs.reading.names_size.Given as goal

abbrev pub invariant-loop-name : goal.invariant-loop-name
invariant-loop-name l = l.size + length (flat_map name_bytes (map bytes_of (drop l.name-index l.names))) ≡ length (flat_map name_bytes (map bytes_of l.names))
