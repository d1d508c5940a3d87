use Rattle.std.proofs.Common.{◌≡◌, ◌+◌, length, drop, map}
use Rattle.std.specs.List.{flat_map}
use Rattle.std.specs.Option.{option_map}
use Rattle.tx_code.specs.Objects.{bytes_of}
use Rattle.object_bytes.specs.Spelling.{name_bytes}
use Rattle.object_bytes.specs.Objects.{unused_from}
use Rattle.object_bytes.proofs.unused.first_unused.Given as goal

abbrev pub invariant-loop-i : goal.invariant-loop-i
invariant-loop-i l = (unused_from (option_map bytes_of l.source) l.used l.i l.at (map bytes_of (drop l.i l.names)) ≡ unused_from
    (option_map bytes_of l.source) l.used 0 l.start (map bytes_of l.names))
    × (l.at + length (flat_map name_bytes (map bytes_of (drop l.i l.names))) ≡ l.start + length (flat_map name_bytes (map bytes_of l.names)))
