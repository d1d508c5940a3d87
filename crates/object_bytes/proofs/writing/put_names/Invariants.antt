use Rattle.std.proofs.Common.{◌≡◌, ◌++◌, length, take, map}
use Rattle.std.specs.List.{flat_map}
use Rattle.tx_code.specs.Objects.{bytes_of}
use Rattle.object_bytes.specs.Spelling.{name_bytes, u32_bytes}
use Rattle.object_bytes.proofs.writing.put_names.Given as goal

abbrev pub invariant-loop-name : goal.invariant-loop-name
invariant-loop-name l = l.out.items ≡ (l.fn.out.items ++ u32_bytes (length l.names)) ++ flat_map name_bytes (map bytes_of (take l.name-index l.names))
