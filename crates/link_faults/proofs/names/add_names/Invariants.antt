use Rattle.std.proofs.Common.{◌≡◌, ◌++◌, map, take}
use Rattle.tx_code.specs.Objects.{bytes_of}
use Rattle.link_faults.proofs.names.add_names.Given as goal

abbrev pub invariant-loop-name : goal.invariant-loop-name
invariant-loop-name l = map bytes_of l.names.items ≡ map bytes_of l.fn.names.items ++ map bytes_of (take l.name-index l.object.names.items)
