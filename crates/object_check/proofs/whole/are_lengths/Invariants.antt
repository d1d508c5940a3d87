use Rattle.std.proofs.Common.{◌≡◌, drop, map}
use Rattle.std.specs.List.{list_all}
use Rattle.tx_code.specs.WellFormed.{is_length}
use Rattle.tx_code.specs.Objects.{bytes_of}
use Rattle.object_check.proofs.whole.are_lengths.Given as goal

abbrev pub invariant-loop-name : goal.invariant-loop-name
invariant-loop-name l = list_all is_length (map bytes_of l.names) ≡ list_all is_length (map bytes_of (drop l.name-index l.names))
