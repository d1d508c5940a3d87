use Rattle.std.proofs.Common.{◌≡◌, drop, map}
use Rattle.std.specs.List.{list_any}
use Rattle.std.specs.Str.{bytes_eq}
use Rattle.tx_code.specs.Objects.{bytes_of}
use Rattle.object_check.proofs.whole.is_among.Given as goal

abbrev pub invariant-loop-name : goal.invariant-loop-name
invariant-loop-name l = list_any (bytes_eq l.source) (map bytes_of l.names) ≡ list_any (bytes_eq l.source) (map bytes_of (drop l.name-index l.names))
