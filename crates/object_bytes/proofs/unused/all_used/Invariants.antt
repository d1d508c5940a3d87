use Rattle.std.proofs.Common.{◌≡◌, drop, map}
use Rattle.std.specs.Option.{option_map}
use Rattle.tx_code.specs.Objects.{bytes_of}
use Rattle.tx_code.specs.WellFormed.{all_used}
use Rattle.object_bytes.proofs.unused.all_used.Given as goal

abbrev pub invariant-loop-i : goal.invariant-loop-i
invariant-loop-i l = all_used (option_map bytes_of l.source) l.used l.i (map bytes_of (drop l.i l.names))
    ≡ all_used (option_map bytes_of l.source) l.used 0 (map bytes_of l.names)
