use Rattle.std.proofs.Common.{◌≡◌, map, take}
use Rattle.std.specs.List.{flat_map}
use Rattle.tx_code.specs.Objects.{bytes_of, object_view}
use Rattle.link_faults.specs.Ranks.{names_of}
use Rattle.link_faults.proofs.names.copies.Given as goal

abbrev pub invariant-loop-object : goal.invariant-loop-object
invariant-loop-object l = map bytes_of l.names.items ≡ flat_map names_of (map object_view (take l.object-index l.objects))
