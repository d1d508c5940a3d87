use Rattle.std.proofs.Common.{◌≡◌, ◌+◌, map, take, length}
use Rattle.std.specs.List.{flat_map}
use Rattle.tx_code.specs.Objects.{object_view}
use Rattle.link_faults.specs.Ranks.{names_of}
use Rattle.tx_linker.proofs.linking.are_names_few.Given as goal

abbrev pub invariant-loop-object : goal.invariant-loop-object
invariant-loop-object l = l.room + length (flat_map names_of (map object_view (take l.object-index l.objects))) ≡ 4294967294
