use Rattle.std.proofs.Common.{◌<◌, map, take, length, IfSome}
use Rattle.std.specs.List.{list_any}
use Rattle.tx_code.specs.Objects.{bytes_of, object_view}
use Rattle.link_faults.specs.Disputes.{IsLeast}
use Rattle.link_faults.specs.Unlisted.{misses_in}
use Rattle.link_faults.proofs.unlisted.least_unlisted.Given as goal

abbrev pub invariant-loop-object : goal.invariant-loop-object
invariant-loop-object l = IsLeast (λ k. list_any (λ o. misses_in (map bytes_of l.all) k (object_view o)) (take l.object-index l.objects)) l.least
    × IfSome l.least (λ k. k < length l.all)
