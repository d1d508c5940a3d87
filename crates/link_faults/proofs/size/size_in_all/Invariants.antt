use Rattle.std.proofs.Common.{◌≡◌, ◌≤◌, ◌*◌, ◌^◌, take}
use Rattle.std.specs.List.{sum_by}
use Rattle.link_faults.specs.Sizes.{size_in, name_count}
use Rattle.link_faults.proofs.size.size_in_all.Given as goal

abbrev pub invariant-loop-object : goal.invariant-loop-object
invariant-loop-object l = (l.size ≡ sum_by size_in (take l.object-index l.objects)) × (l.size ≤ sum_by name_count (take l.object-index l.objects) * 2 ^ 32)
