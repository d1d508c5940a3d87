use Rattle.std.proofs.Common.{◌≡◌, ◌≤◌, ◌*◌, ◌^◌, take}
use Rattle.std.specs.List.{sum_by}
use Rattle.link_faults.specs.Sizes.{placed_size}
use Rattle.link_faults.proofs.size.size_of_all.Given as goal

abbrev pub invariant-loop-global : goal.invariant-loop-global
invariant-loop-global l = (l.size ≡ sum_by placed_size (take l.global-index l.globals)) × (l.size ≤ l.global-index * 2 ^ 32)
