use Rattle.std.proofs.Common.{◌≡◌, ◌<◌, map, take, length, IfSome}
use Rattle.std.specs.List.{All}
use Rattle.link_faults.specs.Disputes.{IsLeast}
use Rattle.link_faults.specs.RankedClasses.{view_of, is_disputed_class, AreFirstClasses}
use Rattle.link_faults.proofs.classes.least_difference.Given as goal

abbrev pub invariant-loop-i : goal.invariant-loop-i
invariant-loop-i l = AreFirstClasses (map view_of l.classes) l.i l.first.items × (length l.first.items ≡ l.names)
    × All (λ o. IfSome o (λ j. j < length l.classes)) l.first.items × IsLeast (is_disputed_class (take l.i (map view_of l.classes))) l.least
    × IfSome l.least (λ k. k < l.names)
