use Rattle.std.proofs.Common.{◌<◌, take, length, IfSome, nat_eq, ◌&&◌}
use Rattle.std.specs.List.{list_any}
use Rattle.link_faults.specs.Disputes.{IsLeast}
use Rattle.link_faults.specs.Kept.{is_unsafe_rank}
use Rattle.link_faults.proofs.definitions.least_unsafe.Given as goal

abbrev pub invariant-loop-entry : goal.invariant-loop-entry
invariant-loop-entry l = IsLeast (λ k. list_any (λ e. nat_eq e.symbol k && is_unsafe_rank l.entries e) (take l.entry-index l.entries)) l.least
    × IfSome l.least (λ k. k < length l.kept)
