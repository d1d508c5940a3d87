use Rattle.std.proofs.Common.{◌≡◌, drop}
use Rattle.std.specs.List.{list_all}
use Rattle.tx_code.specs.WellFormed.{member_fits}
use Rattle.object_check.proofs.entries.members_fit.Given as goal

abbrev pub invariant-loop-member : goal.invariant-loop-member
invariant-loop-member l = list_all (member_fits l.names) l.members ≡ list_all (member_fits l.names) (drop l.member-index l.members)
