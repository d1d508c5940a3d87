use Rattle.std.proofs.Common.{◌≡◌, map, take}
use Rattle.tx_code.specs.Objects.{bytes_of, object_view}
use Rattle.link_faults.specs.Faults.{member_record}
use Rattle.link_faults.specs.RankedClasses.{ranked_member}
use Rattle.link_faults.proofs.classes.members_of.Given as goal

abbrev pub invariant-loop-member : goal.invariant-loop-member
invariant-loop-member l = l.ranked.items ≡ map (ranked_member (map bytes_of l.all)) (map (member_record (object_view l.object)) (take l.member-index l.members))
