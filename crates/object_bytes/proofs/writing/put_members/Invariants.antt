use Rattle.std.proofs.Common.{◌≡◌, ◌++◌, length, take}
use Rattle.std.specs.List.{flat_map}
use Rattle.object_bytes.specs.Spelling.{member_bytes, u32_bytes}
use Rattle.object_bytes.proofs.writing.put_members.Given as goal

abbrev pub invariant-loop-member : goal.invariant-loop-member
invariant-loop-member l = l.out.items ≡ (l.fn.out.items ++ u32_bytes (length l.members)) ++ flat_map member_bytes (take l.member-index l.members)
