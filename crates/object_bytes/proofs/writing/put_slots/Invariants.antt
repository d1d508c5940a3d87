use Rattle.std.proofs.Common.{◌≡◌, ◌++◌, length, take}
use Rattle.std.specs.List.{flat_map}
use Rattle.object_bytes.specs.Spelling.{u32_bytes}
use Rattle.object_bytes.proofs.writing.put_slots.Given as goal

abbrev pub invariant-loop-slot : goal.invariant-loop-slot
invariant-loop-slot l = l.out.items ≡ (l.fn.out.items ++ u32_bytes (length l.slots)) ++ flat_map u32_bytes (take l.slot-index l.slots)
