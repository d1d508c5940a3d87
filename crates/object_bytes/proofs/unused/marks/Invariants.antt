use Rattle.std.proofs.Common.{take}
use Rattle.object_bytes.specs.Chains.{AreMarks}
use Rattle.object_bytes.proofs.unused.marks.Given as goal

abbrev pub invariant-loop-name : goal.invariant-loop-name
invariant-loop-name l = AreMarks l.count (take l.name-index l.used) l.marks.items
